-- One number for an answer of the calls that hold their own row. Assumes nothing.
use mathlib.Core.Path.{◌≡◌, ap, ◌∙◌}
use Prim.Native.Nat.{ℕ}
use mathlib.Core.List.{List}
use lib.IntN.{ℤ}
use lib.ListN.{length}
use Rattle.evf_video.specs.declared.Parsed.{Parsed}
use Rattle.evf_video.specs.Reading.{outcome_number, number_of}
use Rattle.evf_video.specs.Parsed.{parse_of, answer_of}
use Rattle.evf_video.proofs.Judging.{answer_number}
use Rattle.generate_evf.specs.declared.Written.{Written}
use Rattle.upgrade.specs.Copy.{told_by}
use Rattle.held.specs.Held.{ReadsHeld, UpgradesHeld, whole}

module _ (entries : ℕ) (file : List ℕ) (board cells : List ℤ) (told : ℕ) where
  pub read_told : (answer : Parsed) → ReadsHeld answer_of entries file board answer cells
      → told ≡ outcome_number answer.outcome → ReadsHeld number_of entries file board told cells
  read_told answer h e =
      let read = parse_of file (length board) entries in
      record {
        answer_is = e ∙ ap (λ (a : Parsed). outcome_number a.outcome) h.answer_is ∙ answer_number read;
        board_is = h.board_is;
      }

  pub upgrade-told : (copy bytes : List ℕ) (rule : ℕ) (answer : Written)
      → UpgradesHeld whole entries file board copy rule answer cells bytes
      → told ≡ told_by answer → UpgradesHeld told_by entries file board copy rule told cells bytes
  upgrade-told copy bytes rule answer h e =
      record { answer_is = e ∙ ap told_by h.answer_is; board_is = h.board_is; copy_is = h.copy_is }
