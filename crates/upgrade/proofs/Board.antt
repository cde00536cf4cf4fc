-- A game whose cells went into the first of a longer board is written, answered and copied as with its own
-- cells.
-- Assumes nothing but sizes below 256.
use Prim.Native.Nat.{ℕ, ◌*◌, ◌≤◌, ◌<◌}
use mathlib.Core.Path.{◌≡◌, ap, ◌∙◌}
use mathlib.Core.Bool.{not, cond}
use mathlib.Core.List.{List}
use lib.IntN.{ℤ}
use lib.ListN.{length}
use lib.Seq.{sets}
use Rattle.text.specs.declared.Place.{Place}
use Rattle.times.specs.Times.{is_rule, no_such_rule, s_to_ms}
use Rattle.game.specs.declared.Event.{Event}
use Rattle.game.specs.declared.Header.{Header}
use Rattle.evf_video.specs.Reading.{cells_at, game_read}
use Rattle.layout_fields.specs.Fields.{lent}
use Rattle.evf_layout.specs.Layout.{file_of}
use Rattle.evf_judging.specs.declared.Verdict.{Verdict}
use Rattle.evf_judging.specs.declared.Verdict.TheVariants.{Refused as Bad}
use Rattle.evf_judging.specs.Refusals.{first_refusal, checks_under}
use Rattle.generate_evf.specs.Written.{written_by, written_of, file_by, file_then}
use Rattle.read_back.proofs.Longer.{longer-checks, longer-file}
use Rattle.upgrade.specs.Copy.{is_new, game_copied, game_copy}

module _ (rule : ℕ) (s : List ℕ) (h : Header) (place : Place) (es : List Event) (tall : h.height < 256)
    (wide : h.width < 256) (d : List ℤ) (room : h.height * h.width ≤ length d) where
  same-checks : first_refusal (checks_under rule 4 (lent h s (sets d 0 (cells_at s h place)) es))
      ≡ first_refusal (checks_under rule 4 (game_read s h place es))
  same-checks = ap (λ (v : Verdict). cond (not (is_rule rule)) (Bad no_such_rule) v)
      (longer-checks (s_to_ms rule) s h place es d room)

  pub same-written : (n : ℕ)
      → written_of rule 4 (lent h s (sets d 0 (cells_at s h place)) es) n
      ≡ written_of rule 4 (game_read s h place es) n
  unfolding written_of
  same-written n =
      ap (λ (v : Verdict). written_by v (length (file_of (s_to_ms rule) 4 (lent h s (sets d 0
      (cells_at s h place)) es)))
      n) same-checks
      ∙ ap (λ (l : List ℕ). written_by (first_refusal (checks_under rule 4 (game_read s h place es)))
      (length l) n)
      (longer-file (s_to_ms rule) s h place es d room tall wide)

  pub same-file : (w : List ℕ)
      → file_then rule 4 (lent h s (sets d 0 (cells_at s h place)) es) w
      ≡ file_then rule 4 (game_read s h place es) w
  unfolding file_then
  same-file w =
      ap (λ (v : Verdict). file_by v (file_of (s_to_ms rule) 4 (lent h s (sets d 0 (cells_at s h place)) es)) w)
      same-checks
      ∙ ap (λ (l : List ℕ). file_by (first_refusal (checks_under rule 4 (game_read s h place es))) l w)
      (longer-file (s_to_ms rule) s h place es d room tall wide)

  pub same-copied : (n : ℕ)
      → game_copied rule (lent h s (sets d 0 (cells_at s h place)) es) n
      ≡ game_copied rule (game_read s h place es) n
  same-copied n = rw (same-written n)

  pub same_copy : (w : List ℕ)
      → game_copy rule (lent h s (sets d 0 (cells_at s h place)) es) w
      ≡ game_copy rule (game_read s h place es) w
  same_copy w = ap (λ (l : List ℕ). cond (is_new h) w l) (same-file w)
