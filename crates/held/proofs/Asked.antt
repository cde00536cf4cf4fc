-- What `parse` and `upgrade` promise of a row of n equal entries, said without the row. Assumes nothing.
use mathlib.Core.Path.{◌≡◌}
use Prim.Native.Nat.{ℕ}
use mathlib.Core.List.{List}
use lib.IntN.{ℤ}
use lib.ListN.{length, replicate, length-replicate}
use Rattle.game.specs.declared.Event.{Event}
use Rattle.evf_video.specs.declared.Parsed.{Parsed}
use Rattle.evf_video.specs.Parsed.{Parses, answer_of}
use Rattle.generate_evf.specs.declared.Written.{Written}
use Rattle.upgrade.specs.Copy.{Upgrades}
use Rattle.held.specs.Held.{ReadsHeld, UpgradesHeld, whole}

module _ (n : ℕ) where
  pub reads : (s : List ℕ) (d : List ℤ) (e : Event) (a : Parsed) (cs : List ℤ) (es : List Event)
      → Parses s d (replicate n e) a cs es → ReadsHeld answer_of n s d a cs
  reads s d e a cs es p = let l : length (replicate n e) ≡ n = length-replicate n e in
      record { answer_is = rw l at p.answer_is; board_is = rw l at p.board_is }

  pub upgrades : (s : List ℕ) (d : List ℤ) (e : Event) (w : List ℕ) (rule : ℕ) (a : Written) (cs : List ℤ)
      (es : List Event) (bs : List ℕ) → Upgrades s d (replicate n e) w rule a cs es bs
      → UpgradesHeld whole n s d w rule a cs bs
  upgrades s d e w rule a cs es bs p = let l : length (replicate n e) ≡ n = length-replicate n e in
      record {
        answer_is = rw l at p.answer_is;
        board_is = rw l at p.board_is;
        copy_is = rw l at p.copy_is;
      }
