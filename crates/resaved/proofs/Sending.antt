-- The line of a file that is not re-saved, by how it was judged. Assumes nothing.
use Prim.Native.Nat.{ℕ, ◌≤◌, ◌<◌}
use mathlib.Core.Path.{◌≡◌}
use mathlib.Core.Bool.{true, false}
use mathlib.Core.List.{List}
use borrow.Author.Tests.{lt-ltb, le-ltb}
use Rattle.byte_writer.specs.Places.{most, Writes}
use Rattle.byte_writer.proofs.Laws.{writes_none}
use Rattle.evf_video.specs.declared.Judged.{Judged}
use Rattle.evf_video.specs.declared.Outcome.TheVariants.{Read, Refused}
use Rattle.evf_video.specs.Reading.{reading_of}
use Rattle.evf_video.specs.Judging.{start_of, judged_of}
use Rattle.evf_video.proofs.Judging.{is_game, is_none}
use Rattle.resaved.specs.Lines.{older_line, Sends}

module _ (file : List ℕ) (j : Judged) (e : j ≡ judged_of file) {d : List ℕ} {at : ℕ} where
  pub sends-older : {d' : List ℕ} {to : ℕ} → j.outcome ≡ Read → j.header.version < 4
      → Writes d d' at (older_line j.header.version) to
      → Sends file d d' at (record { to = to; is_older = true })
  unfolding judged_of
  sends-older o l w = let g = is_game (start_of file) (reading_of file) j e o in
      record { line = rw (g.is, lt-ltb _ _ l) w; told = rw (g.is, lt-ltb _ _ l) }

  pub sends-new : at ≤ most → j.outcome ≡ Read → 4 ≤ j.header.version
      → Sends file d d at (record { to = at; is_older = false })
  unfolding judged_of
  sends-new m o l = let g = is_game (start_of file) (reading_of file) j e o in
      record { line = rw (g.is, le-ltb _ _ l) (writes_none d at m); told = rw (g.is, le-ltb _ _ l) }

  pub sends_none : at ≤ most → (n : ℕ) → j.outcome ≡ Refused n
      → Sends file d d at (record { to = at; is_older = false })
  unfolding judged_of
  sends_none m n o = let g = is_none (start_of file) (reading_of file) j n e o in
      record { line = rw g (writes_none d at m); told = rw g }
