-- Which checksum is read, by the version and whether one follows. Assumes nothing.
use mathlib.Core.Path.{◌≡◌}
use mathlib.Core.Bool.{Bool, true, false}
use Prim.Native.Nat.{ℕ}
use borrow.Author.Tests.{eq-eqb, ne_eqb}
use Rattle.text.specs.Places.{absent}
use Rattle.byte_reader.specs.Reading.{pure}
use Rattle.byte_reader.specs.Fields.{bytes, counted_bytes}
use Rattle.evf_video.specs.Reading.{checksum}

module _ (version : ℕ) (follows : Bool) where
  pub sum-counted : version ≡ 4 → checksum version follows ≡ counted_bytes
  unfolding checksum
  sum-counted e = rw (eq-eqb _ _ e)

  module _ (old : version ≡ 4 → ⊥) where
    pub sum-follows : follows ≡ true → checksum version follows ≡ bytes 32
    unfolding checksum
    sum-follows e = rw (ne_eqb _ _ old, e)

    pub sum-absent : follows ≡ false → checksum version follows ≡ pure absent
    unfolding checksum
    sum-absent e = rw (ne_eqb _ _ old, e)
