-- NO READING GIVES A NAN: each event's seconds are those of a whole number of milliseconds below 2 ^ 32, and
-- these are no NaN by `seconds-number` of times/proofs/Seconds.antt. Proved in proofs/NoNan.antt.
use Rattle.std.specs.Prelude.{ℕ, not, List, [], ◌∷◌, T}
use Rattle.std.specs.Float.Ieee.{is_nan}
use Rattle.game.specs.declared.Event.{Event}
use Rattle.game.specs.declared.Event.TheVariants.{Mouse, State}
use Rattle.byte_reader.specs.Reading.{Bytes as AllBytes}
use Rattle.demand3.specs.Demand3.{ReadsInto}

-- No event of a row has a NaN for its seconds.
abbrev pub AllNumbers : List Event → Type 0
AllNumbers [] = Unit {0}
AllNumbers (Mouse seconds kind x y ∷ es) = T (not (is_nan seconds)) × AllNumbers es
AllNumbers (State seconds state ∷ es) = T (not (is_nan seconds)) × AllNumbers es

-- So it is of each row that a file reads as, of any version and into any buffers.
abbrev pub NoNan : Type 0
NoNan = (file : List ℕ) (cells entries : ℕ) → AllBytes file → (r : ReadsInto file cells entries)
    → AllNumbers r.events
