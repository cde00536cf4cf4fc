-- The custom metrics of version 4 (01, Header; 02, note 3): a count and that many texts, each UTF-8 and ended
-- by its first 00. One reader serves a file, and a block that is to be written (Refusal 25). Definitions
-- only.
use Rattle.std.specs.Prelude.{ℕ, zero, suc, ◌-◌, Bool, false, List, eqb, length}
use Rattle.text.specs.declared.Place.{Place}
use Rattle.text.specs.Places.{absent}
use Rattle.byte_reader.specs.declared.ByteReader.{ByteReader}
use Rattle.byte_reader.specs.declared.ByteReader.TheVariants.{At, Refused}
use Rattle.byte_reader.specs.Reading.{Got, ok, no, Reader, ◌>>=◌, pure}
use Rattle.byte_reader.specs.Numbers.{number}
use Rattle.byte_reader.specs.Fields.{utf8_text}
use Rattle.metrics.specs.declared.Metrics.{Metrics}

-- that many texts, one behind the other
unfoldable pub texts : ℕ → Reader (Unit {0})
texts zero = pure tt
texts (suc n) = do
  _ ← utf8_text
  texts n

-- their place: from where the first one starts to behind the 00 of the last one
abbrev pub placed : (from : ℕ) → Got (Unit {0}) → Got Place
placed from (ok u to) = ok (record { start = from; len = to - from }) to
placed from (no n) = no n

unfoldable pub block_of_texts : ℕ → Reader Place
block_of_texts n file at = placed at (texts n file at)

-- a u16 and that many texts; the block starts behind the u16, also where it is empty
unfoldable pub custom_metrics : Reader Metrics
custom_metrics = do
  n ← number 2
  block ← block_of_texts n
  pure (record { count = n; block = block })

-- none: versions 0 to 3 have no place for them
abbrev pub no_metrics : Metrics
no_metrics = record { count = 0; block = absent }

-- reading came to the end of so many bytes
abbrev pub ends_at : ℕ → Got (Unit {0}) → Bool
ends_at n (ok u to) = eqb to n
ends_at n (no k) = false

-- a block is exactly that many texts, and nothing more
unfoldable pub are_texts : (count : ℕ) → (block : List ℕ) → Bool
are_texts count block = ends_at (length block) (texts count block 0)

-- what a private function promises: the place from one cursor to another
unfoldable pub between : (from to : ByteReader) → Place
between (At start) (At end) = record { start = start; len = end - start }
between (At start) (Refused n) = absent
between (Refused n) to = absent
