-- Texts and counted bytes, each read as its place (01, Header and Refusals 1 and 3). Definitions only.
use Rattle.std.specs.Prelude.{ℕ, ◌+◌, cond, length, drop, leb}
use Rattle.std.proofs.Math.Option.{Option, none, some}
use Rattle.text.specs.declared.Place.{Place}
use Rattle.text.specs.Places.{absent, bytes_at}
use Rattle.text.specs.Ends.{up_to00}
use Rattle.text.specs.Utf8.{utf8}
use Rattle.game.specs.Refusals.{file_ends, text_not_utf8}
use Rattle.byte_reader.specs.declared.ByteReader.TheVariants.{Refused}
use Rattle.byte_reader.specs.declared.Read.{Read}
use Rattle.byte_reader.specs.Reading.{Got, Reader, ok, no, ◌>>=◌}
use Rattle.byte_reader.specs.Numbers.{number}

-- a refusal, and no place
abbrev pub no_place : ℕ → Read Place
no_place why = record { value = absent; next = Refused why }

-- n bytes; refused where the file ends inside them
unfoldable pub bytes : ℕ → Reader Place
bytes n file at = cond (leb (at + n) (length file)) (ok (record { start = at; len = n }) (at + n))
    (no file_ends)

-- a u16 and that many bytes
unfoldable pub counted_bytes : Reader Place
counted_bytes = do
  n ← number 2
  bytes n

abbrev pub ended : ℕ → Option ℕ → Got Place
ended at none = no file_ends
ended at (some n) = ok (record { start = at; len = n }) (at + (n + 1))

-- a text and the 00 that ends it; refused where the file ends before one
unfoldable pub text : Reader Place
text file at = ended at (up_to00 (drop at file))

-- what was read must be UTF-8
unfoldable pub must_be_utf8 : Place → Reader Place
must_be_utf8 p file at = cond (utf8 (bytes_at file p)) (ok p at) (no text_not_utf8)

-- a text that must be UTF-8: that its 00 is missing is told first, also where its bytes are not UTF-8
unfoldable pub utf8_text : Reader Place
utf8_text = text >>= must_be_utf8

unfoldable pub utf8_bytes : ℕ → Reader Place
utf8_bytes n = bytes n >>= must_be_utf8
