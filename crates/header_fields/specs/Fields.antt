-- Fields that every version has (01, Header and Board; Refusal 7). Definitions only.
use Rattle.std.specs.Prelude.{ℕ, ◌*◌, Bool, not, cond, List, [], ◌∷◌, eqb, leb}
use Rattle.std.specs.Int.Bits.{bit_and}
use Rattle.text.specs.declared.Place.{Place}
use Rattle.text.specs.Places.{absent, bytes_at}
use Rattle.board.specs.Bits.{packed_length}
use Rattle.game.specs.Refusals.{height_zero}
use Rattle.byte_reader.specs.Reading.{Reader, ok, ◌>>=◌, pure, refuse_when}
use Rattle.byte_reader.specs.Numbers.{number}
use Rattle.byte_reader.specs.Fields.{bytes}
use Rattle.header_fields.specs.declared.Flags.{Flags}
use Rattle.header_fields.specs.declared.Sizes.{Sizes}
use Rattle.header_fields.specs.declared.Span.{Span}
use Rattle.header_fields.specs.declared.Texts.{Texts}

-- the bytes of what was read before; nothing is read
unfoldable pub contents : Place → Reader (List ℕ)
contents p file at = ok (bytes_at file p) at

-- a mask's bit is set in a byte of flags
abbrev pub flag : (byte mask : ℕ) → Bool
flag byte mask = not (eqb (bit_and byte mask) 0)

-- the first flags; the second from version 3 on, and none of them set before
unfoldable pub flags : ℕ → Reader Flags
flags version = do
  first ← number 1
  second ← cond (leb 3 version) (number 1) (pure 0)
  pure (record { first = first; second = second })

unfoldable pub sizes : Reader Sizes
sizes = do
  height ← number 1
  width ← number 1
  mines ← number 2
  pixels ← number 1
  mode ← number 2
  bbbv ← number 2
  pure (record {
    height = height;
    width = width;
    mine_num = mines;
    cell_pixel_size = pixels;
    mode = mode;
    bbbv = bbbv;
  })

-- a start and an end, in microseconds
abbrev pub span_of : ℕ → ℕ → Span
span_of start end = record { start = record { 0 = start }; end = record { 0 = end } }

-- the nine texts; a checksum is read behind the events
abbrev pub texts_of : Texts → List Place
texts_of t =
    t.software ∷ t.translated_software ∷ t.original_encoding ∷ t.player ∷ t.race ∷ t.unique_id ∷
    t.country ∷ t.device_id ∷ absent ∷ []

-- at the board: a height of 0 is refused before any byte of it is read
unfoldable pub board_bytes : (height width : ℕ) → Reader Place
board_bytes height width = do
  _ ← refuse_when (eqb height 0) height_zero
  bytes (packed_length (height * width))
