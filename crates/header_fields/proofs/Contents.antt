-- What was read before is looked into again, and nothing is read. Assumes nothing.
use mathlib.Core.Path.{refl}
use mathlib.Core.List.{List}
use Prim.Native.Nat.{ℕ}
use Rattle.text.specs.declared.Place.{Place}
use Rattle.text.specs.Places.{bytes_at}
use Rattle.byte_reader.specs.declared.ByteReader.{ByteReader}
use Rattle.byte_reader.specs.declared.ByteReader.TheVariants.{At, Refused}
use Rattle.byte_reader.specs.Cursor.{value_from, cursor_after, Gives}
use Rattle.header_fields.specs.Fields.{contents}

pub gives_contents : {file : List ℕ} (p : Place) (c : ByteReader)
    → Gives (contents p) file c (bytes_at file p) c
unfolding value_from cursor_after contents
gives_contents p (At at) = record { value-is = refl; next-is = refl }
gives_contents p (Refused n) = record { value-is = refl; next-is = refl }
