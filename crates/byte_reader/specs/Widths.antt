-- What the private functions under the widths promise: the number, and that it fits its width. Definitions
-- only.
use Rattle.std.specs.Prelude.{ℕ, ◌^◌, ◌<◌, ◌≡◌, List, take, drop}
use Rattle.byte_reader.specs.declared.ByteReader.{ByteReader}
use Rattle.byte_reader.specs.declared.Read.{Read}
use Rattle.byte_reader.specs.Numbers.{big_endian, number}
use Rattle.byte_reader.specs.Cursor.{Reads}

pub record NumberIs (k : ℕ) (file : List ℕ) (at v : ℕ) : Type 0 where
  pub is : v ≡ big_endian (take k (drop at file))
  pub fits : v < 256 ^ k

pub record Narrow (k : ℕ) (file : List ℕ) (c : ByteReader) (r : Read ℕ) : Type 0 where
  pub reads : Reads 0 (number k) file c r.value r.next
  pub fits : r.value < 256 ^ k
