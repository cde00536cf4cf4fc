-- File numbers: big-endian (01's opening lines), of 1, 2, 3, 4 or 8 bytes. Definitions only, one for every
-- width.
use Rattle.std.specs.Prelude.{ℕ, zero, suc, ◌+◌, ◌*◌, ◌/◌, ◌%◌, ◌^◌, cond, List, [], ◌∷◌, length, take, drop, leb}
use Rattle.game.specs.Refusals.{file_ends}
use Rattle.byte_reader.specs.Reading.{Reader, ok, no}

-- the number that v and then the bytes are: the first byte counts most
abbrev pub followed_by : ℕ → List ℕ → ℕ
followed_by v [] = v
followed_by v (b ∷ bytes) = followed_by (v * 256 + b) bytes

unfoldable pub big_endian : List ℕ → ℕ
big_endian bytes = followed_by 0 bytes

-- the k bytes that a number is written as
abbrev pub bytes_of : ℕ → ℕ → List ℕ
bytes_of zero n = []
bytes_of (suc k) n = n / 256 ^ k % 256 ∷ bytes_of k n

-- a number of k bytes; refused where the file ends inside it
unfoldable pub number : ℕ → Reader ℕ
number k file at = cond (leb (at + k) (length file)) (ok (big_endian (take k (drop at file))) (at + k))
    (no file_ends)
