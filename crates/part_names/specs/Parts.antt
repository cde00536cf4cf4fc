-- The name under which a copy is written until it is whole. Definitions only.
use Rattle.std.specs.Prelude.{ℕ, zero, suc, ◌+◌, ◌*◌, ◌%◌, Bool, cond, take, get_or}
use mathlib.Core.List.{List, ◌++◌, foldl}
use Rattle.text.specs.Utf8.{within, tail}
use Rattle.text.specs.Decimals.{decimal_bytes}
use Rattle.lines.specs.Ascii.{ascii}

-- what a digest keeps of a step: 56 bits, so that the next fits 64
abbrev pub wrap : ℕ
wrap = 72057594037927936

-- one byte more of a digest
abbrev pub mixed : ℕ → ℕ → ℕ
mixed h b = h % wrap * 251 + b

-- the digest of bytes that stand behind those of the digest h; h is 0 where there are none
unfoldable pub digest : ℕ → List ℕ → ℕ
digest h bytes = foldl mixed h bytes

-- a cut here tears a character of UTF-8: the byte behind it is a tail
abbrev pub tears : List ℕ → ℕ → Bool
tears name at = within tail (get_or name at 0)

-- the last place up to k where a cut tears no character
unfoldable pub cut_at : List ℕ → ℕ → ℕ
cut_at name zero = zero
cut_at name (suc k) = cond (tears name (suc k)) (cut_at name k) (suc k)

-- so many bytes of a name are kept at most
abbrev pub kept : ℕ
kept = 100

-- the beginning of a name; one that is short enough stays whole
unfoldable pub shortened : List ℕ → List ℕ
shortened name = take (cut_at name kept) name

-- NAME.DIGEST.part in `folder`, which ends in / or is empty; the digest is of the file's name and its bytes
unfoldable pub part_name : (folder name bytes : List ℕ) → List ℕ
part_name folder name bytes =
    folder ++ shortened name ++ ascii "." ++ decimal_bytes (digest 0 (name ++ bytes)) ++ ascii ".part"
