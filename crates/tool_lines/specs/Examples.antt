-- Two files, and the lines that are printed for them. Definitions only.
use Rattle.std.specs.Prelude.{ℕ, List, [], ◌∷◌, ◌++◌}
use Rattle.lines.specs.Ascii.{ascii}
use Rattle.lines.specs.Fields.{tab, newline}

-- a file of version 3 with a board of a mine and a cell beside it, by its software, start, end, country and
-- what stands behind the place where it ends
unfoldable pub version3 : (software start end country behind : List ℕ) → List ℕ
version3 software start end country behind =
    0x03 ∷ 0x90 ∷ 0x00 ∷ 0x01 ∷ 0x02 ∷ 0x00 ∷ 0x01 ∷ 0x10 ∷ 0x00 ∷ 0x00 ∷ 0x00 ∷ 0x01 ∷ 0x00 ∷ 0x03 ∷ 0xE8 ∷
    software ++ 0x00 ∷ 0x50 ∷ 0x00 ∷ 0x00 ∷ 0x00 ∷ start ++ 0x00 ∷ end ++ 0x00 ∷ country
    ++ 0x00 ∷ 0x00 ∷ 0x80 ∷
    0x02 ∷ 0x00 ∷ 0x00 ∷ 0x05 ∷ 0x00 ∷ 0x08 ∷ 0x00 ∷ 0x08 ∷ 0x03 ∷ 0x00 ∷ 0x01 ∷ 0x2C ∷ 0x00 ∷ 0x07 ∷
    0x00 ∷ 0x08 ∷ 0xFF ∷ behind

-- M3 of 01
unfoldable pub m3 : List ℕ
m3 = version3 (0xE5 ∷ 0x85 ∷ 0x83 ∷ []) (ascii "1") (ascii "2") (ascii "cn") []

-- one of which a copy carries neither country nor start nor end, with three bytes behind its end
unfoldable pub elsewhere : List ℕ
elsewhere = version3 (ascii "Another") (ascii "May 1") [] (ascii "Poland") (ascii "abc")

-- what `evf check` prints for M3
abbrev pub m3_checked : List ℕ
m3_checked =
    ascii "read" ++ tab ∷ ascii "version 3" ++ tab ∷ ascii "1 rows, 2 columns, 1 mines"
    ++ tab ∷ ascii "2 events" ++ newline ∷ []

-- and `evf upgrade`, whose copy is M4
abbrev pub m3_upgraded : List ℕ
m3_upgraded = ascii "upgraded" ++ tab ∷ ascii "65 bytes" ++ tab ∷ ascii "2 events" ++ newline ∷ []

-- what `evf upgrade` prints for the other, whose copy has 71 bytes
abbrev pub elsewhere_upgraded : List ℕ
elsewhere_upgraded =
    ascii "upgraded" ++ tab ∷ ascii "71 bytes" ++ tab ∷ ascii "2 events"
    ++ tab ∷ ascii "not carried: the country, now XX"
    ++ tab ∷ ascii "not carried: start and end, now 0"
    ++ tab ∷ ascii "not carried: 3 bytes behind the end"
    ++ newline ∷ []
