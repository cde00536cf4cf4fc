-- The class of a byte in the check of UTF-8 (01, "Bytes, text, numbers": classes by byte). Definitions only.
use Rattle.std.specs.Prelude.{ℕ, List, [], ◌∷◌, Bool, cond, ◌&&◌, leb}
use Rattle.lists.specs.Lists.{each}
use Rattle.text.specs.Utf8.{Range, ◌to◌, within}

infixl 10 ◌is◌
-- the class of the bytes in a range
pub data Line : Type 0 where
  ◌is◌ : Range → ℕ → Line

-- a character alone
abbrev pub ascii : ℕ
ascii = 0

-- a tail below 90
abbrev pub tail80 : ℕ
tail80 = 1

-- a tail from 90 on and below A0
abbrev pub tail90 : ℕ
tail90 = 2

-- a tail from A0 on
abbrev pub tail_a0 : ℕ
tail_a0 = 3

-- leads two bytes
abbrev pub lead_c2 : ℕ
lead_c2 = 4

-- leads three, the second A0 or more
abbrev pub lead_e0 : ℕ
lead_e0 = 5

-- leads three
abbrev pub lead_e1 : ℕ
lead_e1 = 6

-- leads three, the second below A0
abbrev pub lead_ed : ℕ
lead_ed = 7

-- leads four, the second 90 or more
abbrev pub lead_f0 : ℕ
lead_f0 = 8

-- leads four
abbrev pub lead_f1 : ℕ
lead_f1 = 9

-- leads four, the second below 90
abbrev pub lead_f4 : ℕ
lead_f4 = 10

-- stands in no character
abbrev pub in_none : ℕ
in_none = 11

-- 01's ranges in its order
abbrev pub classes : List Line
classes =
    ((0x00 to 0x7F) is ascii) ∷ ((0x80 to 0x8F) is tail80) ∷ ((0x90 to 0x9F) is tail90) ∷
    ((0xA0 to 0xBF) is tail_a0) ∷
    ((0xC2 to 0xDF) is lead_c2) ∷ ((0xE0 to 0xE0) is lead_e0) ∷ ((0xE1 to 0xEC) is lead_e1) ∷
    ((0xEE to 0xEF) is lead_e1) ∷
    ((0xED to 0xED) is lead_ed) ∷ ((0xF0 to 0xF0) is lead_f0) ∷ ((0xF1 to 0xF3) is lead_f1) ∷
    ((0xF4 to 0xF4) is lead_f4) ∷ []

-- the class of the first range that has the byte; `in_none` for the rest
abbrev pub class_in : List Line → ℕ → ℕ
class_in [] b = in_none
class_in ((r is k) ∷ ls) b = cond (within r b) k (class_in ls b)

unfoldable pub class_of : ℕ → ℕ
class_of b = class_in classes b

-- the class of a byte is one of those from low to high
abbrev pub in_classes : ℕ → ℕ → ℕ → Bool
in_classes low high b = leb low (class_of b) && leb (class_of b) high

-- the classes of 00 to FF
unfoldable pub table : List ℕ
table = each 256 class_of
