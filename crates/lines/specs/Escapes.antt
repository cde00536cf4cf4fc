-- A text of a file as a person is shown it: whatever its bytes are, what is shown is UTF-8 without a control
-- character, and tells the bytes. Definitions only.
use Rattle.std.specs.Prelude.{ℕ, zero, suc, ◌+◌, ◌-◌, ◌/◌, ◌%◌, Bool, cond, ◌&&◌, ◌||◌, List, [], ◌∷◌, ◌++◌, eqb, ltb, length, get_or, take}
use Rattle.text.specs.Utf8.{utf8}
use Rattle.text.specs.Decimals.{decimal_bytes}
use Rattle.lines.specs.Ascii.{ascii}

-- the byte that starts an escape
abbrev pub backslash : ℕ
backslash = 92

-- how many bytes the character has with which a text begins: the fewest, 1 to 4, that are UTF-8; 0 where
-- there is none
unfoldable pub char_length : List ℕ → ℕ
char_length s =
    cond (utf8 (take 1 s)) 1
    (cond (utf8 (take 2 s)) 2 (cond (utf8 (take 3 s)) 3 (cond (utf8 (take 4 s)) 4 0)))

-- a text begins with a control character, 00 to 1F, 7F, or U+0080 to U+009F, whose first byte is C2 and whose
-- second is below A0
unfoldable pub control : List ℕ → Bool
control s = ltb (get_or s 0 0) 32 || (eqb (get_or s 0 0) 127 || (eqb (get_or s 0 0) 0xC2 && ltb (get_or s 1 0) 0xA0))

-- how many bytes with which a text begins are shown as they are: a character that is no control and no
-- backslash; 0 where the first byte is escaped
unfoldable pub plain_length : List ℕ → ℕ
plain_length s = cond (control s || eqb (get_or s 0 0) backslash) 0 (char_length s)

-- a hexadecimal digit, small letters
abbrev pub hex_digit : ℕ → ℕ
hex_digit n = cond (ltb n 10) (48 + n) (87 + n)

-- `\\` for the backslash; any other byte as `\x` and two hexadecimal digits
unfoldable pub escape : ℕ → List ℕ
escape b =
    cond (eqb b backslash) (backslash ∷ backslash ∷ [])
    (backslash ∷ 120 ∷ hex_digit (b / 16) ∷ hex_digit (b % 16) ∷ [])

-- the first byte of a text, of which so many bytes are shown as they are
unfoldable pub shown_byte : (plain : ℕ) → ℕ → List ℕ
shown_byte zero b = escape b
shown_byte (suc n) b = b ∷ []

-- how many are left of a character's bytes, or how many begin here
abbrev pub plain_from : (left : ℕ) → List ℕ → ℕ
plain_from zero s = plain_length s
plain_from (suc n) s = suc n

-- a text, where so many bytes of a character are still to come
unfoldable pub escaped_from : (left : ℕ) → List ℕ → List ℕ
escaped_from left [] = []
escaped_from left (b ∷ s) = shown_byte (plain_from left (b ∷ s)) b ++ escaped_from (plain_from left (b ∷ s) - 1) s

-- a whole text
abbrev pub escaped_text : List ℕ → List ℕ
escaped_text s = escaped_from 0 s

-- how many bytes of a text are shown at most
abbrev pub most_shown : ℕ
most_shown = 200

-- a text's first bytes, and how many it has in all where that is more
unfoldable pub shown_text : List ℕ → List ℕ
shown_text s =
    escaped_text (take most_shown s)
    ++ cond (ltb most_shown (length s)) (ascii " ... " ++ decimal_bytes (length s) ++ ascii " bytes in all") []
