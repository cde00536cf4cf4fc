-- UTF-8 by the grammar of RFC 3629, section 4 (01, "Bytes, text, numbers"). Definitions only.
use Rattle.std.specs.Prelude.{ℕ, List, [], ◌∷◌, ◌++◌, Bool, true, false, cond, ◌&&◌, ◌||◌, T, leb}

infixl 20 ◌to◌
infixl 10 ◌then◌
-- the bytes from one to another, both among them
pub data Range : Type 0 where
  ◌to◌ : ℕ → ℕ → Range

abbrev pub within : Range → ℕ → Bool
within (lo to hi) b = leb lo b && leb b hi

-- a line of a rule: the range of a character's first byte, and the ranges of the bytes that follow it
pub data Production : Type 0 where
  ◌then◌ : Range → List Range → Production

-- UTF8-tail = %x80-BF
abbrev pub tail : Range
tail = 0x80 to 0xBF

-- UTF8-1 = %x00-7F
abbrev pub utf8_1 : List Production
utf8_1 = ((0x00 to 0x7F) then []) ∷ []

-- UTF8-2 = %xC2-DF UTF8-tail
abbrev pub utf8_2 : List Production
utf8_2 = ((0xC2 to 0xDF) then (tail ∷ [])) ∷ []

-- UTF8-3 =
abbrev pub utf8_3 : List Production
utf8_3 =
    ((0xE0 to 0xE0) then ((0xA0 to 0xBF) ∷ tail ∷ [])) ∷  -- %xE0 %xA0-BF UTF8-tail /
    ((0xE1 to 0xEC) then (tail ∷ tail ∷ [])) ∷  -- %xE1-EC 2( UTF8-tail ) /
    ((0xED to 0xED) then ((0x80 to 0x9F) ∷ tail ∷ [])) ∷  -- %xED %x80-9F UTF8-tail /
    ((0xEE to 0xEF) then (tail ∷ tail ∷ [])) ∷ []  -- %xEE-EF 2( UTF8-tail )

-- UTF8-4 =
abbrev pub utf8_4 : List Production
utf8_4 =
    ((0xF0 to 0xF0) then ((0x90 to 0xBF) ∷ tail ∷ tail ∷ [])) ∷  -- %xF0 %x90-BF 2( UTF8-tail ) /
    ((0xF1 to 0xF3) then (tail ∷ tail ∷ tail ∷ [])) ∷  -- %xF1-F3 3( UTF8-tail ) /
    ((0xF4 to 0xF4) then ((0x80 to 0x8F) ∷ tail ∷ tail ∷ [])) ∷ []  -- %xF4 %x80-8F 2( UTF8-tail )

-- UTF8-char = UTF8-1 / UTF8-2 / UTF8-3 / UTF8-4
abbrev pub grammar : List Production
grammar = utf8_1 ++ utf8_2 ++ utf8_3 ++ utf8_4

-- AS THE RFC SAYS IT

-- as many bytes as ranges, each in its own
abbrev pub in_ranges : List Range → List ℕ → Bool
in_ranges [] [] = true
in_ranges [] (b ∷ l) = false
in_ranges (r ∷ rs) [] = false
in_ranges (r ∷ rs) (b ∷ l) = within r b && in_ranges rs l

-- some line has the bytes
abbrev pub spells : List Production → List ℕ → Bool
spells [] c = false
spells ((r then rs) ∷ ps) c = in_ranges (r ∷ rs) c || spells ps c

-- UTF8-octets = *( UTF8-char )
pub data Octets : List ℕ → Type 0 where
  none : Octets []
  char : (c : List ℕ) {s : List ℕ} → T (spells grammar c) → Octets s → Octets (c ++ s)

-- AS A TEST, BYTE BY BYTE (proofs/Octets.antt: the same)

-- what is still to come of the current character, or that no character goes on so
pub data Left : Type 0 where
  rest : List Range → Left
  wrong : Left

-- what a first byte leaves to come
abbrev pub first : List Production → ℕ → Left
first [] b = wrong
first ((r then rs) ∷ ps) b = cond (within r b) (rest rs) (first ps b)

-- one byte more, where these ranges are to come
unfoldable pub byte : List Range → ℕ → Left
byte [] b = first grammar b
byte (r ∷ rs) b = cond (within r b) (rest rs) wrong

-- one byte more; nothing mends what is wrong
abbrev pub go : Left → ℕ → Left
go wrong b = wrong
go (rest rs) b = byte rs b

-- no character is left open
abbrev pub whole : Left → Bool
whole wrong = false
whole (rest []) = true
whole (rest (r ∷ rs)) = false

abbrev pub from : List ℕ → Left → Bool
from [] l = whole l
from (b ∷ s) l = from s (go l b)

-- the bytes are UTF-8
unfoldable pub utf8 : List ℕ → Bool
utf8 s = from s (rest [])
