-- The flags that are written are the flags that are read: one computed test over all of them. Assumes
-- nothing.
--     first_small, second_small    each flag byte is a byte
--     first_back, second_back      and its flags, the highest mask first, are those of the header. The first
--                                  byte is that of version 4 for a game that is translated or not; version
--                                  3 has no such bit, and writes what version 4 does for one that is not.
use Prim.Native.Nat.{ℕ, ◌+◌, ◌≤◌, ◌<◌}
use mathlib.Core.Path.{◌≡◌, refl, ap}
use mathlib.Core.Bool.{Bool, true, false, not, ◌&&◌}
use mathlib.Core.List.{List, [], ◌∷◌}
use native.Mathlib.Omega.{arith}
use lib.Dec.{T}
use Rattle.lists.proofs.Tables.{both_left, both_right}
use Rattle.game.specs.declared.Header.{Header}
use Rattle.header_fields.specs.Fields.{flag}
use Rattle.layout_fields.specs.Fields.{bit, first_flags, second_flags}

-- A BYTE
bit_le : (b : Bool) (mask : ℕ) → bit b mask ≤ mask
bit_le true mask = omega arith
bit_le false mask = omega arith

pub first_small : (h : Header) (translated : Bool) → first_flags h + bit translated 0x08 < 256
first_small h translated =
    omega (
      arith,
      bit_le h.is_completed 0x80,
      bit_le h.is_official 0x40,
      bit_le h.is_fair 0x20,
      bit_le h.nf 0x10,
      bit_le translated 0x08,
    )

pub second_small : (h : Header) → second_flags h < 256
second_small h = omega (
  arith,
  bit_le h.use_question 0x80,
  bit_le h.use_cursor_pos_lim 0x40,
  bit_le h.use_auto_replay 0x20,
)

-- ITS FLAGS

-- two lists of flags are the same
abbrev agree : List Bool → List Bool → Bool
agree [] [] = true
agree [] (b ∷ m) = false
agree (a ∷ l) [] = false
agree (true ∷ l) (b ∷ m) = b && agree l m
agree (false ∷ l) (b ∷ m) = not b && agree l m

agreed : (l m : List Bool) → T (agree l m) → l ≡ m
agreed [] [] t = refl
agreed [] (b ∷ m) t = absurd t
agreed (a ∷ l) [] t = absurd t
agreed (true ∷ l) (true ∷ m) t = ap (λ (k : List Bool). true ∷ k) (agreed l m t)
agreed (true ∷ l) (false ∷ m) t = absurd t
agreed (false ∷ l) (true ∷ m) t = absurd t
agreed (false ∷ l) (false ∷ m) t = ap (λ (k : List Bool). false ∷ k) (agreed l m t)

-- a test passes whatever the flag
abbrev always : (Bool → Bool) → Bool
always p = p true && p false

pass : (p : Bool → Bool) → T (always p) → (b : Bool) → T (p b)
pass p t true = both_left (p true) (p false) t
pass p t false = both_right (p true) (p false) t

-- the flags of a byte
abbrev pub first_marks : ℕ → List Bool
first_marks n = flag n 0x80 ∷ flag n 0x40 ∷ flag n 0x20 ∷ flag n 0x10 ∷ flag n 0x08 ∷ []

abbrev pub second_marks : ℕ → List Bool
second_marks n = flag n 0x80 ∷ flag n 0x40 ∷ flag n 0x20 ∷ []

abbrev first_right : (a b c d e : Bool) → Bool
first_right a b c d e =
    agree (first_marks (bit a 0x80 + (bit b 0x40 + (bit c 0x20 + bit d 0x10)) + bit e 0x08))
    (a ∷ b ∷ c ∷ d ∷ e ∷ [])

abbrev second_right : (a b c : Bool) → Bool
second_right a b c = agree (second_marks (bit a 0x80 + (bit b 0x40 + bit c 0x20))) (a ∷ b ∷ c ∷ [])

pub first_back : (h : Header) (translated : Bool)
    → first_marks (first_flags h + bit translated 0x08)
    ≡ h.is_completed ∷ h.is_official ∷ h.is_fair ∷ h.nf ∷ translated ∷ []
first_back h translated =
    let a = h.is_completed in
    let b = h.is_official in
    let c = h.is_fair in
    let d = h.nf in
    agreed _ _
    (pass (λ e. first_right a b c d e)
    (pass (λ d. always (λ e. first_right a b c d e))
    (pass (λ c. always (λ d. always (λ e. first_right a b c d e)))
    (pass (λ b. always (λ c. always (λ d. always (λ e. first_right a b c d e))))
    (pass (λ a. always (λ b. always (λ c. always (λ d. always (λ e. first_right a b c d e))))) tt a) b) c) d)
    translated)

pub second_back : (h : Header)
    → second_marks (second_flags h) ≡ h.use_question ∷ h.use_cursor_pos_lim ∷ h.use_auto_replay ∷ []
second_back h =
    let a = h.use_question in
    let b = h.use_cursor_pos_lim in
    agreed _ _
    (pass (λ c. second_right a b c)
    (pass (λ b. always (λ c. second_right a b c))
    (pass (λ a. always (λ b. always (λ c. second_right a b c))) tt a) b) h.use_auto_replay)
