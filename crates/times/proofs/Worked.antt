-- Worked values, by computing. Assumes nothing.
use mathlib.Core.Path.{◌≡◌, refl, sym, subst}
use mathlib.Core.Logic.{◌⊎◌, inl, inr}
use mathlib.Core.Bool.{true, false}
use Prim.Native.Nat.{ℕ}
use lib.Ieee.{Float, nan, inf, binary64, of_bits, mul}
use Rattle.times.specs.Times.{half_away, whole_by, halves_away, halves_to_even, s_to_ms}

-- 0.0625 s, which is 62.5 ms: 63 by the one rule, 62 by the other
a_half_up : s_to_ms halves_away (of_bits binary64 0x3fb0_0000_0000_0000) ≡ 63
unfolding s_to_ms mul of_bits
a_half_up = refl

a_half_even : s_to_ms halves_to_even (of_bits binary64 0x3fb0_0000_0000_0000) ≡ 62
unfolding s_to_ms mul of_bits
a_half_even = refl

-- a product of 0.49999999999999994, the last binary64 below a half: with 0.5 added it is 1
just_below_half : whole_by half_away (of_bits binary64 0x3fdf_ffff_ffff_ffff) ≡ 0
unfolding whole_by of_bits
just_below_half = refl

-- what is the same by both rules
module _ (rule : ℕ) (which : (rule ≡ halves_away) ⊎ (rule ≡ halves_to_even)) where
  alike : (s : Float) (n : ℕ) → s_to_ms halves_away s ≡ n → s_to_ms halves_to_even s ≡ n → s_to_ms rule s ≡ n
  alike s n a e =
      elim which [
        | inl w ↦ subst (λ (r : ℕ). s_to_ms r s ≡ n) (sym w) a
        | inr w ↦ subst (λ (r : ℕ). s_to_ms r s ≡ n) (sym w) e
      ]

  -- 0.1875 s, which is 187.5 ms
  a-half-of-odd : s_to_ms rule (of_bits binary64 0x3fc8_0000_0000_0000) ≡ 188
  unfolding s_to_ms mul of_bits
  a-half-of-odd = alike (of_bits binary64 0x3fc8_0000_0000_0000) 188 refl refl

  -- 4294967.2955 s, which is 4294967295.5 ms
  past_the_top : s_to_ms rule (of_bits binary64 0x4150_624d_d2e9_78d5) ≡ 4294967295
  unfolding s_to_ms mul of_bits
  past_the_top = alike (of_bits binary64 0x4150_624d_d2e9_78d5) 4294967295 refl refl

  minus-zero : s_to_ms rule (of_bits binary64 0x8000_0000_0000_0000) ≡ 0
  unfolding s_to_ms mul of_bits
  minus-zero = alike (of_bits binary64 0x8000_0000_0000_0000) 0 refl refl

  of_nan : s_to_ms rule nan ≡ 0
  unfolding s_to_ms mul
  of_nan = alike nan 0 refl refl

  of-infinity : s_to_ms rule (inf false) ≡ 4294967295
  unfolding s_to_ms mul
  of-infinity = alike (inf false) 4294967295 refl refl

  of-minus-infinity : s_to_ms rule (inf true) ≡ 0
  unfolding s_to_ms mul
  of-minus-infinity = alike (inf true) 0 refl refl
