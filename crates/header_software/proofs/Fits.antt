-- The times by the software's name fit a u64, or are refused with 4, 5 or 6. Assumes nothing.
use Prim.Native.Nat.{ℕ, ◌+◌, ◌*◌, ◌^◌, ◌<◌}
use mathlib.Core.Path.{◌≡◌, refl}
use mathlib.Core.Bool.{Bool, true, false, cond, ◌&&◌, ◌||◌}
use mathlib.Core.List.{List}
use native.Mathlib.Omega.{arith}
use lib.ListN.{length}
use lib.Dec.{ltb, lit<}
use borrow.Author.Tests.{ltb-true, ltb-false}
use Rattle.text.specs.Bytes.{all}
use Rattle.std.specs.Prelude.{Option, Some, None}
use Rattle.text.specs.Decimals.{is_digit, value, without_plus, in_digits, decimal_of}
use Rattle.times.specs.declared.GameMs.{GameMs}
use Rattle.header_fields.specs.Fields.{span_of}
use Rattle.header_fields.proofs.Sure.{Early}
use Rattle.header_fields.proofs.Fits.{SpanFits}
use Rattle.header_software.specs.declared.Times.{Times}
use Rattle.header_software.specs.declared.Times.TheVariants.{Known, Refused}
use Rattle.header_software.specs.Software.{begins_with, yuan_name, arbiter_name, vienna_name, largest_u64}
use Rattle.header_software.specs.Software.{vienna, yuan, times_of}

-- the times fit a u64, or are refused with 4, 5 or 6
unfoldable pub TimesFit : Times → Type 0
TimesFit (Known span) = SpanFits span
TimesFit (Refused n) = Early n

vienna_fits : (n : Option ℕ) (time : GameMs) → TimesFit (vienna n time)
unfolding TimesFit vienna
vienna_fits None time = omega arith
vienna_fits (Some n) time = go (n * 1000000) (n * 1000000 + time.0 * 1000)
  where
    by_tests : (start end : ℕ) (a b : Bool) → ltb largest_u64 start ≡ a → ltb largest_u64 end ≡ b
        → TimesFit (cond (a || b) (Refused 6) (Known (span_of start end)))
    by_tests start end true b e f = omega arith
    by_tests start end false true e f = omega arith
    by_tests start end false false e f =
        record {
          start = omega (arith, ltb-false largest_u64 start e);
          end = omega (arith, ltb-false largest_u64 end f);
        }

    go : (start end : ℕ)
        → TimesFit (cond (ltb largest_u64 start || ltb largest_u64 end) (Refused 6) (Known (span_of start end)))
    go start end = by_tests start end (ltb largest_u64 start) (ltb largest_u64 end) refl refl

-- a decimal number is a u64
NumberFits : Option ℕ → Type 0
NumberFits (Some n) = n < 2 ^ 64
NumberFits None = Unit {0}

decimal_fits : (t : List ℕ) → NumberFits (decimal_of t)
unfolding NumberFits decimal_of in_digits
decimal_fits t = go (ltb 0 (length ds)) (all is_digit ds) (ltb (value ds) (2 ^ 64)) (ltb-true _ _)
  where
    ds : List ℕ
    ds = without_plus t

    go : (a b c : Bool) → (c ≡ true → value ds < 2 ^ 64)
        → NumberFits (cond (a && (b && c)) (Some (value ds)) None)
    go true true true f = f refl
    go true true false f = tt
    go true false c f = tt
    go false b c f = tt

yuan_fits : (a b : Option ℕ) → NumberFits a → NumberFits b → TimesFit (yuan a b)
unfolding TimesFit NumberFits yuan
yuan_fits None b f g = omega arith
yuan_fits (Some a) None f g = omega arith
yuan_fits (Some a) (Some b) f g = record { start = f; end = g }

pub times_fit : (software start end : List ℕ) (time : GameMs) → TimesFit (times_of software start end time)
unfolding TimesFit times_of
times_fit software start end time =
    go (begins_with arbiter_name software) (begins_with vienna_name software) (begins_with yuan_name software)
  where
    go : (a b c : Bool)
        → TimesFit
        (cond a (Refused 4)
        (cond b (vienna (decimal_of start) time)
        (cond c (yuan (decimal_of start) (decimal_of end)) (Known (span_of 0 0)))))
    go true b c = omega arith
    go false true c = vienna_fits (decimal_of start) time
    go false false true = yuan_fits _ _ (decimal_fits start) (decimal_fits end)
    go false false false = record { start = lit< tt; end = lit< tt }
