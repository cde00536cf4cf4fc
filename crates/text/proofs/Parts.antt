-- A part of a list that may run past its end, by how far it does. Assumes nothing.
use Prim.Native.Nat.{ℕ, ◌-◌, ◌<◌}
use mathlib.Core.Path.{◌≡◌, sym, ap, ◌∙◌}
use mathlib.Core.List.{List, []}
use native.Mathlib.Nat.{le_of_lt}
use native.Mathlib.Omega.{arith}
use lib.ListN.{length, take, drop, length-drop, drop_of_length-le}
use lib.Seq.{take_all, take-nil}

module _ (l : List ℕ) (start len : ℕ) where
  pub past : length l < start → [] ≡ take len (drop start l)
  past h = sym (ap (take len) (drop_of_length-le l (le_of_lt h)) ∙ take-nil len)

  rest : take (length l - start) (drop start l) ≡ drop start l
  rest = take_all (length l - start) (drop start l) (omega (arith, length-drop start l))

  pub cut : length (take (length l - start) (drop start l)) < len
      → take (length l - start) (drop start l) ≡ take len (drop start l)
  cut h = rest ∙ sym (take_all len (drop start l) (omega (arith, ap length rest)))

  pub uncut : take (len - 0) (take (length l - start) (drop start l)) ≡ take len (drop start l)
  uncut = let e : len - 0 ≡ len = omega arith in rw (e, rest)
