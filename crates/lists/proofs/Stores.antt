-- Laws of `sets`, a run of stores: what a buffer holds after one store more, and after two runs. Assumes
-- nothing.
use mathlib.Core.Path.{◌≡◌, refl, sym, ap, ◌∙◌}
use mathlib.Core.List.{List, [], ◌∷◌, ◌++◌, append_assoc}
use Prim.Native.Nat.{ℕ, suc, ◌+◌, ◌-◌, ◌≤◌, ◌<◌}
use native.Mathlib.Nat.{add-zero}
use native.Mathlib.Numerals.{add-one}
use native.Mathlib.Omega.{arith}
use borrow.Rule.Slice.PartMut.{put_mid}
use lib.ListN.{length, get_or, take, drop, set}
use lib.Seq.{sets, sets-eq, set_comm, set_out, take-suc, take_at, length-take-le, length-sets}
use Rattle.std.proofs.lemmas.List.{drop-drop, take-append-drop}
use Rattle.lists.specs.Lists.{each}
use Rattle.lists.proofs.Each.{each_more, length-each}

module _ {A : Type 0} where
  -- a second run that starts where the first one ends
  pub sets-append : (d : List A) (at : ℕ) (xs ys : List A)
      → sets (sets d at xs) (at + length xs) ys ≡ sets d at (xs ++ ys)
  sets-append d at [] ys = rw add-zero
  sets-append d at (x ∷ xs) ys =
      let e : at + suc (length xs) ≡ suc at + length xs = omega arith in
      rw e (sets-append (set d at x) (suc at) xs ys)

  -- one store more, at the end of a run of n
  pub sets_more : (d : List A) (at n : ℕ) (xs : List A) (x : A) → length xs ≡ n
      → set (sets d at xs) (at + n) x ≡ sets d at (xs ++ (x ∷ []))
  sets_more d at n xs x e = rw (← e) (sets-append d at xs (x ∷ []))

  pub sets-each : (d : List A) (at n : ℕ) (f : ℕ → A)
      → set (sets d at (each n f)) (at + n) (f n) ≡ sets d at (each (n + 1) f)
  sets-each d at n f = rw each_more (sets_more d at n (each n f) (f n) (length-each n f))

  -- a copy, one entry more
  pub sets-take : (d : List A) (at i : ℕ) (xs : List A) (z : A) → i < length xs
      → set (sets d at (take i xs)) (at + i) (get_or xs i z) ≡ sets d at (take (i + 1) xs)
  sets-take d at i xs z h =
      rw (add-one, take-suc xs i z h)
      (sets_more d at i (take i xs) (get_or xs i z) (length-take-le i xs (omega arith)))

  -- a run from the start, where there is room for it: the run, then what stood behind it
  pub sets-front : (d xs : List A) → length xs ≤ length d → sets d 0 xs ≡ xs ++ drop (length xs) d
  sets-front d xs h =
      let e : 0 + length xs ≡ length xs = omega arith in
      sets-eq xs d 0 (omega arith) ∙ rw e

  -- what was put first comes out first
  pub sets_first : (d xs : List A) (n : ℕ) → length xs ≡ n → n ≤ length d → take n (sets d 0 xs) ≡ xs
  sets_first d xs n e l =
      ap (take n) (sets-front d xs (omega (arith, e, l))) ∙ take_at xs (drop (length xs) d) n e

  -- a store below a run does not meet it
  apart : (d : List A) (i j : ℕ) (x : A) (xs : List A) → i < j → set (sets d j xs) i x ≡ sets (set d i x) j xs
  apart d i j x [] h = refl
  apart d i j x (y ∷ xs) h =
      let e : i ≡ j → ⊥ = λ q. omega arith in
      apart (set d j y) i (suc j) x xs (omega arith) ∙ ap (λ (l : List A). sets l (suc j) xs)
      (set_comm d j i y x (λ q. e (sym q)))

  -- one store more, before the start of a run
  pub sets-before : (d : List A) (i : ℕ) (x : A) (xs : List A)
      → set (sets d (suc i) xs) i x ≡ sets d i (x ∷ xs)
  sets-before d i x xs = apart d i (suc i) x xs (omega arith)

  -- stores past the end change nothing
  pub sets-out : (d : List A) (at : ℕ) (xs : List A) → length d ≤ at → sets d at xs ≡ d
  sets-out d at [] h = refl
  sets-out d at (x ∷ xs) h =
      ap (λ (l : List A). sets l (suc at) xs) (set_out d at x h) ∙ sets-out d (suc at) xs (omega arith)

  -- two runs that do not meet, in either order
  pub sets-apart : (d : List A) (i j : ℕ) (ys zs : List A) → i + length ys ≤ j
      → sets (sets d j zs) i ys ≡ sets (sets d i ys) j zs
  sets-apart d i j [] zs h = refl
  sets-apart d i j (y ∷ ys) zs h =
      ap (λ (l : List A). sets l (suc i) ys) (apart d i j y zs (omega arith))
      ∙ sets-apart (set d i y) (suc i) j ys zs (omega arith)

  -- three runs one behind the other, the one between stored last
  pub sets-between : (d : List A) (at : ℕ) (xs ys zs : List A)
      → sets (sets (sets d at xs) (at + length xs + length ys) zs) (at + length xs) ys
      ≡ sets d at (xs ++ (ys ++ zs))
  sets-between d at xs ys zs =
      sets-apart (sets d at xs) (at + length xs) (at + length xs + length ys) ys zs (omega arith)
      ∙ sets-append (sets d at xs) (at + length xs) ys zs
      ∙ sets-append d at xs (ys ++ zs)

  -- a part of a list that a run was copied over
  pub sets-part : (d : List A) (at n : ℕ) (xs : List A) → n ≡ length xs → at + length xs ≤ length d
      → put_mid at n d xs ≡ sets d at xs
  sets-part d at n xs e h =
      ap (λ l. take at d ++ (xs ++ l)) (drop-drop n at d ∙ ap (λ k. drop (at + k) d) e)
      ∙ sym (sets-eq xs d at h ∙ append_assoc (take at d) xs (drop (at + length xs) d))

  -- .. and a part up to the end, where the run is longer
  pub sets-rest : (d : List A) (at n : ℕ) (xs : List A) → n ≡ length d - at → at ≤ length d → n ≤ length xs
      → put_mid at n d (take n xs) ≡ sets d at xs
  sets-rest d at n xs e h l =
      let t : length (take n xs) ≡ n = length-take-le n xs l in
      let o : length (sets d at (take n xs)) ≤ at + length (take n xs) =
      omega (arith, length-sets d at (take n xs)) in
      sets-part d at n (take n xs) (sym t) (omega arith)
      ∙ sym (sets-out (sets d at (take n xs)) (at + length (take n xs)) (drop n xs) o)
      ∙ sets-append d at (take n xs) (drop n xs)
      ∙ ap (sets d at) (take-append-drop n xs)
