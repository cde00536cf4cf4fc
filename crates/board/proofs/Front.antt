-- A lent list that is written from its front, one store a turn. Assumes nothing.
use mathlib.Core.Path.{◌≡◌, sym, ap, ◌∙◌}
use mathlib.Core.List.{List, ◌++◌, append-nil}
use Prim.Native.Nat.{ℕ, ◌+◌, ◌≤◌, ◌<◌}
use native.Mathlib.Nat.{zero-add}
use native.Mathlib.Omega.{arith}
use lib.ListN.{length, get_or, take, drop, set, get_or-append}
use lib.Seq.{sets, length-sets, drop_at, drop-length, length-take-le}
use Rattle.lists.specs.Lists.{each}
use Rattle.lists.proofs.Each.{length-each, getD-each}
use Rattle.lists.proofs.Stores.{sets-each, sets-front}

module _ {A : Type 0} where
  -- one store more
  pub store : (d : List A) (n : ℕ) (f : ℕ → A) → set (sets d 0 (each n f)) n (f n) ≡ sets d 0 (each (n + 1) f)
  store d n f = ap (λ k. set (sets d 0 (each n f)) k (f n)) (sym (zero-add n)) ∙ sets-each d 0 n f

  -- what stands there then
  pub stored : (d : List A) (n : ℕ) (f : ℕ → A) (k : ℕ) (z : A) → n ≤ length d → k < n
      → get_or (sets d 0 (each n f)) k z ≡ f k
  stored d n f k z h l =
      let e : length (each n f) ≡ n = length-each n f in
      rw (sets-front d (each n f) (omega arith))
      (get_or-append (each n f) (drop (length (each n f)) d) z k (omega arith) ∙ getD-each n k f z l)

  -- a front of its own that is written, and what stands behind it
  pub front : (d : List A) (n : ℕ) (f : ℕ → A) → n ≤ length d
      → each (length (take n d)) f ++ drop n d ≡ sets d 0 (each n f)
  front d n f h =
      let e : length (each n f) ≡ n = length-each n f in
      ap (λ k. each k f ++ drop n d) (length-take-le n d h)
      ∙ ap (λ k. each n f ++ drop k d) (sym e)
      ∙ sym (sets-front d (each n f) (omega arith))

  -- a list that is written to its end
  pub whole : (d : List A) (f : ℕ → A) → sets d 0 (each (length d) f) ≡ each (length d) f
  whole d f =
      let e : length (each (length d) f) ≡ length d = length-each (length d) f in
      sets-front d (each (length d) f) (omega arith)
      ∙ ap (λ l. each (length d) f ++ l) (ap (λ n. drop n d) e ∙ drop-length d)
      ∙ append-nil (each (length d) f)

  -- a second run that is as long as the first leaves nothing of it
  pub sets-again : (d xs ys : List A) → length xs ≡ length ys → length xs ≤ length d
      → sets (sets d 0 xs) 0 ys ≡ sets d 0 ys
  sets-again d xs ys e h =
      sets-front (sets d 0 xs) ys (omega (arith, length-sets d 0 xs))
      ∙ ap (λ l. ys ++ drop (length ys) l) (sets-front d xs h)
      ∙ ap (λ l. ys ++ l) (drop_at xs (drop (length xs) d) (length ys) e ∙ ap (λ n. drop n d) e)
      ∙ sym (sets-front d ys (omega arith))
