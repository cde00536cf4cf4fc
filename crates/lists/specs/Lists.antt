-- Words for lists that several crates use. Definitions only.
-- A buffer that was written is said with `lib.Seq`'s `sets d at xs`: the list d with xs in place of what
-- stood from `at` on. What xs has past the end of d is dropped, so its length is always d's.
use Rattle.std.specs.Prelude.{ℕ, zero, suc, ◌+◌, Bool, cond, List, [], ◌∷◌}

-- the list f 0, f 1, .. f (n - 1)
abbrev pub each : {A : Type 0} → ℕ → (ℕ → A) → List A
each zero f = []
each (suc n) f = f 0 ∷ each n (λ k. f (suc k))

-- how many entries pass a test
abbrev pub count : {A : Type 0} → (A → Bool) → List A → ℕ
count p [] = 0
count p (x ∷ xs) = cond (p x) 1 0 + count p xs
