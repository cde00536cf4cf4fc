-- A refusal's number is its place in the table: what is found by the number stands at the place. Assumes
-- nothing.
--     placed      the words and the advice of a number, at their places
use Prim.Native.Nat.{ℕ, zero, suc, ◌+◌, ◌*◌, ◌≤◌, ◌<◌}
use mathlib.Core.Path.{◌≡◌, refl, ap, ◌∙◌}
use mathlib.Core.Bool.{Bool, true, false, cond, ◌&&◌}
use mathlib.Core.List.{List, [], ◌∷◌}
use native.Mathlib.Omega.{arith}
use lib.Dec.{T, eqb, ltb}
use lib.ListN.{length, get_or, get_or-eq_default}
use borrow.Author.Tests.{eq-eqb, ne_eqb, eqb-true, ltb-true, ltb-false}
use Rattle.lists.proofs.Tables.{both_left, both_right}
use Rattle.words.specs.Words.{Refusal, table, unknown, among_of, refusal_of}
use Rattle.words.specs.Pieces.{pieces_of, pieces, piece_at, place_of}

-- the numbers of some refusals are k, k + 1 and so on
abbrev in_order : ℕ → List Refusal → Bool
in_order k [] = true
in_order k (r ∷ others) = eqb r.number k && in_order (suc k) others

truth : (b : Bool) → T b → b ≡ true
truth true t = refl
truth false t = absurd t

-- the first has the first number, and the others are in order
module _ (k : ℕ) (r : Refusal) (others : List Refusal) (t : T (in_order k (r ∷ others))) where
  first_is : r.number ≡ k
  first_is = eqb-true _ _ (truth _ (both_left (eqb r.number k) (in_order (suc k) others) t))

  others_are : T (in_order (suc k) others)
  others_are = both_right (eqb r.number k) (in_order (suc k) others) t

-- what is found by a number stands at its place
among_at : (k i : ℕ) (l : List Refusal) → T (in_order k l) → among_of l (k + i) ≡ get_or l i unknown
among_at k i [] t = refl
among_at k zero (r ∷ others) t =
    let s : k + 0 ≡ r.number = omega (arith, first_is k r others t) in
    rw (eq-eqb _ _ s)
among_at k (suc i) (r ∷ others) t =
    let n : k + suc i ≡ suc k + i = omega arith in
    rw (ne_eqb (k + suc i) r.number (λ s. omega (arith, first_is k r others t)))
    (ap (among_of others) n ∙ among_at (suc k) i others (others_are k r others t))

-- the refusal of a number, by its place behind the unknown one
refusal-at : (n : ℕ) → refusal_of n ≡ get_or (unknown ∷ table) n unknown
unfolding refusal_of table
refusal-at zero = refl
refusal-at (suc n) =
    let one : suc n ≡ 1 + n = omega arith in
    rw one (among_at 1 n table tt)

-- the words and the advice of entry n, among the texts of all
words_place : (l : List Refusal) (n : ℕ) → n < length l
    → get_or (pieces_of l) (2 * n) [] ≡ (get_or l n unknown).words
words_place [] n h = absurd (omega arith)
words_place (r ∷ l) zero h = refl
words_place (r ∷ l) (suc n) h =
    let e : 2 * suc n ≡ suc (suc (2 * n)) = omega arith in rw e (words_place l n (omega arith))

advice_place : (l : List Refusal) (n : ℕ) → n < length l
    → get_or (pieces_of l) (2 * n + 1) [] ≡ (get_or l n unknown).advice
advice_place [] n h = absurd (omega arith)
advice_place (r ∷ l) zero h = refl
advice_place (r ∷ l) (suc n) h =
    let e : 2 * suc n + 1 ≡ suc (suc (2 * n + 1)) = omega arith in rw e (advice_place l n (omega arith))

-- the texts of a refusal stand at a place and behind it
pub record Placed (r : Refusal) (p : ℕ) : Type 0 where
  pub words_at : piece_at p ≡ r.words
  pub advice_at : piece_at (p + 1) ≡ r.advice
  pub small : p ≤ 56

known : (n : ℕ) → n ≤ 28 → Placed (refusal_of n) (2 * n)
unfolding piece_at pieces table
known n h =
    rw (refusal-at n)
    (record {
      words_at = words_place (unknown ∷ table) n (omega arith);
      advice_at = advice_place (unknown ∷ table) n (omega arith);
      small = omega arith;
    })

none : (n : ℕ) → 28 < n → Placed (refusal_of n) 0
unfolding piece_at pieces table
none n h =
    rw (refusal-at n, get_or-eq_default (unknown ∷ table) unknown {n = n} (omega arith))
    (record { words_at = refl; advice_at = refl; small = omega arith })

pub placed : (n : ℕ) → Placed (refusal_of n) (place_of n)
unfolding place_of
placed n =
    (elim (ltb 28 n) as (λ t. ltb 28 n ≡ t → Placed (refusal_of n) (cond t 0 (2 * n))) [
      | true ↦ λ e. none n (ltb-true 28 n e)
      | false ↦ λ e. known n (ltb-false 28 n e)
    ])
    refl
