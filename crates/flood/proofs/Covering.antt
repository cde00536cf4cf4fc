-- Laws of a buffer whose cells are all covered. Assumes nothing.
--     zeros    a run of zeros, as `each` says it
--     cover-fits, cover-short    the buffer, by whether it is long enough
--     filled   a front that is filled and what stands behind it, where it has just the board's cells
--     cover_all, cover-long, cover-past    each cell of one that is, its length, and what stands behind
use mathlib.Core.Path.{◌≡◌, refl, sym, ◌∙◌, ap}
use mathlib.Core.List.{List, ◌∷◌, ◌++◌}
use Prim.Native.Nat.{ℕ, zero, suc, ◌*◌, ◌<◌, ◌≤◌}
use native.Mathlib.Omega.{arith}
use lib.ListN.{length, get_or, take, drop, replicate}
use lib.Seq.{sets, length-sets, drop_at}
use borrow.Author.Tests.{le-leb, lt-leb}
use Rattle.lists.specs.Lists.{each}
use Rattle.lists.proofs.Each.{length-each}
use Rattle.lists.proofs.Stores.{sets-front}
use Rattle.board.proofs.Front.{stored, front}
use Rattle.flood.specs.Flood.{all_covered}

pub zeros : (n : ℕ) → replicate {A = ℕ} n 0 ≡ each n (λ k. 0)
zeros zero = refl
zeros (suc n) = ap (λ (l : List ℕ). 0 ∷ l) (zeros n)

module _ (h w : ℕ) (cells : List ℕ) where
  pub cover-short : length cells < h * w → all_covered h w cells ≡ cells
  unfolding all_covered
  cover-short l = rw (lt-leb (h * w) (length cells) l)

  pub cover-fits : h * w ≤ length cells → all_covered h w cells ≡ sets cells 0 (each (h * w) (λ k. 0))
  unfolding all_covered
  cover-fits l = rw (le-leb (h * w) (length cells) l)

  pub filled : (n : ℕ) (xs : List ℕ) → xs ≡ replicate (length (take n cells)) 0 → n ≡ h * w → n ≤ length cells
      → xs ++ drop n cells ≡ all_covered h w cells
  filled n xs e k l =
      ap (λ (x : List ℕ). x ++ drop n cells) (e ∙ zeros _)
      ∙ front cells n (λ k. 0) l
      ∙ ap (λ (n : ℕ). sets cells 0 (each n (λ k. 0))) k
      ∙ sym (cover-fits (omega arith))

  module _ (l : h * w ≤ length cells) where
    pub cover_all : (j : ℕ) → j < h * w → get_or (all_covered h w cells) j 0 ≡ 0
    cover_all j k = ap (λ (x : List ℕ). get_or x j 0) (cover-fits l) ∙ stored cells (h * w) (λ k. 0) j 0 l k

    pub cover-long : length (all_covered h w cells) ≡ length cells
    cover-long = ap length (cover-fits l) ∙ length-sets cells 0 (each (h * w) (λ k. 0))

    pub cover-past : drop (h * w) (all_covered h w cells) ≡ drop (h * w) cells
    cover-past =
        let xs : List ℕ = each (h * w) (λ k. 0) in
        let m : length xs ≡ h * w = length-each (h * w) (λ k. 0) in
        ap (drop (h * w)) (cover-fits l ∙ sets-front cells xs (omega arith))
        ∙ drop_at xs (drop (length xs) cells) (h * w) m
        ∙ ap (λ (x : ℕ). drop x cells) m
