-- Laws of lines: where the first one ends, by the tests of the code, and an input parted in two. Assumes
-- nothing.
--     line_take, line_whole              its bytes
--     ended_so, ended-not                a newline is there just where the line is shorter than the rest
--     lines_end, lines_more              the lines of an input whose first block holds a newline, or none
use Prim.Native.Nat.{ℕ, suc, ◌<◌, ◌≤◌}
use mathlib.Core.Path.{◌≡◌, refl, ap, ◌∙◌}
use mathlib.Core.Bool.{Bool, true, false, cond, ◌||◌}
use mathlib.Core.List.{List, [], ◌∷◌, ◌++◌, append-nil, append_assoc}
use native.Mathlib.Omega.{arith}
use lib.Dec.{eqb}
use lib.ListN.{length, take, drop}
use Rattle.lines.specs.Fields.{newline}
use Rattle.name_lines.specs.NameLines.{holds, before, lines_of}
use Rattle.name_lines.specs.Steps.{first_line}

pub either_left : (a b : Bool) → (a || b) ≡ false → a ≡ false
either_left true b e = e
either_left false b e = refl

pub either_right : (a b : Bool) → (a || b) ≡ false → b ≡ false
either_right true b e = let z : ◌≡◌ {A = ℕ} 0 1 = cc in absurd (omega arith)
either_right false b e = e

-- by whether the first byte is a newline
by_newline : (P : Bool → Type 0) (b : ℕ) → (eqb b newline ≡ true → P true) → (eqb b newline ≡ false → P false)
    → P (eqb b newline)
by_newline P b f g = (elim (eqb b newline) as (λ t. eqb b newline ≡ t → P t) [ true ↦ f | false ↦ g ]) refl

pub line_take : (s : List ℕ) → take (length (first_line s)) s ≡ first_line s
line_take [] = refl
line_take (b ∷ s) = by_newline
    (λ t. take (length (cond t [] (b ∷ first_line s))) (b ∷ s) ≡ cond t [] (b ∷ first_line s)) b (λ e. refl)
    (λ e. ap (λ (l : List ℕ). b ∷ l) (line_take s))

pub line_whole : (s : List ℕ) → holds newline s ≡ false → first_line s ≡ s
line_whole [] h = refl
line_whole (b ∷ s) h =
    rw (either_left (eqb b newline) (holds newline s) h)
    (ap (λ (l : List ℕ). b ∷ l) (line_whole s (either_right (eqb b newline) (holds newline s) h)))

pub ended_so : (s : List ℕ) → length (first_line s) < length s → holds newline s ≡ true
ended_so [] = λ l. absurd (omega arith)
ended_so (b ∷ s) = by_newline
    (λ t. length (cond t [] (b ∷ first_line s)) < suc (length s) → (t || holds newline s) ≡ true) b
    (λ e l. refl) (λ e l. ended_so s (omega arith))

pub ended-not : (s : List ℕ) → length s ≤ length (first_line s) → holds newline s ≡ false
ended-not [] = λ l. refl
ended-not (b ∷ s) = by_newline
    (λ t. suc (length s) ≤ length (cond t [] (b ∷ first_line s)) → (t || holds newline s) ≡ false) b
    (λ e l. absurd (omega arith)) (λ e l. ended-not s (omega arith))

before_both : (g p : List ℕ) (ls : List (List ℕ)) → before g (before p ls) ≡ before (g ++ p) ls
before_both g p [] = refl
before_both g p (l ∷ ls) = rw append_assoc

-- there is always a line
pub before-none : (s : List ℕ) → before [] (lines_of s) ≡ lines_of s
before-none [] = refl
before-none (b ∷ s) = by_newline
    (λ t. before [] (cond t ([] ∷ lines_of s) (before (b ∷ []) (lines_of s)))
    ≡ cond t ([] ∷ lines_of s) (before (b ∷ []) (lines_of s))) b (λ e. refl)
    (λ e. before_both [] (b ∷ []) (lines_of s))

-- bytes g of a line, then a block with a newline: that line, and the lines of what is left
pub lines_end : (g r t : List ℕ) → holds newline r ≡ true
    → before g (lines_of (r ++ t)) ≡ (g ++ first_line r) ∷ lines_of (drop (suc (length (first_line r))) r ++ t)
lines_end g [] t = λ h. let z : ◌≡◌ {A = ℕ} 0 1 = cc in absurd (omega arith)
lines_end g (b ∷ r) t = by_newline
    (λ n. (n || holds newline r) ≡ true
    → before g (cond n ([] ∷ lines_of (r ++ t)) (before (b ∷ []) (lines_of (r ++ t))))
    ≡ (g ++ cond n [] (b ∷ first_line r))
    ∷ lines_of (drop (suc (length (cond n [] (b ∷ first_line r)))) (b ∷ r) ++ t)) b (λ e h. refl)
    (λ e h. before_both g (b ∷ []) (lines_of (r ++ t)) ∙ lines_end (g ++ (b ∷ [])) r t h ∙ rw append_assoc)

-- and a block with none: all of it belongs to that line
pub lines_more : (g r t : List ℕ) → holds newline r ≡ false
    → before g (lines_of (r ++ t)) ≡ before (g ++ r) (lines_of t)
lines_more g [] t h = rw append-nil
lines_more g (b ∷ r) t h =
    rw (either_left (eqb b newline) (holds newline r) h)
    (before_both g (b ∷ []) (lines_of (r ++ t))
    ∙ lines_more (g ++ (b ∷ [])) r t (either_right (eqb b newline) (holds newline r) h) ∙ rw append_assoc)
