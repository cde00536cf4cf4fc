-- What the rules spell where a text begins, as their lines are tested byte by byte:
--     by_lines_lem   a rule's length, a test for each byte of each line
--     between    two lines that go on alike are tested as one
--     fails_at   a line is left where one of its tests fails
-- Assumes nothing.
use Prim.Native.Nat.{ℕ, zero, suc}
use mathlib.Core.Path.{◌≡◌, refl, ap, ◌∙◌}
use mathlib.Core.Bool.{Bool, true, false, cond, ◌&&◌, ◌||◌, and-false}
use mathlib.Core.List.{List, [], ◌∷◌, map}
use lib.ListN.{length, get_or, drop}
use Rattle.text.specs.Utf8.{Range, within, Production, ◌then◌}
use Rattle.text.specs.Chars.{starts, begins, spelled_by}

-- what each test says of its byte, the first of that at a place, the others of those behind it
abbrev pub tests : List (ℕ → Bool) → ℕ → List ℕ → List Bool
tests [] i s = []
tests (p ∷ ps) i s = starts p (drop i s) ∷ tests ps (suc i) s

abbrev pub conj : List Bool → Bool
conj [] = true
conj (b ∷ bs) = b && conj bs

-- A RULE BY ITS LINES

begins-at : (s : List ℕ) (i : ℕ) (r : Range) (rs : List Range)
    → begins (r ∷ rs) (drop i s) ≡ starts (within r) (drop i s) && begins rs (drop (suc i) s)
begins-at [] zero r rs = refl
begins-at [] (suc i) r rs = refl
begins-at (b ∷ s) zero r rs = refl
begins-at (b ∷ s) (suc i) r rs = begins-at s i r rs

begins_tests : (s : List ℕ) (i : ℕ) (rs : List Range)
    → begins rs (drop i s) ≡ conj (tests (map within rs) i s)
begins_tests s i [] = refl
begins_tests s i (r ∷ rs) =
    begins-at s i r rs ∙ ap (◌&&◌ (starts (within r) (drop i s))) (begins_tests s (suc i) rs)

abbrev by_lines : List Production → List ℕ → ℕ
by_lines [] s = 0
by_lines ((r then rs) ∷ ps) s =
    cond (conj (tests (map within (r ∷ rs)) 0 s)) (suc (length rs)) (by_lines ps s)

pub by_lines_lem : (ps : List Production) (s : List ℕ) → spelled_by ps s ≡ by_lines ps s
unfolding spelled_by
by_lines_lem [] s = refl
by_lines_lem ((r then rs) ∷ ps) s = rw (begins_tests s 0 (r ∷ rs), by_lines_lem ps s) refl

-- in one of two ranges
abbrev pub either : Range → Range → ℕ → Bool
either r q b = within r b || within q b

pub starts_either : (r q : Range) (l : List ℕ)
    → starts (either r q) l ≡ (starts (within r) l || starts (within q) l)
starts_either r q [] = refl
starts_either r q (b ∷ l) = refl

-- two lines that begin differently and go on alike are tested as one, before the line between them
pub between : (n : ℕ) (x y z v : Bool)
    → cond (x && v) n (cond y n (cond (z && v) n 0)) ≡ cond ((x || z) && v) n (cond y n 0)
between n true y z true = refl
between n true y true false = refl
between n true y false false = refl
between n false true true true = refl
between n false true true false = refl
between n false false true v = refl
between n false y false v = refl

-- A LINE IS LEFT WHERE A TEST FAILS

pub fails_at : (i : ℕ) (bs : List Bool) → get_or bs i true ≡ false → conj bs ≡ false
fails_at zero [] h = h
fails_at (suc i) [] h = h
fails_at zero (b ∷ bs) h = rw h refl
fails_at (suc i) (b ∷ bs) h = rw (fails_at i bs h) (and-false b)
