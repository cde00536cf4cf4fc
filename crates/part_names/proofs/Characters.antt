-- No character is torn:
--     shortened-utf8   the beginning that is kept of a name in UTF-8 is UTF-8
-- Assumes nothing.
use Prim.Native.Nat.{ℕ, zero, suc, ◌≤◌}
use mathlib.Core.Path.{◌≡◌, refl, sym, ◌∙◌}
use mathlib.Core.Bool.{Bool, true, false, cond, ◌&&◌, and-eq-true_iff}
use mathlib.Core.List.{List, [], ◌∷◌}
use native.Mathlib.Omega.{arith}
use lib.Dec.{leb}
use lib.ListN.{take}
use lib.Seq.{take-nil}
use borrow.Author.Tests.{leb-true, le-leb}
use Rattle.text.specs.Utf8.{Range, ◌to◌, Production, ◌then◌, within, tail, grammar, Left, rest, wrong}
use Rattle.text.specs.Utf8.{first, byte, go, whole, from, utf8}
use Rattle.text.proofs.Chars.{wrong_from}
use Rattle.part_names.specs.Parts.{tears, cut_at, kept, shortened}

-- WHAT IS TO COME OF A CHARACTER ARE TAILS

abbrev tails : List Range → Bool
tails [] = true
tails ((lo to hi) ∷ rs) = (leb 0x80 lo && leb hi 0xBF) && tails rs

abbrev tails_left : Left → Bool
tails_left wrong = true
tails_left (rest rs) = tails rs

abbrev tails_behind : List Production → Bool
tails_behind [] = true
tails_behind ((r then rs) ∷ ps) = tails rs && tails_behind ps

first_leaves : (ps : List Production) (b : ℕ) → tails_behind ps ≡ true → tails_left (first ps b) ≡ true
first_leaves [] b h = refl
first_leaves ((r then rs) ∷ ps) b h =
    let s = (and-eq-true_iff (tails rs) (tails_behind ps)).0 h in
    (elim (within r b) as (λ t. tails_left (cond t (rest rs) (first ps b)) ≡ true) [
      | true ↦ s.0
      | false ↦ first_leaves ps b s.1
    ])

byte_leaves : (rs : List Range) (b : ℕ) → tails rs ≡ true → tails_left (byte rs b) ≡ true
unfolding byte
byte_leaves [] b h = first_leaves grammar b refl
byte_leaves ((lo to hi) ∷ rs) b h =
    (elim (within (lo to hi) b) as (λ t. tails_left (cond t (rest rs) wrong) ≡ true) [
      | true ↦ ((and-eq-true_iff (leb 0x80 lo && leb hi 0xBF) (tails rs)).0 h).1
      | false ↦ refl
    ])

go_leaves : (l : Left) (b : ℕ) → tails_left l ≡ true → tails_left (go l b) ≡ true
go_leaves wrong b h = refl
go_leaves (rest rs) b h = byte_leaves rs b h

-- SO A BYTE THAT IS NO TAIL STANDS WHERE NONE IS OPEN

tail_in : (lo hi b : ℕ) → (leb 0x80 lo && leb hi 0xBF) ≡ true → within (lo to hi) b ≡ true
    → within tail b ≡ true
tail_in lo hi b h w =
    let i = (and-eq-true_iff (leb 0x80 lo) (leb hi 0xBF)).0 h in
    let j = (and-eq-true_iff (leb lo b) (leb b hi)).0 w in
    let low : 0x80 ≤ b = omega (arith, leb-true 0x80 lo i.0, leb-true lo b j.0) in
    let high : b ≤ 0xBF = omega (arith, leb-true hi 0xBF i.1, leb-true b hi j.1) in
    rw (le-leb 0x80 b low, le-leb b 0xBF high)

closed : (l : Left) (b : ℕ) (s : List ℕ) → tails_left l ≡ true → within tail b ≡ false
    → from s (go l b) ≡ true → whole l ≡ true
unfolding byte
closed wrong b s h n u = sym (wrong_from s) ∙ u
closed (rest []) b s h n u = refl
closed (rest ((lo to hi) ∷ rs)) b s h n u =
    (elim (within (lo to hi) b) as
    (λ t. within (lo to hi) b ≡ t → from s (cond t (rest rs) wrong) ≡ true → false ≡ true) [
      | true ↦ λ w v. sym n
          ∙ tail_in lo hi b ((and-eq-true_iff (leb 0x80 lo && leb hi 0xBF) (tails rs)).0 h).0 w
      | false ↦ λ w v. sym (wrong_from s) ∙ v
    ])
    refl u

front : (s : List ℕ) (k : ℕ) (l : Left) → tails_left l ≡ true → from s l ≡ true → tears s k ≡ false
    → from (take k s) l ≡ true
front [] k l h u n = rw (take-nil k) u
front (b ∷ s) zero l h u n = closed l b s h n u
front (b ∷ s) (suc k) l h u n = front s k (go l b) (go_leaves l b h) u n

cut_utf8 : (name : List ℕ) (k : ℕ) → utf8 name ≡ true → utf8 (take (cut_at name k) name) ≡ true
unfolding utf8 cut_at
cut_utf8 name zero u = refl
cut_utf8 name (suc k) u =
    (elim (tears name (suc k)) as
    (λ t. tears name (suc k) ≡ t → from (take (cond t (cut_at name k) (suc k)) name) (rest []) ≡ true) [
      | true ↦ λ _. cut_utf8 name k u
      | false ↦ λ n. front name (suc k) (rest []) refl u n
    ])
    refl

pub shortened-utf8 : (name : List ℕ) → utf8 name ≡ true → utf8 (shortened name) ≡ true
unfolding shortened
shortened-utf8 name u = cut_utf8 name kept u
