-- No two lines of the grammar share a first byte, a test that antt computes over all bytes. So the rule that
-- has a character's first byte decides:
--     spelled_first   what the rules spell at a place is what the line of the first byte does
--     spelled-small   the first of bytes that the grammar spells is a byte
--     spelled_is      and they are measured whole
-- Assumes nothing.
use Prim.Native.Nat.{ℕ, suc, ◌<◌, ◌≤◌}
use mathlib.Core.Path.{◌≡◌, refl, sym, ap, subst, ◌∙◌}
use mathlib.Core.Bool.{Bool, true, false, not, cond, ◌&&◌, ◌||◌, and-false, and-eq-true_iff}
use mathlib.Core.List.{List, [], ◌∷◌, ◌++◌}
use native.Mathlib.Omega.{arith}
use lib.Dec.{T, leb, ltb, leb→le}
use lib.ListN.{length}
use borrow.Author.Tests.{lt-leb, leb-true, ltb-true, ltb-false}
use Rattle.lists.proofs.Tables.{below, both_left, both_right}
use Rattle.text.specs.Utf8.{Range, ◌to◌, within, Production, ◌then◌, utf8_1, utf8_2, utf8_3, utf8_4}
use Rattle.text.specs.Utf8.{grammar, in_ranges, spells, Left, rest, wrong, first}
use Rattle.text.specs.Chars.{begins, spelled_by, or_else, char_len}

holds : (b : Bool) → T b → b ≡ true
holds true t = refl
holds false t = absurd t

-- THE RULES, ONE AFTER THE OTHER, ARE THE GRAMMAR

spelled_append : (ps qs : List Production) (l : List ℕ)
    → spelled_by (ps ++ qs) l ≡ or_else (spelled_by ps l) (spelled_by qs l)
unfolding spelled_by
spelled_append [] qs l = refl
spelled_append ((r then rs) ∷ ps) qs l =
    (elim (begins (r ∷ rs) l) as
    (λ t. cond t (suc (length rs)) (spelled_by (ps ++ qs) l)
    ≡ or_else (cond t (suc (length rs)) (spelled_by ps l)) (spelled_by qs l)) [
      | true ↦ refl
      | false ↦ spelled_append ps qs l
    ])

pub char_spelled : (l : List ℕ) → char_len l ≡ spelled_by grammar l
unfolding char_len
char_spelled l = sym
    (spelled_append utf8_1 (utf8_2 ++ utf8_3 ++ utf8_4) l
    ∙ ap (or_else (spelled_by utf8_1 l)) (spelled_append utf8_2 (utf8_3 ++ utf8_4) l
    ∙ ap (or_else (spelled_by utf8_2 l)) (spelled_append utf8_3 utf8_4 l)))

-- NO TWO LINES SHARE A FIRST BYTE

-- no line starts with the byte
abbrev none : List Production → ℕ → Bool
none [] b = true
none ((r then rs) ∷ ps) b = not (within r b) && none ps b

-- at most one does
abbrev sole : List Production → ℕ → Bool
sole [] b = true
sole ((r then rs) ∷ ps) b = cond (within r b) (none ps b) (sole ps b)

-- lines none of which starts with the byte spell nothing
none_spelled : (ps : List Production) (b : ℕ) (l : List ℕ) → T (none ps b) → spelled_by ps (b ∷ l) ≡ 0
unfolding spelled_by
none_spelled [] b l h = refl
none_spelled ((r then rs) ∷ ps) b l h =
    (elim (within r b) as (λ t. T (not t && none ps b)
    → cond (t && begins rs l) (suc (length rs)) (spelled_by ps (b ∷ l)) ≡ 0) [
      | true ↦ λ z. absurd z
      | false ↦ λ z. none_spelled ps b l z
    ])
    h

-- how many bytes a character has whose first leaves this to come; 0 for none
abbrev pub len_with : Left → List ℕ → ℕ
len_with wrong l = 0
len_with (rest rs) l = cond (begins rs l) (suc (length rs)) 0

-- a line that fails leaves the later ones at 0: the line of the first byte decides
spelled_sole : (ps : List Production) (b : ℕ) (l : List ℕ) → T (sole ps b)
    → spelled_by ps (b ∷ l) ≡ len_with (first ps b) l
unfolding spelled_by
spelled_sole [] b l h = refl
spelled_sole ((r then rs) ∷ ps) b l h =
    (elim (within r b) as (λ t. T (cond t (none ps b) (sole ps b))
    → cond (t && begins rs l) (suc (length rs)) (spelled_by ps (b ∷ l))
    ≡ len_with (cond t (rest rs) (first ps b)) l) [
      | true ↦ λ z. ap (cond (begins rs l) (suc (length rs))) (none_spelled ps b l z)
      | false ↦ λ z. spelled_sole ps b l z
    ])
    h

-- the first byte of every line is a byte
abbrev in_bytes : List Production → Bool
in_bytes [] = true
in_bytes (((lo to hi) then rs) ∷ ps) = leb hi 255 && in_bytes ps

-- no line starts with more than a byte
sole_past : (ps : List Production) (b : ℕ) → T (in_bytes ps) → 256 ≤ b → T (sole ps b)
sole_past [] b k h = tt
sole_past (((lo to hi) then rs) ∷ ps) b k h =
    let l : hi < b = omega (arith, h, leb→le hi 255 (both_left (leb hi 255) (in_bytes ps) k)) in
    rw (lt-leb _ _ l, and-false (leb lo b)) (sole_past ps b (both_right (leb hi 255) (in_bytes ps) k) h)

no_two : (b : ℕ) → T (sole grammar b)
no_two b =
    (elim (ltb b 256) as (λ t. ltb b 256 ≡ t → T (sole grammar b)) [
      | true ↦ λ e. below (sole grammar) 256 tt b (ltb-true b 256 e)
      | false ↦ λ e. sole_past grammar b tt (ltb-false b 256 e)
    ])
    refl

pub spelled_first : (b : ℕ) (l : List ℕ) → char_len (b ∷ l) ≡ len_with (first grammar b) l
spelled_first b l = char_spelled (b ∷ l) ∙ spelled_sole grammar b l (no_two b)

-- WHAT THE GRAMMAR SPELLS IS MEASURED

spelled_byte : (ps : List Production) (b : ℕ) (t : List ℕ) → T (in_bytes ps) → T (spells ps (b ∷ t)) → b < 256
spelled_byte [] b t k h = absurd h
spelled_byte (((lo to hi) then rs) ∷ ps) b t k h =
    (elim (within (lo to hi) b) as
    (λ w. within (lo to hi) b ≡ w → T (w && in_ranges rs t || spells ps (b ∷ t)) → b < 256) [
      | true ↦ λ e _.
          let p = (and-eq-true_iff (leb lo b) (leb b hi)).0 e in
          omega (arith, leb-true b hi p.1, leb→le hi 255 (both_left (leb hi 255) (in_bytes ps) k))
      | false ↦ λ e z. spelled_byte ps b t (both_right (leb hi 255) (in_bytes ps) k) z
    ])
    refl h

none-spells : (ps : List Production) (b : ℕ) (t : List ℕ) → T (none ps b) → T (spells ps (b ∷ t)) → ⊥
none-spells [] b t k h = h
none-spells ((r then rs) ∷ ps) b t k h =
    (elim (within r b) as (λ w. T (not w && none ps b) → T (w && in_ranges rs t || spells ps (b ∷ t)) → ⊥) [
      | true ↦ λ z _. z
      | false ↦ λ z y. none-spells ps b t z y
    ])
    k h

-- as many bytes as ranges, and what stands behind them does not matter
record Begun (rs : List Range) (t s : List ℕ) : Type 0 where
  begun : begins rs (t ++ s) ≡ true
  long : length rs ≡ length t

in_ranges_lem : (rs : List Range) (t s : List ℕ) → T (in_ranges rs t) → Begun rs t s
in_ranges_lem [] [] s h = record { begun = refl; long = refl }
in_ranges_lem [] (b ∷ t) s h = absurd h
in_ranges_lem (r ∷ rs) [] s h = absurd h
in_ranges_lem (r ∷ rs) (b ∷ t) s h =
    let w = in_ranges_lem rs t s (both_right (within r b) (in_ranges rs t) h) in
    record {
      begun = rw (holds (within r b) (both_left (within r b) (in_ranges rs t) h)) w.begun;
      long = ap suc w.long;
    }

spelled_whole : (ps : List Production) (b : ℕ) (t s : List ℕ) → T (sole ps b) → T (spells ps (b ∷ t))
    → spelled_by ps (b ∷ (t ++ s)) ≡ suc (length t)
unfolding spelled_by
spelled_whole [] b t s k h = absurd h
spelled_whole ((r then rs) ∷ ps) b t s k h =
    (elim (within r b) as
    (λ w. T (cond w (none ps b) (sole ps b)) → T (w && in_ranges rs t || spells ps (b ∷ t))
    → cond (w && begins rs (t ++ s)) (suc (length rs)) (spelled_by ps (b ∷ (t ++ s))) ≡ suc (length t)) [
      | true ↦ λ z y.
          (elim (in_ranges rs t) as
          (λ v. in_ranges rs t ≡ v → T (v || spells ps (b ∷ t))
          → cond (begins rs (t ++ s)) (suc (length rs)) (spelled_by ps (b ∷ (t ++ s))) ≡ suc (length t)) [
            | true ↦ λ e _.
                let w = in_ranges_lem rs t s (subst T (sym e) tt) in
                rw w.begun (ap suc w.long)
            | false ↦ λ _ x. absurd (none-spells ps b t z x)
          ])
          refl y
      | false ↦ λ z y. spelled_whole ps b t s z y
    ])
    k h

module _ (b : ℕ) (t s : List ℕ) (h : T (spells grammar (b ∷ t))) where
  pub spelled-small : b < 256
  spelled-small = spelled_byte grammar b t tt h

  pub spelled_is : char_len (b ∷ (t ++ s)) ≡ suc (length t)
  spelled_is = char_spelled (b ∷ (t ++ s)) ∙ spelled_whole grammar b t s (no_two b) h
