-- The test of UTF-8 is the grammar of RFC 3629:
--     accepts_octets   bytes pass exactly if they are UTF8-octets: characters, one after the other
--     ascii            bytes below 128 pass
-- Assumes nothing.
use Prim.Native.Nat.{ℕ, suc, ◌≤◌}
use mathlib.Core.Path.{◌≡◌, refl, sym, ap, ◌∙◌}
use mathlib.Core.Logic.{◌↔◌}
use mathlib.Core.Bool.{Bool, true, false, ◌||◌, false≢true}
use mathlib.Core.List.{List, [], ◌∷◌, ◌++◌}
use native.Mathlib.Omega.{arith}
use lib.Dec.{T, leb-zero}
use lib.ListN.{length}
use lib.Seq.{drop-append_seam}
use borrow.Author.Tests.{le-leb, ltb-true}
use Rattle.text.specs.Bytes.{all, is_ascii}
use Rattle.text.specs.Utf8.{Range, within, Production, ◌then◌, grammar, in_ranges, spells, Octets}
use Rattle.text.specs.Utf8.{none, char}
use Rattle.text.specs.Utf8.{Left, rest, wrong, first, byte, from, utf8}
use Rattle.text.proofs.Bytes.{all_head, all_tail}
use Rattle.text.proofs.Leads.{spelled_is}
use Rattle.text.proofs.Chars.{wrong_from, char_more}

pub ascii : (l : List ℕ) → all is_ascii l ≡ true → utf8 l ≡ true
unfolding utf8 byte
ascii [] h = refl
ascii (b ∷ l) h =
    let e : b ≤ 127 = omega (arith, ltb-true b 128 (all_head is_ascii b l h)) in
    rw (leb-zero b, le-leb b 127 e) (ascii l (all_tail is_ascii b l h))

-- FROM THE TEST TO THE GRAMMAR

or_left : (a b : Bool) → T a → T (a || b)
or_left true b t = tt
or_left false b t = absurd t

-- a first byte, and the bytes that it leaves to come
spelled : (ps : List Production) (b : ℕ) (rs : List Range) (t : List ℕ) → first ps b ≡ rest rs
    → T (in_ranges rs t)
    → T (spells ps (b ∷ t))
spelled [] b rs t e h = let z : ◌≡◌ {A = ℕ} 0 1 = cc in absurd (omega arith)
spelled ((r then qs) ∷ ps) b rs t e h =
    (elim (within r b) as (λ w. within r b ≡ w → T (spells ((r then qs) ∷ ps) (b ∷ t))) [
      | true ↦ λ w.
          let f : rest qs ≡ rest rs = rw w at e in
          let g : qs ≡ rs = cc in
          rw (w, g) (or_left (in_ranges rs t) (spells ps (b ∷ t)) h)
      | false ↦ λ w. rw w (spelled ps b rs t (rw w at e) h)
    ])
    refl

-- bytes that begin as is still to come, and then characters
record Goes (rs : List Range) (l : List ℕ) : Type 0 where
  now : List ℕ
  later : List ℕ
  split : l ≡ now ++ later
  spells_now : T (in_ranges rs now)
  chars : Octets later

one_more_lem : (b : ℕ) (l : List ℕ) (x : Left) → first grammar b ≡ x → from l x ≡ true
    → ((rs : List Range) → from l (rest rs) ≡ true → Goes rs l) → Octets (b ∷ l)
one_more_lem b l wrong e h goes = absurd (false≢true (sym (wrong_from l) ∙ h))
one_more_lem b l (rest rs) e h goes =
    let w = goes rs h in
    rw w.split (char (b ∷ w.now) (spelled grammar b rs w.now e w.spells_now) w.chars)

goes_on_lem : (l : List ℕ) (rs : List Range) → from l (rest rs) ≡ true → Goes rs l
unfolding byte
goes_on_lem [] [] h = record { now = []; later = []; split = refl; spells_now = tt; chars = none }
goes_on_lem [] (r ∷ rs) h = absurd (false≢true h)
goes_on_lem (b ∷ l) [] h =
    record {
      now = [];
      later = b ∷ l;
      split = refl;
      spells_now = tt;
      chars = one_more_lem b l (first grammar b) refl h
          (λ rs. goes_on_lem l rs);
    }
goes_on_lem (b ∷ l) (r ∷ rs) h =
    (elim (within r b) as (λ w. within r b ≡ w → Goes (r ∷ rs) (b ∷ l)) [
      | true ↦ λ e.
          let w = goes_on_lem l rs (rw e at h) in
          record {
            now = b ∷ w.now;
            later = w.later;
            split = ap (λ (m : List ℕ). b ∷ m) w.split;
            spells_now = rw e w.spells_now;
            chars = w.chars;
          }
      | false ↦ λ e. absurd (false≢true (sym (wrong_from l) ∙ rw e at h))
    ])
    refl

octets : (s : List ℕ) → utf8 s ≡ true → Octets s
unfolding utf8 byte
octets [] h = none
octets (b ∷ l) h = one_more_lem b l (first grammar b) refl h (λ rs. goes_on_lem l rs)

-- FROM THE GRAMMAR TO THE TEST

passes : {s : List ℕ} → Octets s → utf8 s ≡ true
unfolding utf8
passes none = refl
passes (char [] h o) = absurd h
passes (char (b ∷ t) {s} h o) =
    char_more b (t ++ s) (suc (length t)) (spelled_is b t s h) (omega arith)
    ∙ rw (drop-append_seam (b ∷ t) s) (passes o)

pub accepts_octets : (s : List ℕ) → (utf8 s ≡ true) ↔ Octets s
accepts_octets s = (octets s, passes)
