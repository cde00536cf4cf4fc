-- What can stand at a place in version 4: every record is one of a few, and each law on records goes by these
-- cases. Assumes nothing.
--     SeenFirst, seen_first    the first record
--     Seen, seen               any other
--     only-unnamed, each-unnamed    refusal 9 stands at the codes 13 to 80 and 84 to 98, and at no other
use Prim.Native.Nat.{ℕ, ◌+◌, ◌≤◌, ◌<◌}
use mathlib.Core.Path.{◌≡◌, refl, sym, subst}
use mathlib.Core.Bool.{true}
use mathlib.Core.Logic.{◌≢◌}
use mathlib.Core.List.{List}
use native.Mathlib.Omega.{arith}
use lib.ListN.{length, get_or}
use lib.Dec.{eqb, leb, ltb}
use borrow.Author.Tests.{leb-true, leb-false, eqb-true, eqb-false, ltb-true, ltb-false}
use Rattle.game.specs.declared.GameState.{GameState}
use Rattle.std.specs.Prelude.{Option, Some, None}
use Rattle.game.specs.Kinds.{kind_of, state_of}
use Rattle.game.specs.Refusals.{file_ends, first_code_unknown, code_unknown}
use Rattle.byte_reader.specs.Reading.{Got, ok, no}
use Rattle.record_fields.specs.Fields.{field, Whole, mouse as says}
use Rattle.record_fields.proofs.Fixed.{by_case}
use Rattle.records_v4.specs.Records.{is_first, first_record, moves, becomes, Later, stops, skips, pauses}
use Rattle.records_v4.specs.Records.{event, unnamed, later_record}
use Rattle.records_v4.specs.Tells.{Stands}
use Rattle.records_v4.proofs.Records.{first-end, first-unknown, first-mouse, first-cut, later-end}
use Rattle.records_v4.proofs.Records.{later-stop, later-mouse, later-mouse-cut, later-pause}
use Rattle.records_v4.proofs.Records.{later-pause-cut, later-skip, later-state, later-state-cut}
use Rattle.records_v4.proofs.Records.{later-unnamed, later-unknown}
use Rattle.records_v4.proofs.Codes.{not_named, between}

-- THE FIRST OF VERSION 4
pub data SeenFirst (file : List ℕ) (at : ℕ) : Got Whole → Type 0 where
  cut : SeenFirst file at (no file_ends)
  unknown : SeenFirst file at (no first_code_unknown)
  mouse : at + 6 ≤ length file → (code x y : ℕ) → is_first code ≡ true
      → SeenFirst file at (ok (says (kind_of code) (field 1 file (at + 1)) x y) (at + 6))

module _ (file : List ℕ) (at : ℕ) where
  first_is : {g : Got Whole} → first_record file at ≡ g → SeenFirst file at g
      → SeenFirst file at (first_record file at)
  first_is e v = subst (SeenFirst file at) (sym e) v

  pub seen_first : SeenFirst file at (first_record file at)
  seen_first =
      by_case (ltb at (length file))
      (λ h. by_case (is_first (get_or file at 0))
      (λ c. by_case (leb (at + 6) (length file))
      (λ l. first_is (first-mouse file at (ltb-true _ _ h) c (leb-true _ _ l))
      (mouse (leb-true _ _ l) (get_or file at 0) (field 2 file (at + 2)) (field 2 file (at + 4)) c))
      (λ l. first_is (first-cut file at (ltb-true _ _ h) c (leb-false _ _ l)) cut))
      (λ c. first_is (first-unknown file at (ltb-true _ _ h) c) unknown))
      (λ h. first_is (first-end file at (ltb-false _ _ h)) cut)

-- THE OTHERS OF VERSION 4
pub data Seen (file : List ℕ) (at : ℕ) : Got Later → Type 0 where
  cut : Seen file at (no file_ends)
  unknown : at < length file → 12 < get_or file at 0 → get_or file at 0 < 100 → state_of (get_or file at 0) ≡ None
      → Seen file at (no code_unknown)
  stop : at + 1 ≤ length file → Seen file at (ok stops (at + 1))
  skip : at + 1 ≤ length file → Seen file at (ok skips (at + 1))
  pause : at + 3 ≤ length file → (ms : ℕ) → Seen file at (ok (pauses ms) (at + 3))
  mouse : at + 6 ≤ length file → (code wait dx dy : ℕ) → code ≢ 0 → code ≤ 12
      → Seen file at (ok (event wait (moves (kind_of code) dx dy)) (at + 6))
  state : at + 2 ≤ length file → (s : GameState) (wait : ℕ)
      → Seen file at (ok (event wait (becomes s)) (at + 2))

module _ (file : List ℕ) (at : ℕ) where
  as_is : {g : Got Later} → later_record file at ≡ g → Seen file at g → Seen file at (later_record file at)
  as_is e v = subst (Seen file at) (sym e) v

  stands : {r : Later} {n : ℕ} → Stands file at r n → (at + n ≤ length file → Seen file at (ok r (at + n)))
      → Seen file at (later_record file at)
  stands s v = as_is s.is (v s.inside)

  seen-state : at < length file → get_or file at 0 ≢ 0 → 12 < get_or file at 0 → get_or file at 0 ≢ 255
      → get_or file at 0 < 100 → (f : Option GameState) → state_of (get_or file at 0) ≡ f
      → Seen file at (later_record file at)
  seen-state h c d p s None e = as_is (later-unknown file at h c d p s e) (unknown h d s e)
  seen-state h c d p s (Some x) e =
      by_case (leb (at + 2) (length file))
      (λ l. stands (later-state file at h c d p s x e (leb-true _ _ l))
      (λ i. state i x (field 1 file (at + 1))))
      (λ l. as_is (later-state-cut file at h c d p s x e (leb-false _ _ l)) cut)

  seen-high : at < length file → get_or file at 0 ≢ 0 → 12 < get_or file at 0 → Seen file at (later_record file at)
  seen-high h c d =
      by_case (eqb (get_or file at 0) 255)
      (λ p. by_case (leb (at + 3) (length file))
      (λ l. stands (later-pause file at h c d (eqb-true _ _ p) (leb-true _ _ l))
      (λ i. pause i (field 2 file (at + 1))))
      (λ l. as_is (later-pause-cut file at h c d (eqb-true _ _ p) (leb-false _ _ l)) cut))
      (λ p. by_case (leb 100 (get_or file at 0))
      (λ s. stands (later-skip file at h c d (eqb-false _ _ p) (leb-true _ _ s)) skip)
      (λ s. seen-state h c d (eqb-false _ _ p) (leb-false _ _ s) (state_of (get_or file at 0)) refl))

  pub seen : Seen file at (later_record file at)
  seen =
      by_case (ltb at (length file))
      (λ h. by_case (eqb (get_or file at 0) 0)
      (λ c. stands (later-stop file at (ltb-true _ _ h) (eqb-true _ _ c)) stop)
      (λ c. by_case (leb (get_or file at 0) 12)
      (λ d. by_case (leb (at + 6) (length file))
      (λ l. stands (later-mouse file at (ltb-true _ _ h) (eqb-false _ _ c) (leb-true _ _ d) (leb-true _ _ l))
      (λ i. mouse i (get_or file at 0) (field 1 file (at + 1)) (field 2 file (at + 2)) (field 2 file (at + 4))
      (eqb-false _ _ c) (leb-true _ _ d)))
      (λ l. as_is
      (later-mouse-cut file at (ltb-true _ _ h) (eqb-false _ _ c) (leb-true _ _ d) (leb-false _ _ l))
      cut))
      (λ d. seen-high (ltb-true _ _ h) (eqb-false _ _ c) (leb-false _ _ d))))
      (λ h. as_is (later-end file at (ltb-false _ _ h)) cut)

-- REFUSAL 9 stands at the unnamed codes, and at no other
module _ (file : List ℕ) (at : ℕ) where
  from-seen : {g : Got Later} → Seen file at g → g ≡ no code_unknown → unnamed (get_or file at 0) ≡ true
  from-seen (unknown i l m e) q = not_named (get_or file at 0) l m e
  from-seen cut q = let z : ◌≡◌ {A = ℕ} 1 9 = cc in absurd (omega arith)
  from-seen (stop i) q = let z : ◌≡◌ {A = ℕ} 0 1 = cc in absurd (omega arith)
  from-seen (skip i) q = let z : ◌≡◌ {A = ℕ} 0 1 = cc in absurd (omega arith)
  from-seen (pause i n) q = let z : ◌≡◌ {A = ℕ} 0 1 = cc in absurd (omega arith)
  from-seen (mouse i a b c d e f) q = let z : ◌≡◌ {A = ℕ} 0 1 = cc in absurd (omega arith)
  from-seen (state i s n) q = let z : ◌≡◌ {A = ℕ} 0 1 = cc in absurd (omega arith)

  pub only-unnamed : later_record file at ≡ no code_unknown → unnamed (get_or file at 0) ≡ true
  only-unnamed q = from-seen (seen file at) q

  pub each-unnamed : at < length file → unnamed (get_or file at 0) ≡ true → later_record file at ≡ no code_unknown
  each-unnamed i u =
      let b = between (get_or file at 0) u in
      later-unnamed file at i (λ e. omega (arith, b.0)) b.0 (λ e. omega (arith, b.1)) b.1 u
