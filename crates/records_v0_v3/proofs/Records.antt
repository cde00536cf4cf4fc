-- What each record of versions 0 to 3 is, by the bytes at its place; and that it is one of a few, by which
-- cases each later law on records goes. Assumes nothing.
--     old-..               the record where its bytes say so
--     SeenOld, seen-old    every record is one of these
--     old_found, told_old  the record as the code found it, and what it is once its case is known
use Prim.Native.Nat.{ℕ, ◌+◌, ◌≤◌, ◌<◌}
use mathlib.Core.Path.{◌≡◌, sym, subst, ◌∙◌}
use mathlib.Core.Bool.{Bool, true, false}
use mathlib.Core.Logic.{◌≢◌}
use mathlib.Core.List.{List}
use native.Mathlib.Omega.{arith}
use lib.ListN.{length, get_or}
use lib.Dec.{eqb, leb, ltb}
use borrow.Author.Tests.{eq-eqb, ne_eqb, leb-true, leb-false, eqb-true, eqb-false, ltb-true, ltb-false}
use Rattle.game.specs.declared.MouseKind.{MouseKind}
use Rattle.game.specs.Refusals.{file_ends}
use Rattle.byte_reader.specs.Reading.{Got, ok, no, pure}
use Rattle.record_fields.specs.Fields.{field, Whole, ends, mouse as says, mouse_body}
use Rattle.record_fields.proofs.Fixed.{coded, uncoded, mouse_fixed, mouse-gives, by_case}
use Rattle.records_v0_v3.specs.declared.OldRecord.{OldRecord}
use Rattle.records_v0_v3.specs.declared.OldRecord.TheVariants.{Mouse}
use Rattle.records_v0_v3.specs.Records.{kind_in, old_body, old_record}
use Rattle.records_v0_v3.specs.Tells.{OldMeaning, TellsOld}

module _ (file : List ℕ) (at : ℕ) where
  module _ (version : ℕ) where
    pub old-end : length file ≤ at → old_record version file at ≡ no file_ends
    unfolding old_record
    old-end h = uncoded (old_body version) file at h

    module _ (here : at < length file) where
      old-code : old_record version file at ≡ old_body version (get_or file at 0) file (at + 1)
      unfolding old_record
      old-code = coded (old_body version) file at here

      pub old-stop : get_or file at 0 ≡ 0 → old_record version file at ≡ ok (ends true) (at + 1)
      unfolding pure
      old-stop c = old-code ∙ rw (eq-eqb (get_or file at 0) 0 c)

      module _ (c : get_or file at 0 ≢ 0) where
        pub old-stop-255 : get_or file at 0 ≡ 255 → old_record version file at ≡ ok (ends false) (at + 1)
        unfolding pure
        old-stop-255 d = old-code ∙ rw (ne_eqb (get_or file at 0) 0 c, eq-eqb (get_or file at 0) 255 d)

        module _ (d : get_or file at 0 ≢ 255) where
          old-body : old_record version file at ≡ mouse_body 3 (kind_in version (get_or file at 0)) file (at + 1)
          old-body = old-code ∙ rw (ne_eqb (get_or file at 0) 0 c, ne_eqb (get_or file at 0) 255 d)

          pub old-mouse : at + 8 ≤ length file → old_record version file at ≡
              ok (says (kind_in version (get_or file at 0)) (field 3 file (at + 1)) (field 2 file (at + 4))
              (field 2 file (at + 6))) (at + 8)
          old-mouse h = old-body ∙ mouse-gives file at 3 (kind_in version (get_or file at 0)) h

          pub old-cut : length file < at + 8 → old_record version file at ≡ no file_ends
          old-cut h =
              old-body ∙ (mouse_fixed 3 (kind_in version (get_or file at 0))).cut file (at + 1) (omega arith)
              (omega arith)

-- ONE OF A FEW
pub data SeenOld (file : List ℕ) (at : ℕ) : Got Whole → Type 0 where
  cut : SeenOld file at (no file_ends)
  stop : at + 1 ≤ length file → (checksum : Bool) → SeenOld file at (ok (ends checksum) (at + 1))
  mouse : at + 8 ≤ length file → (kind : MouseKind) (x y : ℕ)
      → SeenOld file at (ok (says kind (field 3 file (at + 1)) x y) (at + 8))

module _ (version : ℕ) (file : List ℕ) (at : ℕ) where
  old-is : {g : Got Whole} → old_record version file at ≡ g → SeenOld file at g
      → SeenOld file at (old_record version file at)
  old-is e v = subst (SeenOld file at) (sym e) v

  next : ltb at (length file) ≡ true → at + 1 ≤ length file
  next h = omega (arith, ltb-true at (length file) h)

  pub seen-old : SeenOld file at (old_record version file at)
  seen-old =
      by_case (ltb at (length file))
      (λ h. by_case (eqb (get_or file at 0) 0)
      (λ c. old-is (old-stop file at version (ltb-true _ _ h) (eqb-true _ _ c)) (stop (next h) true))
      (λ c. by_case (eqb (get_or file at 0) 255)
      (λ d. old-is (old-stop-255 file at version (ltb-true _ _ h) (eqb-false _ _ c) (eqb-true _ _ d))
      (stop (next h) false))
      (λ d. by_case (leb (at + 8) (length file))
      (λ l. old-is
      (old-mouse file at version (ltb-true _ _ h) (eqb-false _ _ c) (eqb-false _ _ d) (leb-true _ _ l))
      (mouse (leb-true _ _ l) (kind_in version (get_or file at 0)) (field 2 file (at + 4))
      (field 2 file (at + 6))))
      (λ l. old-is
      (old-cut file at version (ltb-true _ _ h) (eqb-false _ _ c) (eqb-false _ _ d) (leb-false _ _ l))
      cut))))
      (λ h. old-is (old-end file at version (ltb-false _ _ h)) cut)

-- AS THE CODE FOUND IT
pub old_found : {version at : ℕ} {file : List ℕ} {kind kind' : MouseKind} {ms ms' x x' y y' : ℕ}
    → old_record version file at ≡ ok (says kind ms x y) (at + 8)
    → kind' ≡ kind → ms' ≡ ms → x' ≡ x → y' ≡ y → at + 8 ≤ length file → ms' ≤ 4294967295
    → TellsOld version file at (Mouse kind' (record { 0 = ms' }) x' y')
old_found e ek em ex ey i h = record { means = (record { is = e ∙ rw (ek, em, ex, ey); inside = i }, h) }

-- and what it is, once its case is known
pub told_old : {version : ℕ} {file : List ℕ} {at : ℕ} {f g : OldRecord} → f ≡ g → TellsOld version file at f
    → OldMeaning version file at g
told_old {version} {file} {at} e t = (subst (TellsOld version file at) e t).means
