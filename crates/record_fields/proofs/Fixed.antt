-- A field of n bytes: read where the file has them, refused where it ends inside them; one law a field and
-- one for fields in a row. Assumes nothing.
use Prim.Native.Nat.{ℕ, ◌+◌, ◌*◌, ◌≤◌, ◌<◌}
use mathlib.Core.Path.{◌≡◌, refl, sym, ap, ◌∙◌}
use mathlib.Core.Bool.{Bool, true, false}
use mathlib.Core.List.{List}
use native.Mathlib.Nat.{add-zero, zero-add}
use native.Mathlib.Omega.{arith}
use lib.ListN.{length, get_or}
use lib.Dec.{leb}
use borrow.Author.Tests.{leb-true, leb-false}
use Rattle.game.specs.declared.MouseKind.{MouseKind}
use Rattle.game.specs.Refusals.{file_ends}
use Rattle.byte_reader.specs.Reading.{ok, no, Reader, follow, ◌>>=◌, pure}
use Rattle.byte_reader.specs.Numbers.{big_endian, number}
use Rattle.byte_reader.proofs.Numbers.{one_more_lem, short, whole}
use Rattle.record_fields.specs.Fields.{mouse, mouse_body, field}

-- THE NUMBERS by their bytes
module _ (file : List ℕ) (at : ℕ) where
  pub field-1 : at + 1 ≤ length file → field 1 file at ≡ get_or file at 0
  unfolding big_endian
  field-1 h = one_more_lem file at 0 (omega arith) ∙ rw (add-zero, zero-add)

  pub field-2 : at + 2 ≤ length file → field 2 file at ≡ get_or file at 0 * 256 + get_or file (at + 1) 0
  field-2 h = one_more_lem file at 1 (omega arith) ∙ rw (field-1 (omega arith))

  pub field-3 : at + 3 ≤ length file → field 3 file at ≡ field 2 file at * 256 + get_or file (at + 2) 0
  field-3 h = one_more_lem file at 2 (omega arith)

  -- the same of numbers that the code made of the bytes at these places
  module _ {n i j : ℕ} where
    pub two_bytes : n ≡ get_or file i 0 * 256 + get_or file j 0 → i ≡ at → j ≡ at + 1 → at + 2 ≤ length file
        → n ≡ field 2 file at
    two_bytes e p q h = e ∙ rw (p, q) (sym (field-2 h))

    pub three-bytes : {k : ℕ} → n ≡ (get_or file i 0 * 256 + get_or file j 0) * 256 + get_or file k 0 → i ≡ at
        → j ≡ at + 1 → k ≡ at + 2 → at + 3 ≤ length file → n ≡ field 3 file at
    three-bytes e p q r h = e ∙ rw (p, q, r) (sym (field-3 h ∙ rw (field-2 (omega arith))))

-- A FIELD OF n BYTES, and its value at a place
pub record Fixed {A : Type 0} (n : ℕ) (p : Reader A) (v : List ℕ → ℕ → A) : Type 0 where
  pub gives : (file : List ℕ) (at : ℕ) → at + n ≤ length file → p file at ≡ ok (v file at) (at + n)
  pub cut : (file : List ℕ) (at : ℕ) → at ≤ length file → length file < at + n → p file at ≡ no file_ends

pub number_fixed : (k : ℕ) → Fixed k (number k) (field k)
number_fixed k = record { gives = λ file at h. whole k file at h; cut = λ file at i h. short k file at h }

pub pure_fixed : {A : Type 0} (a : A) → Fixed 0 (pure a) (λ file at. a)
unfolding pure
pure_fixed a =
    record { gives = λ file at h. ap (ok a) (sym (add-zero at)); cut = λ file at i h. absurd (omega arith) }

pub then_fixed : {A B : Type 0} {n m : ℕ} {p : Reader A} {q : A → Reader B} {v : List ℕ → ℕ → A}
    {w : A → List ℕ → ℕ → B}
    → Fixed n p v → ((a : A) → Fixed m (q a) (w a))
    → Fixed (n + m) (p >>= q) (λ file at. w (v file at) file (at + n))
unfolding ◌>>=◌
then_fixed {n = n} {m = m} {p = p} {q = q} {v = v} {w = w} f g =
    record {
      gives = λ file at h.
          let e : at + n + m ≡ at + (n + m) = omega arith in
          rw (f.gives file at (omega arith))
          ((g (v file at)).gives file (at + n) (omega arith) ∙ ap (ok (w (v file at) file (at + n))) e);
      cut = λ file at i h.
          (elim (leb (at + n) (length file)) as
          (λ b. leb (at + n) (length file) ≡ b → follow (p file at) (λ a to. q a file to) ≡ no file_ends) [
            | true ↦ λ t. let l = leb-true (at + n) (length file) t in
                rw (f.gives file at l) ((g (v file at)).cut file (at + n) l (omega arith))
            | false ↦ λ t. let l = leb-false (at + n) (length file) t in rw (f.cut file at i l)
          ]) refl;
    }

-- a code, and what it asks for
module _ {A : Type 0} (q : ℕ → Reader A) (file : List ℕ) (at : ℕ) where
  pub coded : at < length file → (number 1 >>= q) file at ≡ q (get_or file at 0) file (at + 1)
  unfolding ◌>>=◌
  coded h = let l : at + 1 ≤ length file = omega arith in rw (whole 1 file at l, field-1 file at l)

  pub uncoded : length file ≤ at → (number 1 >>= q) file at ≡ no file_ends
  unfolding ◌>>=◌
  uncoded h = let l : length file < at + 1 = omega arith in rw (short 1 file at l)

-- A MOUSE EVENT behind its code, with milliseconds of k bytes
pub mouse_fixed : (k : ℕ) (kind : MouseKind)
    → Fixed (k + 4) (mouse_body k kind)
    (λ file at. mouse kind (field k file at) (field 2 file (at + k)) (field 2 file (at + k + 2)))
unfolding mouse_body
mouse_fixed k kind = then_fixed (number_fixed k)
    (λ ms. then_fixed (number_fixed 2)
    (λ x. then_fixed (number_fixed 2) (λ y. pure_fixed (mouse kind ms x y))))

module _ (file : List ℕ) (at : ℕ) where
  pub mouse-gives : (k : ℕ) (kind : MouseKind) → at + (k + 5) ≤ length file
      → mouse_body k kind file (at + 1)
      ≡ ok (mouse kind (field k file (at + 1)) (field 2 file (at + (k + 1)))
      (field 2 file (at + (k + 3)))) (at + (k + 5))
  mouse-gives k kind h =
      let x : at + 1 + k ≡ at + (k + 1) = omega arith in
      let y : at + (k + 1) + 2 ≡ at + (k + 3) = omega arith in
      let e : at + 1 + (k + 4) ≡ at + (k + 5) = omega arith in
      (mouse_fixed k kind).gives file (at + 1) (omega arith) ∙ rw (x, y, e)

-- BY CASES of a test
pub by_case : (b : Bool) {P : Type 0} → (b ≡ true → P) → (b ≡ false → P) → P
by_case true f g = f refl
by_case false f g = g refl
