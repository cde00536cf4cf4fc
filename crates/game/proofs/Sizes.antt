-- Laws of the tests of sizes. Assumes nothing.
--     divided        the cells of each row tell whether height × width cells are there, without the product
--     sized_fine     sizes that are not bad are bytes.        sizes_fine    the other way
--     cells_enough   cells that are not short are at least height × width.        cells_fit    the other way
--     work-refused   a number that is not 0 is the one by which any such call is refused
--     work-fine      where there is none, the sizes are bytes and there is room enough
use Prim.Native.Nat.{ℕ, ◌*◌, ◌/◌, ◌≤◌, ◌<◌}
use mathlib.Core.Path.{◌≡◌, refl, sym}
use mathlib.Core.Bool.{Bool, true, false, ◌||◌}
use native.Mathlib.Nat.{div-lt_iff_lt-mul, le-div_iff_mul-le, mul_comm}
use native.Mathlib.Omega.{arith}
use lib.Dec.{eqb, ltb}
use borrow.Author.Tests.{lt-ltb, le-ltb, ltb-true, ltb-false, ne_eqb}
use Rattle.game.specs.Limits.{largest_u8}
use Rattle.game.specs.Checks.{first_of, NoCheckHolds}
use Rattle.game.specs.Sizes.{sizes_bad, cells_short, work_checks}
use Rattle.game.proofs.Checks.{refused-by, fine_by}

pub divided : (height width cells : ℕ) → 0 < height
    → ltb (cells / height) width ≡ cells_short height width cells
unfolding cells_short
divided height width cells l =
    (elim (ltb (cells / height) width) as
    (λ t. ltb (cells / height) width ≡ t → t ≡ ltb cells (height * width)) [
      | true ↦ λ e.
          let m : cells < width * height = (div-lt_iff_lt-mul l).0 (ltb-true (cells / height) width e) in
          sym (lt-ltb cells (height * width) (rw (mul_comm width height) at m))
      | false ↦ λ e.
          let m : width * height ≤ cells = (le-div_iff_mul-le l).0 (ltb-false (cells / height) width e) in
          sym (le-ltb cells (height * width) (rw (mul_comm width height) at m))
    ])
    refl

sized_by : (a b c : Bool) → (a || (b || c)) ≡ false → ((a ≡ false) × (b ≡ false)) × (c ≡ false)
sized_by true b c e = let z : ◌≡◌ {A = ℕ} 0 1 = cc in absurd (omega arith)
sized_by false true c e = let z : ◌≡◌ {A = ℕ} 0 1 = cc in absurd (omega arith)
sized_by false false c e = ((refl, refl), e)

pub sized_fine : (height width : ℕ) → sizes_bad height width ≡ false → (height < 256) × (width < 256)
unfolding sizes_bad
sized_fine height width e =
    let w = sized_by (eqb height 0) (ltb largest_u8 height) (ltb largest_u8 width) e in
    (omega (arith, ltb-false 255 height w.0.1), omega (arith, ltb-false 255 width w.1))

pub sizes_fine : (height width : ℕ) → 0 < height → height < 256 → width < 256 → sizes_bad height width ≡ false
unfolding sizes_bad
sizes_fine height width some h w =
    rw (
      ne_eqb height 0 (λ z. omega (arith, some, z)),
      le-ltb 255 height (omega arith),
      le-ltb 255 width (omega arith),
    )

pub cells_fit : (height width cells : ℕ) → height * width ≤ cells → cells_short height width cells ≡ false
unfolding cells_short
cells_fit height width cells l = le-ltb cells (height * width) l

pub cells_enough : (height width cells : ℕ) → cells_short height width cells ≡ false → height * width ≤ cells
unfolding cells_short
cells_enough height width cells e = ltb-false cells (height * width) e

-- what is known where no number was answered
pub record Workable (height width cells entries : ℕ) : Type 0 where
  pub tall : height < 256
  pub wide : width < 256
  pub board : height * width ≤ cells
  pub work : height * width ≤ entries
  pub none : NoCheckHolds (work_checks height width cells entries)

module _ (height width cells entries : ℕ) where
  pub work-refused : {A : Type 0} (fine : A) (refused : ℕ → A) (r : ℕ)
      → r ≡ first_of 0 (λ n. n) (work_checks height width cells entries) → (r ≡ 0 → ⊥)
      → refused r ≡ first_of fine refused (work_checks height width cells entries)
  work-refused fine refused r e some =
      refused-by fine refused (work_checks height width cells entries) r e some

  pub work-fine : 0 ≡ first_of 0 (λ n. n) (work_checks height width cells entries)
      → Workable height width cells entries
  work-fine e =
      let none = fine_by (work_checks height width cells entries)
      (λ z. omega (arith, z), (λ z. omega (arith, z), (λ z. omega (arith, z), tt))) e in
      let sizes = sized_fine height width none.0 in
      record {
        tall = sizes.0;
        wide = sizes.1;
        board = cells_enough height width cells none.1.0;
        work = cells_enough height width entries none.1.1.0;
        none = none;
      }
