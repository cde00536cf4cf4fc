-- The cell under a pixel, by each test that can keep it from one. Assumes nothing.
--     under-flat, under-below, under-beside    none: h * w, which is no cell's number
--     under-is       the cell under the pixel
--     under_less     whose number is below h * w
use mathlib.Core.Path.{◌≡◌}
use Prim.Native.Nat.{ℕ, suc, ◌+◌, ◌*◌, ◌/◌, ◌<◌, ◌≤◌}
use native.Mathlib.Nat.{mul-le-mul, le_refl}
use native.Mathlib.Omega.{arith}
use borrow.Author.Tests.{lt-ltb, le-ltb, eq-eqb, ne_eqb}
use Rattle.moves.specs.declared.Position.{Position}
use Rattle.moves.specs.Clicks.{is_on, cell_under}
use Rattle.moves.specs.Moves.{under_of}

module _ (p : Position) (x y : ℕ) where
  pub under-flat : p.pixels ≡ 0 → under_of p x y ≡ p.height * p.width
  unfolding under_of
  under-flat z = rw (eq-eqb p.pixels 0 z)

  module _ (wide : p.pixels ≡ 0 → ⊥) where
    pub under-below : p.height ≤ y / p.pixels → under_of p x y ≡ p.height * p.width
    unfolding under_of is_on
    under-below l = rw (ne_eqb p.pixels 0 wide, le-ltb (y / p.pixels) p.height l)

    module _ (on : y / p.pixels < p.height) where
      pub under-beside : p.width ≤ x / p.pixels → under_of p x y ≡ p.height * p.width
      unfolding under_of is_on
      under-beside l =
          rw (
            ne_eqb p.pixels 0 wide,
            lt-ltb (y / p.pixels) p.height on,
            le-ltb (x / p.pixels) p.width l,
          )

      pub under-is : x / p.pixels < p.width → under_of p x y ≡ (y / p.pixels) * p.width + x / p.pixels
      unfolding under_of is_on cell_under
      under-is l =
          rw (
            ne_eqb p.pixels 0 wide,
            lt-ltb (y / p.pixels) p.height on,
            lt-ltb (x / p.pixels) p.width l,
          )

pub under_less : (h w r c : ℕ) → r < h → c < w → r * w + c < h * w
under_less h w r c a b =
    let e : suc r * w ≤ h * w = mul-le-mul a (le_refl w) in
    omega arith
