-- Refused, or every cell covered and the safe ones counted. Assumes nothing.
use mathlib.Core.Path.{sym, ◌∙◌, ap}
use Prim.Native.Nat.{ℕ}
use native.Mathlib.Omega.{arith}
use lib.ListN.{length}
use Rattle.lists.specs.Lists.{each}
use Rattle.flood.specs.Spread.{size}
use Rattle.moves.specs.declared.Played.TheVariants.{Undecided}
use Rattle.playing.specs.Beginning.{safe}
use Rattle.playing.proofs.Refusing.{Playable, playable}
use Rattle.playing.proofs.Beginning.{begun-refused, covered-refused, begun-fine, covered-fine}
use Rattle.playing.proofs.begin.Goals as goal

pub returns-then-n-ne0 : goal.returns-then-n-ne0
returns-then-n-ne0 c =
    let a = c.args in
    let e = c.refusal-n.ensures in
    let some = c.if-n-ne0.true in (
      c.refused.ensures
          ∙ begun-refused a.sizes a.pixels a.board.now a.buttons a.cells.now _ e some,
      covered-refused a.sizes a.pixels a.board.now a.buttons a.cells.now _ e some,
    )

pub overflow_cast-height : goal.overflow_cast-height
overflow_cast-height c =
    let fits : let a = c.args in Playable a.sizes.height a.sizes.width a.pixels (length a.board.now) (length a.cells.now) a.buttons.chord = let a = c.args in playable a.sizes.height a.sizes.width a.pixels (length a.board.now) (length a.cells.now) a.buttons.chord (sym c.if-n-ne0.false ∙ c.refusal-n.ensures) in
    let l = fits.tall in omega arith

pub overflow_cast-width : goal.overflow_cast-width
overflow_cast-width c =
    let fits : let a = c.args in Playable a.sizes.height a.sizes.width a.pixels (length a.board.now) (length a.cells.now) a.buttons.chord = let a = c.args in playable a.sizes.height a.sizes.width a.pixels (length a.board.now) (length a.cells.now) a.buttons.chord (sym c.if-n-ne0.false ∙ c.refusal-n.ensures) in
    let l = fits.wide in omega arith

pub returns : goal.returns
returns c =
    let fits : let a = c.args in Playable a.sizes.height a.sizes.width a.pixels (length a.board.now) (length a.cells.now) a.buttons.chord = let a = c.args in playable a.sizes.height a.sizes.width a.pixels (length a.board.now) (length a.cells.now) a.buttons.chord (sym c.if-n-ne0.false ∙ c.refusal-n.ensures) in
    let a = c.args in
    let none = fits.none in (
      ap
          (λ (n : ℕ). record {
            height = a.sizes.height;
            width = a.sizes.width;
            pixels = a.pixels;
            left = n;
            stands = Undecided;
          })
          (c.count_safe.ensures.0
          ∙ ap (λ (m : ℕ). size (each m (safe a.board.now))) c.cells_of.ensures.0)
          ∙ sym (begun-fine a.sizes a.pixels a.board.now a.buttons a.cells.now none),
      c.cover.ensures
          ∙ sym (covered-fine a.sizes a.pixels a.board.now a.buttons a.cells.now none),
    )
