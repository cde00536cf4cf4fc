-- Refused before the board is touched, or begun in the board that was read. Assumes nothing.
use mathlib.Core.Path.{sym, ◌∙◌}
use Prim.Native.Nat.{◌*◌, ◌≤◌}
use native.Mathlib.Omega.{arith}
use lib.ListN.{length}
use borrow.Author.Tests.{ltb-true}
use Rattle.game.specs.Sizes.{cells_short}
use Rattle.game.proofs.Sizes.{cells_enough}
use Rattle.playing.proofs.Refusing.{Playable, playable}
use Rattle.file_play.proofs.Started.{starts-short, starts-refused, starts-fine, reads_board}
use Rattle.file_play.proofs.ready_game.Goals as goal

pub returns-then-cells_short : goal.returns-then-cells_short
unfolding cells_short
returns-then-cells_short c =
    starts-short _ _ _ _ _ _ (ltb-true _ _ (sym c.cells_short.ensures ∙ c.if-cells_short.true))
    c.refused.ensures

pub returns-then-n-ne0 : goal.returns-then-n-ne0
returns-then-n-ne0 c =
    let a = c.args in
    let long : a.h.height * a.h.width ≤ length a.board.now =
    cells_enough a.h.height a.h.width (length a.board.now) (sym c.cells_short.ensures ∙ c.if-cells_short.false) in
    starts-refused _ _ _ _ _ _ long _ c.press_events-buttons.ensures _
    c.refusal-n.ensures c.if-n-ne0.true c.refused-then-n-ne0.ensures

pub overflow_cast-h : goal.overflow_cast-h
overflow_cast-h c =
    let a = c.args in
    let fits : Playable a.h.height a.h.width a.h.cell_pixel_size (length a.board.now) (length a.cells.now) c.press_events-buttons.result.chord =
    playable a.h.height a.h.width a.h.cell_pixel_size (length a.board.now) (length a.cells.now) c.press_events-buttons.result.chord (sym c.if-n-ne0.false ∙ c.refusal-n.ensures) in
    let l = fits.tall in omega arith

pub overflow_cast-h-2 : goal.overflow_cast-h-2
overflow_cast-h-2 c =
    let a = c.args in
    let fits : Playable a.h.height a.h.width a.h.cell_pixel_size (length a.board.now) (length a.cells.now) c.press_events-buttons.result.chord =
    playable a.h.height a.h.width a.h.cell_pixel_size (length a.board.now) (length a.cells.now) c.press_events-buttons.result.chord (sym c.if-n-ne0.false ∙ c.refusal-n.ensures) in
    let l = fits.wide in omega arith

pub returns : goal.returns
returns c =
    let a = c.args in
    let long : a.h.height * a.h.width ≤ length a.board.now =
    cells_enough a.h.height a.h.width (length a.board.now) (sym c.cells_short.ensures ∙ c.if-cells_short.false) in
    starts-fine a.file.now a.h a.place _ a.board.now a.cells.now long _
    c.press_events-buttons.ensures (sym c.if-n-ne0.false ∙ c.refusal-n.ensures)
    (reads_board a.file.now a.h a.place a.board.now long c.part.ensures
    c.read_board.ensures) c.begin.ensures.0 c.begin.ensures.1
