use Prim.Native.Nat.{◌+◌}
use mathlib.Core.Path.{◌≡◌}
use native.Mathlib.Omega.{arith}
use Rattle.byte_writer.proofs.Laws.{writes_then, writes_as}
use Rattle.played.specs.Seen.{seen_at}
use Rattle.board_text.proofs.Rows.{row_more}
use Rattle.played.proofs.Rows.{row_all}
use Rattle.played.proofs.write_seen_row.Goals as goal

pub loop-c-preserved : goal.loop-c-preserved
loop-c-preserved c =
    let a = c.args in
    row_more (λ k. seen_at a.board.now a.cells.now (c.cells_of-start.result + k)) c.loop-c.c _ (omega arith)
    c.loop-c.invariant c.seen_at.ensures (omega arith) c.write_u8-to.ensures

pub returns : goal.returns
returns c =
    let a = c.args in
    let all : c.loop-c.c ≡ a.width = omega arith in
    writes_as
    (row_all a.board.now a.cells.now a.width a.row _ c.loop-c.c
    c.cells_of-start.ensures.0 all)
    (writes_then (omega arith) c.loop-c.invariant (λ l. c.write_u8.ensures))
