-- `played::write_move` meets its contract: its fields in a row. Assumes nothing.
use mathlib.Core.Path.{ap}
use native.Mathlib.Omega.{arith}
use Rattle.event_lines.specs.Lines.{letters}
use Rattle.byte_writer.proofs.Laws.{writes_then, writes_as}
use Rattle.played.proofs.Lines.{move_line_lem}
use Rattle.played.proofs.write_move.Goals as goal

pub returns : goal.returns
returns c =
    writes_as (move_line_lem _ _ _ _ _ _)
    (writes_then (omega (arith, c.well_formed.0.0)) c.write_bytes-at.ensures (λ l.
    writes_then l c.write_count-at.ensures (λ l.
    writes_then l (writes_as (ap letters c.kind_name.ensures) c.write_name-at.ensures)
    (λ l.
    writes_then l c.write_bytes-at-2.ensures (λ l.
    writes_then l c.write_count-at-2.ensures (λ l.
    writes_then l c.write_count-at-3.ensures (λ l.
    writes_then l c.write_count-at-4.ensures (λ l. c.write_count.ensures))))))))
