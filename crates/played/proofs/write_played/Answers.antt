-- `played::write_played` meets its contract: its fields in a row. Assumes nothing.
use native.Mathlib.Omega.{arith}
use Rattle.byte_writer.proofs.Laws.{writes_then, writes_as}
use Rattle.played.proofs.Lines.{played_line_lem}
use Rattle.played.proofs.write_played.Goals as goal

pub returns : goal.returns
returns c =
    writes_as (played_line_lem _ _)
    (writes_then (omega (arith, c.well_formed.0.0)) c.write_bytes-at.ensures (λ l.
    writes_then l c.write_bytes-at-2.ensures (λ l.
    writes_then l c.write_bytes-at-3.ensures (λ l. c.write_count.ensures))))
