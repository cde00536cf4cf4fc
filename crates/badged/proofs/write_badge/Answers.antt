-- `badged::write_badge` meets its contract: the fields of the rule and what stands behind them, or a refusal.
-- Assumes nothing.
use mathlib.Core.Path.{refl}
use native.Mathlib.Omega.{arith}
use Rattle.byte_writer.proofs.Laws.{writes_as}
use Rattle.badged.proofs.Telling.{tells_then}
use Rattle.badged.proofs.write_badge.Goals as goal

pub returns-in-Read : goal.returns-in-Read
returns-in-Read c =
    rw c.in-Read.is
    (tells_then (omega (arith, c.well_formed.0.0))
    (writes_as c.piece_of.ensures c.write_piece-at.ensures) c.write_award.ensures)

pub returns-in-Unread : goal.returns-in-Unread
returns-in-Unread c =
    rw c.in-Unread.is
    (record { written = c.write_refusal.ensures; fate_is = refl })
