-- `badged::write_award` meets its contract: a verdict or a refusal. Assumes nothing.
use mathlib.Core.Path.{refl}
use Rattle.byte_writer.proofs.Laws.{writes_as}
use Rattle.badged.proofs.write_award.Goals as goal

pub returns-in-Judged : goal.returns-in-Judged
returns-in-Judged c =
    let says = c.verdict_of-verdict.ensures in
    rw c.in-Judged.is
    (record {
      written = writes_as says.piece_is c.write_piece.ensures;
      fate_is = says.fate_is;
    })

pub returns-in-Refused : goal.returns-in-Refused
returns-in-Refused c =
    rw c.in-Refused.is
    (record { written = c.write_refusal.ensures; fate_is = refl })
