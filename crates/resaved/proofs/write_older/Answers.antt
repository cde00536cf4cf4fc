-- `resaved::write_older` meets its contract: by how the file was judged, and by its version. Assumes nothing.
use native.Mathlib.Omega.{arith}
use Rattle.resaved.proofs.Sending.{sends-older, sends-new, sends_none}
use Rattle.resaved.proofs.write_older.Goals as goal

pub returns-in-Read : goal.returns-in-Read
returns-in-Read c =
    sends-older c.args.file.now _ c.judge-j.ensures c.in-Read.is
    c.if-version-lt4.true c.write_version.ensures

pub returns-in-Read-2 : goal.returns-in-Read-2
returns-in-Read-2 c =
    sends-new c.args.file.now _ c.judge-j.ensures (omega arith)
    c.in-Read.is c.if-version-lt4.false

pub returns-in-Refused : goal.returns-in-Refused
returns-in-Refused c =
    sends_none c.args.file.now _ c.judge-j.ensures (omega arith) _
    c.in-Refused.is
