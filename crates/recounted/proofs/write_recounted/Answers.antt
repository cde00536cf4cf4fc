-- `recounted::write_recounted` meets its contract: by what the recount answered. Assumes nothing.
use Rattle.recounted.proofs.Promised.{recounts-same, recounts-differs, recounts-refused}
use Rattle.recounted.proofs.write_recounted.Goals as goal

pub returns-then-claimed-counted : goal.returns-then-claimed-counted
returns-then-claimed-counted c =
    recounts-same c.args.file.now _ c.recount_file.ensures
    _ _ _ c.in-Counts.is c.if-claimed-counted.true c.write_counts.ensures

pub returns-else-claimed-counted : goal.returns-else-claimed-counted
returns-else-claimed-counted c =
    recounts-differs c.args.file.now _ c.recount_file.ensures
    _ _ _ c.in-Counts.is c.if-claimed-counted.false c.write_counts-in-Counts.ensures

pub returns-in-Refused : goal.returns-in-Refused
returns-in-Refused c =
    recounts-refused c.args.file.now _ c.recount_file.ensures _
    c.in-Refused.is c.write_refusal.ensures
