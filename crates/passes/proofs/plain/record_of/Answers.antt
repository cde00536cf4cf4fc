-- `plain::record_of` meets its contract. Assumes nothing.
use Rattle.std.proofs.Common.{refl, arith}
use Rattle.evf_records.proofs.Plain.{plain_told}
use Rattle.passes.proofs.PlainRuns.{record_bytes_lem}
use Rattle.passes.proofs.plain.record_of.Goals as goal

pub overflow_sub-result : goal.overflow_sub-result
overflow_sub-result c = let p = plain_told _ _ _ c.requires in omega (arith, p.later)

pub overflow_cast-result : goal.overflow_cast-result
overflow_cast-result c =
    let p = plain_told _ _ _ c.requires in record { fits = omega (arith, p.soon) }

pub returns : goal.returns
returns c =
    record_bytes_lem _ _ _ _ _ c.requires c.from.ensures refl c.difference.ensures
    c.difference-2.ensures
