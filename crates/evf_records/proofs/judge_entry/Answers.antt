-- `evf_records::judge_entry` meets its contract: by the entry's two cases. Assumes nothing.
use mathlib.Core.Path.{sym, ap, ◌∙◌}
use native.Mathlib.Omega.{arith}
use Rattle.evf_records.specs.Steps.{seen_after}
use Rattle.evf_records.proofs.Entries.{judged-state}
use Rattle.evf_records.proofs.judge_entry.Goals as goal

pub returns-in-State : goal.returns-in-State
returns-in-State c =
    let s = c.args.seen in
    judged-state s _ _ c.in_version_4-start.ensures c.advance.ensures
    c.keep_first.ensures (omega (arith, c.well_formed.0.1.1.1.1.1))
    ∙ ap (seen_after s) (sym c.in-State.is)
