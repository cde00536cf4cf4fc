-- `evf_scan::scan_events` meets its contract: by version, and in version 4 the first record by a step of its
-- own. Assumes nothing.
use mathlib.Core.Path.{◌≡◌, refl, sym, ◌∙◌}
use native.Mathlib.Omega.{arith}
use Rattle.std.proofs.lemmas.Bool.{not-true, not-false}
use Rattle.evf_events.proofs.Runs.{forward}
use Rattle.evf_events.specs.Events.{step_of}
use Rattle.evf_events.proofs.Steps.{step-unknown, step-first}
use Rattle.evf_scan.specs.Scanning.{scan_of}
use Rattle.evf_scan.proofs.Scans.{scan-got, scan-end, scan-refused, from-cursor}
use Rattle.evf_scan.proofs.scan_events.Goals as goal

pub returns-then-cursor-lt4 : goal.returns-then-cursor-lt4
unfolding scan_of
returns-then-cursor-lt4 c = c.scan_old.ensures.right c.args.cursor (omega arith) refl

pub returns-then-cursor-gt4 : goal.returns-then-cursor-gt4
unfolding scan_of
returns-then-cursor-gt4 c = let s = c.args.cursor in
    sym (scan-refused _ s _ (step-unknown _ s (omega arith)))

pub returns-then-not-cursor : goal.returns-then-not-cursor
unfolding scan_of
returns-then-not-cursor c = let s = c.args.cursor in
    from-cursor _ _ _ s (omega arith) (not-true _ c.if-not-cursor.true) (omega arith)
    c.scan_later.ensures

pub scan_later-requires-in-Got : goal.scan_later-requires-in-Got
scan_later-requires-in-Got c =
    let stepped : let a = c.args in step_of a.file.now a.cursor ≡ c.first_step.result = let s = c.args.cursor in step-first _ s (omega arith) (not-false _ c.if-not-cursor.false) ∙ sym c.first_step.ensures in
    let s = c.args.cursor in
    omega (arith, (forward _ s (stepped ∙ c.in-Got.is)).further)

pub returns-in-Got : goal.returns-in-Got
unfolding scan_of
returns-in-Got c =
    let stepped : let a = c.args in step_of a.file.now a.cursor ≡ c.first_step.result = let s = c.args.cursor in step-first _ s (omega arith) (not-false _ c.if-not-cursor.false) ∙ sym c.first_step.ensures in
    let s = c.args.cursor in
    let v : s.version ≡ 4 = omega arith in
    let q = stepped ∙ c.in-Got.is in
    from-cursor _ _ _ _ ((forward _ s q).version ∙ v) (forward _ s q).first
    (omega arith) c.scan_later-in-Got.ensures ∙ sym (scan-got _ s _ q)

pub returns-in-End : goal.returns-in-End
unfolding scan_of
returns-in-End c =
    let stepped : let a = c.args in step_of a.file.now a.cursor ≡ c.first_step.result = let s = c.args.cursor in step-first _ s (omega arith) (not-false _ c.if-not-cursor.false) ∙ sym c.first_step.ensures in
    let s = c.args.cursor in
    sym (scan-end _ s _ (stepped ∙ c.in-End.is))

pub returns-in-Refused : goal.returns-in-Refused
unfolding scan_of
returns-in-Refused c =
    let stepped : let a = c.args in step_of a.file.now a.cursor ≡ c.first_step.result = let s = c.args.cursor in step-first _ s (omega arith) (not-false _ c.if-not-cursor.false) ∙ sym c.first_step.ensures in
    let s = c.args.cursor in
    sym (scan-refused _ s _ (stepped ∙ c.in-Refused.is))
