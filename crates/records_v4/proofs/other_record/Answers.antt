-- `records_v4::other_record` meets its contract: each return knows of the code and of the bytes left what the
-- record asks. Assumes nothing.
use native.Mathlib.Omega.{arith}
use Prim.Native.Nat.{◌+◌}
use mathlib.Core.Path.{sym, ap, ◌∙◌}
use Rattle.game.specs.Kinds.{state_of}
use Rattle.record_fields.proofs.Fixed.{field-1, two_bytes}
use Rattle.records_v4.proofs.Records.{later-pause, later-pause-cut, later-skip, later-state}
use Rattle.records_v4.proofs.Records.{later-state-cut, later-unknown, state-found, pause-found}
use Rattle.records_v4.proofs.other_record.Goals as goal

pub returns-then-file-at-lt3 : goal.returns-then-file-at-lt3
returns-then-file-at-lt3 c =
    let a = c.args in
    record {
      means = later-pause-cut a.file.now a.at (omega arith) (λ e. omega arith) (omega arith)
          (omega arith) (omega arith);
    }

pub returns-then-code-eq-PAUSE : goal.returns-then-code-eq-PAUSE
returns-then-code-eq-PAUSE c =
    let a = c.args in
    pause-found
    (later-pause a.file.now a.at (omega arith) (λ e. omega arith) (omega arith) (omega arith)
    (omega arith))
    (two_bytes a.file.now (a.at + 1) c.u16_of.ensures (omega arith) (omega arith) (omega arith))

pub returns-then-code-ge-FIRST_SKIPPED : goal.returns-then-code-ge-FIRST_SKIPPED
returns-then-code-ge-FIRST_SKIPPED c =
    let a = c.args in
    record {
      means = later-skip a.file.now a.at (omega arith) (λ e. omega arith) (omega arith)
          (λ e. c.if-code-eq-PAUSE.false (c.requires.1 ∙ e)) (omega arith);
    }

pub returns-then-file-at-lt2 : goal.returns-then-file-at-lt2
returns-then-file-at-lt2 c =
    let a = c.args in
    record {
      means = later-state-cut a.file.now a.at (omega arith) (λ e. omega arith) (omega arith)
          (λ e. c.if-code-eq-PAUSE.false (c.requires.1 ∙ e)) (omega arith) _
          (ap state_of (sym c.requires.1) ∙ sym c.from_code.ensures ∙ c.in-Some.is)
          (omega arith);
    }

pub returns-else-file-at-lt2 : goal.returns-else-file-at-lt2
returns-else-file-at-lt2 c =
    let a = c.args in
    state-found
    (later-state a.file.now a.at (omega arith) (λ e. omega arith) (omega arith)
    (λ e. c.if-code-eq-PAUSE.false (c.requires.1 ∙ e)) (omega arith) _
    (ap state_of (sym c.requires.1) ∙ sym c.from_code.ensures ∙ c.in-Some.is)
    (omega arith))
    (sym (field-1 a.file.now (a.at + 1) (omega arith)))

pub returns-in-None : goal.returns-in-None
returns-in-None c =
    let a = c.args in
    record {
      means = later-unknown a.file.now a.at (omega arith) (λ e. omega arith) (omega arith)
          (λ e. c.if-code-eq-PAUSE.false (c.requires.1 ∙ e)) (omega arith)
          (ap state_of (sym c.requires.1) ∙ sym c.from_code.ensures ∙ c.in-None.is);
    }
