-- The end by its two codes, a record that is cut, and a record more. Assumes nothing.
use Rattle.std.proofs.Common.{eq-eqb, ne_eqb}
use native.Mathlib.Omega.{arith}
use Rattle.evf_scan.proofs.Scans.{old-ended, old-refused, old-on}
use Rattle.records_v0_v3.proofs.Records.{old-end, old-stop, old-stop-255, old-mouse, old-cut}
use Rattle.evf_scan.proofs.scan_old.Goals as goal
use Rattle.evf_scan.proofs.scan_old.Goals.{then-code-eq-END_AND_CHECKSUM-via-then-code-eq-END_AND_CHECKSUM, then-code-eq-END_AND_CHECKSUM-via-else-code-eq-END_AND_CHECKSUM+then-code}

pub returns-then-code-eq-END_AND_CHECKSUM : goal.returns-then-code-eq-END_AND_CHECKSUM
returns-then-code-eq-END_AND_CHECKSUM c =
    let l = c.loop-at in
    elim c.then-code-eq-END_AND_CHECKSUM.branch [
      | then-code-eq-END_AND_CHECKSUM-via-then-code-eq-END_AND_CHECKSUM w ↦
          let stop = w.if-code-eq-END_AND_CHECKSUM.true in
          l.invariant.0 _ (rw (eq-eqb _ _ stop) (old-ended _ _ _ _ _ (λ v. old-stop _ _ v (omega arith) stop)))
      | then-code-eq-END_AND_CHECKSUM-via-else-code-eq-END_AND_CHECKSUM+then-code w ↦
          let other = w.if-code-eq-END_AND_CHECKSUM.false in
          l.invariant.0 _
          (rw (ne_eqb _ _ other)
          (old-ended _ _ _ _ _ (λ v. old-stop-255 _ _ v (omega arith) other w.if-code.true)))
    ]

pub returns-then-file-at-lt8 : goal.returns-then-file-at-lt8
returns-then-file-at-lt8 c =
    let l = c.loop-at in
    l.invariant.0 _
    (old-refused _ _ _ _
    (λ v. old-cut _ _ v (omega arith) c.if-code-eq-END_AND_CHECKSUM.false c.if-code.false
    (omega arith)))

pub loop-at-preserved : goal.loop-at-preserved
loop-at-preserved c =
    let l = c.loop-at in (
      λ r h. l.invariant.0 r
          (old-on _ _ _
          (λ v. old-mouse _ _ v (omega arith) c.if-code-eq-END_AND_CHECKSUM.false c.if-code.false
          (omega arith)) r h),
      omega arith,
    )

pub returns : goal.returns
returns c =
    let l = c.loop-at in
    l.invariant.0 _ (old-refused _ _ _ _ (λ v. old-end _ _ v (omega arith)))

pub returns-else-file-at-lt8 : goal.returns-else-file-at-lt8
returns-else-file-at-lt8 c =
    let l = c.loop-at in
    l.invariant.0 _
    (old-on _ _ _
    (λ v. old-mouse _ _ v (omega arith) c.if-code-eq-END_AND_CHECKSUM.false c.if-code.false (omega arith))
    _
    (old-refused _ _ _ _ (λ v. old-end _ _ v (omega arith))))
