-- `evf_header::read_metrics` meets its contract: only version 4 has metrics.
-- Assumes nothing.
use borrow.Author.Tests.{eq-eqb, ne_eqb}
use Rattle.byte_reader.proofs.Cursor.{gives-pure}
use Rattle.evf_header.specs.Opening.{metrics_of}
use Rattle.evf_header.proofs.read_metrics.Goals as goal

pub returns-then-version-eq4 : goal.returns-then-version-eq4
unfolding metrics_of
returns-then-version-eq4 c = rw (eq-eqb _ _ c.if-version-eq4.true) c.read_metrics.ensures

pub returns : goal.returns
unfolding metrics_of
returns c = rw (ne_eqb _ _ c.if-version-eq4.false) gives-pure
