-- `answers::told_apart` meets its contract: the code's two tests are those of `toldApart`.
-- Assumes nothing.
use native.Mathlib.Omega.{arith}
use borrow.Author.Tests.{le-leb, lt-leb, lt-ltb, le-ltb}
use Rattle.upgrade.specs.Copy.{shortest_copy}
use Rattle.answers.proofs.told_apart.Goals as goal

pub returns-then-answer-lt-SHORTEST_COPY : goal.returns-then-answer-lt-SHORTEST_COPY
returns-then-answer-lt-SHORTEST_COPY c = simp (lt-ltb c.args.answer shortest_copy (omega arith))

pub returns-then-answer-room : goal.returns-then-answer-room
returns-then-answer-room c = simp (
  le-ltb c.args.answer shortest_copy (omega arith),
  le-leb c.args.answer c.args.room (omega arith),
)

pub returns : goal.returns
returns c = simp (
  le-ltb c.args.answer shortest_copy (omega arith),
  lt-leb c.args.answer c.args.room (omega arith),
)
