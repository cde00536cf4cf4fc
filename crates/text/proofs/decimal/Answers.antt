-- `text::decimal` meets its contract: no digit is no number, and else what follows the sign is read as digits.
-- Assumes nothing.
use mathlib.Core.Path.{sym, ◌∙◌}
use borrow.Author.Rules.{rules}
use Rattle.text.proofs.Spelled.{none_from}
use Rattle.text.proofs.decimal.Goals as goal

pub returns-then-is_empty : goal.returns-then-is_empty
returns-then-is_empty c = sym (none_from c.unsigned-rest.result.now 0 (search rules)) ∙ c.unsigned-rest.ensures

pub returns : goal.returns
returns c = c.digits.ensures ∙ c.unsigned-rest.ensures
