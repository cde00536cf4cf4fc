-- `times::seconds_of` meets its contract: the code's 1000.0, by its bit pattern, is 125 * 2 ^ 3.
-- Assumes nothing.
use lib.Ieee.{div, of_int, of_bits}
use borrow.Author.Rules.{rules}
use Rattle.times.specs.Times.{seconds_of}
use Rattle.times.proofs.seconds_of.Goals as goal

pub returns : goal.returns
unfolding div seconds_of of_int of_bits
returns c = search rules
