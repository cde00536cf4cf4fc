-- How a cell and a verdict of the machine are told: by a number in the lent cells and by an answer (02, note
-- 6). Definitions only.
use Rattle.std.specs.Prelude.{ℕ}
use Rattle.moves.specs.declared.Played.{Played}
use Rattle.moves.specs.declared.Played.TheVariants.{Undecided, Won, Lost, Refused}
use Rattle.machine.specs.Machine.{Cell, covered, flagged, uncovered, Verdict, undecided, won, lost}

-- the number that stands in the lent cells for each cell
abbrev pub entry_of : Cell → ℕ
entry_of covered = 0
entry_of flagged = 1
entry_of uncovered = 2

-- the answer for each verdict
abbrev pub answer_of : Verdict → Played
answer_of undecided = Undecided
answer_of won = Won
answer_of lost = Lost

-- the number of an answer: that of its refusal, 0 where it has none
abbrev pub number_of : Played → ℕ
number_of Undecided = 0
number_of Won = 0
number_of Lost = 0
number_of (Refused n) = n
