-- `left_out::moments_lost` meets its contract: by the cursor behind the texts. Assumes nothing.
use Rattle.left_out.specs.LeftOut.{moments_lost}
use Rattle.byte_reader.proofs.Cursor.{read_at, read-not}
use mathlib.Core.Path.{◌∙◌}
use Rattle.left_out.proofs.moments_lost.Goals as goal

pub returns-in-At : goal.returns-in-At
unfolding moments_lost
returns-in-At c =
    c.words_lost.ensures
    ∙ rw (read_at c.read_words-read.ensures _ c.in-At.is)

pub returns-in-Refused : goal.returns-in-Refused
unfolding moments_lost
returns-in-Refused c = rw (read-not c.read_words-read.ensures _ c.in-Refused.is)
