-- `shown_header::write_translation` meets its contract: the form, filled in, is the text. Assumes nothing.
use Rattle.forms.specs.Filled.{piece, taken, filled}
use Rattle.shown_header.specs.Lines.{translation_shown}
use Rattle.shown_header.proofs.write_translation.Goals as goal

pub returns : goal.returns
unfolding translation_shown filled piece taken
returns c = c.write_filled.ensures
