-- `shown_header::write_values` meets its contract: the form, filled in, is the text. Assumes nothing.
use Rattle.forms.specs.Filled.{piece, taken, filled}
use Rattle.shown_header.specs.Lines.{values_shown}
use Rattle.shown_header.proofs.write_values.Goals as goal

pub returns : goal.returns
unfolding values_shown filled piece taken
returns c = c.write_filled.ensures
