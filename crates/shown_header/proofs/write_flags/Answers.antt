-- `shown_header::write_flags` meets its contract: the form, filled in, is the text. Assumes nothing.
use mathlib.Core.Path.{ap}
use lib.ListN.{length}
use Rattle.byte_writer.proofs.Laws.{writes_as}
use Rattle.shown_header.proofs.Parts.{flags-are}
use Rattle.shown_header.proofs.write_flags.Goals as goal

pub returns : goal.returns
returns c =
    let a = c.args in
    writes_as (flags-are a.file.now a.h a.events _ (ap length c.text_of.ensures))
    c.write_filled.ensures
