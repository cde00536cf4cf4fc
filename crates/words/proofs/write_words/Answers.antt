-- `words::write_words` meets its contract: the words of a number stand at its place. Assumes nothing.
use mathlib.Core.Path.{ap, ◌∙◌}
use Rattle.byte_writer.proofs.Laws.{writes_as}
use Rattle.words.specs.Pieces.{piece_at}
use Rattle.words.proofs.Numbers.{placed}
use Rattle.words.proofs.write_words.Goals as goal

pub returns : goal.returns
returns c =
    writes_as (ap piece_at c.place_of.ensures ∙ (placed _).words_at)
    c.write_piece.ensures
