-- `metrics::read_metrics` meets its contract: a count, and the block of so many texts. Assumes nothing.
use Rattle.byte_reader.proofs.Cursor.{gives_then, gives-read, gives-pure}
use Rattle.metrics.specs.Block.{custom_metrics}
use Rattle.metrics.proofs.Blocks.{block-gives}
use Rattle.metrics.proofs.read_metrics.Goals as goal

pub returns : goal.returns
unfolding custom_metrics
returns c =
    gives_then _ (gives-read c.get_u16-n.ensures)
    (gives_then _ (block-gives _ _ c.skip_texts-next.ensures c.place_between.ensures) gives-pure)
