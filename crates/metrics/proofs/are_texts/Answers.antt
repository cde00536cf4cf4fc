-- `metrics::are_texts` meets its contract. Assumes nothing.
use Rattle.metrics.proofs.Blocks.{ends_there, ends-not}
use Rattle.metrics.proofs.are_texts.Goals as goal

pub returns-in-At : goal.returns-in-At
returns-in-At c = ends_there _ _ c.skip_texts.ensures _ c.in-At.is

pub returns-in-Refused : goal.returns-in-Refused
returns-in-Refused c = ends-not _ _ c.skip_texts.ensures _ c.in-Refused.is
