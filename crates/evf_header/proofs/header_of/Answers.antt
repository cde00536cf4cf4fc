-- `evf_header::header_of` meets its contract: each flag is what `mask` says, the level and the texts what
-- their functions say. Assumes nothing.
use Rattle.evf_header.specs.Opening.{header_of}
use Rattle.evf_header.proofs.header_of.Goals as goal

pub returns : goal.returns
unfolding header_of
returns c = rw (
  c.level_of.ensures,
  c.from-height.ensures,
  c.from-width.ensures,
  c.from-mines.ensures,
  c.from.ensures,
  ← c.mask.ensures,
  ← c.mask-2.ensures,
  ← c.mask-3.ensures,
  ← c.mask-4.ensures,
  ← c.mask-5.ensures,
  ← c.mask-6.ensures,
  ← c.mask-7.ensures,
  ← c.texts_of.ensures,
)
