-- What a header's fields are where a file can hold them (01, Header, Refusals 15 and 18). Definitions
-- only.
use Rattle.std.specs.Prelude.{◌<◌}
use Rattle.game.specs.declared.Header.{Header}

-- the six numbers from the height to the 3BV: neither 15 nor 18 is the case, and the others are of their type
-- in memory
pub record SizesFit (h : Header) : Type 0 where
  pub some_row : 0 < h.height
  pub height : h.height < 256
  pub width : h.width < 256
  pub mines : h.mine_num < 65536
  pub cell_pixels : h.cell_pixel_size < 256
  pub mode : h.mode < 65536
  pub bbbv : h.bbbv < 65536
