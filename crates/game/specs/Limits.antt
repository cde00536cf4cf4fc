-- The largest numbers that the fields of a file take, by name (01, Header, Events, Refusals 15 to 22).
-- Definitions only.
use Rattle.std.specs.Prelude.{ℕ}

-- of one byte: a height or width
abbrev pub largest_u8 : ℕ
largest_u8 = 255

-- of two bytes: mines, 3BV, and the length of a counted text
abbrev pub largest_u16 : ℕ
largest_u16 = 65535

-- of three bytes: the milliseconds of version 3
abbrev pub largest_u24 : ℕ
largest_u24 = 16777215

-- the most pixels that version 4's writer takes in height or width
abbrev pub largest_pixels : ℕ
largest_pixels = 32767

-- the length of a checksum in versions 0 to 3, which do not count it
abbrev pub checksum_length : ℕ
checksum_length = 32
