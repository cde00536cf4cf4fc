-- The refusals by their number (01, Refusals; 24 is of note 2 of 02, 25 of note 3, 27 and 28 of note 6). 26,
-- that a rule of rounding is none, stands with the rules (times/specs/Times.antt). Writing checks 26, then 14
-- to 20, then 25, then 21 to 23; playing 15, 17, 24, 27, 28. Definitions only.
use Rattle.std.specs.Prelude.{ℕ}

-- ---- a file that cannot be read

-- the file ends inside a field
abbrev pub file_ends : ℕ
file_ends = 1

-- the version is above 4
abbrev pub version_unknown : ℕ
version_unknown = 2

-- a text that has to be UTF-8 is not
abbrev pub text_not_utf8 : ℕ
text_not_utf8 = 3

-- the software begins Arbiter, whose times are not read
abbrev pub arbiter : ℕ
arbiter = 4

-- a start or end text that has to be a decimal number is not
abbrev pub time_not_decimal : ℕ
time_not_decimal = 5

-- a Viennasweeper start or end is above the largest u64
abbrev pub time_too_large : ℕ
time_too_large = 6

-- the board has height 0
abbrev pub height_zero : ℕ
height_zero = 7

-- the first code of version 4 is not 1, 2, 4 or 8
abbrev pub first_code_unknown : ℕ
first_code_unknown = 8

-- a later code of version 4 is 13 to 80 or 84 to 98
abbrev pub code_unknown : ℕ
code_unknown = 9

-- pending pauses or an event's milliseconds are above the largest u32
abbrev pub ms_too_large : ℕ
ms_too_large = 10

-- ---- what it is read into

-- the lent board is below height × width cells
abbrev pub board_buffer_short : ℕ
board_buffer_short = 11

-- the lent row is shorter than the events
abbrev pub row_short : ℕ
row_short = 12

-- ---- upgrading

-- the file to be upgraded is of version 4
abbrev pub already_version4 : ℕ
already_version4 = 13

-- ---- a game that cannot be written

-- one of the nine texts, or the block of the custom metrics, ends past the lent bytes
abbrev pub text_outside : ℕ
text_outside = 14

-- the height is 0 or above 255, or the width is above 255
abbrev pub size_unwritable : ℕ
size_unwritable = 15

-- height or width in pixels is above 32767, in version 4
abbrev pub pixels_too_large : ℕ
pixels_too_large = 16

-- the lent board is below height × width cells, in a call that does not read it from a file
abbrev pub board_short : ℕ
board_short = 17

-- mines or 3BV are above 65535, or the time of version 3 is above 16777215
abbrev pub number_too_large : ℕ
number_too_large = 18

-- a text to be ended by 00 holds one or has to be UTF-8 and is not
abbrev pub text_unwritable : ℕ
text_unwritable = 19

-- a device id or checksum has a length that its version cannot say
abbrev pub length_unwritable : ℕ
length_unwritable = 20

-- version 4 has no first entry, or one that is not mv, lc, rc or pf below 256 ms
abbrev pub first_event_unwritable : ℕ
first_event_unwritable = 21

-- a mouse event that its version cannot say: ub or an earlier time in version 4, above 16777215 ms in version
-- 3
abbrev pub event_unwritable : ℕ
event_unwritable = 22

-- the block of the custom metrics is not as many texts as it is said to be, in version 4; checked after 20
abbrev pub metrics_unwritable : ℕ
metrics_unwritable = 25

-- ---- what it is written into

-- the lent file is too short for the bytes to be written
abbrev pub file_buffer_short : ℕ
file_buffer_short = 23

-- ---- what is worked in

-- the lent working buffer is below height × width entries
abbrev pub work_short : ℕ
work_short = 24

-- ---- a game that cannot be played

-- a cell has no pixels
abbrev pub pixels_zero : ℕ
pixels_zero = 27

-- the row holds a chord: cc, or one button pressed while the other is down
abbrev pub buttons_together : ℕ
buttons_together = 28
