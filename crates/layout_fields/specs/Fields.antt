-- The fields that files of versions 3 and 4 have both, as bytes (01, Header, Board). Definitions only. A game
-- is as a caller lends it: its cells are the lent board, of which the first height × width count, and its
-- events are all entries of the lent row.
use Rattle.std.specs.Prelude.{ℕ, ◌+◌, ◌*◌, ◌%◌, Bool, cond, List, ◌++◌, ℤ}
use Rattle.board.specs.Bits.{packed}
use Rattle.board.specs.Geometry.{mine_at}
use Rattle.game.specs.declared.Header.{Header}
use Rattle.game.specs.declared.Event.{Event}
use Rattle.game.specs.Same.{Game, text_of}
use Rattle.byte_reader.specs.Numbers.{bytes_of}
use Rattle.byte_writer.specs.Fields.{zero_ended}

-- the game that a caller lends
abbrev pub lent : Header → (bytes : List ℕ) → (board : List ℤ) → (row : List Event) → Game
lent h bytes board row = record { header = h; bytes = bytes; cells = board; events = row }

-- a flag's mask where it is set
abbrev pub bit : Bool → ℕ → ℕ
bit set mask = cond set mask 0

abbrev pub first_flags : Header → ℕ
first_flags h = bit h.is_completed 0x80 +
    (bit h.is_official 0x40 + (bit h.is_fair 0x20 + bit h.nf 0x10))

-- the same with version 4's bit for a translation
abbrev pub flags4 : Header → ℕ
flags4 h = first_flags h + bit h.translated 0x08

abbrev pub second_flags : Header → ℕ
second_flags h = bit h.use_question 0x80 +
    (bit h.use_cursor_pos_lim 0x40 + bit h.use_auto_replay 0x20)

-- the version, both flag bytes, and the sizes
unfoldable pub start_bytes : (version flags : ℕ) → Header → List ℕ
start_bytes version flags h =
    bytes_of 1 version
    ++ (bytes_of 1 flags
    ++ (bytes_of 1 (second_flags h) ++ (bytes_of 1 h.height ++ (bytes_of 1 h.width ++
    (bytes_of 2 h.mine_num
    ++ (bytes_of 1 h.cell_pixel_size ++ (bytes_of 2 h.mode ++ bytes_of 2 h.bbbv)))))))

-- how many cells a file of these sizes has, each size being a byte there
abbrev pub cell_count : Header → ℕ
cell_count h = (h.height % 256) * (h.width % 256)

-- a bit for each cell, set where it is a mine; pad bits are 0
unfoldable pub board_bytes : Game → List ℕ
board_bytes g = packed (mine_at g.cells) (cell_count g.header)

abbrev pub text_bytes : Game → (slot : ℕ) → List ℕ
text_bytes g slot = zero_ended (text_of g slot)
