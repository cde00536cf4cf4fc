-- TWO CALLS (01, "Version 4 writer and upgrade"): `upgrade`, then `parse` of the new bytes, and what lies in
-- both pairs of buffers then. Statements only, by what the two calls promise; proved in proofs/TwoCalls.antt.
use Rattle.std.specs.Prelude.{ℕ, ◌*◌, ◌≡◌, List, ℤ, length, take}
use Rattle.game.specs.declared.Event.{Event}
use Rattle.game.specs.Header.{country_slot}
use Rattle.game.specs.Country.{two_letters}
use Rattle.game.specs.Same.{Game, text_of, SameGame}
use Rattle.evf_video.specs.declared.Parsed.{Parsed}
use Rattle.evf_video.specs.declared.Outcome.TheVariants.{Read}
use Rattle.evf_video.specs.Parsed.{parse_of, answer_of, Parses}
use Rattle.generate_evf.specs.declared.Written.TheVariants.{Bytes as Length}
use Rattle.demand3.specs.Demand3.{UpgradeCall}

-- A call of `parse`: the lent file, board and row, the answer, and what board and row hold then.
pub record ParseCall : Type 0 where
  pub file : List ℕ
  pub board : List ℤ
  pub row : List Event
  pub answer : Parsed
  pub board' : List ℤ
  pub row' : List Event
  pub promised : Parses file board row answer board' row'

-- The game that an answer of `parse` and its buffers hold: its header, whose texts lie in the bytes that were
-- read, the first height × width cells of the board, and as many first entries of the row as it answered.
abbrev pub game_in : Parsed → (bytes : List ℕ) → (board : List ℤ) → (row : List Event) → Game
game_in p bytes board row = record {
  header = p.header;
  bytes = bytes;
  cells = take (p.header.height * p.header.width) board;
  events = take p.events row;
}

-- `upgrade` gives no header: the first one is what `parse` promises to answer of the file.
abbrev pub first_answer : UpgradeCall → Parsed
first_answer c = answer_of (parse_of c.file (length c.board) (length c.row))

-- the games that lie in the two pairs of buffers
abbrev pub first_in : UpgradeCall → Game
first_in c = game_in (first_answer c) c.file c.board' c.row'

abbrev pub second_in : ParseCall → Game
second_in d = game_in d.answer d.file d.board' d.row'

-- Both readings are accepted, the second is of version 4, both pairs of buffers hold the same game, and the
-- second one's country is itself the two-letter form of the first one's.
pub record ReadAgain (c : UpgradeCall) (d : ParseCall) : Type 0 where
  pub first_read : (first_answer c).outcome ≡ Read
  pub second_read : d.answer.outcome ≡ Read
  pub version : d.answer.header.version ≡ 4
  pub same : SameGame (first_in c) (second_in d)
  pub country : text_of (second_in d) country_slot ≡ two_letters (text_of (first_in c) country_slot)

-- So it is where the upgrade answers a length and `parse` reads so many first bytes of the copy, into a board
-- and a row as long as the first ones, whatever they held before.
abbrev pub TwoCalls : Type 0
TwoCalls = (c : UpgradeCall) (n : ℕ) → c.answer ≡ Length n
    → (d : ParseCall) → d.file ≡ take n c.copy'
    → length d.board ≡ length c.board → length d.row ≡ length c.row → ReadAgain c d
