-- DEMAND 3, ON A PAGE (01, "Version 4 writer and upgrade"): of `upgrade`, and of `evf_upgrade`, the call that
-- hosts make. Statements only; each is proved under its own name in proofs/Demand3.antt or proofs/Host.antt.
--
-- What a reader has to know:
--   `Upgrades`    what `upgrade` promises of its answer and its three lent buffers (upgrade/specs/Copy.antt)
--   `Copies`      what `evf_upgrade` promises of its one number and its lent copy (same page)
--   `parse_of`     what `parse` promises to read a file as, into a board and a row of these lengths
--                 (evf_video/specs/Parsed.antt)
--   `game_read`    a game as it was read: its header, its cells, its events, its texts in the file
--                 (evf_video/specs/Reading.antt)
--   `SameGame`    01's comparison by value: header values, cells, events, each of the nine texts as bytes,
--                 country by its two-letter form (game/specs/Same.antt)
--   `Place`       start and length of a part of the file: of each text of a header, and of the packed board.
--                 The comparison looks at the bytes there and not at the place.
--   `AllBytes`    every entry of a list is below 256, as in each lent file (byte_reader/specs/Reading.antt)
--
-- That the file is of version 0 to 3 is no hypothesis. No reading gives a version above 4 (`known` of
-- upgrade/proofs/Numbers.antt), and a game of version 4 is answered 13 (`game_copied` of
-- upgrade/specs/Copy.antt): so a length, or 19 to 22, is the answer to a file of version 0 to 3.
--
-- Both halves are said of a call by any rule (02, note 5). A number that is no rule gets neither a length nor
-- 19 to 22: 26 stands before them (`checks_under` of evf_judging/specs/Refusals.antt).
--
-- Seconds are compared by `≡`. They are values of IEEE 754, one for each bit pattern that is no NaN, and no
-- reading gives a NaN (specs/NoNan.antt): so equal means equal to the bit.
use Rattle.std.specs.Prelude.{ℕ, ◌≤◌, ◌<◌, ◌≡◌, ◌⊎◌, List, ℤ, length, take}
use Rattle.text.specs.declared.Place.{Place}
use Rattle.game.specs.declared.Header.{Header}
use Rattle.game.specs.declared.Event.{Event}
use Rattle.game.specs.Header.{country_slot}
use Rattle.game.specs.Country.{two_letters}
use Rattle.game.specs.Same.{Game, text_of, SameGame}
use Rattle.byte_reader.specs.Reading.{Bytes as AllBytes}
use Rattle.byte_writer.specs.Places.{most}
use Rattle.evf_video.specs.Reading.{game, game_read}
use Rattle.evf_video.specs.Parsed.{parse_of}
use Rattle.generate_evf.specs.declared.Written.{Written}
use Rattle.generate_evf.specs.declared.Written.TheVariants.{Bytes as Length}
use Rattle.generate_evf.specs.Written.{written_number}
use Rattle.upgrade.specs.Copy.{Upgrades, Copies, shortest_copy}

-- WORDS

-- A file reads as a game, into a board and a row of these lengths: it is not refused.
pub record ReadsInto (file : List ℕ) (cells entries : ℕ) : Type 0 where
  pub header : Header
  pub board : Place
  pub events : List Event
  pub reads : parse_of file cells entries ≡ game header board events

-- The game that it reads as.
abbrev pub game_from : {file : List ℕ} {cells entries : ℕ} → ReadsInto file cells entries → Game
game_from {file} {cells} {entries} r = game_read file r.header r.board r.events

-- A file reads as a game of version 4 that is the same as g, and its country is itself the two-letter form of
-- g's.
pub record ReadsInVersion4 (file : List ℕ) (cells entries : ℕ) (g : Game) : Type 0 where
  pub reading : ReadsInto file cells entries
  pub version : reading.header.version ≡ 4
  pub same : SameGame g (game_from reading)
  pub country : text_of (game_from reading) country_slot ≡ two_letters (text_of g country_slot)

-- No list of bytes at all, read into any board and row, reads as a game of version 4 that is the same as g.
abbrev pub NoFileInVersion4 : Game → Type 0
NoFileInVersion4 g = (any : List ℕ) (cells entries : ℕ) → AllBytes any
    → (r : ReadsInto any cells entries) → r.header.version ≡ 4 → SameGame g (game_from r) → ⊥

-- UPGRADE

-- A call of `upgrade`: the lent file, board, row and copy, the rule, the answer, and what board, row and copy
-- hold then.
pub record UpgradeCall : Type 0 where
  pub file : List ℕ
  pub board : List ℤ
  pub row : List Event
  pub copy : List ℕ
  pub rule : ℕ
  pub answer : Written
  pub board' : List ℤ
  pub row' : List Event
  pub copy' : List ℕ
  pub bytes : AllBytes file
  pub promised : Upgrades file board row copy rule answer board' row' copy'

-- The first game of a call: what the file reads as, into the lent board and row.
abbrev pub First : UpgradeCall → Type 0
First c = ReadsInto c.file (length c.board) (length c.row)

-- Where the answer is a length, or a number from 13 on, there is one.
abbrev pub FirstReading : Type 0
FirstReading = (c : UpgradeCall) → (written_number c.answer ≡ 0) ⊎ (13 ≤ written_number c.answer)
    → First c

-- ACCEPTED. Where the answer is a length n, the first n bytes of the copy read as the same game, into any
-- board and row as long as those of the call.
abbrev pub Kept : Type 0
Kept = (c : UpgradeCall) (n : ℕ) → c.answer ≡ Length n → (first : First c)
    → ReadsInVersion4 (take n c.copy') (length c.board) (length c.row) (game_from first)

-- REFUSED. Where the answer is 19, 20, 21 or 22, no file of version 4 reads as that game.
abbrev pub NoneHolds : Type 0
NoneHolds = (c : UpgradeCall) → 19 ≤ written_number c.answer → written_number c.answer ≤ 22
    → (first : First c) → NoFileInVersion4 (game_from first)

-- EVF_UPGRADE, which is lent no board and no row: its game is what the file reads as, into any long enough

-- A call of `evf_upgrade`: the lent file and copy, the rule, the answer, and what the copy holds then. No
-- copy in memory is as long as the largest usize, `most`.
pub record HostCall : Type 0 where
  pub file : List ℕ
  pub copy : List ℕ
  pub rule : ℕ
  pub answer : ℕ
  pub copy' : List ℕ
  pub bytes : AllBytes file
  pub below : length copy < most
  pub promised : Copies file copy rule answer copy'

-- 1 to 10, 13, 16, 19 to 22, 26, or 53 and more, which is a length: neither 11 nor 12.
abbrev pub HostNumber : ℕ → Type 0
HostNumber n =
    ((1 ≤ n) × (n ≤ 10)) ⊎
    ((n ≡ 13) ⊎ ((n ≡ 16) ⊎ (((19 ≤ n) × (n ≤ 22)) ⊎ ((n ≡ 26) ⊎ (53 ≤ n)))))

-- Every answer is one of these numbers.
abbrev pub HostNumbers : Type 0
HostNumbers = (c : HostCall) → HostNumber c.answer

-- Where the answer is 13 or more, the file reads as a game into some board and row.
abbrev pub HostFirstReading : Type 0
HostFirstReading = (c : HostCall) → 13 ≤ c.answer
    → (cells : ℕ) × (entries : ℕ) × ReadsInto c.file cells entries

-- ACCEPTED. Where the answer is not below `shortest_copy`, which no refusal reaches, and not above the copy's
-- length, so many first bytes of the copy read as the same game, into any board and row as long as some that
-- the file reads into.
abbrev pub HostKept : Type 0
HostKept = (c : HostCall) → shortest_copy ≤ c.answer → c.answer ≤ length c.copy
    → (cells entries : ℕ) (first : ReadsInto c.file cells entries)
    → ReadsInVersion4 (take c.answer c.copy') cells entries (game_from first)

-- REFUSED. Where the answer is 19, 20, 21 or 22, no file of version 4 reads as that game.
abbrev pub HostNoneHolds : Type 0
HostNoneHolds = (c : HostCall) → 19 ≤ c.answer → c.answer ≤ 22
    → (cells entries : ℕ) (first : ReadsInto c.file cells entries) → NoFileInVersion4 (game_from first)
