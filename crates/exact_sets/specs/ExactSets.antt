-- EXACT SETS: for each number of each public call a small input that is answered with it (01, Refusals). The
-- numbers on the right are literal: a constant that is changed in code and definition together falls here.
-- Proved in proofs/Computed.antt and proofs/Long.antt. That a call answers no other number, in other crates:
--   `step`, `scan`             `step-number`, `events-number`, evf_events/proofs/Numbers.antt
--   `open`, `parse`            `open-refuses`, `parse-refuses`, evf_video/proofs/Answers.antt
--   `evf_check`                `check-number`, evf_video/proofs/Answers.antt
--   sizing and the writers     `size-among`, `written-among`, `version-3-sized`, `version-3-written`,
--                              generate_evf/proofs/Numbers.antt
--   `upgrade`                  `among`, upgrade/proofs/Numbers.antt
--   `evf_upgrade`              `host_numbers`, demand3/proofs/Host.antt
use Rattle.std.specs.Prelude.{ℕ, zero, suc, false, List, [], ◌∷◌, ◌++◌, negsuc, length}
use Rattle.std.specs.Float.{fin}
use Rattle.text.specs.declared.Place.{Place}
use Rattle.text.specs.Places.{absent}
use Rattle.lists.specs.Lists.{each}
use Rattle.times.specs.Times.{seconds_of, halves_away}
use Rattle.game.specs.declared.Header.{Header}
use Rattle.game.specs.declared.Event.{Event}
use Rattle.game.specs.declared.Event.TheVariants.{Mouse}
use Rattle.game.specs.declared.MouseKind.{MouseKind}
use Rattle.game.specs.declared.MouseKind.TheVariants.{Mv, Ub}
use Rattle.game.specs.Same.{Game}
use Rattle.evf_events.specs.declared.EventCursor.{EventCursor}
use Rattle.evf_events.specs.Events.{step_of, step_number}
use Rattle.evf_events.specs.Start.{first_cursor, open_of, start_number}
use Rattle.evf_scan.specs.Scanning.{scan_of, scan_number}
use Rattle.evf_video.specs.Reading.{reading_of, number_of, outcome_number}
use Rattle.evf_video.specs.Parsed.{parse_of, answer_of}
use Rattle.generate_evf.specs.Written.{written_of, size_of, written_number, size_number}
use Rattle.upgrade.specs.Copy.{copied_by, told_by}

-- WHAT IS ASKED

pub data Question : Type 0 where
  -- `step` of a cursor over a file
  stepping : (file : List ℕ) → EventCursor → Question
  -- `scan` of a cursor over a file
  scanning : (file : List ℕ) → EventCursor → Question
  -- `open` of a file
  opening : (file : List ℕ) → Question
  -- `evf_check` of a file
  checking : (file : List ℕ) → Question
  -- `parse` of a file into a board and a row of these lengths
  parsing : (file : List ℕ) → (cells entries : ℕ) → Question
  -- the writer of a version, with a game and a file of so many bytes
  writing : (version : ℕ) → Game → (room : ℕ) → Question
  -- the sizing of a version, with a game
  sizing : (version : ℕ) → Game → Question
  -- `upgrade` of a file, with a board, a row and a copy of these lengths
  upgrading : (file : List ℕ) → (cells entries room : ℕ) → Question
  -- `evf_upgrade` of a file, with a copy of this length
  copying : (file : List ℕ) → (room : ℕ) → Question
  -- any of the last four by another rule than 1
  under : (rule : ℕ) → Question → Question

-- 01's number of the answer, 0 for none, by the definitions that the calls' contracts cite. The one number of
-- `evf_upgrade` is a refusal below 51.
abbrev pub number_by : (rule : ℕ) → Question → ℕ
number_by rule (stepping file c) = step_number (step_of file c)
number_by rule (scanning file c) = scan_number (scan_of file c)
number_by rule (opening file) = start_number (open_of file)
number_by rule (checking file) = number_of (reading_of file)
number_by rule (parsing file cells entries) = outcome_number (answer_of (parse_of file cells entries)).outcome
number_by rule (writing version g room) = written_number (written_of rule version g room)
number_by rule (sizing version g) = size_number (size_of rule version g)
number_by rule (upgrading file cells entries room) =
    written_number (copied_by rule file (parse_of file cells entries) room)
number_by rule (copying file room) = told_by (copied_by rule file (reading_of file) room)
number_by rule (under other q) = number_by other q

unfoldable pub number_to : Question → ℕ
number_to = number_by halves_away

-- a question and the number that answers it
pub record Row : Type 0 where
  pub asked : Question
  pub number : ℕ

infixl 10 ◌gives◌
abbrev pub ◌gives◌ : Question → ℕ → Row
q gives n = record { asked = q; number = n }

-- FILES

abbrev pub zeros : ℕ → List ℕ
zeros n = each n (λ i. 0)

-- Version 0, 2 or 3 up to its time: flags, mines, mode, 3BV and time are 0.
abbrev pub old : (version height width pixels : ℕ) → List ℕ
old version height width pixels = version ∷ 0 ∷ height ∷ width ∷ 0 ∷ 0 ∷ pixels ∷ zeros 7

-- Behind it: the software, three empty texts, the start and an empty end, each with the 00 that ends it.
abbrev pub played : (software start : List ℕ) → List ℕ
played software start = software ++ (zeros 4 ++ (start ++ zeros 2))

-- `Arbiter`, `Viennasweeper`, 元 and `18446744073710`
abbrev pub arbiter : List ℕ
arbiter = 0x41 ∷ 0x72 ∷ 0x62 ∷ 0x69 ∷ 0x74 ∷ 0x65 ∷ 0x72 ∷ []

abbrev pub vienna : List ℕ
vienna = 0x56 ∷ 0x69 ∷ 0x65 ∷ 0x6E ∷ 0x6E ∷ 0x61 ∷ 0x73 ∷ 0x77 ∷ 0x65 ∷ 0x65 ∷ 0x70 ∷ 0x65 ∷ 0x72 ∷ []

abbrev pub yuan : List ℕ
yuan = 0xE5 ∷ 0x85 ∷ 0x83 ∷ []

abbrev pub too_late : List ℕ
too_late = 0x31 ∷ 0x38 ∷ 0x34 ∷ 0x34 ∷ 0x36 ∷ 0x37 ∷ 0x34 ∷ 0x34 ∷ 0x30 ∷ 0x37 ∷ 0x33 ∷ 0x37 ∷ 0x31 ∷ 0x30 ∷ []

-- Seven empty texts, of which the first is the software and the last the country.
abbrev pub no_texts : List ℕ
no_texts = zeros 7

-- Version 4 of height 1 and width 0 up to its events: all else is 0 or empty.
abbrev pub new : List ℕ
new = 4 ∷ 0 ∷ 0 ∷ 1 ∷ zeros 38

-- A mouse move: the first of version 4, at 0 ms; and one of versions 0 to 3, at less than 256 ms.
abbrev pub first_move : List ℕ
first_move = 1 ∷ zeros 5

abbrev pub move : (ms : ℕ) → List ℕ
move ms = 1 ∷ 0 ∷ 0 ∷ ms ∷ zeros 4

-- A cursor behind the first record of version 4, at the largest u32 of milliseconds.
abbrev pub late : EventCursor
late = record { version = 4; at = 0; first = false; ms = record { 0 = 4294967295 }; x = 0; y = 0 }

-- Refused by reading with 1 to 9: an empty file, version 5, software FF, software Arbiter, 元 without a start,
-- a Viennasweeper start past u64, height 0, a version 4 that begins with 0, and one with code 13.
unfoldable pub refused1 : List ℕ
refused1 = []

unfoldable pub refused2 : List ℕ
refused2 = 5 ∷ []

unfoldable pub refused3 : List ℕ
refused3 = old 0 0 0 0 ++ (0xFF ∷ 0 ∷ [])

unfoldable pub refused4 : List ℕ
refused4 = old 0 0 0 0 ++ played arbiter []

unfoldable pub refused5 : List ℕ
refused5 = old 0 0 0 0 ++ played yuan []

unfoldable pub refused6 : List ℕ
refused6 = old 0 0 0 0 ++ played vienna too_late

unfoldable pub refused7 : List ℕ
refused7 = old 0 0 0 0 ++ no_texts

unfoldable pub refused8 : List ℕ
refused8 = new ++ (0 ∷ [])

unfoldable pub refused9 : List ℕ
refused9 = new ++ (first_move ++ (13 ∷ []))

-- so many pauses of 65535 ms each
abbrev pub long_pauses : ℕ → List ℕ
long_pauses zero = []
long_pauses (suc n) = 0xFF ∷ 0xFF ∷ 0xFF ∷ long_pauses n

-- refused by reading with 10: 65537 of them, which come to 4294967295 ms, and a pause of 1 ms
unfoldable pub refused10 : List ℕ
refused10 = new ++ (first_move ++ (long_pauses 65537 ++ (0xFF ∷ 0 ∷ 1 ∷ [])))

-- a file of version 4 that reads, with one event
unfoldable pub new1 : List ℕ
new1 = new ++ (first_move ++ zeros 3)

-- Files of version 0 and height 1 that read: of width 1 without events, and of width 0 with these events.
unfoldable pub one_cell : List ℕ
one_cell = old 0 1 1 0 ++ (no_texts ++ (0 ∷ 255 ∷ []))

unfoldable pub events : (records : List ℕ) → List ℕ
events records = old 0 1 0 0 ++ (no_texts ++ (records ++ (255 ∷ [])))

-- With one event each: of so many rows of 255 pixels, with a player of one byte, and of version 2 with a
-- device id of so many bytes.
unfoldable pub rows : ℕ → List ℕ
rows height = old 0 height 0 255 ++ (no_texts ++ (move 0 ++ (255 ∷ [])))

unfoldable pub player : ℕ → List ℕ
player byte = old 0 1 0 0 ++ (0 ∷ byte ∷ zeros 6 ++ (move 0 ++ (255 ∷ [])))

unfoldable pub device : ℕ → List ℕ
device n = old 2 1 0 0 ++ (no_texts ++ (each n (λ i. 1) ++ (0 ∷ move 0 ++ (255 ∷ []))))

-- GAMES

-- a header with so many custom metrics in a block, of these sizes, with these texts
abbrev pub headed_by : (metrics : Place) → (count height width mines pixels time : ℕ) → List Place → Header
headed_by metrics count height width mines pixels time texts = record {
  version = 4;
  is_completed = false;
  is_official = false;
  is_fair = false;
  nf = false;
  translated = false;
  use_question = false;
  use_cursor_pos_lim = false;
  use_auto_replay = false;
  height = height;
  width = width;
  mine_num = mines;
  cell_pixel_size = pixels;
  mode = 0;
  bbbv = 0;
  rtime_ms = record { 0 = time };
  start_time = record { 0 = 0 };
  end_time = record { 0 = 0 };
  level = 6;
  mines_found = 0;
  texts = texts;
  metrics = metrics;
  metrics_count = count;
}

-- one without custom metrics
abbrev pub headed : (height width mines pixels time : ℕ) → List Place → Header
headed = headed_by absent 0

abbrev pub no_places : ℕ → List Place
no_places n = each n (λ i. absent)

-- a mouse event at its milliseconds
abbrev pub at : MouseKind → (ms : ℕ) → Event
at kind ms = Mouse (seconds_of ms) kind 0 0

-- a game of these sizes, with a mouse move at 0 ms and no text
unfoldable pub sized : (height width mines pixels time : ℕ) → Game
sized height width mines pixels time =
    let header = headed height width mines pixels time (no_places 9) in
    record { header = header; bytes = []; cells = []; events = at Mv 0 ∷ [] }

-- One of height 1 and width 0, with these bytes, of which so many first ones are its software, its device id
-- and its checksum.
unfoldable pub worded : (bytes : List ℕ) → (software device checksum : ℕ) → Game
worded bytes software device checksum =
    let first : ℕ → Place = λ n. record { start = 0; len = n } in
    let texts : List Place = first software ∷ no_places 6 ++ (first device ∷ first checksum ∷ []) in
    record { header = headed 1 0 0 0 0 texts; bytes = bytes; cells = []; events = at Mv 0 ∷ [] }

-- one whose device id has so many bytes
unfoldable pub long_device : ℕ → Game
long_device n = worded (zeros n) 0 n 0

-- one of height 1 and width 0, with this row
unfoldable pub rowed : List Event → Game
rowed row = record { header = headed 1 0 0 0 0 (no_places 9); bytes = []; cells = []; events = row }

-- one of height 1 and width 0, whose bytes are the block of so many custom metrics, with this row
unfoldable pub measured : (block : List ℕ) → (count : ℕ) → List Event → Game
measured block count row =
    let header = headed_by (record { start = 0; len = length block }) count 1 0 0 0 0 (no_places 9) in
    record { header = header; bytes = block; cells = []; events = row }

-- one whose bytes are its software too
unfoldable pub measured_in : (bytes : List ℕ) → (count : ℕ) → Game
measured_in bytes count =
    let all : Place = record { start = 0; len = length bytes } in
    let header = headed_by all count 1 0 0 0 0 (all ∷ no_places 8) in
    record { header = header; bytes = bytes; cells = []; events = at Mv 0 ∷ [] }

-- THE TABLES: one for each call, each number once

-- `step`: 1, 2, 8, 9, 10
unfoldable pub steps : List Row
steps =
    (stepping [] (first_cursor 0 0) gives 1) ∷
    (stepping [] (first_cursor 5 0) gives 2) ∷
    (stepping (0 ∷ []) (first_cursor 4 0) gives 8) ∷
    (stepping (13 ∷ []) late gives 9) ∷
    (stepping (1 ∷ 1 ∷ zeros 4) late gives 10) ∷ []

-- `scan`: the same
unfoldable pub scans : List Row
scans =
    (scanning [] (first_cursor 0 0) gives 1) ∷
    (scanning [] (first_cursor 5 0) gives 2) ∷
    (scanning (0 ∷ []) (first_cursor 4 0) gives 8) ∷
    (scanning (13 ∷ []) late gives 9) ∷
    (scanning (1 ∷ 1 ∷ zeros 4) late gives 10) ∷ []

-- `open`: 1 to 7
unfoldable pub opens : List Row
opens =
    (opening refused1 gives 1) ∷
    (opening refused2 gives 2) ∷
    (opening refused3 gives 3) ∷
    (opening refused4 gives 4) ∷
    (opening refused5 gives 5) ∷
    (opening refused6 gives 6) ∷
    (opening refused7 gives 7) ∷ []

-- `evf_check`: 1 to 10, which stands below
unfoldable pub checks : List Row
checks =
    (checking refused1 gives 1) ∷
    (checking refused2 gives 2) ∷
    (checking refused3 gives 3) ∷
    (checking refused4 gives 4) ∷
    (checking refused5 gives 5) ∷
    (checking refused6 gives 6) ∷
    (checking refused7 gives 7) ∷
    (checking refused8 gives 8) ∷
    (checking refused9 gives 9) ∷ []

-- `parse`: 1 to 12, where 10 stands below
unfoldable pub parses : List Row
parses =
    (parsing refused1 0 0 gives 1) ∷
    (parsing refused2 0 0 gives 2) ∷
    (parsing refused3 0 0 gives 3) ∷
    (parsing refused4 0 0 gives 4) ∷
    (parsing refused5 0 0 gives 5) ∷
    (parsing refused6 0 0 gives 6) ∷
    (parsing refused7 0 0 gives 7) ∷
    (parsing refused8 0 0 gives 8) ∷
    (parsing refused9 0 0 gives 9) ∷
    (parsing one_cell 0 0 gives 11) ∷
    (parsing (events (move 0)) 0 0 gives 12) ∷ []

-- the writer of version 4: 14 to 23 and 25, and its sizing, 14 to 22 and 25; 20 stands below, 26 in `unruled`
unfoldable pub writes4 : List Row
writes4 =
    (writing 4 (worded [] 1 0 0) 100 gives 14) ∷
    (writing 4 (sized 0 0 0 0 0) 100 gives 15) ∷
    (writing 4 (sized 129 0 0 255 0) 100 gives 16) ∷
    (writing 4 (sized 1 1 0 0 0) 100 gives 17) ∷
    (writing 4 (sized 1 0 65536 0 0) 100 gives 18) ∷
    (writing 4 (worded (0xFF ∷ []) 1 0 0) 100 gives 19) ∷
    (writing 4 (measured [] 1 (at Mv 0 ∷ [])) 100 gives 25) ∷
    (writing 4 (rowed []) 100 gives 21) ∷
    (writing 4 (rowed (at Mv 0 ∷ at Ub 0 ∷ [])) 100 gives 22) ∷
    (writing 4 (rowed (at Mv 0 ∷ [])) 0 gives 23) ∷ []

unfoldable pub sizes4 : List Row
sizes4 =
    (sizing 4 (worded [] 1 0 0) gives 14) ∷
    (sizing 4 (sized 0 0 0 0 0) gives 15) ∷
    (sizing 4 (sized 129 0 0 255 0) gives 16) ∷
    (sizing 4 (sized 1 1 0 0 0) gives 17) ∷
    (sizing 4 (sized 1 0 65536 0 0) gives 18) ∷
    (sizing 4 (worded (0xFF ∷ []) 1 0 0) gives 19) ∷
    (sizing 4 (measured [] 1 (at Mv 0 ∷ [])) gives 25) ∷
    (sizing 4 (rowed []) gives 21) ∷
    (sizing 4 (rowed (at Mv 0 ∷ at Ub 0 ∷ [])) gives 22) ∷ []

-- the writer of version 3: 14 to 23 without 16 and 21, which it never answers, and its sizing; 26 in
-- `unruled`
unfoldable pub writes3 : List Row
writes3 =
    (writing 3 (worded [] 1 0 0) 100 gives 14) ∷
    (writing 3 (sized 0 0 0 0 0) 100 gives 15) ∷
    (writing 3 (sized 1 1 0 0 0) 100 gives 17) ∷
    (writing 3 (sized 1 0 0 0 16777216) 100 gives 18) ∷
    (writing 3 (worded (0 ∷ []) 0 1 0) 100 gives 19) ∷
    (writing 3 (worded (0 ∷ []) 0 0 1) 100 gives 20) ∷
    (writing 3 (rowed (at Mv 16777216 ∷ [])) 100 gives 22) ∷
    (writing 3 (rowed []) 0 gives 23) ∷ []

unfoldable pub sizes3 : List Row
sizes3 =
    (sizing 3 (worded [] 1 0 0) gives 14) ∷
    (sizing 3 (sized 0 0 0 0 0) gives 15) ∷
    (sizing 3 (sized 1 1 0 0 0) gives 17) ∷
    (sizing 3 (sized 1 0 0 0 16777216) gives 18) ∷
    (sizing 3 (worded (0 ∷ []) 0 1 0) gives 19) ∷
    (sizing 3 (worded (0 ∷ []) 0 0 1) gives 20) ∷
    (sizing 3 (rowed (at Mv 16777216 ∷ [])) gives 22) ∷ []

-- `upgrade`: 1 to 13, 16, 19 to 23, where 10 and 20 stand below, and 26 in `unruled`
unfoldable pub upgrades : List Row
upgrades =
    (upgrading refused1 0 0 0 gives 1) ∷
    (upgrading refused2 0 0 0 gives 2) ∷
    (upgrading refused3 0 0 0 gives 3) ∷
    (upgrading refused4 0 0 0 gives 4) ∷
    (upgrading refused5 0 0 0 gives 5) ∷
    (upgrading refused6 0 0 0 gives 6) ∷
    (upgrading refused7 0 0 0 gives 7) ∷
    (upgrading refused8 0 0 0 gives 8) ∷
    (upgrading refused9 0 0 0 gives 9) ∷
    (upgrading one_cell 0 0 0 gives 11) ∷
    (upgrading (events (move 0)) 0 0 0 gives 12) ∷
    (upgrading new1 0 1 0 gives 13) ∷
    (upgrading (rows 129) 0 1 100 gives 16) ∷
    (upgrading (player 0xFF) 0 1 100 gives 19) ∷
    (upgrading (events []) 0 0 100 gives 21) ∷
    (upgrading (events (move 1 ++ move 0)) 0 2 100 gives 22) ∷
    (upgrading (events (move 0)) 0 1 0 gives 23) ∷ []

-- `evf_upgrade`: 1 to 10, 13, 16, 19 to 22, where 10 and 20 stand below, and 26 in `unruled`
unfoldable pub copies : List Row
copies =
    (copying refused1 0 gives 1) ∷
    (copying refused2 0 gives 2) ∷
    (copying refused3 0 gives 3) ∷
    (copying refused4 0 gives 4) ∷
    (copying refused5 0 gives 5) ∷
    (copying refused6 0 gives 6) ∷
    (copying refused7 0 gives 7) ∷
    (copying refused8 0 gives 8) ∷
    (copying refused9 0 gives 9) ∷
    (copying new1 0 gives 13) ∷
    (copying (rows 129) 100 gives 16) ∷
    (copying (player 0xFF) 100 gives 19) ∷
    (copying (events []) 100 gives 21) ∷
    (copying (events (move 1 ++ move 0)) 100 gives 22) ∷ []

-- in checking order, which is not that of the numbers: where 19 and 25 both hold, and where 25 and 21 do
unfoldable pub in_order : List Row
in_order =
    (writing 4 (measured_in (0xFF ∷ []) 1) 100 gives 19) ∷
    (writing 4 (measured [] 1 []) 100 gives 25) ∷ []

-- by a number that is no rule: 26 before 14, and in an upgrade behind 13, which stands behind 1
unfoldable pub unruled : List Row
unruled =
    (under 0 (writing 4 (worded [] 1 0 0) 100) gives 26) ∷
    (under 0 (sizing 4 (worded [] 1 0 0)) gives 26) ∷
    (under 3 (writing 3 (worded [] 1 0 0) 100) gives 26) ∷
    (under 3 (sizing 3 (worded [] 1 0 0)) gives 26) ∷
    (under 9 (upgrading (player 0xFF) 0 1 100) gives 26) ∷
    (under 9 (copying (player 0xFF) 100) gives 26) ∷
    (under 9 (upgrading new1 0 1 100) gives 13) ∷
    (under 9 (upgrading [] 0 1 100) gives 1) ∷
    -- 2 is one, and by it 62.5 ms (which are 1 / 2 ^ 4 s) and then 62 ms do not fall
    (under 2 (upgrading (player 0x41) 0 1 100) gives 0) ∷
    (writing 4 (rowed (Mouse (fin false 1 (negsuc 3)) Mv 0 0 ∷ at Mv 62 ∷ [])) 100 gives 22) ∷
    (under 2 (writing 4 (rowed (Mouse (fin false 1 (negsuc 3)) Mv 0 0 ∷ at Mv 62 ∷ [])) 100) gives 0) ∷ []

-- accepted beside them: what is one less
unfoldable pub accepted : List Row
accepted =
    (checking new1 gives 0) ∷
    (parsing one_cell 1 0 gives 0) ∷
    (parsing (events (move 0)) 0 1 gives 0) ∷
    (writing 4 (sized 128 0 0 255 0) 100 gives 0) ∷
    (writing 4 (sized 1 0 65535 0 0) 100 gives 0) ∷
    (writing 4 (measured (0 ∷ []) 1 (at Mv 0 ∷ [])) 100 gives 0) ∷
    (writing 3 (measured [] 1 (at Mv 0 ∷ [])) 100 gives 0) ∷
    (writing 3 (sized 1 0 0 0 16777215) 100 gives 0) ∷
    (writing 3 (rowed (at Mv 16777215 ∷ [])) 100 gives 0) ∷
    (upgrading (rows 128) 0 1 100 gives 0) ∷
    (upgrading (player 0x41) 0 1 100 gives 0) ∷
    (upgrading (events (move 0)) 0 1 100 gives 0) ∷
    (upgrading (events (move 0 ++ move 0)) 0 2 100 gives 0) ∷ []

unfoldable pub table : List Row
table =
    steps ++ (scans ++ (opens ++ (checks ++ (parses ++ (writes4 ++ (sizes4 ++ (writes3 ++ (sizes3 ++
    (upgrades ++ (copies ++ (in_order ++ (unruled ++ accepted))))))))))))

-- 10 and 20 take long files; these rows are proved by laws and not by computing
unfoldable pub long_table : List Row
long_table =
    (checking refused10 gives 10) ∷
    (parsing refused10 0 0 gives 10) ∷
    (upgrading refused10 0 0 0 gives 10) ∷
    (copying refused10 0 gives 10) ∷
    (writing 4 (long_device 65536) 100 gives 20) ∷
    (sizing 4 (long_device 65536) gives 20) ∷
    (upgrading (device 65536) 0 1 100 gives 20) ∷
    (copying (device 65536) 100 gives 20) ∷
    (sizing 4 (long_device 65535) gives 0) ∷ []
