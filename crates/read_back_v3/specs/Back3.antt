-- WHAT THE VERSION 3 WRITER WROTE READS BACK (01, Header, Events, "Version 3 writer", which note 1 of 02
-- amends). This page says what the law is of and what it says; proofs/ has a term of each statement:
--     KindBack       each of the thirteen kinds is read from its code
--     EventsBack     every row that version 3 takes is read as what it is saved as
--     FileBack       so is the whole file, where its start and end are read
--     FileRefused    and where they are not, the file is refused
--     SameBack       the game itself is read, where version 3 has a place for all of it
--     OnlySame       and nowhere else
use Rattle.std.specs.Prelude.{ℕ, ◌+◌, ◌≡◌, Bool, true, false, not, cond, ◌&&◌, ◌⊎◌, List, [], ◌∷◌, ◌++◌, eqb, length, take}
use Rattle.times.specs.Times.{s_to_ms, calendar_of}
use Rattle.game.specs.declared.MouseKind.{MouseKind}
use Rattle.game.specs.declared.Event.{Event}
use Rattle.game.specs.Header.{software_slot, translated_software_slot, original_encoding_slot, country_slot}
use Rattle.game.specs.Kinds.{code_of}
use Rattle.game.specs.Refusals.{arbiter, time_too_large}
use Rattle.game.specs.Same.{Game, text_of, block_of}
use Rattle.header_fields.specs.declared.Span.{Span}
use Rattle.header_software.specs.declared.Times.TheVariants.{Known, Refused}
use Rattle.header_software.specs.Software.{begins_with, arbiter_name, vienna_name, yuan_name}
use Rattle.records_v0_v3.specs.Records.{end_and_checksum, end_alone, kind_in}
use Rattle.evf_events.specs.Events.{read, events_from}
use Rattle.evf_events.specs.Start.{first_cursor}
use Rattle.evf_video.specs.Reading.{none, reading_of}
use Rattle.mouse_records.specs.Records.{nothing_yet, row_bytes}
use Rattle.evf_records.specs.Refusals.{event_unwritable}
use Rattle.generate_evf.specs.declared.Written.{Written}
use Rattle.generate_evf.specs.declared.Written.TheVariants.{Bytes}
use Rattle.generate_evf.specs.Written.{Generates}
use Rattle.fields_back.specs.Carried.{times_read, carried3}
use Rattle.read_back.specs.Saved.{saved_events, Places, saved_as}
use Rattle.read_back.specs.Back.{InTypes, Plain, on_board, ReadsAs}

-- EVENTS

abbrev pub KindBack : Type 0
KindBack = (k : MouseKind) → kind_in 3 (code_of k) ≡ k

-- the code behind the events: 0 where a checksum follows, 255 where none does
abbrev pub end_code : (follows : Bool) → ℕ
end_code follows = cond follows end_and_checksum end_alone

-- A row that is not refused with 22, of positions of 16 bits, whatever stands before its bytes and behind
-- the end: kinds and positions are read as they were, seconds rounded by any rule, and no game states.
abbrev pub EventsBack : Type 0
EventsBack =
    (rule : ℕ) (row : List Event) → Places row → event_unwritable (s_to_ms rule) 3 row ≡ false
    → (before : List ℕ) (follows : Bool) (after : List ℕ)
    → let bytes = row_bytes (s_to_ms rule) 3 nothing_yet row in
    events_from (before ++ (bytes ++ end_code follows ∷ after)) (first_cursor 3 (length before))
    ≡ read (saved_events (s_to_ms rule) row) (length before + length bytes + 1) follows

-- THE WHOLE FILE

-- A call of `generate_evf_v3_raw_data` that is answered with a length: the game that is lent, whose numbers
-- and positions are of their types, the rule, and what the lent file holds then.
pub record WriteCall : Type 0 where
  pub game : Game
  pub types : InTypes game
  pub file : List ℕ
  pub rule : ℕ
  pub file' : List ℕ
  pub answer : Written
  pub promised : Generates 3 game file rule answer file'
  pub length : ℕ
  pub accepted : answer ≡ Bytes length

-- the bytes that were written
abbrev pub written : WriteCall → List ℕ
written c = take c.length c.file'

-- The bytes read as a game of version 3, and the country's bytes are those of g.
abbrev pub ReadsBack3 : (file : List ℕ) → Game → Type 0
ReadsBack3 file g = ReadsAs 3 (text_of g country_slot) file g

-- What start and end are is for the software's name to say. Where they are read, the game is read as it is
-- saved: with that start and end, translated by the name, without texts of a translation, custom metrics and
-- game states, with rounded seconds, and with numbers, level and mines found worked out anew.
abbrev pub FileBack : Type 0
FileBack = (c : WriteCall) (span : Span) → times_read c.game ≡ Known span
    → ReadsBack3 (written c) (saved_as 3 (carried3 span c.game) (s_to_ms c.rule) c.game)

-- Where they are refused, so is the file: with 4 under Arbiter, with 6 where Viennasweeper's are too large.
abbrev pub FileRefused : Type 0
FileRefused = (c : WriteCall) (n : ℕ) → times_read c.game ≡ Refused n
    → (reading_of (written c) ≡ none n) × ((n ≡ arbiter) ⊎ (n ≡ time_too_large))

-- THE GAMES THAT VERSION 3 KEEPS: Smallest.antt has for each condition the smallest games that break it

-- Any start and end where the software begins with 元; the start of Viennasweeper is 0 and its end the game's
-- time; both are 0 where another name says nothing of them; none under Arbiter, which no reader takes.
abbrev pub times_kept : Game → Bool
times_kept g =
    let software = text_of g software_slot in
    let start = g.header.start_time.0 in
    let end = g.header.end_time.0 in
    cond (begins_with arbiter_name software) false
    (cond (begins_with vienna_name software) (eqb start 0 && eqb end (calendar_of g.header.rtime_ms).0)
    (cond (begins_with yuan_name software) true (eqb start 0 && eqb end 0)))

-- It is plain: cells, level and mines found are those that a reading gives, and its row is one of mouse
-- events at whole milliseconds. Start and end are kept; it is translated unless its software begins with 元;
-- and it has no texts of a translation and no custom metrics.
pub record Plain3 (g : Game) : Type 0 where
  pub plain : Plain g
  pub times : times_kept g ≡ true
  pub translated : g.header.translated ≡ not (begins_with yuan_name (text_of g software_slot))
  pub no_translation : text_of g translated_software_slot ≡ []
  pub no_encoding : text_of g original_encoding_slot ≡ []
  pub no_count : g.header.metrics_count ≡ 0
  pub no_metrics : block_of g ≡ []

-- Such a game is read back as itself, of the lent board the first height × width cells.
abbrev pub SameBack : Type 0
SameBack = (c : WriteCall) → Plain3 c.game → ReadsBack3 (written c) (on_board c.game)

-- No other one is.
abbrev pub OnlySame : Type 0
OnlySame = (c : WriteCall) → ReadsBack3 (written c) (on_board c.game) → Plain3 c.game
