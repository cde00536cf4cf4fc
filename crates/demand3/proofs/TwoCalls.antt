-- TWO CALLS, `upgrade` and `parse` of the new bytes: both pairs of buffers hold the same game, as
-- specs/TwoCalls.antt states it. Assumes nothing but that files are bytes.
--     two_calls    the statement
use Prim.Native.Nat.{ℕ, ◌*◌, ◌≤◌}
use mathlib.Core.Path.{◌≡◌, refl, sym, ap, subst₂}
use mathlib.Core.Logic.{inl}
use mathlib.Core.List.{List}
use lib.IntN.{ℤ}
use lib.ListN.{length}
use Rattle.lists.proofs.Stores.{sets_first}
use Rattle.text.specs.declared.Place.{Place}
use Rattle.game.specs.declared.Header.{Header}
use Rattle.game.specs.declared.Event.{Event}
use Rattle.game.specs.Header.{country_slot}
use Rattle.game.specs.Country.{two_letters}
use Rattle.game.specs.Same.{Game, text_of, SameGame}
use Rattle.evf_video.specs.declared.Parsed.{Parsed}
use Rattle.evf_video.specs.Reading.{Reading, game, reading_of, cells_at, game_read}
use Rattle.evf_video.specs.Parsed.{parse_of, answer_of, board_then, row_then}
use Rattle.evf_video.proofs.Buffers.{Fitted, fitted}
use Rattle.generate_evf.specs.Written.{written_number}
use Rattle.read_back.proofs.Longer.{cells-long}
use Rattle.demand3.specs.Demand3.{ReadsInto, game_from, ReadsInVersion4, UpgradeCall, First}
use Rattle.demand3.specs.TwoCalls.{ParseCall, game_in, first_answer, first_in, second_in, ReadAgain}
use Rattle.demand3.specs.TwoCalls.{TwoCalls}
use Rattle.demand3.proofs.Demand3.{first_reading, kept}

-- a reading's answer and its buffers hold the game that was read
held : (file : List ℕ) (board : List ℤ) (row : List Event) (R : Reading) (h : Header) (place : Place)
    (es : List Event)
    → R ≡ game h place es → h.height * h.width ≤ length board → length es ≤ length row
    → game_in (answer_of R) file (board_then file R board) (row_then R row) ≡ game_read file h place es
held file board row R h place es e cells_fit row_fits =
    let cells_are = sets_first board (cells_at file h place) (h.height * h.width)
    (cells-long file h place) cells_fit in
    let events-are = sets_first row es (length es) refl row_fits in
    rw (e, cells_are, events-are)

held_in : (file : List ℕ) (board board' : List ℤ) (row row' : List Event) (p : Parsed)
    (r : ReadsInto file (length board) (length row))
    → p ≡ answer_of (parse_of file (length board) (length row))
    → board' ≡ board_then file (parse_of file (length board) (length row)) board
    → row' ≡ row_then (parse_of file (length board) (length row)) row → game_in p file board' row' ≡ game_from r
unfolding parse_of
held_in file board board' row row' p r a b c =
    let f : Fitted (reading_of file) (length board) (length row) r.header r.board r.events =
    fitted (length board) (length row) r.header r.board r.events (reading_of file) r.reads in
    rw (a, b, c)
    (held file board row (parse_of file (length board) (length row)) r.header r.board r.events
    r.reads f.board_fits f.row_fits)

-- the two readings of the calls
again : (c : UpgradeCall) (d : ParseCall) (first : First c)
    → ReadsInVersion4 d.file (length d.board) (length d.row) (game_from first) → ReadAgain c d
again c d first second =
    let r = second.reading in
    let a : game_from first ≡ first_in c =
    sym (held_in c.file c.board c.board' c.row c.row' (first_answer c) first refl
    c.promised.board_is c.promised.row_is) in
    let b : game_from second.reading ≡ second_in d =
    sym (held_in d.file d.board d.board' d.row d.row' d.answer second.reading
    d.promised.answer_is d.promised.board_is d.promised.row_is) in
    record {
      first_read = rw first.reads;
      second_read = rw (d.promised.answer_is, r.reads);
      version = rw (d.promised.answer_is, r.reads) second.version;
      same = subst₂ SameGame a b second.same;
      country = subst₂ (λ (g k : Game). text_of k country_slot ≡ two_letters (text_of g country_slot)) a b
          second.country;
    }

pub two_calls : TwoCalls
two_calls c n e d file_is cells_are entries-are =
    let first = first_reading c (inl (ap written_number e)) in
    again c d first (rw (file_is, cells_are, entries-are) (kept c n e first))
