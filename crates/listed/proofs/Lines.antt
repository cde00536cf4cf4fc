-- From what `judge` answers to the lines of the file: a board of 65025 cells is never too short, so that only
-- the events are counted. Assumes nothing but that the file is bytes.
--     board_fits    every board that is read has at most 65025 cells
--     of-many       more than 2000 events: the line of refusal 12
--     of-game       else the game's line and a line for each event
--     of_none       a refused file
--     of_long       an input of more than 65536 bytes
--     of_short      any other
use Prim.Native.Nat.{ℕ, ◌*◌, ◌≤◌, ◌<◌}
use mathlib.Core.Path.{◌≡◌, ap, sym, ◌∙◌}
use mathlib.Core.List.{List, ◌++◌}
use native.Mathlib.Nat.{mul-le-mul}
use native.Mathlib.Omega.{arith}
use lib.ListN.{length}
use borrow.Author.Tests.{le-leb, lt-leb}
use Rattle.text.specs.declared.Place.{Place}
use Rattle.game.specs.declared.Header.{Header}
use Rattle.game.specs.declared.Event.{Event}
use Rattle.game.specs.Refusals.{row_short}
use Rattle.byte_reader.specs.Reading.{Bytes}
use Rattle.evf_video.specs.declared.Judged.{Judged}
use Rattle.evf_video.specs.Reading.{game, none, reading_of}
use Rattle.evf_video.specs.Judging.{start_of}
use Rattle.evf_video.specs.Parsed.{parse_of}
use Rattle.evf_video.proofs.Judging.{IsGame}
use Rattle.evf_video.proofs.Buffers.{row-short, both-fit, stays_none, sized}
use Rattle.evf_video.proofs.Singly.{singly}
use Rattle.listed.specs.Listed.{most_bytes, most_cells, most_events, event_lines, game_line, refusal_line}
use Rattle.listed.specs.Listed.{lines_of, long_line, listed_of}
use Rattle.evf_events.specs.Events.{first_events}
use Rattle.evf_video.proofs.Singly.{all-events}

module _ (file : List ℕ) (small : Bytes file) where
  pub board_fits : {h : Header} {board : Place} {es : List Event} → reading_of file ≡ game h board es
      → h.height * h.width ≤ most_cells
  board_fits {h} {board} {es} q =
      let z = sized file h board es small q in
      let height : h.height ≤ 255 = omega (arith, z.height) in
      let width : h.width ≤ 255 = omega (arith, z.width) in
      mul-le-mul height width

  module _ (j : Judged) (w : IsGame (start_of file) (reading_of file) j) where
    pub of-many : most_events < j.events → refusal_line row_short ≡ lines_of (parse_of file most_cells most_events)
    unfolding parse_of
    of-many h = ap lines_of (row-short _ _ _ most_cells most_events w (board_fits w.is) h)

    pub of-game : j.events ≤ most_events
        → game_line j.header j.events ++ event_lines (first_events j.events file j.cursor)
        ≡ lines_of (parse_of file most_cells most_events)
    unfolding parse_of
    of-game h =
        rw (w.many, w.cursor_is, all-events (singly file _ _ _ w.is))
        (sym (ap lines_of w.is) ∙ ap lines_of (both-fit _ _ _ most_cells most_events w (board_fits w.is) h))

  pub of_none : (n : ℕ) → reading_of file ≡ none n
      → refusal_line n ≡ lines_of (parse_of file most_cells most_events)
  unfolding parse_of
  of_none n q = sym (ap lines_of q) ∙ ap lines_of (stays_none (reading_of file) most_cells most_events n q)

pub of_long : (file : List ℕ) → most_bytes < length file → long_line ≡ listed_of file
unfolding listed_of
of_long file h = rw (lt-leb (length file) most_bytes h)

pub of_short : (file : List ℕ) → length file ≤ most_bytes
    → lines_of (parse_of file most_cells most_events) ≡ listed_of file
unfolding listed_of
of_short file h = rw (le-leb (length file) most_bytes h)
