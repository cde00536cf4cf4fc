-- What the steps of `parse` promise, which a caller that holds a row makes one by one: the answer and the
-- board first, then the turns that fill the row. `parse` itself is said without them, in Parsed. Definitions
-- only.
use Rattle.std.specs.Prelude.{ℕ, true, false, cond, List, ℤ, length}
use Rattle.game.specs.declared.Event.{Event}
use Rattle.evf_events.specs.declared.Step.{Step}
use Rattle.evf_events.specs.declared.Step.TheVariants.{Got as Next, End, Refused as Broken}
use Rattle.evf_events.specs.Events.{step_of}
use Rattle.evf_events.specs.Start.{first_cursor}
use Rattle.rows.specs.Rows.{no_event, filled_row, filled_state}
use Rattle.evf_video.specs.declared.RowLeft.{RowLeft}
use Rattle.evf_video.specs.declared.RowFill.{RowFill}
use Rattle.evf_video.specs.declared.Took.{Took}
use Rattle.evf_video.specs.Reading.{Reading, game, none}
use Rattle.evf_video.specs.Judging.{start_of}
use Rattle.evf_video.specs.Parsed.{parse_of, answer_of, board_then}

-- a turn without an event, and one turn of the cursor
abbrev pub stopped : RowFill → Took
stopped r = record { more = false; event = no_event; run = r }

abbrev pub taken : RowFill → Step → Took
taken r (Next e c) = record { more = true; event = e; run = record { done = false; cursor = c } }
taken r (End at checksum) = stopped r
taken r (Broken n) = stopped r

unfoldable pub took_of : List ℕ → RowFill → Took
took_of file r = cond r.done (stopped r) (taken r (step_of file r.cursor))

abbrev pub row_by : List ℕ → RowFill → List Event → List Event
row_by = filled_row (λ (k : Took). k.more) (λ (k : Took). k.event) (λ (k : Took). k.run) took_of

abbrev pub run_by : List ℕ → RowFill → List Event → RowFill
run_by = filled_state (λ (k : Took). k.more) (λ (k : Took). k.event) (λ (k : Took). k.run) took_of

-- what the row is filled from: the file's first record, or nothing where the reading is refused
abbrev pub run_for : List ℕ → Reading → RowFill
run_for file (game h board es) = record { done = false; cursor = start_of file }
run_for file (none n) = record { done = true; cursor = first_cursor 0 0 }

unfoldable pub row_left_of : List ℕ → List ℤ → ℕ → RowLeft
row_left_of file board n =
    record {
      parsed = answer_of (parse_of file (length board) n);
      run = run_for file (parse_of file (length board) n);
    }

unfoldable pub board_ready : List ℕ → List ℤ → ℕ → List ℤ
board_ready file board n = board_then file (parse_of file (length board) n) board
