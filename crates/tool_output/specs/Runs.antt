-- A run over files that comes to its end. Definitions only.
use Rattle.std.specs.Prelude.{true}
use Rattle.tool_output.specs.declared.Run.{Run}

-- it is over, and all else is as it was
abbrev pub over_of : Run → Run
over_of run = record {
  tally = run.tally;
  is_many = run.is_many;
  shows = run.shows;
  shown_ms = run.shown_ms;
  is_screen = run.is_screen;
  is_over = true;
  is_broken = run.is_broken;
}

-- it is over before its time
abbrev pub broken_of : Run → Run
broken_of run = record {
  tally = run.tally;
  is_many = run.is_many;
  shows = run.shows;
  shown_ms = run.shown_ms;
  is_screen = run.is_screen;
  is_over = true;
  is_broken = true;
}
