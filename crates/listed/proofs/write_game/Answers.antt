-- `listed::write_game` meets its contract: the word, twice three numbers and the end of the line in a row.
-- Assumes nothing.
use Prim.Native.Nat.{◌≤◌}
use mathlib.Core.List.{◌++◌}
use native.Mathlib.Omega.{arith}
use lib.ListN.{length}
use Rattle.byte_writer.specs.Places.{most}
use Rattle.byte_writer.proofs.Laws.{writes_then, writes_as}
use Rattle.lines.specs.Ascii.{ascii}
use Rattle.lines.specs.Fields.{column}
use Rattle.event_lines.proofs.Threes.{one_by_one}
use Rattle.listed.specs.Listed.{game_line}
use Rattle.listed.proofs.write_game.Goals as goal

pub returns : goal.returns
unfolding game_line
returns c =
    let l : length c.args.out.now ≤ most = omega (arith, c.well_formed.0.0) in
    let h = c.args.h in
    writes_then l
    (writes_as
    (one_by_one (ascii "game" ++ column h.version ++ column h.height ++ column h.width)
    h.mine_num h.rtime_ms.0 c.args.events)
    (writes_then l
    (writes_as (one_by_one (ascii "game") h.version h.height h.width)
    (writes_then l c.write_bytes-version.ensures (λ m. c.write_columns-mines.ensures)))
    (λ m. c.write_columns-end.ensures)))
    (λ m. c.write_u8.ensures)
