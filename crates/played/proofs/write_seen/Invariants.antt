-- `played::write_seen` meets its contract. The invariant: the first rows are written. Assumes nothing.
use Rattle.byte_writer.specs.Places.{Writes}
use Rattle.played.specs.Seen.{seen_text}
use Rattle.played.proofs.write_seen.Given as goal

abbrev pub invariant-loop-row : goal.invariant-loop-row
invariant-loop-row l =
    Writes l.initial.out l.out l.at (seen_text l.board l.cells l.width l.row) l.to
