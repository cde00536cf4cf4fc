-- `played::write_seen_row` meets its contract. The invariant: the first c cells are written. Assumes nothing.
use Prim.Native.Nat.{◌+◌}
use Rattle.lists.specs.Lists.{each}
use Rattle.byte_writer.specs.Places.{Writes}
use Rattle.played.specs.Seen.{seen_at}
use Rattle.played.proofs.write_seen_row.Given as goal

abbrev pub invariant-loop-c : goal.invariant-loop-c
invariant-loop-c l =
    Writes l.initial.out l.out l.at (each l.c (λ k. seen_at l.board l.cells (l.start + k))) l.to
