-- `board_text::write_row` meets its contract. The invariant: the first c cells are written. Assumes nothing.
use Prim.Native.Nat.{◌+◌}
use Rattle.lists.specs.Lists.{each}
use Rattle.byte_writer.specs.Places.{Writes}
use Rattle.board_text.specs.Rows.{char_at}
use Rattle.board_text.proofs.write_row.Given as goal

abbrev pub invariant-loop-c : goal.invariant-loop-c
invariant-loop-c l =
    Writes l.initial.out l.out l.at (each l.c (λ k. char_at l.board (l.start + k))) l.to
