-- THE STEPS ARE THE CALLS: a row judged entry by entry, then `size_of`, or `prepare` and the row written
-- entry by entry, come to what the definitions say of the whole game. Statements only; proofs/Whole.antt
-- proves them.
use Rattle.std.specs.Prelude.{ℕ, ◌≤◌, ◌≡◌, List, ℤ, length}
use Rattle.game.specs.declared.Header.{Header}
use Rattle.game.specs.declared.Event.{Event}
use Rattle.byte_writer.specs.Places.{most}
use Rattle.evf_records.specs.Steps.{unseen, seen_by, put_by}
use Rattle.layout_fields.specs.Fields.{lent}
use Rattle.generate_evf.specs.Written.{size_of, written_of, file_then}
use Rattle.generate_evf.specs.Steps.{size_seen, ready_of, around_of}

module _ (version rule : ℕ) (h : Header) (s : List ℕ) (d : List ℤ) (ys : List Event) where
  -- sizing by steps answers what `size_v3` and `size_v4` do
  abbrev pub SizedAlike : Type 0
  SizedAlike = size_seen h s d (seen_by (unseen version rule) ys) ≡ size_of rule version (lent h s d ys)

  -- writing by steps answers what the writers do, whatever file w is lent
  abbrev pub WrittenAlike : Type 0
  WrittenAlike =
      (w : List ℕ) → length w ≤ most
      → (ready_of h s d (seen_by (unseen version rule) ys) w).written ≡ written_of rule version (lent h s d ys)
      (length w)

  -- and leaves the same bytes in it
  abbrev pub FileAlike : Type 0
  FileAlike =
      (w : List ℕ) → length w ≤ most
      → (put_by (ready_of h s d (seen_by (unseen version rule) ys) w).run
      (around_of h s d (seen_by (unseen version rule) ys) w) ys).1
      ≡ file_then rule version (lent h s d ys) w
