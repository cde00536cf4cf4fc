-- `framing::repeat` meets its contract. The invariant: the unit stands as often as the loop has run, and the
-- next one goes behind.
use Rattle.std.proofs.Common.{◌≡◌, ◌+◌, ◌*◌, length}
use Rattle.std.proofs.lemmas.List.Edits.{sets}
use Rattle.framing.specs.Expanding.{repeated}
use Rattle.framing.proofs.repeat.Given as goal

abbrev pub invariant-loop : goal.invariant-loop
invariant-loop l =
    (l.at ≡ l.from + l.counter * length l.unit) × (l.out ≡ sets l.initial.out l.from (repeated l.counter l.unit))
