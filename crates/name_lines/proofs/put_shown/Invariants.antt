-- `name_lines::put_shown` meets its contract. The invariant: the first i bytes are stored as they are shown,
-- and nothing else. Assumes nothing.
use mathlib.Core.Path.{◌≡◌}
use lib.ListN.{take}
use lib.Seq.{sets}
use Rattle.name_lines.specs.Shown.{shown_name}
use Rattle.name_lines.proofs.put_shown.Given as goal

abbrev pub invariant-loop-i : goal.invariant-loop-i
invariant-loop-i l = l.out ≡ sets l.initial.out l.at (take l.i (shown_name l.name))
