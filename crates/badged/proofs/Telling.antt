-- Lines that are told one part behind the other. Assumes nothing.
--     tells_then   fields before a line and its fate
--     tells_as     the line of a badge that is known
use Prim.Native.Nat.{ℕ, ◌≤◌}
use mathlib.Core.Path.{◌≡◌, subst}
use mathlib.Core.List.{List, ◌++◌}
use lib.ListN.{length}
use Rattle.byte_writer.specs.Places.{most, Writes}
use Rattle.byte_writer.proofs.Laws.{writes_then}
use Rattle.tally.specs.declared.Fate.{Fate}
use Rattle.file_badge.specs.declared.FileBadge.{FileBadge}
use Rattle.badged.specs.declared.BadgedLine.{BadgedLine}
use Rattle.badged.specs.Lines.{line_of, fate_of, Tells}

pub tells_then : {d d' d'' : List ℕ} {at m : ℕ} {e f : List ℕ} {fate : Fate} {r : BadgedLine}
    → length d ≤ most → Writes d d' at e m → Tells d' d'' m f fate r → Tells d d'' at (e ++ f) fate r
tells_then l w t = record { written = writes_then l w (λ l. t.written); fate_is = t.fate_is }

pub tells_as : {d d' : List ℕ} {at : ℕ} {r : BadgedLine} {b b' : FileBadge} → b ≡ b'
    → Tells d d' at (line_of b) (fate_of b) r → Tells d d' at (line_of b') (fate_of b') r
tells_as {d} {d'} {at} {r} e t = subst (λ (b : FileBadge). Tells d d' at (line_of b) (fate_of b) r) e t
