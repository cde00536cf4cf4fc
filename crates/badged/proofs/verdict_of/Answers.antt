-- `badged::verdict_of` meets its contract: by both bits. Assumes nothing.
use mathlib.Core.Path.{refl}
use Rattle.badged.specs.Pieces.{pieces, piece_at}
use Rattle.badged.proofs.verdict_of.Goals as goal

pub returns-in-false-true : goal.returns-in-false-true
unfolding pieces piece_at
returns-in-false-true c =
    let known = c.in-false-true in
    rw (known.is-0, known.is-1) (record { piece_is = refl; fate_is = refl })

pub returns-in-false-false : goal.returns-in-false-false
unfolding pieces piece_at
returns-in-false-false c =
    let known = c.in-false-false in
    rw (known.is-0, known.is-1) (record { piece_is = refl; fate_is = refl })
