-- `framed_games::read_places` meets its contract: one place more. Assumes nothing.
use native.Mathlib.Numerals.{add-one}
use Rattle.byte_reader.proofs.Cursor.{gives_then, gives-read, gives-pure}
use Rattle.framed_games.specs.Layout.{places}
use Rattle.framed_games.proofs.read_places.Goals as goal

pub loop-place-init : goal.loop-place-init
unfolding places
loop-place-init c = gives-pure

pub loop-place-preserved : goal.loop-place-preserved
unfolding places
loop-place-preserved c =
    rw (add-one)
    (gives_then _ c.loop-place.invariant
    (gives_then _ (gives-read c.get_u64-start.ensures)
    (gives_then _ (gives-read c.get_u64-len.ensures) gives-pure)))
