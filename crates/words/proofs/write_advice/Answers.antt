-- `words::write_advice` meets its contract: the advice stands behind the words. Assumes nothing.
use Prim.Native.Nat.{ℕ, ◌+◌}
use mathlib.Core.Path.{ap, ◌∙◌}
use native.Mathlib.Omega.{arith}
use Rattle.byte_writer.proofs.Laws.{writes_as}
use Rattle.words.specs.Pieces.{piece_at}
use Rattle.words.proofs.Numbers.{placed}
use Rattle.words.proofs.write_advice.Goals as goal

pub overflow_add-place_of : goal.overflow_add-place_of
overflow_add-place_of c = omega (arith, c.place_of.ensures, (placed c.args.n).small)

pub returns : goal.returns
returns c =
    writes_as (ap (λ (k : ℕ). piece_at (k + 1)) c.place_of.ensures ∙ (placed _).advice_at)
    c.write_piece.ensures
