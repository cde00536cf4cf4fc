use mathlib.Core.Path.{◌≡◌, ◌∙◌, ap, subst}
use mathlib.Core.List.{List}
use Prim.Native.Nat.{ℕ, ◌+◌, ◌*◌}
use native.Mathlib.Omega.{arith}
use lib.ListN.{set}
use borrow.Author.Rules.{rules}
use Rattle.board.specs.Geometry.{mine_at}
use Rattle.flood.specs.Flood.{Uncovers}
use Rattle.flood.specs.Pile.{pushed}
use Rattle.flood.proofs.Piles.{push_first, put_back, put_is}
use Rattle.flood.proofs.Progress.{first-turn, progress-long, progress-top, progress-few}
use Rattle.flood.proofs.Progress.{next-turn, last_turn}
use Rattle.flood.proofs.flood_from.Goals as goal

pub loop-top-init : goal.loop-top-init
loop-top-init c =
    let first : let a = c.args in (c.push-top.new.work, c.push-top.result) ≡ pushed (a.work.now, a.height * a.width) a.k = let a = c.args in put_is _ _ _ c.push-top.ensures ∙ ap (λ (x : ℕ). pushed (a.work.now, x) a.k) c.cells_of-n.ensures.0 in
    let a = c.args in (
      first-turn (mine_at a.board.now) a.height a.width a.work.now a.k _ (omega arith)
          (omega arith) c.requires.k_value first,
      search rules,
    )

pub take_top-top-requires : goal.take_top-top-requires
take_top-top-requires c =
    let l = c.loop-top in
    let g = l.invariant.0 in
    record {
      width_in_bounds = (progress-long _ _ _ _ _ _ _ _ g, omega arith);
      piled = progress-top _ _ _ _ _ _ _ _ g (omega arith);
    }

pub overflow_add-took : goal.overflow_add-took
overflow_add-took c =
    let l = c.loop-top in
    let f = progress-few _ _ _ _ _ _ _ _ l.invariant.0 in
    omega arith

pub loop-top-smaller : goal.loop-top-smaller
loop-top-smaller c = let l = c.loop-top in (next-turn _ _ _ _ _ _ _ _ l.invariant.0
    _ (omega arith) c.take_top-top.ensures).1

pub loop-top-preserved : goal.loop-top-preserved
loop-top-preserved c = let l = c.loop-top
    in (
      (next-turn _ _ _ _ _ _ _ _ l.invariant.0 _ (omega arith) c.take_top-top.ensures).0,
      search rules,
    )

pub returns : goal.returns
returns c =
    let first : let a = c.args in (c.push-top.new.work, c.push-top.result) ≡ pushed (a.work.now, a.height * a.width) a.k = let a = c.args in put_is _ _ _ c.push-top.ensures ∙ ap (λ (x : ℕ). pushed (a.work.now, x) a.k) c.cells_of-n.ensures.0 in
    let origin : let a = c.args in set c.push-top.new.work a.k 0 ≡ a.work.now = let a = c.args in ap (λ (x : List ℕ × ℕ). set x.0 a.k 0) (first ∙ push_first (a.height * a.width) a.k a.work.now c.requires.k_value) ∙ put_back a.k (a.height * a.width + 3) a.work.now c.requires.k_value in
    let l = c.loop-top in
    let a = c.args in
    let g = last_turn _ _ _ _ _ _ _ _ l.invariant.0 (omega arith) in
    subst
    (λ (v : List ℕ). Uncovers (mine_at a.board.now) a.height a.width v a.k l.work
    l.took)
    origin g
