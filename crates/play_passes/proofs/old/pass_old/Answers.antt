-- A record more, and the end by each way out. Assumes nothing.
use Rattle.std.proofs.Common.{◌+◌, ◌-◌, ◌∙◌, refl, arith}
use Rattle.times.specs.Times.{seconds_of}
use Rattle.record_fields.specs.Fields.{field}
use Rattle.play_passes.proofs.OldCodes.{here, goes-next, goes_over, goes_none}
use Rattle.play_passes.proofs.old.pass_old.Goals as goal

pub returns-in_default : goal.returns-in_default
returns-in_default g c =
    goes_over _ _ c.loop.invariant.0 c.args.c c.requires refl c.in_default.ensures refl

pub record_at-p-requires : goal.record_at-p-requires
record_at-p-requires g c = (here _ _ c.in-Some.ensures.0 c.in-Some.ensures.1).inside

pub overflow_add-at : goal.overflow_add-at
overflow_add-at g c = omega (arith, (here _ _ c.in-Some.ensures.0 c.in-Some.ensures.1).inside)

pub loop-preserved : goal.loop-preserved
loop-preserved g c =
    let l = c.loop in
    let a = c.args in
    let file = a.file.now in
    let taken = c.record_at-p.ensures in (
      goes-next (g.P.Pass.after a.board.now) file (a.most - l.counter) (a.most - (l.counter + 1)) _
          (omega arith) c.in-Some.ensures.0 c.in-Some.ensures.1
          (λ version. taken.0 version (seconds_of (field 3 file (l.at + 1)))) l.invariant.0,
      taken.1 ∙ l.invariant.1,
    )

pub returns : goal.returns
returns g c = goes_none _ _ c.loop.invariant.0 c.args.c c.requires refl (omega arith)
