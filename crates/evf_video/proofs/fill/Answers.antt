-- A turn that gave an event stores it and goes on; one that gave none leaves the row as it stands.
use Rattle.std.proofs.Common.{◌≡◌, true, false, rules, ◌++◌, ◌<◌, length, take, sym, ap, ◌∙◌, arith, List}
use Rattle.std.proofs.Math.ListN.{take-append-drop}
use Rattle.std.proofs.lemmas.List.{set-get_or}
use Rattle.game.specs.declared.Event.{Event}
use Rattle.rows.proofs.Turns.{went-row, went-state, stopped-row, stopped-state}
use Rattle.evf_video.specs.declared.Took.{Took}
use Rattle.evf_video.specs.Turns.{took_of}
use Rattle.evf_video.proofs.fill.Goals as goal

pub loop-entry-preserved : goal.loop-entry-preserved
loop-entry-preserved c =
    let l = c.loop-entry in
    let t = c.take-t in
    let lt : l.entry-index < length l.row = omega arith in
    let more : t.result.more ≡ true = search (rules, c.if-not-t.false) in
    record {
      state = l.invariant.state
          ∙ went-state (λ (k : Took). k.more) (λ (k : Took). k.event) (λ (k : Took). k.run) took_of
          c.args.file.now l.run l.row l.entry-index lt t.result t.ensures more;
      entries = l.invariant.entries
          ∙ went-row (λ (k : Took). k.more) (λ (k : Took). k.event) (λ (k : Took). k.run) took_of
          c.args.file.now l.run l.row l.entry-index lt t.result t.ensures more;
    }

pub returns-then-not-t : goal.returns-then-not-t
returns-then-not-t c =
    let l = c.loop-entry in
    let t = c.take-t in
    let lt : l.entry-index < length l.row = omega arith in
    let none : t.result.more ≡ false = search (rules, c.if-not-t.true) in (
      sym (l.invariant.state
          ∙ stopped-state (λ (k : Took). k.more) (λ (k : Took). k.event) (λ (k : Took). k.run) took_of
          c.args.file.now l.run l.row l.entry-index lt t.result t.ensures none),
      set-get_or l.row l.entry-index _
          ∙ sym (l.invariant.entries
          ∙ ap (λ (ws : List Event). take l.entry-index l.row ++ ws)
          (stopped-row (λ (k : Took). k.more) (λ (k : Took). k.event) (λ (k : Took). k.run) took_of
          c.args.file.now l.run l.row l.entry-index lt t.result t.ensures none)
          ∙ take-append-drop l.entry-index l.row),
    )
