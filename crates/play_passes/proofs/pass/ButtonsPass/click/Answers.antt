-- A code presses alike in all versions. Assumes nothing.
use Rattle.std.proofs.Common.{refl, sym, ap, ◌∙◌}
use Rattle.buttons.specs.declared.Buttons.{Buttons}
use Rattle.buttons.specs.Pressing.{pressed_kind}
use Rattle.play_passes.proofs.OldCodes.{presses_same}
use Rattle.play_passes.proofs.pass.ButtonsPass.click.Goals as goal

pub returns : goal.returns
returns c =
    let a = c.args in (
      λ version t. ap (λ (b : Buttons). (b, a._cells.now))
          (c.press_kind.ensures ∙ ap (pressed_kind a.self) c.from.ensures
          ∙ sym (presses_same version a.code a.self)),
      refl,
    )
