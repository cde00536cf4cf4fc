-- `framed_games::signed_cell` meets its contract: from 128 on a byte is 256 more than its cell.
-- Assumes nothing.
use Rattle.std.proofs.Common.{ℕ, ◌≡◌, ◌∙◌, ◌-◌, ◌<◌, ◌≤◌, ap, refl, cond, true, false, arith}
use lib.IntN.{pos, negsuc}
use lib.Dec.{ltb}
use mir.Syntax.{w8}
use mir.Val.{SFits, to_z, of_z}
use mir.ValLaws.{to_z_pos, to_z-of_z, of_z-to_z}
use borrow.Author.Tests.{ltb-true, ltb-false}
use Rattle.framed_games.specs.Games.{signed_cell}
use Rattle.framed_games.proofs.signed_cell.Goals as goal

high : (b : ℕ) → 128 ≤ b → b < 256 → to_z w8 b ≡ negsuc (255 - b)
high b above small =
    let z = negsuc (255 - b) in
    let fits : SFits w8 z = record { sfits = omega arith } in
    let same : b ≡ of_z w8 z = omega arith in
    ap (to_z w8) same ∙ to_z-of_z w8 z fits

value : (b : ℕ) → b < 256 → to_z w8 b ≡ signed_cell b
unfolding signed_cell
value b small =
    (elim (ltb b 128) as (λ t. ltb b 128 ≡ t → to_z w8 b ≡ cond t (pos b) (negsuc (255 - b))) [
      | true ↦ λ e. to_z_pos w8 b (ltb-true b 128 e)
      | false ↦ λ e. high b (ltb-false b 128 e) small
    ])
    refl

pub returns : goal.returns
returns c =
    let b = c.args.b in
    ap (λ z. to_z w8 (of_z w8 z)) c.cast_signed.ensures ∙ ap (to_z w8) (of_z-to_z w8 b c.ranges.b)
    ∙ value b (omega arith)
