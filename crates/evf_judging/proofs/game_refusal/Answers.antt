-- `evf_judging::game_refusal` meets its contract. Assumes nothing.
use mathlib.Core.Path.{sym, ◌∙◌}
use Rattle.game.proofs.Sizes.{sized_fine}
use Rattle.evf_judging.proofs.game_refusal.Goals as goal

pub pixels_bad-requires : goal.pixels_bad-requires
pixels_bad-requires c =
    sized_fine c.args.h.height c.args.h.width (sym c.sizes_bad.ensures ∙ c.if-sizes_bad.false)
