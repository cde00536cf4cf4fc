-- `SameGame` is an equivalence: each field is. And what it says of the custom metrics. Assumes nothing.
use mathlib.Core.Path.{◌≡◌, sym, ◌∙◌}
use borrow.Author.Rules.{rules}
use Rattle.game.specs.Same.{Game, block_of, SameGame}

pub same_refl : (g : Game) → SameGame g g
same_refl g = search rules

pub same_sym : (g k : Game) → SameGame g k → SameGame k g
same_sym g k s = search sym

pub same_trans : (g k l : Game) → SameGame g k → SameGame k l → SameGame g l
same_trans g k l s t = search (◌∙◌)

-- the same games have as many custom metrics, in a block of the same bytes
pub same_metrics : (g k : Game) → SameGame g k
    → (g.header.metrics_count ≡ k.header.metrics_count) × (block_of g ≡ block_of k)
same_metrics g k s = (s.metrics_count, s.metrics)
