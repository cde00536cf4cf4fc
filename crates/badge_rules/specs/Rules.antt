-- Which rule of the no-flag badge holds for a game, and the number of an answer (02, note 7). Definitions only.
use Rattle.std.specs.Prelude.{ℕ, cond, leb}
use Rattle.badge_rules.specs.declared.Rule.{Rule}
use Rattle.badge_rules.specs.declared.Rule.TheVariants.{Older, Newer}
use Rattle.badge_rules.specs.declared.Wish.{Wish}
use Rattle.badge_rules.specs.declared.Wish.TheVariants.{Version, Under}
use Rattle.badge_rules.specs.declared.Award.{Award}
use Rattle.badge_rules.specs.declared.Award.TheVariants.{Judged, Refused}

-- which rule a wish means for a game of a version: versions 0 to 3 have the older, any other the newer
abbrev pub rule_of : Wish → (version : ℕ) → Rule
rule_of Version version = cond (leb version 3) Older Newer
rule_of (Under rule) version = rule

-- the number of an answer: that of its refusal, 0 where it has none
abbrev pub number_of : Award → ℕ
number_of (Judged earned claimed) = 0
number_of (Refused n) = n
