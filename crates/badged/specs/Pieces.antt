-- What the private functions promise: the texts of the table by their place. Definitions only.
use Rattle.std.specs.Prelude.{ℕ, ◌≡◌, Bool, true, false, List, [], ◌∷◌, get_or}
use Rattle.badge_rules.specs.declared.Rule.TheVariants.{Older, Newer}
use Rattle.badge_rules.specs.declared.Award.TheVariants.{Judged}
use Rattle.badged.specs.declared.Verdict.{Verdict}
use Rattle.badged.specs.Lines.{rule_fields, award_fields, award_fate}

-- the fields before a verdict, by the rule; then the verdicts
unfoldable pub pieces : List (List ℕ)
pieces =
    rule_fields Older ∷ rule_fields Newer
    ∷ award_fields (Judged false false) ∷ award_fields (Judged true false)
    ∷ award_fields (Judged false true) ∷ award_fields (Judged true true)
    ∷ []

unfoldable pub piece_at : ℕ → List ℕ
piece_at k = get_or pieces k []

-- the text of a verdict and what becomes of its file
pub record TellsVerdict (earned claimed : Bool) (r : Verdict) : Type 0 where
  pub piece_is : piece_at r.piece ≡ award_fields (Judged earned claimed)
  pub fate_is : r.fate ≡ award_fate (Judged earned claimed)
