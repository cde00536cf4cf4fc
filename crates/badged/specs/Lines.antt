-- The line that `evf badge` prints for a file, but for its name, and what becomes of the file (02, note 7).
-- Fields are parted by tabs. Definitions only.
use Rattle.std.specs.Prelude.{ℕ, ◌≡◌, Bool, cond, not, List, [], ◌∷◌, ◌++◌, ℤ}
use Rattle.lines.specs.Ascii.{ascii}
use Rattle.lines.specs.Fields.{tab, newline}
use Rattle.byte_writer.specs.Places.{Writes}
use Rattle.words.specs.Words.{refused_line}
use Rattle.tally.specs.declared.Fate.{Fate}
use Rattle.tally.specs.declared.Fate.TheVariants.{Done, Differs, Refused as Lost}
use Rattle.badge_rules.specs.declared.Rule.{Rule}
use Rattle.badge_rules.specs.declared.Rule.TheVariants.{Older, Newer}
use Rattle.badge_rules.specs.declared.Wish.{Wish}
use Rattle.badge_rules.specs.declared.Award.{Award}
use Rattle.badge_rules.specs.declared.Award.TheVariants.{Judged, Refused}
use Rattle.file_badge.specs.declared.FileBadge.{FileBadge}
use Rattle.file_badge.specs.declared.FileBadge.TheVariants.{Read, Unread}
use Rattle.file_badge.specs.FileBadge.{file_badge}
use Rattle.badged.specs.declared.BadgedLine.{BadgedLine}

-- A FILE THAT IS READ

-- the word of a rule
abbrev pub rule_word : Rule → List ℕ
rule_word Older = ascii "older rule"
rule_word Newer = ascii "newer rule"

-- what stands before a verdict
abbrev pub rule_fields : Rule → List ℕ
rule_fields rule = ascii "badge" ++ tab ∷ rule_word rule ++ tab ∷ []

-- whether the badge is earned, and whether the file's own bit claims it
abbrev pub earned_word : Bool → List ℕ
earned_word earned = cond earned (ascii "earned") (ascii "not earned")

abbrev pub claimed_word : Bool → List ℕ
claimed_word claimed = cond claimed (ascii "claimed") (ascii "not claimed")

-- the two agree: both are so, or neither is
abbrev pub agree : (earned claimed : Bool) → Bool
agree earned claimed = cond earned claimed (not claimed)

abbrev pub agree_word : (earned claimed : Bool) → List ℕ
agree_word earned claimed = cond (agree earned claimed) (ascii "agrees") (ascii "differs")

-- a verdict beside the file's bit, or the refusal of the newer rule
abbrev pub award_fields : Award → List ℕ
award_fields (Judged earned claimed) =
    earned_word earned ++ tab ∷ claimed_word claimed ++ tab ∷ agree_word earned claimed ++ newline ∷ []
award_fields (Refused n) = refused_line n

-- what becomes of the file
abbrev pub award_fate : Award → Fate
award_fate (Judged earned claimed) = cond (agree earned claimed) Done Differs
award_fate (Refused n) = Lost

-- ANY FILE: one that cannot be read has no rule

abbrev pub line_of : FileBadge → List ℕ
line_of (Read rule award) = rule_fields rule ++ award_fields award
line_of (Unread n) = refused_line n

abbrev pub fate_of : FileBadge → Fate
fate_of (Read rule award) = award_fate award
fate_of (Unread n) = Lost

-- the line of a file under a wish, with a lent board and lent cells, and what becomes of the file
module _ (wish : Wish) (file : List ℕ) (board : List ℤ) (cells : List ℕ) where
  unfoldable pub badged_line : List ℕ
  badged_line = line_of (file_badge file board cells wish)

  unfoldable pub badged_fate : Fate
  badged_fate = fate_of (file_badge file board cells wish)

-- what `write_badged` promises: a line into the buffer d from `at` on, which left d', and what it says
pub record Tells (d d' : List ℕ) (at : ℕ) (line : List ℕ) (fate : Fate) (r : BadgedLine) : Type 0 where
  pub written : Writes d d' at line r.to
  pub fate_is : r.fate ≡ fate
