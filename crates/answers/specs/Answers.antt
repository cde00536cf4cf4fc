-- What the one number of an upgrade or of a re-save means. Definitions only.
use Rattle.std.specs.Prelude.{ℕ, ◌≡◌, cond, List, leb, ltb, length}
use Rattle.io.specs.Counts.{IsPrefixLen}
use Rattle.game.specs.Refusals.{file_buffer_short}
use Rattle.upgrade.specs.Copy.{shortest_copy, Copies}
use Rattle.resave.specs.Resaved.{ResavesTold}
use Rattle.answers.specs.declared.Copying.{Copying}
use Rattle.answers.specs.declared.Copying.TheVariants.{Upgrade, Resave}
use Rattle.answers.specs.declared.Answer.{Answer}
use Rattle.answers.specs.declared.Answer.TheVariants.{Written, Refused, Short}

-- below the shortest copy it is a refusal; a length within the room was written, and no other
abbrev pub toldApart : (number room : ℕ) → Answer
toldApart number room =
    cond (ltb number shortest_copy) (Refused number)
    (cond (leb number room) (Written number) (Short number))

-- the number of 01 for each answer, 0 for none
abbrev pub answerNumber : Answer → ℕ
answerNumber (Written n) = 0
answerNumber (Refused k) = k
answerNumber (Short n) = file_buffer_short

-- a length that was written lies within the copy
abbrev pub Within : Answer → List ℕ → Type 0
Within (Written n) copy = IsPrefixLen n copy
Within (Refused k) copy = Unit {0}
Within (Short n) copy = Unit {0}

-- a call keeps what it promises of its one number, and the number is told apart
pub record Tells (promised : ℕ → Type 0) (copy : List ℕ) (r : Answer) (copy' : List ℕ) : Type 0 where
  pub number : ℕ
  pub kept : promised number
  pub answer_is : r ≡ toldApart number (length copy)
  pub within : Within r copy'

-- the copy is as the upgrade leaves it
abbrev pub TellsUpgrade : (file copy : List ℕ) → (rule : ℕ) → Answer → (copy' : List ℕ) → Type 0
TellsUpgrade file copy rule r copy' = Tells (λ n. Copies file copy rule n copy') copy r copy'

-- the copy is as the re-save leaves it
abbrev pub TellsResave : (file copy : List ℕ) → (rule : ℕ) → Answer → (copy' : List ℕ) → Type 0
TellsResave file copy rule r copy' = Tells (λ n. ResavesTold file copy rule n copy') copy r copy'

-- as either leaves it
abbrev pub TellsCopy : Copying → (file copy : List ℕ) → (rule : ℕ) → Answer → (copy' : List ℕ) → Type 0
TellsCopy Upgrade file copy rule r copy' = TellsUpgrade file copy rule r copy'
TellsCopy Resave file copy rule r copy' = TellsResave file copy rule r copy'
