-- A file read and written again as version 4 (02, note 3): what `resave` answers, and what it leaves in the
-- lent copy, by a rule (02, note 5). Definitions only.
use Rattle.std.specs.Prelude.{ℕ, ◌≡◌, List, length}
use Rattle.evf_video.specs.Reading.{Reading, game, none, reading_of, game_read}
use Rattle.generate_evf.specs.declared.Written.{Written}
use Rattle.generate_evf.specs.Written.{written_of, file_then, refused_with}
use Rattle.upgrade.specs.Copy.{told_by}

module _ (rule : ℕ) where
  -- A game that was read is written as the version 4 writer writes it, whatever version it came from; a
  -- refused reading keeps its number.
  abbrev pub resaved_by : (file : List ℕ) → Reading → (room : ℕ) → Written
  resaved_by file (game h board es) room = written_of rule 4 (game_read file h board es) room
  resaved_by file (none n) room = refused_with n

  -- the lent copy then; as it was where the call is refused
  abbrev pub resave_by : (file : List ℕ) → Reading → (copy : List ℕ) → List ℕ
  resave_by file (game h board es) copy = file_then rule 4 (game_read file h board es) copy
  resave_by file (none n) copy = copy

-- what `resave` promises of its answer and of each byte
pub record Resaves (file copy : List ℕ) (rule : ℕ) (answer : Written) (copy' : List ℕ) : Type 0 where
  pub answer_is : answer ≡ resaved_by rule file (reading_of file) (length copy)
  pub copy_is : copy' ≡ resave_by rule file (reading_of file) copy

-- and `evf_resave`, whose answer is one number (`told_by` of upgrade/specs/Copy.antt)
pub record ResavesTold (file copy : List ℕ) (rule answer : ℕ) (copy' : List ℕ) : Type 0 where
  pub answer_is : answer ≡ told_by (resaved_by rule file (reading_of file) (length copy))
  pub copy_is : copy' ≡ resave_by rule file (reading_of file) copy
