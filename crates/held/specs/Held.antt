-- What the calls that hold their own row promise: what `parse` and `upgrade` do with a row of so many
-- entries, whatever stood in it. The answer has the form that a call gives it: the whole answer, or one
-- number for it. Definitions only.
use Rattle.std.specs.Prelude.{ℕ, ◌≡◌, List, ℤ, length}
use Rattle.evf_video.specs.Reading.{Reading}
use Rattle.evf_video.specs.Parsed.{parse_of, board_then}
use Rattle.generate_evf.specs.declared.Written.{Written}
use Rattle.upgrade.specs.Copy.{copied_by, copy_by}

module _ {A : Type 0} where
  -- the reading of a file into a board, with a row of so many entries
  pub record ReadsHeld (form : Reading → A) (entries : ℕ) (file : List ℕ) (board : List ℤ) (answer : A)
      (board' : List ℤ) : Type 0 where
    pub answer_is : answer ≡ form (parse_of file (length board) entries)
    pub board_is : board' ≡ board_then file (parse_of file (length board) entries) board

  -- the upgrade of a file into a copy by a rule, the game read into a board, with a row of so many entries
  pub record UpgradesHeld (form : Written → A) (entries : ℕ) (file : List ℕ) (board : List ℤ) (copy : List ℕ)
      (rule : ℕ) (answer : A) (board' : List ℤ) (copy' : List ℕ) : Type 0 where
    pub answer_is : answer ≡ form (copied_by rule file (parse_of file (length board) entries) (length copy))
    pub board_is : board' ≡ board_then file (parse_of file (length board) entries) board
    pub copy_is : copy' ≡ copy_by rule file (parse_of file (length board) entries) copy

-- an answer as it is
abbrev pub whole : Written → Written
whole answer = answer
