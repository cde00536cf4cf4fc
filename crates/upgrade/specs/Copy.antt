-- What an upgrade answers, and what it leaves in the lent buffers (01, "Version 4 writer and upgrade",
-- Refusal 13), by a rule (02, note 5). Definitions only.
use Rattle.std.specs.Prelude.{ℕ, ◌≡◌, Bool, cond, List, eqb, ℤ, length}
use Rattle.game.specs.declared.Event.{Event}
use Rattle.game.specs.declared.Header.{Header}
use Rattle.game.specs.Refusals.{already_version4}
use Rattle.game.specs.Same.{Game}
use Rattle.evf_video.specs.Reading.{Reading, game, none, reading_of, game_read}
use Rattle.evf_video.specs.Parsed.{parse_of, board_then, row_then}
use Rattle.generate_evf.specs.declared.Written.{Written}
use Rattle.generate_evf.specs.declared.Written.TheVariants.{Bytes, Refused, Short}
use Rattle.generate_evf.specs.Written.{written_of, file_then, refused_with}

-- version 4, which is not upgraded
abbrev pub is_new : Header → Bool
is_new h = eqb h.version 4

module _ (rule : ℕ) where
  -- What becomes of a game that was read: version 4 is 13, and any other is written as the version 4 writer
  -- writes it, who begins with 26.
  abbrev pub game_copied : Game → (room : ℕ) → Written
  game_copied g room = cond (is_new g.header) (refused_with already_version4) (written_of rule 4 g room)

  -- the lent copy then; as it was where the upgrade is refused
  abbrev pub game_copy : Game → (copy : List ℕ) → List ℕ
  game_copy g copy = cond (is_new g.header) copy (file_then rule 4 g copy)

  -- the same of a reading: a refused one keeps its number
  abbrev pub copied_by : (file : List ℕ) → Reading → (room : ℕ) → Written
  copied_by file (game h board es) room = game_copied (game_read file h board es) room
  copied_by file (none n) room = refused_with n

  abbrev pub copy_by : (file : List ℕ) → Reading → (copy : List ℕ) → List ℕ
  copy_by file (game h board es) copy = game_copy (game_read file h board es) copy
  copy_by file (none n) copy = copy

-- what `upgrade` promises of its answer, of each cell, of each entry and of each byte: board and row are as
-- reading leaves them, so refused before 13 they are as they were, and from 13 on they hold the game read
pub record Upgrades (file : List ℕ) (board : List ℤ) (row : List Event) (copy : List ℕ) (rule : ℕ)
    (answer : Written) (board' : List ℤ) (row' : List Event) (copy' : List ℕ) : Type 0 where
  pub answer_is : answer ≡ copied_by rule file (parse_of file (length board) (length row)) (length copy)
  pub board_is : board' ≡ board_then file (parse_of file (length board) (length row)) board
  pub row_is : row' ≡ row_then (parse_of file (length board) (length row)) row
  pub copy_is : copy' ≡ copy_by rule file (parse_of file (length board) (length row)) copy

-- One number for an answer: the refusal's, the length, or the length that would be needed.
abbrev pub told_by : Written → ℕ
told_by (Bytes n) = n
told_by (Refused k) = k
told_by (Short n) = n

-- No file of version 4 is shorter: so a number below this is a refusal; above the lent copy's length nothing
-- was written, which is 23; else it is the length. (`apart` in proofs/Numbers.antt; an upgrade's copy has 53
-- bytes or more, since its software has a name or a translation.)
abbrev pub shortest_copy : ℕ
shortest_copy = 51

-- what the upgrade without board and row promises: there is nothing that 11 and 12 could be told of
pub record Copies (file copy : List ℕ) (rule answer : ℕ) (copy' : List ℕ) : Type 0 where
  pub answer_is : answer ≡ told_by (copied_by rule file (reading_of file) (length copy))
  pub copy_is : copy' ≡ copy_by rule file (reading_of file) copy
