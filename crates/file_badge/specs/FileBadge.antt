-- THE BADGE OF A FILE without a row: it is read, and `badge` is had of all its events (02, note 7). Definitions
-- only.
use Rattle.std.specs.Prelude.{ℕ, ◌*◌, ◌≡◌, Bool, cond, List, eqb, ltb, ℤ, length}
use Rattle.text.specs.declared.Place.{Place}
use Rattle.game.specs.declared.Event.{Event}
use Rattle.game.specs.declared.Header.{Header}
use Rattle.game.specs.Refusals.{board_buffer_short}
use Rattle.evf_video.specs.Reading.{Reading, game, none, reading_of}
use Rattle.file_play.specs.FilePlay.{board_read, board_by, cells_by}
use Rattle.badge_rules.specs.declared.Rule.{Rule}
use Rattle.badge_rules.specs.declared.Rule.TheVariants.{Older, Newer}
use Rattle.badge_rules.specs.declared.Wish.{Wish}
use Rattle.badge_rules.specs.declared.Wish.TheVariants.{Version, Under}
use Rattle.badge_rules.specs.declared.Award.{Award}
use Rattle.badge_rules.specs.declared.Award.TheVariants.{Judged, Refused}
use Rattle.badge_rules.specs.Rules.{rule_of}
use Rattle.badge.specs.Badge.{award_under}
use Rattle.file_badge.specs.declared.FileBadge.{FileBadge}
use Rattle.file_badge.specs.declared.FileBadge.TheVariants.{Read, Unread}

-- a file, a lent board and lent cells
module _ (file : List ℕ) (board : List ℤ) (cells : List ℕ) where
  -- a game of the file under a rule. The older needs no board; the newer refuses with 11 where the lent one is
  -- too short for the game's, and judges in the game's else
  abbrev pub game_badge : Rule → Header → Place → List Event → Award
  game_badge Older h place es = award_under h board es cells Older
  game_badge Newer h place es =
      cond (ltb (length board) (h.height * h.width)) (Refused board_buffer_short)
      (award_under h (board_read file h place board) es cells Newer)

  -- the lent board and the lent cells then: under the older rule as they were, under the newer as a play of all
  -- events leaves them
  abbrev pub board_under : Rule → Header → Place → List Event → List ℤ
  board_under Older h place es = board
  board_under Newer h place es = board_by file (length es) board cells (game h place es)

  abbrev pub entries_under : Rule → Header → Place → List Event → List ℕ
  entries_under Older h place es = cells
  entries_under Newer h place es = cells_by file (length es) board cells (game h place es)

  module _ (wish : Wish) where
    -- what is answered and left of a reading; one that is refused keeps its number, and nothing is changed
    abbrev pub badge_by : Reading → FileBadge
    badge_by (game h place es) =
        Read (rule_of wish h.version) (game_badge (rule_of wish h.version) h place es)
    badge_by (none n) = Unread n

    abbrev pub board_left_by : Reading → List ℤ
    board_left_by (game h place es) = board_under (rule_of wish h.version) h place es
    board_left_by (none n) = board

    abbrev pub cells_left_by : Reading → List ℕ
    cells_left_by (game h place es) = entries_under (rule_of wish h.version) h place es
    cells_left_by (none n) = cells

    -- A FILE
    unfoldable pub file_badge : FileBadge
    file_badge = badge_by (reading_of file)

    unfoldable pub board_judged : List ℤ
    board_judged = board_left_by (reading_of file)

    unfoldable pub cells_judged : List ℕ
    cells_judged = cells_left_by (reading_of file)

-- what `badge_file` promises: its answer, every cell of the lent board and every lent entry
pub record BadgesFile (wish : Wish) (file : List ℕ) (board : List ℤ) (cells : List ℕ) (r : FileBadge)
    (board' : List ℤ) (cells' : List ℕ) : Type 0 where
  pub is : r ≡ file_badge file board cells wish
  pub board_is : board' ≡ board_judged file board cells wish
  pub cells_is : cells' ≡ cells_judged file board cells wish

-- FOR HOSTS

-- the wish of a number: 0 the rule of the file's version, 1 the older, 2 the newer
abbrev pub wish_of : ℕ → Wish
wish_of n = cond (eqb n 0) Version (cond (eqb n 1) (Under Older) (Under Newer))

-- one number for an answer: that of the refusal, all of which are below 64; 64 where the badge is neither earned
-- nor claimed by the file, 65 earned, 66 claimed, 67 both
abbrev pub verdict_number : (earned claimed : Bool) → ℕ
verdict_number earned claimed = cond claimed (cond earned 67 66) (cond earned 65 64)

abbrev pub award_number : Award → ℕ
award_number (Judged earned claimed) = verdict_number earned claimed
award_number (Refused n) = n

abbrev pub host_number : FileBadge → ℕ
host_number (Read rule award) = award_number award
host_number (Unread n) = n

-- a number above 2 is no wish: 255, and nothing is changed
abbrev pub for_wish : {A : Type 0} → (wish : ℕ) → (unknown known : A) → A
for_wish wish unknown known = cond (ltb 2 wish) unknown known

-- what `evf_badge` promises
pub record HostBadges (file : List ℕ) (wish : ℕ) (board : List ℤ) (cells : List ℕ) (r : ℕ)
    (board' : List ℤ) (cells' : List ℕ) : Type 0 where
  pub is : r ≡ for_wish wish 255 (host_number (file_badge file board cells (wish_of wish)))
  pub board_is : board' ≡ for_wish wish board (board_judged file board cells (wish_of wish))
  pub cells_is : cells' ≡ for_wish wish cells (cells_judged file board cells (wish_of wish))
