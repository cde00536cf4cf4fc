-- THE NO-FLAG BADGE UNDER BOTH RULES (02, note 7): whether a game earned it, and what a call answers and
-- leaves. Which rule a wish means is said in badge_rules/specs/Rules.antt; kinds by place are those of
-- buttons/specs/Chords.antt, the game is that of machine/specs/Machine.antt. Definitions only.
use Rattle.std.specs.Prelude.{ℕ, ◌≡◌, Bool, false, not, ◌&&◌, List, ℤ, length, get_or, take}
use Rattle.board.specs.Geometry.{mine_at}
use Rattle.flood.specs.Spread.{some}
use Rattle.rows.specs.Rows.{no_event}
use Rattle.game.specs.declared.Event.{Event}
use Rattle.game.specs.declared.Event.TheVariants.{Mouse, State}
use Rattle.game.specs.declared.MouseKind.TheVariants.{Rc}
use Rattle.game.specs.declared.Header.{Header}
use Rattle.game.specs.Checks.{Check, first_of}
use Rattle.buttons.specs.Chords.{is_kind, kind_at}
use Rattle.moves.specs.Clicks.{is_on, cell_under}
use Rattle.machine.specs.Machine.{Game, is_uncovered, is_undecided, cell_at, played}
use Rattle.playing.specs.Play.{sizes_of, checks, cells_left}
use Rattle.badge_rules.specs.declared.Rule.{Rule}
use Rattle.badge_rules.specs.declared.Rule.TheVariants.{Older, Newer}
use Rattle.badge_rules.specs.declared.Wish.{Wish}
use Rattle.badge_rules.specs.declared.Award.{Award}
use Rattle.badge_rules.specs.declared.Award.TheVariants.{Judged, Refused}
use Rattle.badge_rules.specs.Rules.{rule_of}

-- THE OLDER RULE: no entry of the row is an rc, on the board or off it, before the game's end or after it
unfoldable pub older_earned : List Event → Bool
older_earned row = not (some (kind_at row Rc) (length row))

-- THE NEWER RULE: h rows of w cells, each so many pixels wide and high, with these mines
module _ (mine : ℕ → Bool) (h w pixels : ℕ) where
  -- an event falls, the game being undecided, on a cell of the board that is covered or flagged
  abbrev pub on_covered : Game → Event → Bool
  on_covered g (Mouse t kind x y) =
      is_undecided g.verdict
      && (is_on h w pixels x y && not (is_uncovered (cell_at g.cells (cell_under h w pixels x y))))
  on_covered g (State t s) = false

  -- an event spoils the badge: an rc that falls so, which sets a flag or lifts one; a pf never does
  abbrev pub spoils : Game → Event → Bool
  spoils g e = is_kind Rc e && on_covered g e

  -- the entry at place i spoils the badge in the game after the first i entries
  abbrev pub spoiled_at : List Event → ℕ → Bool
  spoiled_at row i = spoils (played mine h w pixels (take i row)) (get_or row i no_event)

  -- no entry does
  unfoldable pub newer_earned : List Event → Bool
  newer_earned row = not (some (spoiled_at row) (length row))

-- a game's header, its lent board, its row and the lent cells
module _ (h : Header) (board : List ℤ) (row : List Event) (cells : List ℕ) where
  abbrev pub newer_verdict : Bool
  newer_verdict = newer_earned (mine_at board) h.height h.width h.cell_pixel_size row

  -- what playing this game refuses, in checking order: 15, 17, 24, 27, 28
  abbrev pub game_checks : List Check
  game_checks = checks (sizes_of h) h.cell_pixel_size board row cells

  -- the verdict beside the header's bit, unjudged. The older rule refuses nothing, the newer as playing does
  abbrev pub award_under : Rule → Award
  award_under Older = Judged (older_earned row) h.nf
  award_under Newer = first_of (Judged newer_verdict h.nf) Refused game_checks

  -- the lent cells: the older rule changes none, the newer leaves them as playing does
  abbrev pub left_under : Rule → List ℕ
  left_under Older = cells
  left_under Newer = cells_left (sizes_of h) h.cell_pixel_size board row cells

-- THE ANSWER to a wish, and the lent cells then
module _ (wish : Wish) (h : Header) (board : List ℤ) (row : List Event) (cells : List ℕ) where
  unfoldable pub award_of : Award
  award_of = award_under h board row cells (rule_of wish h.version)

  unfoldable pub cells_awarded : List ℕ
  cells_awarded = left_under h board row cells (rule_of wish h.version)

-- what `badge` promises: its answer and every lent entry
pub record Awards (wish : Wish) (h : Header) (board : List ℤ) (row : List Event) (before : List ℕ)
    (r : Award) (after : List ℕ) : Type 0 where
  pub is : r ≡ award_of wish h board row before
  pub cells : after ≡ cells_awarded wish h board row before
