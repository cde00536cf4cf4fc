-- A badge judged by steps over lent cells, for the contracts of the code; no contract of `badge` cites this.
-- Any cells are judged on, also those that no game comes to. Definitions only.
use Rattle.std.specs.Prelude.{ℕ, Bool, true, not, ◌&&◌, List, ℤ}
use Rattle.game.specs.declared.Event.{Event}
use Rattle.game.specs.declared.Event.TheVariants.{Mouse, State}
use Rattle.game.specs.declared.MouseKind.{MouseKind}
use Rattle.game.specs.declared.Header.{Header}
use Rattle.buttons.specs.declared.Buttons.{Buttons}
use Rattle.moves.specs.declared.Position.{Position}
use Rattle.moves.specs.Moves.{act_of, position_acted, cells_acted}
use Rattle.playing.specs.Play.{sizes_of}
use Rattle.playing.specs.Beginning.{begun_at, covered_at}
use Rattle.badge_rules.specs.declared.Rule.{Rule}
use Rattle.badge_rules.specs.declared.Rule.TheVariants.{Older, Newer}
use Rattle.badge_rules.specs.declared.Wish.{Wish}
use Rattle.badge_rules.specs.declared.Award.{Award}
use Rattle.badge_rules.specs.Rules.{rule_of}
use Rattle.badge_rules.specs.Steps.{no_board, is_rc, falls_covered, award_by}
use Rattle.badge.specs.declared.Judging.{Judging}

abbrev pub judging : Position → Rule → (earned claimed : Bool) → Judging
judging p rule earned claimed = record { position = p; rule = rule; earned = earned; claimed = claimed }

-- BEFORE THE FIRST EVENT

abbrev pub older_judging : (claimed : Bool) → Judging
older_judging claimed = judging no_board Older true claimed

abbrev pub newer_judging : Position → (claimed : Bool) → Judging
newer_judging first claimed = judging first Newer true claimed

-- a game that is to be judged under a rule, its row's buttons seen, and the lent cells then
module _ (h : Header) (board : List ℤ) (b : Buttons) (cells : List ℕ) where
  abbrev pub begun_under : Rule → Judging
  begun_under Older = older_judging h.nf
  begun_under Newer = newer_judging (begun_at (sizes_of h) h.cell_pixel_size board b cells) h.nf

  abbrev pub laid_under : Rule → List ℕ
  laid_under Older = cells
  laid_under Newer = covered_at (sizes_of h) h.cell_pixel_size board b cells

module _ (wish : Wish) (h : Header) (board : List ℤ) (b : Buttons) (cells : List ℕ) where
  unfoldable pub begun_judging : Judging
  begun_judging = begun_under h board b cells (rule_of wish h.version)

  unfoldable pub begun_cells : List ℕ
  begun_cells = laid_under h board b cells (rule_of wish h.version)

-- ONE EVENT

-- a click spoils the badge under a rule
abbrev pub spoiled_by : Rule → List ℕ → Position → MouseKind → (x y : ℕ) → Bool
spoiled_by Older cells p kind x y = is_rc kind
spoiled_by Newer cells p kind x y = is_rc kind && falls_covered cells p x y

-- the position and the lent cells behind it: under the older rule nothing is played
abbrev pub position_under : Rule → List ℤ → List ℕ → Position → MouseKind → (x y : ℕ) → Position
position_under Older board cells p kind x y = p
position_under Newer board cells p kind x y = position_acted board cells p (act_of kind) x y

abbrev pub cells_under : Rule → List ℤ → List ℕ → Position → MouseKind → (x y : ℕ) → List ℕ
cells_under Older board cells p kind x y = cells
cells_under Newer board cells p kind x y = cells_acted board cells p (act_of kind) x y

-- a click is judged before it is played
abbrev pub judged_click : List ℤ → List ℕ → Judging → MouseKind → (x y : ℕ) → Judging
judged_click board cells s kind x y =
    judging (position_under s.rule board cells s.position kind x y) s.rule
    (s.earned && not (spoiled_by s.rule cells s.position kind x y)) s.claimed

abbrev pub clicked_cells : List ℤ → List ℕ → Judging → MouseKind → (x y : ℕ) → List ℕ
clicked_cells board cells s kind x y = cells_under s.rule board cells s.position kind x y

-- what an event leaves
abbrev pub judged_after : List ℤ → List ℕ → Judging → Event → Judging
judged_after board cells s (Mouse t kind x y) = judged_click board cells s kind x y
judged_after board cells s (State t g) = s

abbrev pub cells_judged : List ℤ → List ℕ → Judging → Event → List ℕ
cells_judged board cells s (Mouse t kind x y) = clicked_cells board cells s kind x y
cells_judged board cells s (State t g) = cells

-- both, for a row
abbrev pub judged_by : List ℤ → Judging × List ℕ → Event → Judging × List ℕ
judged_by board s e = (judged_after board s.1 s.0 e, cells_judged board s.1 s.0 e)

-- the answer then
abbrev pub award_from : Judging → Award
award_from s = award_by s.position.stands s.earned s.claimed
