-- A file's game before its first event is judged, for the contracts of the code; no contract of `badge_file`
-- cites this. Definitions only.
use Rattle.std.specs.Prelude.{ℕ, ◌≡◌, List, ℤ}
use Rattle.text.specs.declared.Place.{Place}
use Rattle.game.specs.declared.Event.{Event}
use Rattle.game.specs.declared.Header.{Header}
use Rattle.file_play.specs.Starting.{StartsGame}
use Rattle.badge_rules.specs.declared.Rule.{Rule}
use Rattle.badge_rules.specs.declared.Rule.TheVariants.{Older, Newer}
use Rattle.badge.specs.declared.Judging.{Judging}
use Rattle.badge.specs.Judging.{older_judging, newer_judging}

-- a game of a file, the events of it that are to be judged, a lent board and lent cells, and both then
abbrev pub StartsJudging : Rule → (file : List ℕ) → Header → Place → List Event → List ℤ → List ℕ → Judging
    → List ℤ → List ℕ → Type 0
StartsJudging Older file h place es board cells r board' cells' =
    (r ≡ older_judging h.nf) × ((board' ≡ board) × (cells' ≡ cells))
StartsJudging Newer file h place es board cells r board' cells' =
    (r ≡ newer_judging r.position h.nf)
    × StartsGame file h place es board cells r.position board' cells'
