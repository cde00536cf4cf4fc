-- An event judged for the badge, under either rule. Assumes nothing.
--     judged_long    the lent cells keep their number
--     idle_judged    an idle code changes nothing
--     judged-same    what a code does is the same in versions 0 to 3
use Rattle.std.proofs.Common.{◌≡◌, ℕ, Bool, true, false, not, ◌&&◌, List, length, ℤ, sym, refl, ap, ◌∙◌}
use mathlib.Core.Bool.{and-true}
use Rattle.times.specs.Times.{seconds_of}
use Rattle.game.specs.declared.Event.{Event}
use Rattle.game.specs.declared.Event.TheVariants.{Mouse, State}
use Rattle.game.specs.declared.MouseKind.{MouseKind}
use Rattle.game.specs.Kinds.{kind_of}
use Rattle.records_v0_v3.specs.Records.{kind_in}
use Rattle.moves.specs.declared.Act.TheVariants.{Nothing}
use Rattle.moves.specs.declared.Position.{Position}
use Rattle.moves.specs.Moves.{act_of}
use Rattle.moves.proofs.Steps.{after-long}
use Rattle.badge_rules.specs.declared.Rule.{Rule}
use Rattle.badge_rules.specs.declared.Rule.TheVariants.{Older, Newer}
use Rattle.badge_rules.specs.Steps.{is_rc}
use Rattle.badge.specs.declared.Judging.{Judging}
use Rattle.badge.specs.Judging.{judging, spoiled_by, position_under, cells_under, judged_click}
use Rattle.badge.specs.Judging.{clicked_cells, judged_by}
use Rattle.play_passes.specs.OldCodes.{is_idle}
use Rattle.play_passes.proofs.OldCodes.{kind-same, idle_kind}

under_long : (board : List ℤ) (cells : List ℕ) (p : Position) (rule : Rule) (kind : MouseKind) (x y : ℕ)
    → length (cells_under rule board cells p kind x y) ≡ length cells
under_long board cells p Older kind x y = refl
under_long board cells p Newer kind x y = after-long board cells p (Mouse (seconds_of 0) kind x y)

pub judged_long : (board : List ℤ) (a : Judging × List ℕ) (e : Event)
    → length (judged_by board a e).1 ≡ length a.1
judged_long board a (Mouse t kind x y) =
    under_long board a.1 a.0.position a.0.rule kind x y
judged_long board a (State t g) = refl

-- A CLICK OF A KIND at a pixel, the rule apart
module _ (board : List ℤ) (cells : List ℕ) (p : Position) (earned claimed : Bool) (x y : ℕ) where
  abbrev leaves : Rule → MouseKind → Judging × List ℕ
  leaves rule kind = (
    judging (position_under rule board cells p kind x y) rule (earned && not (spoiled_by rule cells p kind x y))
        claimed,
    cells_under rule board cells p kind x y,
  )

  -- a kind that does nothing and is no rc
  idle-leaves : (rule : Rule) (kind : MouseKind) → act_of kind ≡ Nothing → is_rc kind ≡ false
      → (judging p rule earned claimed, cells) ≡ leaves rule kind
  idle-leaves Older kind nothing other = rw (other, and-true earned)
  idle-leaves Newer kind nothing other = rw (nothing, other, and-true earned)

  leaves-same : (rule : Rule) (version code : ℕ)
      → leaves rule (kind_in version code) ≡ leaves rule (kind_of code)
  leaves-same Older = kind-same (leaves Older) refl refl refl
  leaves-same Newer = kind-same (leaves Newer) refl refl refl

module _ (board : List ℤ) (cells : List ℕ) (s : Judging) where
  pub idle_judged : (code x y : ℕ) {b : Bool} → b ≡ is_idle code → b ≡ true
      → (s ≡ judged_click board cells s (kind_of code) x y)
      × (cells ≡ clicked_cells board cells s (kind_of code) x y)
  idle_judged code x y e t =
      let idle = idle_kind code e t in
      let same = idle-leaves board cells s.position s.earned s.claimed x y s.rule (kind_of code)
      idle.0 idle.1 in
      (ap (λ (a : Judging × List ℕ). a.0) same, ap (λ (a : Judging × List ℕ). a.1) same)

  -- so that a record is judged by its code alone
  pub judged-same : (code x y : ℕ) {r : Judging} {d : List ℕ}
      → (r ≡ judged_click board cells s (kind_of code) x y) × (d ≡ clicked_cells board cells s (kind_of code) x y)
      → (version : ℕ)
      → (r ≡ judged_click board cells s (kind_in version code) x y)
      × (d ≡ clicked_cells board cells s (kind_in version code) x y)
  judged-same code x y e version =
      let same =
      sym (leaves-same board cells s.position s.earned s.claimed x y s.rule version code) in
      (e.0 ∙ ap (λ (a : Judging × List ℕ). a.0) same, e.1 ∙ ap (λ (a : Judging × List ℕ). a.1) same)
