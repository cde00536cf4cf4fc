-- The rows that a version cannot hold (01, Refusals 21 and 22). `toMs` is how seconds become milliseconds.
-- Definitions only.
use Rattle.std.specs.Prelude.{ℕ, Bool, true, false, not, cond, ◌&&◌, ◌||◌, List, [], ◌∷◌, eqb, ltb, Float}
use Rattle.game.specs.declared.MouseKind.{MouseKind}
use Rattle.game.specs.declared.MouseKind.TheVariants.{Mv, Lc, Lr, Rc, Rr, Mc, Mr, Pf, Cc, L, R, M, Ub}
use Rattle.game.specs.Kinds.{begins}
use Rattle.game.specs.Limits.{largest_u24}
use Rattle.game.specs.declared.Event.{Event}
use Rattle.game.specs.declared.Event.TheVariants.{Mouse, State}

abbrev pub is_ub : MouseKind → Bool
is_ub Ub = true
is_ub Mv = false
is_ub Lc = false
is_ub Lr = false
is_ub Rc = false
is_ub Rr = false
is_ub Mc = false
is_ub Mr = false
is_ub Pf = false
is_ub Cc = false
is_ub L = false
is_ub R = false
is_ub M = false

-- version 4 begins before these milliseconds
abbrev pub first_ms_limit : ℕ
first_ms_limit = 256

module _ (toMs : Float → ℕ) where
  -- an entry that version 4 may not begin with: a game state, another kind, or 256 ms and more
  abbrev pub bad_start : Event → Bool
  bad_start (Mouse seconds kind x y) = not (begins kind && ltb (toMs seconds) first_ms_limit)
  bad_start (State seconds state) = true

  -- 21: there is no first entry, or it is such a one
  abbrev pub no_start : List Event → Bool
  no_start [] = true
  no_start (e ∷ es) = bad_start e

  -- 22 in version 4, of the entries after a mouse event at `last` ms: one is ub, or earlier than the mouse
  -- event before it. Game states do not matter
  abbrev pub falls_after : (last : ℕ) → List Event → Bool
  falls_after last [] = false
  falls_after last (Mouse seconds kind x y ∷ es) =
      (is_ub kind || ltb (toMs seconds) last) || falls_after (toMs seconds) es
  falls_after last (State seconds state ∷ es) = falls_after last es

  -- 22 in version 3: a mouse event is later than 16777215 ms
  abbrev pub too_late : List Event → Bool
  too_late [] = false
  too_late (Mouse seconds kind x y ∷ es) = ltb largest_u24 (toMs seconds) || too_late es
  too_late (State seconds state ∷ es) = too_late es

  -- 21 is version 4's; nothing is earlier than 0 ms, so the first mouse event falls behind none
  unfoldable pub start_unwritable : (version : ℕ) → List Event → Bool
  start_unwritable version row = eqb version 4 && no_start row

  unfoldable pub event_unwritable : (version : ℕ) → List Event → Bool
  event_unwritable version row = cond (eqb version 4) (falls_after 0 row) (too_late row)
