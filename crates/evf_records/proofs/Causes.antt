-- The causes of 21 and 22. Assumes nothing.
--     begins-caused, holds-caused     01's two conditions hold exactly where there is a cause
--     next_none, next_next            the first of two faults: where the second is none, and of three
use Prim.Native.Nat.{ℕ, suc}
use mathlib.Core.Path.{◌≡◌, refl, ap, ◌∙◌}
use mathlib.Core.Bool.{Bool, true, false, cond, not, ◌&&◌, ◌||◌}
use mathlib.Core.List.{List, [], ◌∷◌}
use lib.Dec.{eqb, ltb}
use lib.Ieee.{Float}
use Rattle.std.specs.Prelude.{Option, Some, None, is_some}
use Rattle.std.specs.Option.{option_or}
use Rattle.times.specs.declared.GameMs.{GameMs}
use Rattle.game.specs.declared.Event.{Event}
use Rattle.game.specs.declared.Event.TheVariants.{Mouse, State}
use Rattle.game.specs.Kinds.{begins}
use Rattle.game.specs.Limits.{largest_u24}
use Rattle.byte_writer.specs.Places.{capped}
use Rattle.mouse_records.specs.declared.Last.{Last}
use Rattle.evf_records.specs.declared.FirstFault.{FirstFault}
use Rattle.evf_records.specs.declared.FirstFault.TheVariants.{NoEntry, NotMouse, Kind}
use Rattle.evf_records.specs.declared.FirstFault.TheVariants.{TooLate}
use Rattle.evf_records.specs.declared.EntryFault.{EntryFault}
use Rattle.evf_records.specs.declared.EntryFault.TheVariants.{Unnamed, Earlier, PastVersion3}
use Rattle.mouse_records.specs.Records.{nothing_yet}
use Rattle.evf_records.specs.Refusals.{is_ub, falls_after, too_late, start_unwritable, event_unwritable}
use Rattle.evf_records.specs.Refusals.{first_ms_limit}
use Rattle.evf_records.specs.Causes.{first_mouse_fault, mouse_fault, first_fault_of, entry_fault_from}
use Rattle.evf_records.specs.Causes.{entry_fault_of}

-- THE FIRST OF TWO
pub next_none : (f : Option EntryFault) → option_or f None ≡ f
next_none None = refl
next_none (Some f) = refl

pub next_next : (f g h : Option EntryFault) → option_or (option_or f g) h ≡ option_or f (option_or g h)
next_next None g h = refl
next_next (Some f) g h = refl

-- 21
mouse_begins : (b l : Bool) (ms : GameMs)
    → is_some (cond b (cond l None (Some (TooLate ms))) (Some Kind)) ≡ not (b && l)
mouse_begins true true ms = refl
mouse_begins true false ms = refl
mouse_begins false l ms = refl

by_version : (b : Bool) (f : Option FirstFault) → is_some (cond b f None) ≡ (b && is_some f)
by_version true f = refl
by_version false f = refl

module _ (toMs : Float → ℕ) where
  pub begins-caused : (version : ℕ) (row : List Event)
      → is_some (first_fault_of toMs version row) ≡ start_unwritable toMs version row
  unfolding start_unwritable
  begins-caused version [] = by_version (eqb version 4) (Some NoEntry)
  begins-caused version (State seconds state ∷ es) = by_version (eqb version 4) (Some NotMouse)
  begins-caused version (Mouse seconds kind x y ∷ es) =
      by_version (eqb version 4) (first_mouse_fault kind (record { 0 = toMs seconds }))
      ∙ ap (λ (b : Bool). eqb version 4 && b)
      (mouse_begins (begins kind) (ltb (toMs seconds) first_ms_limit) (record { 0 = toMs seconds }))

-- 22
next_held : (f g : Option EntryFault) → is_some (option_or f g) ≡ (is_some f || is_some g)
next_held None g = refl
next_held (Some f) g = refl

mouse_holds : (four ub early late : Bool) (place : ℕ) (last ms : GameMs)
    → is_some
    (cond four (cond ub (Some (Unnamed place)) (cond early (Some (Earlier place last ms)) None))
    (cond late (Some (PastVersion3 place ms)) None))
    ≡ cond four (ub || early) late
mouse_holds true true early late place last ms = refl
mouse_holds true false true late place last ms = refl
mouse_holds true false false late place last ms = refl
mouse_holds false ub early true place last ms = refl
mouse_holds false ub early false place last ms = refl

both_none : (b : Bool) → false ≡ cond b false false
both_none true = refl
both_none false = refl

both_or : (b p q r s : Bool) → (cond b p q || cond b r s) ≡ cond b (p || r) (q || s)
both_or true p q r s = refl
both_or false p q r s = refl

module _ (toMs : Float → ℕ) (version : ℕ) where
  from-caused : (place : ℕ) (last : Last) (row : List Event)
      → is_some (entry_fault_from toMs version place last row)
      ≡ cond (eqb version 4) (falls_after toMs last.ms.0 row) (too_late toMs row)
  from-caused place last [] = both_none (eqb version 4)
  from-caused place last (State seconds state ∷ es) = from-caused (suc place) last es
  from-caused place last (Mouse seconds kind x y ∷ es) =
      let to : Last = record { ms = record { 0 = toMs seconds }; x = x; y = y } in
      let e = mouse_fault version (capped place) last.ms kind (record { 0 = toMs seconds }) in
      next_held e (entry_fault_from toMs version (suc place) to es)
      ∙ ap (λ (b : Bool). is_some e || b) (from-caused (suc place) to es)
      ∙ ap (λ (b : Bool). b || cond (eqb version 4) (falls_after toMs (toMs seconds) es) (too_late toMs es))
      (mouse_holds (eqb version 4) (is_ub kind) (ltb (toMs seconds) last.ms.0)
      (ltb largest_u24 (toMs seconds)) (capped place) last.ms (record { 0 = toMs seconds }))
      ∙ both_or (eqb version 4) (is_ub kind || ltb (toMs seconds) last.ms.0)
      (ltb largest_u24 (toMs seconds)) (falls_after toMs (toMs seconds) es) (too_late toMs es)

  pub holds-caused : (row : List Event)
      → is_some (entry_fault_of toMs version row) ≡ event_unwritable toMs version row
  unfolding event_unwritable
  holds-caused row = from-caused 0 nothing_yet row
