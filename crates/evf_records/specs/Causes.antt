-- What keeps a version from holding a row: the part of 21 that fails, and the first entry behind 22 (01,
-- Refusals 21 and 22; the order of the parts and the place of the entry are request 9's). `toMs` is how
-- seconds become milliseconds. Definitions only.
use Rattle.std.specs.Prelude.{ℕ, suc, cond, List, [], ◌∷◌, eqb, ltb, Float, Option, Some, None}
use Rattle.std.specs.Option.{option_or}
use Rattle.times.specs.declared.GameMs.{GameMs}
use Rattle.game.specs.declared.MouseKind.{MouseKind}
use Rattle.game.specs.declared.Event.{Event}
use Rattle.game.specs.declared.Event.TheVariants.{Mouse, State}
use Rattle.game.specs.Kinds.{begins}
use Rattle.game.specs.Limits.{largest_u24}
use Rattle.byte_writer.specs.Places.{capped}
use Rattle.mouse_records.specs.declared.Last.{Last}
use Rattle.evf_records.specs.declared.FirstFault.{FirstFault}
use Rattle.evf_records.specs.declared.FirstFault.TheVariants.{NoEntry, NotMouse, Kind}
use Rattle.evf_records.specs.declared.FirstFault.TheVariants.{TooLate}
use Rattle.evf_records.specs.declared.EntryFault.{EntryFault}
use Rattle.evf_records.specs.declared.EntryFault.TheVariants.{Unnamed, Earlier, PastVersion3}
use Rattle.mouse_records.specs.Records.{nothing_yet, last_after}
use Rattle.evf_records.specs.Refusals.{is_ub, first_ms_limit}

-- 21, of a first mouse event: the kind is looked at before the milliseconds
abbrev pub first_mouse_fault : MouseKind → (ms : GameMs) → Option FirstFault
first_mouse_fault kind ms = cond (begins kind) (cond (ltb ms.0 first_ms_limit) None (Some (TooLate ms))) (Some Kind)

-- 22, of a mouse event at a place behind one at `last`: in version 4 ub is looked at before the milliseconds
abbrev pub mouse_fault : (version place : ℕ) (last : GameMs) → MouseKind → (ms : GameMs) → Option EntryFault
mouse_fault version place last kind ms =
    cond (eqb version 4)
    (cond (is_ub kind) (Some (Unnamed place)) (cond (ltb ms.0 last.0) (Some (Earlier place last ms)) None))
    (cond (ltb largest_u24 ms.0) (Some (PastVersion3 place ms)) None)

module _ (toMs : Float → ℕ) where
  -- 21 is version 4's; its row begins with a mouse event
  abbrev pub first_entry_fault : (version : ℕ) → Event → Option FirstFault
  first_entry_fault version (Mouse seconds kind x y) =
      cond (eqb version 4) (first_mouse_fault kind (record { 0 = toMs seconds })) None
  first_entry_fault version (State seconds state) = cond (eqb version 4) (Some NotMouse) None

  abbrev pub first_fault_of : (version : ℕ) → List Event → Option FirstFault
  first_fault_of version [] = cond (eqb version 4) (Some NoEntry) None
  first_fault_of version (e ∷ es) = first_entry_fault version e

  -- any version holds a game state, since it writes none
  abbrev pub entry_fault : (version place : ℕ) → Last → Event → Option EntryFault
  entry_fault version place last (Mouse seconds kind x y) =
      mouse_fault version place last.ms kind (record { 0 = toMs seconds })
  entry_fault version place last (State seconds state) = None

  -- The first of the entries that stand from a place on, behind the mouse event `last`. Places count from 0
  -- and game states count too; the largest usize stands for a place past it, which no row has.
  abbrev pub entry_fault_from : (version place : ℕ) → Last → List Event → Option EntryFault
  entry_fault_from version place last [] = None
  entry_fault_from version place last (e ∷ es) =
      option_or (entry_fault version (capped place) last e)
      (entry_fault_from version (suc place) (last_after toMs last e) es)

  abbrev pub entry_fault_of : (version : ℕ) → List Event → Option EntryFault
  entry_fault_of version row = entry_fault_from version 0 nothing_yet row
