-- The event records as they are written (01, Events, "Version 4 writer and upgrade", "Version 3 writer").
-- Definitions only. How seconds become milliseconds is a parameter, `toMs`.
use Rattle.std.specs.Prelude.{ℕ, ◌+◌, ◌-◌, ◌%◌, cond, List, [], ◌∷◌, ◌++◌, ◌==◌, Float}
use Rattle.game.specs.declared.MouseKind.{MouseKind}
use Rattle.game.specs.declared.Event.{Event}
use Rattle.game.specs.declared.Event.TheVariants.{Mouse, State}
use Rattle.game.specs.Kinds.{code_of}
use Rattle.byte_reader.specs.Numbers.{bytes_of}
use Rattle.mouse_records.specs.declared.Last.{Last}
use Rattle.mouse_records.specs.Pauses.{pauses_of, rest_of}

-- a record: its code, milliseconds in k bytes, and two numbers of 16 bits
abbrev pub record_bytes : (code k ms x y : ℕ) → List ℕ
record_bytes code k ms x y = code ∷ bytes_of k ms ++ (bytes_of 2 x ++ bytes_of 2 y)

-- VERSION 3

-- a kind goes out as its code, ub as 99 (02, note 1)
unfoldable pub record3 : MouseKind → (ms x y : ℕ) → List ℕ
record3 kind ms x y = record_bytes (code_of kind) 3 ms x y

-- VERSION 4

-- how far it is from one number of 16 bits to another, modulo 65536
abbrev pub difference : (from to : ℕ) → ℕ
difference from to = (to + 65536 - from) % 65536

-- the pauses of the wait since the last mouse event, then the record with what is left of the wait and the
-- way from that event's position
unfoldable pub record4 : Last → MouseKind → (ms x y : ℕ) → List ℕ
record4 last kind ms x y =
    pauses_of (ms - last.ms.0) ++ record_bytes (code_of kind) 1 (rest_of (ms - last.ms.0))
    (difference last.x x) (difference last.y y)

-- Before the first entry stands nothing: 0 ms, at 0, 0. The first record tells its own milliseconds and
-- position, which is how it differs from nothing; those are below 256, so it has no pauses.
abbrev pub nothing_yet : Last
nothing_yet = record { ms = record { 0 = 0 }; x = 0; y = 0 }

-- A ROW
module _ (toMs : Float → ℕ) where
  -- an entry in a version's layout; game states are not written
  abbrev pub entry_bytes : (version : ℕ) → Last → Event → List ℕ
  entry_bytes version last (Mouse seconds kind x y) =
      cond (version == 4) (record4 last kind (toMs seconds) x y) (record3 kind (toMs seconds) x y)
  entry_bytes version last (State seconds state) = []

  -- the last mouse event after an entry
  abbrev pub last_after : Last → Event → Last
  last_after last (Mouse seconds kind x y) = record { ms = record { 0 = toMs seconds }; x = x; y = y }
  last_after last (State seconds state) = last

  abbrev pub row_bytes : (version : ℕ) → Last → List Event → List ℕ
  row_bytes version last [] = []
  row_bytes version last (e ∷ es) = entry_bytes version last e ++ row_bytes version (last_after last e) es
