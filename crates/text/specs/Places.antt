-- Where a text stands in a file (01, Header). Definitions only.
use Rattle.std.specs.Prelude.{ℕ, ◌+◌, ◌≤◌, List, length, take, drop}
use Rattle.text.specs.declared.Place.{Place}

-- an absent text: 0, 0
abbrev pub absent : Place
absent = record { start = 0; len = 0 }

-- the bytes at a place; an absent text has none
abbrev pub bytes_at : List ℕ → Place → List ℕ
bytes_at file p = take p.len (drop p.start file)

-- a place ends in the file
abbrev pub Inside : List ℕ → Place → Type 0
Inside file p = p.start + p.len ≤ length file
