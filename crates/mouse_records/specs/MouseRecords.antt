-- The record of a mouse event by the two mouse events, in a version's layout: what the private functions that
-- write one promise. Definitions only.
use Rattle.std.specs.Prelude.{ℕ, cond, List, ◌==◌}
use Rattle.game.specs.declared.MouseKind.{MouseKind}
use Rattle.mouse_records.specs.declared.Last.{Last}
use Rattle.mouse_records.specs.Records.{record3, record4}

abbrev pub mouse_bytes : (version : ℕ) → Last → MouseKind → Last → List ℕ
mouse_bytes version last kind to =
    cond (version == 4) (record4 last kind to.ms.0 to.x to.y)
    (record3 kind to.ms.0 to.x to.y)
