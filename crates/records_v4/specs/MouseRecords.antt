-- What the functions of `mouse` promise: the record of a mouse event of version 4 behind the first event, as
-- a test of its bytes and as what `Records.later_record` reads there. Definitions only.
use Rattle.std.specs.Prelude.{ℕ, ◌+◌, ◌≤◌, ◌<◌, ◌≡◌, Bool, cond, ◌&&◌, List, leb, length, get_or}
use Rattle.game.specs.Kinds.{kind_of, code_of}
use Rattle.record_fields.specs.Fields.{field}
use Rattle.records_v4.specs.declared.mouse.MouseRecord.{MouseRecord}
use Rattle.records_v4.specs.Records.{moves, event, last_kind}
use Rattle.records_v4.specs.Tells.{Stands}

-- the bytes of a record
abbrev pub record_length : ℕ
record_length = 6

-- the whole record of a mouse event stands at a place
unfoldable pub is_mouse : List ℕ → (at : ℕ) → Bool
is_mouse file at =
    leb (at + record_length) (length file) && (leb 1 (get_or file at 0) && leb (get_or file at 0) last_kind)

-- the same as three facts
pub record MouseHere (file : List ℕ) (at : ℕ) : Type 0 where
  pub whole : at + record_length ≤ length file
  pub low : 1 ≤ get_or file at 0
  pub high : get_or file at 0 ≤ last_kind

-- a record that stands there, with the code that does, which is that of its kind; for the laws of who reads it
pub record MouseAt (file : List ℕ) (at : ℕ) (r : MouseRecord) : Type 0 where
  pub code_is : r.code ≡ get_or file at 0
  pub stands : Stands file at (event r.wait (moves (kind_of r.code) r.dx r.dy)) record_length
  pub coded : r.code ≡ code_of (kind_of r.code)
  pub wait_fits : r.wait < 256
  pub dx_fits : r.dx < 65536
  pub dy_fits : r.dy < 65536

-- what `mouse_at` promises: the bytes that stand there, or zeros
abbrev pub no_record : MouseRecord
no_record = record { code = 0; wait = 0; dx = 0; dy = 0 }

unfoldable pub mouse_read : List ℕ → (at : ℕ) → MouseRecord
mouse_read file at =
    cond (is_mouse file at)
    (record {
      code = get_or file at 0;
      wait = get_or file (at + 1) 0;
      dx = field 2 file (at + 2);
      dy = field 2 file (at + 4);
    })
    no_record

pub record ReadsMouse (file : List ℕ) (at : ℕ) (r : MouseRecord) : Type 0 where
  pub is : r ≡ mouse_read file at
  pub wait_fits : r.wait < 256
  pub dx_fits : r.dx < 65536
  pub dy_fits : r.dy < 65536
