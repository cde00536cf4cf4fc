-- The event records of versions 0 to 3 (01, Events; Refusal 1). Definitions only.
use Rattle.std.specs.Prelude.{ℕ, true, false, cond, ◌&&◌, eqb, ltb}
use Rattle.game.specs.declared.MouseKind.{MouseKind}
use Rattle.game.specs.declared.MouseKind.TheVariants.{Ub}
use Rattle.game.specs.Kinds.{kind_of}
use Rattle.byte_reader.specs.Reading.{Reader, ◌>>=◌, pure}
use Rattle.byte_reader.specs.Numbers.{number}
use Rattle.record_fields.specs.Fields.{Whole, ends, mouse_body}

-- the codes that end the events, one where a checksum follows and one where none does; and the largest that
-- has a name before version 3
abbrev pub end_and_checksum : ℕ
end_and_checksum = 0

abbrev pub end_alone : ℕ
end_alone = 255

abbrev pub last_named : ℕ
last_named = 9

unfoldable pub kind_in : (version code : ℕ) → MouseKind
kind_in version code = cond (ltb last_named code && ltb version 3) Ub (kind_of code)

-- any code that does not end is a mouse event's
abbrev pub old_body : (version code : ℕ) → Reader Whole
old_body version code =
    cond (eqb code end_and_checksum) (pure (ends true))
    (cond (eqb code end_alone) (pure (ends false)) (mouse_body 3 (kind_in version code)))

unfoldable pub old_record : (version : ℕ) → Reader Whole
old_record version = do
  code ← number 1
  old_body version code
