-- The lines as their writers put them together, a number and what stands behind it at a time. Assumes
-- nothing.
--     read_line_lem               the line of a file that is read
--     left-all, left-whole    what a copy does not carry, with bytes behind the end and without
--     upgraded_line_lem           the line of a copy
use Prim.Native.Nat.{ℕ, ◌<◌, ◌≤◌}
use mathlib.Core.Path.{◌≡◌}
use mathlib.Core.List.{List, [], ◌∷◌, ◌++◌, append_assoc, append-nil}
use borrow.Author.Tests.{lt-ltb, le-ltb}
use Rattle.text.specs.Decimals.{decimal_bytes}
use Rattle.lines.specs.Ascii.{ascii}
use Rattle.left_out.specs.declared.LeftOut.{LeftOut}
use Rattle.tool_lines.specs.Lines.{read_line, field_if, not_carried, left_fields, upgraded_line}

pub read_line_lem : (version height width mines events : ℕ)
    → (ascii "read" ++ 9 ∷ ascii "version ") ++ ((decimal_bytes version ++ 9 ∷ [])
    ++ ((decimal_bytes height ++ ascii " rows, ") ++ ((decimal_bytes width ++ ascii " columns, ")
    ++ ((decimal_bytes mines ++ (ascii " mines" ++ 9 ∷ []))
    ++ (decimal_bytes events ++ (ascii " events" ++ 10 ∷ []))))))
    ≡ read_line version height width mines events
unfolding read_line
read_line_lem version height width mines events = simp append_assoc

module _ (l : LeftOut) where
  abbrev start : List ℕ
  start = field_if l.country (not_carried (ascii "the country, now XX"))

  abbrev moments : List ℕ
  moments = field_if l.moments (not_carried (ascii "start and end, now 0"))

  pub left-all : 0 < l.behind
      → start ++ (moments ++ (not_carried [] ++ (decimal_bytes l.behind ++ ascii " bytes behind the end")))
      ≡ left_fields l
  unfolding left_fields
  left-all b = rw (lt-ltb _ _ b) (simp append_assoc)

  pub left-whole : l.behind ≤ 0 → start ++ moments ≡ left_fields l
  unfolding left_fields
  left-whole b = rw (le-ltb _ _ b, append-nil)

pub upgraded_line_lem : (bytes events : ℕ) (l : LeftOut)
    → (ascii "upgraded" ++ 9 ∷ []) ++ ((decimal_bytes bytes ++ (ascii " bytes" ++ 9 ∷ []))
    ++ ((decimal_bytes events ++ ascii " events") ++ (left_fields l ++ 10 ∷ [])))
    ≡ upgraded_line bytes events l
unfolding upgraded_line
upgraded_line_lem bytes events l = simp append_assoc
