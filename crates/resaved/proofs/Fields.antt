-- The lines as their writers put them together, a number and what stands behind it at a time. Assumes
-- nothing.
use Prim.Native.Nat.{ℕ}
use mathlib.Core.Path.{◌≡◌}
use mathlib.Core.List.{[], ◌∷◌, ◌++◌, append_assoc}
use Rattle.text.specs.Decimals.{decimal_bytes}
use Rattle.lines.specs.Ascii.{ascii}
use Rattle.left_out.specs.declared.LeftOut.{LeftOut}
use Rattle.tool_lines.specs.Lines.{left_fields}
use Rattle.resaved.specs.Lines.{resaved_line, older_line}

pub resaved_line_lem : (bytes : ℕ) (l : LeftOut)
    → (ascii "resaved" ++ 9 ∷ []) ++ ((decimal_bytes bytes ++ (ascii " bytes" ++ 9 ∷ []))
    ++ ((decimal_bytes l.events ++ (ascii " events" ++ 9 ∷ []))
    ++ ((decimal_bytes l.metrics ++ (ascii " metrics" ++ 9 ∷ []))
    ++ ((decimal_bytes l.states ++ ascii " game states left out") ++ (left_fields l ++ 10 ∷ [])))))
    ≡ resaved_line bytes l
unfolding resaved_line
resaved_line_lem bytes l = simp append_assoc

pub older_line_lem : (version : ℕ)
    → (ascii "older" ++ 9 ∷ ascii "version ")
    ++ (decimal_bytes version ++ (ascii ": evf upgrade writes it as version 4" ++ 10 ∷ []))
    ≡ older_line version
unfolding older_line
older_line_lem version = simp append_assoc
