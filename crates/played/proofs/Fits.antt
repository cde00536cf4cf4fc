-- NO LINE IS LONG: those who gather lines ask for room for 256 bytes before each. Assumes nothing.
--     move_fits, change_fits    the line of an event has at most 256 bytes
--     played_fits               the last line, with a word of at most 9
--     length_seen               a board has a byte for each cell and one for each row
use Prim.Native.Nat.{ℕ, zero, suc, ◌+◌, ◌*◌, ◌≤◌}
use mathlib.Core.Path.{◌≡◌, ap, ◌∙◌, sym}
use mathlib.Core.Bool.{Bool, true, false, cond}
use mathlib.Core.List.{List, [], ◌∷◌}
use native.Mathlib.Nat.{suc-mul}
use native.Mathlib.Omega.{arith}
use lib.IntN.{ℤ}
use lib.ListN.{length, length-append}
use Rattle.lists.specs.Lists.{each}
use Rattle.lists.proofs.Each.{length-each}
use Rattle.text.proofs.Decimals.{twenty_at-most}
use Rattle.times.specs.Times.{halves_away, s_to_ms}
use Rattle.lines.specs.Fields.{newline}
use Rattle.game.specs.declared.MouseKind.{MouseKind}
use Rattle.game.specs.declared.MouseKind.TheVariants.{Mv, Lc, Lr, Rc, Rr, Mc, Mr, Pf, Cc, L, R, M, Ub}
use Rattle.game.specs.declared.Event.{Event}
use Rattle.game.specs.declared.Event.TheVariants.{Mouse, State}
use Rattle.names.specs.Names.{kind_name}
use Rattle.event_lines.specs.Lines.{letters}
use Rattle.played.specs.declared.Move.{Move}
use Rattle.played.specs.Lines.{move_line, change_line, played_line}
use Rattle.played.specs.Seen.{seen_at, seen_row, seen_text}

kind_fits : (kind : MouseKind) → length (letters (kind_name kind)) ≤ 2
kind_fits Mv = omega arith
kind_fits Lc = omega arith
kind_fits Lr = omega arith
kind_fits Rc = omega arith
kind_fits Rr = omega arith
kind_fits Mc = omega arith
kind_fits Mr = omega arith
kind_fits Pf = omega arith
kind_fits Cc = omega arith
kind_fits L = omega arith
kind_fits R = omega arith
kind_fits M = omega arith
kind_fits Ub = omega arith

pub move_fits : (n : ℕ) (kind : MouseKind) (ms row column took : ℕ)
    → length (move_line n kind ms row column took) ≤ 256
unfolding move_line
move_fits n kind ms row column took =
    simp length-append
    (omega (
      arith,
      kind_fits kind,
      twenty_at-most n,
      twenty_at-most ms,
      twenty_at-most row,
      twenty_at-most column,
      twenty_at-most took,
    ))

if-changed : (b : Bool) (l : List ℕ) → length l ≤ 256 → length (cond b l []) ≤ 256
if-changed true l h = h
if-changed false l h = omega arith

pub change_fits : (n : ℕ) (m : Move) (e : Event) → length (change_line n m e) ≤ 256
change_fits n m (Mouse t kind x y) =
    if-changed m.changed _ (move_fits n kind (s_to_ms halves_away t) m.row m.column m.took)
change_fits n m (State t s) = omega arith

pub played_fits : (word : List ℕ) (events : ℕ) → length word ≤ 9 → length (played_line word events) ≤ 256
unfolding played_line
played_fits word events h = simp length-append (omega (arith, twenty_at-most events))

module _ (board : List ℤ) (cells : List ℕ) (width : ℕ) where
  length-row : (r : ℕ) → length (seen_row board cells width r) ≡ width + 1
  unfolding seen_row
  length-row r =
      let f : ℕ → ℕ = λ c. seen_at board cells (r * width + c) in
      length-append (each width f) (newline ∷ []) ∙ ap (λ (n : ℕ). n + 1) (length-each width f)

  pub length_seen : (rows : ℕ) → length (seen_text board cells width rows) ≡ rows * (width + 1)
  unfolding seen_text
  length_seen zero = omega arith
  length_seen (suc r) =
      let e = length-append (seen_text board cells width r) (seen_row board cells width r) in
      let s = suc-mul r (width + 1) in
      e ∙ rw (length_seen r, length-row r) (sym s)
