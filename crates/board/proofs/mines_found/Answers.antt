use mathlib.Core.Path.{◌≡◌, sym, ap, ◌∙◌}
use mathlib.Core.List.{List, ◌∷◌}
use Prim.Native.Nat.{ℕ, ◌+◌, ◌*◌, ◌/◌, ◌%◌, ◌<◌, ◌≤◌}
use native.Mathlib.Nat.{add-zero}
use native.Mathlib.Omega.{arith}
use lib.ListN.{length, get_or, drop}
use lib.Seq.{get_or-drop}
use Rattle.std.proofs.lemmas.List.{length_push, drop-drop, length-drop}
use Rattle.board.specs.Geometry.{mines_in}
use Rattle.board.specs.Bits.{bit_at}
use Rattle.board.proofs.Ones.{mines_in-none, added, stopped}
use Rattle.board.proofs.mines_found.Goals as goal

-- the byte that is left first, and what is left behind it
first : (bits : List ℕ) (i x : ℕ) (rest : List ℕ) → drop i bits ≡ x ∷ rest
    → (x ≡ get_or bits i 0) × (rest ≡ drop (i + 1) bits)
first bits i x rest e = (
  ap (λ l. get_or l 0 0) (sym e) ∙ get_or-drop i bits 0 0 ∙ ap (λ k. get_or bits k 0) (add-zero i),
  ap (drop 1) (sym e) ∙ drop-drop 1 i bits,
)

pub loop-byte-init : goal.loop-byte-init
loop-byte-init c = record {
  rest = cc;
  left = omega (arith, ap (λ t. t.n) c.into_iter-byte-iterator.ensures.into_iter_gives);
  mines = sym (mines_in-none (bit_at c.args.bits.now));
  few = omega arith;
}

pub loop-byte-preserved : goal.loop-byte-preserved
loop-byte-preserved c =
    let bits = c.args.bits.now in
    let i = length c.loop-byte.yielded in
    let n = length_push c.loop-byte.yielded c.in-Some.byte in
    let l = c.loop-byte.invariant in
    let s = c.in-Some.ensures.steps in
    let f = first bits i c.in-Some.byte.now _ (sym l.rest ∙ s.0) in
    rw n (record {
      rest = f.1;
      left = omega arith;
      mines = added bits i 8 ((i + 1) * 8) _ _ _ l.mines f.0 c.ones_in-sum.ensures.0 (omega arith) (omega arith);
      few = omega arith;
    })

pub returns : goal.returns
returns c =
    let bits = c.args.bits.now in
    let n = c.cells_of-n.result in
    let l = c.loop-byte.invariant in
    let i = length c.loop-byte.yielded in
    let none : 0 < c.loop-byte.byte-iterator.n → length bits ≤ i =
    λ h. omega (arith, c.in-None.ensures.steps h, ap length l.rest, length-drop i bits) in
    added bits (n / 8) (n % 8) n _ _ _ (l.mines ∙ stopped bits i _ (n / 8) l.left none) c.byte_at.ensures
    c.ones_in.ensures.0 (omega arith) (omega arith)
    ∙ ap (mines_in (bit_at bits)) c.cells_of-n.ensures.0
