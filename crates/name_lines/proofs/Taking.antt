-- What one call takes, from what its parts answer. Assumes nothing.
use Prim.Native.Nat.{ℕ, ◌+◌, ◌-◌, ◌<◌, ◌≤◌, min}
use mathlib.Core.Path.{◌≡◌, refl, sym, ap, ◌∙◌}
use mathlib.Core.Bool.{true, false}
use mathlib.Core.List.{List}
use native.Mathlib.Omega.{arith}
use lib.ListN.{length, take, drop, drop_of_length-le, length-drop}
use lib.Seq.{sets, length-sets, take_all}
use lib.Dec.{ltb}
use borrow.Author.Tests.{ltb-true, ltb-false}
use Rattle.lines.specs.Fields.{newline}
use Rattle.name_lines.specs.declared.Gathered.{Gathered}
use Rattle.name_lines.specs.NameLines.{holds}
use Rattle.name_lines.specs.Steps.{first_line, gather_more, take_line, TakesLine}
use Rattle.name_lines.proofs.Lines.{line_take, ended_so, ended-not}

-- the bytes from a place on, none where it is past the end
pub rest_is : (block : List ℕ) (at : ℕ) {start : ℕ} → start ≡ min at (length block)
    → take (length block - start) (drop start block) ≡ drop at block
rest_is block at {start} m =
    take_all _ (drop start block) (rw length-drop (omega arith)) ∙ from
  where
    from : drop start block ≡ drop at block
    from = (elim (ltb (length block) at) as (λ x. ltb (length block) at ≡ x → drop start block ≡ drop at block) [
      | true ↦ λ b. let l = ltb-true (length block) at b in
          let h : length block ≤ start = omega arith in
          let k : length block ≤ at = omega arith in
          drop_of_length-le block h ∙ sym (drop_of_length-le block k)
      | false ↦ λ b. let l = ltb-false (length block) at b in
          let e : start ≡ at = omega arith in
          ap (λ (k : ℕ). drop k block) e
    ])
        refl

module _ (block : List ℕ) (at : ℕ) (d d' : List ℕ) (from g : Gathered) (rest : List ℕ) (n : ℕ)
    (r : rest ≡ drop at block)
    (e : n ≡ length (first_line rest))
    (p : d' ≡ sets d from.len (take n rest))
    (q : g ≡ gather_more (length d') from n) where
  line : n ≡ length (first_line (drop at block))
  line = rw r at e

  stored : d' ≡ sets d from.len (first_line (drop at block))
  stored = p ∙ rw (r, line, line_take)

  gathered : g ≡ gather_more (length d) from (length (first_line (drop at block)))
  gathered = q ∙ rw (p, length-sets, line)

  pub takes-ended : n < length rest
      → TakesLine block at d from d' (record { gathered = g; ended = true; at = at + n + 1 })
  unfolding take_line
  takes-ended l =
      let h : holds newline (drop at block) ≡ true =
      ended_so (drop at block) (rw (← line, ← r) l) in
      record { name_is = stored; is = rw (gathered, h, line) }

  pub takes-open : length rest ≤ n
      → TakesLine block at d from d' (record { gathered = g; ended = false; at = at + n })
  unfolding take_line
  takes-open l =
      let h : holds newline (drop at block) ≡ false =
      ended-not (drop at block) (rw (← line, ← r) l) in
      let k = length (first_line (drop at block)) in
      let z : at + k + 0 ≡ at + k = omega arith in
      record { name_is = stored; is = rw (gathered, h, line, z) }
