-- THE NAMES OF AN INPUT, WHATEVER ITS BLOCKS. Assumes nothing.
--     names_told    `TellsNames` of specs/Steps.antt: any run of `take_line` over blocks tells just the names
--                   of the blocks joined
--     run-there     there is such a run over any blocks
use Prim.Native.Nat.{ℕ, zero, suc, ◌+◌, ◌<◌}
use mathlib.Core.Path.{◌≡◌, refl, ap, sym, subst, ◌∙◌}
use mathlib.Core.Bool.{true, false}
use mathlib.Core.List.{List, [], ◌∷◌, ◌++◌, map, append-nil}
use native.Mathlib.Omega.{arith}
use lib.ListN.{length, drop, length-drop}
use lib.Seq.{sets, length-sets, drop-drop}
use Rattle.lines.specs.Fields.{newline}
use Rattle.name_lines.specs.declared.Gathered.{Gathered}
use Rattle.name_lines.specs.declared.Taken.{Taken}
use Rattle.name_lines.specs.NameLines.{Name, holds, before, lines_of, not_empty, told_name, told_names}
use Rattle.name_lines.specs.Steps.{first_line, take_line, TakesLine, nothing, name_in}
use Rattle.name_lines.specs.Steps.{Run, joined, TellsNames}
use Rattle.name_lines.proofs.Lines.{line_whole, before-none, lines_end, lines_more}
use Rattle.name_lines.proofs.Gathering.{Stands, stands_none, stands-more, told_in}

-- what is left of an input from a place of its first block on
abbrev left : List (List ℕ) → ℕ → List ℕ
left [] at = []
left (block ∷ blocks) at = drop at block ++ joined blocks

-- the lines as they are told
abbrev told : ℕ → List (List ℕ) → List Name
told room ls = map (told_name room) (not_empty ls)

told_cons : (room : ℕ) (l : List ℕ) (ls : List (List ℕ))
    → told room (l ∷ []) ++ told room ls ≡ told room (l ∷ ls)
told_cons room [] ls = refl
told_cons room (b ∷ l) ls = refl

left_start : (blocks : List (List ℕ)) → left blocks 0 ≡ joined blocks
left_start [] = refl
left_start (block ∷ blocks) = refl

module _ {block : List ℕ} {at : ℕ} {d d' : List ℕ} {g : Gathered} {t : Taken}
    (w : TakesLine block at d g d' t) where
  same-room : length d' ≡ length d
  same-room = rw (w.name_is, length-sets)

  ended_is : t.ended ≡ holds newline (drop at block)
  unfolding take_line
  ended_is = ap (λ (x : Taken). x.ended) w.is

  stands-then : {line : List ℕ} → Stands d g line
      → Stands d' t.gathered (line ++ first_line (drop at block))
  unfolding take_line
  stands-then s = stands-more s (first_line (drop at block)) d' t.gathered w.name_is
      (ap (λ (x : Taken). x.gathered) w.is)

  next-is : t.ended ≡ true
      → drop t.at block ≡ drop (suc (length (first_line (drop at block)))) (drop at block)
  unfolding take_line
  next-is e =
      let n = length (first_line (drop at block)) in
      let p : t.at ≡ at + n + 1 = ap (λ (x : Taken). x.at) w.is ∙ rw (← ended_is, e) in
      let q : at + n + 1 ≡ at + suc n = omega arith in
      rw (p, q) (sym (drop-drop (suc n) at block))

tells : {blocks : List (List ℕ)} {at : ℕ} {d : List ℕ} {g : Gathered} {names : List Name} {line : List ℕ}
    → Run blocks at d g names → 0 < length d → Stands d g line
    → names ≡ told (length d) (before line (lines_of (left blocks at)))
tells {line = line} Run.input_ends l s = told_in s l ∙ rw append-nil
tells {blocks = block ∷ blocks} {at} {d} {line = line} (Run.block_ends {d' = d'} {t = t} w e r) l s =
    let f : holds newline (drop at block) ≡ false = sym (ended_is w) ∙ e in
    let room = same-room w in
    let s' : Stands d' t.gathered (line ++ drop at block) =
    rw (line_whole (drop at block) f) at (stands-then w s) in
    let more = rw (left_start blocks, room) at (tells r (rw room l) s') in
    more ∙ ap (told (length d)) (sym (lines_more line (drop at block) (joined blocks) f))
tells {blocks = block ∷ blocks} {at} {d} {line = line} (Run.line_ends {d' = d'} {t = t} w e r) l s =
    let f : holds newline (drop at block) ≡ true = sym (ended_is w) ∙ e in
    let room = same-room w in
    let one = rw room at (told_in (stands-then w s) (rw room l)) in
    let more = rw (room, before-none, next-is w e) at (tells r (rw room l) (stands_none d')) in
    rw (one, more)
    (told_cons (length d) (line ++ first_line (drop at block))
    (lines_of (drop (suc (length (first_line (drop at block)))) (drop at block) ++ joined blocks))
    ∙ ap (told (length d)) (sym (lines_end line (drop at block) (joined blocks) f)))

pub names_told : TellsNames
names_told blocks d names l r = tells r l (stands_none d) ∙ rw (before-none, left_start blocks)

-- the call that the contract describes
call : (block : List ℕ) (at : ℕ) (d : List ℕ) (g : Gathered)
    → TakesLine block at d g (sets d g.len (first_line (drop at block))) (take_line (length d) block at g)
call block at d g = record { name_is = refl; is = refl }

some-there : (s : List ℕ) → holds newline s ≡ true → 0 < length s
some-there [] h = let z : ◌≡◌ {A = ℕ} 0 1 = cc in absurd (omega arith)
some-there (b ∷ s) h = omega arith

-- what the calls tell, whatever they tell
abbrev Ran : List (List ℕ) → ℕ → List ℕ → Gathered → Type 0
Ran blocks at d g = (names : List Name) × Run blocks at d g names

-- over the rest of a block, by its length
over : (block : List ℕ) (blocks : List (List ℕ)) → ((d : List ℕ) (g : Gathered) → Ran blocks 0 d g)
    → (n at : ℕ) (d : List ℕ) (g : Gathered) → length (drop at block) < n → Ran (block ∷ blocks) at d g
unfolding take_line
over block blocks rest zero at d g l = absurd (omega arith)
over block blocks rest (suc n) at d g l =
    let w = call block at d g in
    let t = take_line (length d) block at g in
    let d' = sets d g.len (first_line (drop at block)) in
    (elim (holds newline (drop at block)) as
    (λ e. holds newline (drop at block) ≡ e → Ran (block ∷ blocks) at d g) [
      | true ↦ λ e.
          let k = suc (length (first_line (drop at block))) in
          let s : length (drop t.at block) < n =
          rw (ap length (next-is w e) ∙ length-drop k (drop at block))
          (omega (arith, some-there (drop at block) e)) in
          let r = over block blocks rest n t.at d' nothing s in
          (name_in d' t.gathered ++ r.0, Run.line_ends w e r.1)
      | false ↦ λ e. let r = rest d' t.gathered in (r.0, Run.block_ends w e r.1)
    ])
    refl

run-from : (blocks : List (List ℕ)) (d : List ℕ) (g : Gathered) → Ran blocks 0 d g
run-from [] d g = (name_in d g, Run.input_ends)
run-from (block ∷ blocks) d g = over block blocks (run-from blocks) (suc (length block)) 0 d g (omega arith)

pub run-there : (blocks : List (List ℕ)) (d : List ℕ) → 0 < length d
    → Run blocks 0 d nothing (told_names (length d) (joined blocks))
run-there blocks d l =
    let r = run-from blocks d nothing in
    subst (Run blocks 0 d nothing) (names_told blocks d r.0 l r.1) r.1
