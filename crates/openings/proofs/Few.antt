-- No cell counts twice, so that neither openings nor 3BV are more than the cells; and what one number for
-- hosts says. Assumes nothing.
--     few                          3BV is at most height × width
--     counts_few                   both counts of an answer are at most 65025
--     host                         an answer as one number
--     counts_back, refused_below   what a host makes of it
use mathlib.Core.Path.{◌≡◌, refl, sym, ◌∙◌, ap, subst}
use mathlib.Core.Bool.{Bool, true, false, cond, not, ◌&&◌, true≢false}
use mathlib.Core.List.{List}
use Prim.Native.Nat.{ℕ, zero, suc, ◌+◌, ◌*◌, ◌/◌, ◌%◌, ◌≤◌, ◌<◌}
use native.Mathlib.Numerals.{add-one}
use native.Mathlib.Omega.{arith}
use lib.Dec.{eqb}
use lib.IntN.{ℤ}
use lib.ListN.{length, drop}
use Rattle.lists.specs.Lists.{count}
use Rattle.board.specs.Geometry.{neighbours, mine_at}
use Rattle.board.proofs.Places.{product}
use Rattle.game.specs.Checks.{NoCheckHolds}
use Rattle.game.specs.Sizes.{work_checks}
use Rattle.game.proofs.Checks.{first-cases, numbered}
use Rattle.game.proofs.Sizes.{sized_fine}
use Rattle.flood.specs.Spread.{mem, some}
use Rattle.flood.specs.Flood.{is_zero}
use Rattle.flood.proofs.Sets.{and_cases}
use Rattle.openings.specs.declared.Recount.{Recount}
use Rattle.openings.specs.declared.Recount.TheVariants.{Counts, Refused}
use Rattle.openings.specs.Bbbv.{opening, leads, openings, lone, bbbv}
use Rattle.openings.specs.Recount.{recount_of, free_entries, Recounted, host_number, HostRecounted}
use Rattle.openings.proofs.Tally.{tally, tally_more}

one_of : (a b : Bool) → (a ≡ true → b ≡ false) → cond a 1 0 + cond b 1 0 ≤ 1
one_of true true h = absurd (true≢false (h refl))
one_of true false h = omega arith
one_of false true h = omega arith
one_of false false h = omega arith

-- two tests that no cell passes both
tally_both : (p q : ℕ → Bool) (n : ℕ) → ((k : ℕ) → p k ≡ true → q k ≡ false) → tally p n + tally q n ≤ n
tally_both p q zero h = omega arith
tally_both p q (suc n) h =
    let a = ap (tally p) (sym (add-one n)) ∙ tally_more p n in
    let b = ap (tally q) (sym (add-one n)) ∙ tally_more q n in
    omega (arith, tally_both p q n h, one_of (p n) (q n) (h n))

module _ (mine : ℕ → Bool) (h w : ℕ) where
  -- the first cell of an opening is no numbered one
  apart : (k : ℕ) → leads mine h w k ≡ true → lone mine h w k ≡ false
  unfolding leads lone
  apart k e =
      let z = (and_cases (is_zero mine h w k)
      (not (some (λ j. is_zero mine h w j && mem (opening mine h w j) k) k)) e).0 in
      ap (λ (t : Bool). not (mine k) && (not t && eqb (count (is_zero mine h w) (neighbours h w k)) 0)) z
      ∙ never (not (mine k))
    where
      never : (b : Bool) → (b && false) ≡ false
      never true = refl
      never false = refl

  pub few : (openings mine h w ≤ bbbv mine h w) × (bbbv mine h w ≤ h * w)
  unfolding openings bbbv
  few = (omega arith, tally_both (leads mine h w) (lone mine h w) (h * w) apart)

abbrev is_refused : Recount → ℕ
is_refused (Counts x y) = 0
is_refused (Refused n) = 1

-- both counts of an answer fit a u16
pub counts_few : (h w : ℕ) (board : List ℤ) (entries m b : ℕ) → Counts m b ≡ recount_of h w board entries
    → (m ≤ 65025) × (b ≤ 65025)
unfolding recount_of
counts_few h w board entries m b =
    first-cases (Counts (openings (mine_at board) h w) (bbbv (mine_at board) h w)) Refused
    (work_checks h w (length board) entries) (λ x. Counts m b ≡ x → (m ≤ 65025) × (b ≤ 65025))
    fits (λ n f e. absurd (let z : ◌≡◌ {A = ℕ} 0 1 = ap is_refused e in omega arith))
  where
    fits : NoCheckHolds (work_checks h w (length board) entries)
        → Counts m b ≡ Counts (openings (mine_at board) h w) (bbbv (mine_at board) h w)
        → (m ≤ 65025) × (b ≤ 65025)
    fits none e =
        let sizes = sized_fine h w none.0 in
        let x : m ≡ openings (mine_at board) h w = cc in
        let y : b ≡ bbbv (mine_at board) h w = cc in
        let f = few (mine_at board) h w in
        let p = product h w sizes.0 sizes.1 in
        (omega arith, omega arith)

-- an answer as one number
pub host : {h w : ℕ} {board : List ℤ} {before after : List ℕ} (r : Recount) (n : ℕ)
    → Recounted h w board before after r → n ≡ host_number r → HostRecounted h w board before after n
host {h} {w} {board} {before} {after} r n k e = record {
  is = e ∙ ap host_number k.is;
  rest = subst (λ (x : Recount). drop (free_entries x (h * w)) after ≡ drop (free_entries x (h * w)) before)
      k.is k.rest;
}

-- what a host makes of it: an answer with counts is 65536 or more, and both come back; a refusal is below
pub counts_back : (m b : ℕ) → b ≤ 65025 → let n = host_number (Counts m b) in
    (65536 ≤ n) × (n / 65536 ≡ m + 1) × (n % 65536 ≡ b)
unfolding host_number
counts_back m b l = (omega arith, omega arith, omega arith)

pub refused_below : (h w : ℕ) (board : List ℤ) (entries n : ℕ) → Refused n ≡ recount_of h w board entries
    → host_number (Refused n) < 65536
unfolding recount_of host_number
refused_below h w board entries n =
    numbered (Counts (openings (mine_at board) h w) (bbbv (mine_at board) h w)) Refused (λ m. m < 65536)
    (λ x. Refused n ≡ x → n < 65536)
    (λ e. absurd (let z : ◌≡◌ {A = ℕ} 1 0 = ap is_refused e in omega arith))
    (λ m l e. let same : n ≡ m = cc in omega arith)
    (work_checks h w (length board) entries) (omega arith, (omega arith, (omega arith, tt)))
