-- EVERY FILE IS COUNTED ONCE, for any list of fates that is no longer than the largest u64. Assumes nothing.
--     counts_are   the files are as many as the fates, and those of each fate as many as it stands there
--     counts_add   so the files are those done, differing, refused and failed together
use Prim.Native.Nat.{ℕ, suc, ◌+◌, ◌≤◌}
use mathlib.Core.Path.{◌≡◌, refl, ◌∙◌}
use mathlib.Core.List.{List, [], ◌∷◌}
use native.Mathlib.Omega.{arith}
use lib.ListN.{length}
use Rattle.lists.specs.Lists.{count}
use Rattle.tally.specs.declared.Fate.{Fate}
use Rattle.tally.specs.declared.Fate.TheVariants.{Done, Differs, Refused, Failed}
use Rattle.tally.specs.Counts.{most_count, one_more, made, none, count_all}
use Rattle.tally.specs.Counts.{is_done, is_differing, is_refused, is_failed}

-- what is counted of fates, behind what was counted before
abbrev Counted : ℕ → ℕ → ℕ → ℕ → ℕ → List Fate → Type 0
Counted n d u r f fs = count_all (made n d u r f) fs
    ≡ made (n + length fs) (d + count is_done fs) (u + count is_differing fs) (r + count is_refused fs)
    (f + count is_failed fs)

made_same : {n n' d d' u u' r r' f f' : ℕ} → n ≡ n' → d ≡ d' → u ≡ u' → r ≡ r' → f ≡ f'
    → made n d u r f ≡ made n' d' u' r' f'
made_same a b c d e = cc

-- below the largest u64 nothing is lost
one_more_lem : (n k : ℕ) → n + suc k ≤ most_count → one_more n ≡ n + 1
one_more_lem n k l = omega arith

counted : (fs : List Fate) (n d u r f : ℕ) → n + length fs ≤ most_count → d + u + r + f ≤ n
    → Counted n d u r f fs
counted [] n d u r f l h =
    made_same (omega arith) (omega arith) (omega arith) (omega arith) (omega arith)
counted (Done ∷ fs) n d u r f l h =
    rw (one_more_lem n (length fs) l, one_more_lem d (length fs) (omega arith))
    (counted fs (n + 1) (d + 1) u r f (omega arith) (omega arith)
    ∙ made_same (omega arith) (omega arith) (omega arith) (omega arith) (omega arith))
counted (Differs ∷ fs) n d u r f l h =
    rw (one_more_lem n (length fs) l, one_more_lem u (length fs) (omega arith))
    (counted fs (n + 1) d (u + 1) r f (omega arith) (omega arith)
    ∙ made_same (omega arith) (omega arith) (omega arith) (omega arith) (omega arith))
counted (Refused ∷ fs) n d u r f l h =
    rw (one_more_lem n (length fs) l, one_more_lem r (length fs) (omega arith))
    (counted fs (n + 1) d u (r + 1) f (omega arith) (omega arith)
    ∙ made_same (omega arith) (omega arith) (omega arith) (omega arith) (omega arith))
counted (Failed ∷ fs) n d u r f l h =
    rw (one_more_lem n (length fs) l, one_more_lem f (length fs) (omega arith))
    (counted fs (n + 1) d u r (f + 1) (omega arith) (omega arith)
    ∙ made_same (omega arith) (omega arith) (omega arith) (omega arith) (omega arith))

pub counts_are : (fs : List Fate) → length fs ≤ most_count
    → count_all none fs
    ≡ made (length fs) (count is_done fs) (count is_differing fs) (count is_refused fs) (count is_failed fs)
counts_are fs l =
    counted fs 0 0 0 0 0 (omega arith) (omega arith)
    ∙ made_same (omega arith) (omega arith) (omega arith) (omega arith) (omega arith)

one_fate : (fs : List Fate)
    → length fs ≡ count is_done fs + count is_differing fs + count is_refused fs + count is_failed fs
one_fate [] = refl
one_fate (Done ∷ fs) = omega (arith, one_fate fs)
one_fate (Differs ∷ fs) = omega (arith, one_fate fs)
one_fate (Refused ∷ fs) = omega (arith, one_fate fs)
one_fate (Failed ∷ fs) = omega (arith, one_fate fs)

pub counts_add : (fs : List Fate) → length fs ≤ most_count → let t = count_all none fs in
    (t.files ≡ length fs) × (t.files ≡ t.done + t.differ + t.refused + t.failed)
counts_add fs l = rw (counts_are fs l) (refl, one_fate fs)
