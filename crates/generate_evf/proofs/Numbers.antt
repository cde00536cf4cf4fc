-- Which number a game is refused with. Assumes nothing.
--     size-first        sizing answers the number of the first check of the game that holds. first-size the
--                       other way
--     written-first     and so does a writer.        first-written    the other way
--     checks-numbers    they are numbered 26, 14 to 20, 25, 21 and 22 in their order
--     size-among        a number of sizing is among 14 to 22, 25 and 26
--     written-among     of a writer, among 14 to 23, 25 and 26
--     version-3-sized   in version 3 none of 16, 21 and 25 is among them; version-3-written nor of its writer
use Prim.Native.Nat.{ℕ, ◌≤◌, ◌<◌}
use mathlib.Core.Path.{◌≡◌, refl, ap}
use mathlib.Core.Bool.{true, false, cond}
use mathlib.Core.Logic.{◌⊎◌, inl, inr}
use mathlib.Core.List.{List, [], ◌∷◌, map}
use native.Mathlib.Omega.{arith}
use lib.Dec.{leb}
use lib.ListN.{length}
use Rattle.times.specs.Times.{s_to_ms}
use Rattle.game.specs.Same.{Game}
use Rattle.byte_writer.specs.Places.{capped}
use Rattle.evf_layout.specs.Layout.{file_of}
use Rattle.evf_judging.specs.declared.Verdict.{Verdict}
use Rattle.evf_judging.specs.declared.Verdict.TheVariants.{Fine, Refused as Bad}
use Rattle.game.specs.Checks.{Check, NoCheckHolds, First}
use Rattle.game.proofs.Checks.{first-of, numbered}
use Rattle.evf_records.specs.Refusals.{start_unwritable}
use Rattle.judging_texts.specs.Texts.{metrics_bad}
use Rattle.evf_judging.proofs.Verdicts.{FirstIs, first_is, told_is, untold}
use Rattle.evf_judging.specs.Refusals.{first_refusal, checks_under}
use Rattle.generate_evf.specs.declared.Size.{Size}
use Rattle.generate_evf.specs.declared.Size.TheVariants.{Bytes as Takes, Refused as Unsized}
use Rattle.generate_evf.specs.declared.Written.{Written}
use Rattle.generate_evf.specs.declared.Written.TheVariants.{Bytes, Refused, Short}
use Rattle.generate_evf.specs.Written.{size_by, size_of, written_by, written_of, size_number, written_number}
use Rattle.generate_evf.specs.Written.{OfVersion3}

abbrev NumberIs : (ℕ → Type 0) → Verdict → Type 0
NumberIs P Fine = Unit {0}
NumberIs P (Bad n) = P n

-- THE CHECKS OF A GAME
abbrev pub Between : (least most n : ℕ) → Type 0
Between least most n = (least ≤ n) × (n ≤ most)

-- the numbers of sizing, and those of a writer
abbrev pub OfSizing : ℕ → Type 0
OfSizing n = Between 14 22 n ⊎ Between 25 26 n

abbrev pub OfWriting : ℕ → Type 0
OfWriting n = Between 14 23 n ⊎ Between 25 26 n

wider : {n : ℕ} → OfSizing n → OfWriting n
wider (inl b) = inl (b.0, omega (arith, b.1))
wider (inr e) = inr e

-- what an answer says of the checks
abbrev pub SizeIs : List Check → Size → Type 0
SizeIs cs (Takes n) = NoCheckHolds cs
SizeIs cs (Unsized k) = First cs k

abbrev pub WrittenIs : List Check → Written → Type 0
WrittenIs cs (Bytes n) = NoCheckHolds cs
WrittenIs cs (Short n) = NoCheckHolds cs
WrittenIs cs (Refused k) = First cs k

size_by_lem : (cs : List Check) (v : Verdict) (n : ℕ) → FirstIs cs v → SizeIs cs (size_by v n)
size_by_lem cs Fine n none = none
size_by_lem cs (Bad k) n first = first

written_by_lem : (cs : List Check) (v : Verdict) (n room : ℕ) → FirstIs cs v → WrittenIs cs (written_by v n room)
written_by_lem cs Fine n room none =
    (elim (leb n room) as (λ t. WrittenIs cs (cond t (Bytes n) (Short (capped n))))
    [ true ↦ none | false ↦ none ])
written_by_lem cs (Bad k) n room first = first

-- the number of an answer, where there is one
size_among_by : (v : Verdict) (n : ℕ) → NumberIs OfSizing v → 0 < size_number (size_by v n)
    → OfSizing (size_number (size_by v n))
size_among_by Fine n k h = absurd (omega arith)
size_among_by (Bad j) n k h = k

written_among_by : (v : Verdict) (n room : ℕ) → NumberIs OfSizing v
    → 0 < written_number (written_by v n room) → OfWriting (written_number (written_by v n room))
written_among_by Fine n room k =
    (elim (leb n room) as
    (λ t. 0 < written_number (cond t (Bytes n) (Short (capped n)))
    → OfWriting (written_number (cond t (Bytes n) (Short (capped n))))) [
      | true ↦ λ h. absurd (omega arith)
      | false ↦ λ h. inl (omega arith, omega arith)
    ])
written_among_by (Bad j) n room k = λ h. wider k

module _ (rule version : ℕ) (g : Game) where
  abbrev verdict : Verdict
  verdict = first_refusal (checks_under rule version g)

  abbrev long : ℕ
  long = length (file_of (s_to_ms rule) version g)

  pub checks-numbers : map (λ (c : Check). c.number) (checks_under rule version g)
      ≡ 26 ∷ 14 ∷ 15 ∷ 16 ∷ 17 ∷ 18 ∷ 19 ∷ 20 ∷ 25 ∷ 21 ∷ 22 ∷ []
  checks-numbers = refl

  between : NumberIs OfSizing (first_refusal (checks_under rule version g))
  between =
      numbered Fine Bad OfSizing (NumberIs OfSizing) tt (λ n p. p) (checks_under rule version g) (
        inr (omega arith, omega arith),
        (
          inl (omega arith, omega arith),
          (
            inl (omega arith, omega arith),
            (
              inl (omega arith, omega arith),
              (
                inl (omega arith, omega arith),
                (
                  inl (omega arith, omega arith),
                  (
                    inl (omega arith, omega arith),
                    (
                      inl (omega arith, omega arith),
                      (
                        inr (omega arith, omega arith),
                        (
                          inl (omega arith, omega arith),
                          (
                            inl (omega arith, omega arith),
                            tt,
                          ),
                        ),
                      ),
                    ),
                  ),
                ),
              ),
            ),
          ),
        ),
      )

  pub size-first : SizeIs (checks_under rule version g) (size_of rule version g)
  unfolding size_of
  size-first = size_by_lem (checks_under rule version g) verdict long (first_is (checks_under rule version g))

  pub first-size : (k : ℕ) → First (checks_under rule version g) k → size_of rule version g ≡ Unsized k
  unfolding size_of
  first-size k f = ap (λ (v : Verdict). size_by v long) (first-of Fine Bad (checks_under rule version g) k f)

  pub written-first : (room : ℕ) → WrittenIs (checks_under rule version g) (written_of rule version g room)
  unfolding written_of
  written-first room = written_by_lem (checks_under rule version g) verdict long room (first_is
      (checks_under rule version g))

  pub first-written : (k room : ℕ) → First (checks_under rule version g) k
      → written_of rule version g room ≡ Refused k
  unfolding written_of
  first-written k room f =
      ap (λ (v : Verdict). written_by v long room) (first-of Fine Bad (checks_under rule version g) k f)

  pub size-among : 0 < size_number (size_of rule version g) → OfSizing (size_number (size_of rule version g))
  unfolding size_of
  size-among = size_among_by verdict long between

  pub written-among : (room : ℕ) → 0 < written_number (written_of rule version g room)
      → OfWriting (written_number (written_of rule version g room))
  unfolding written_of
  written-among room = written_among_by verdict long room between

-- VERSION 3, which has no place for 16, 21 and 25
module _ (rule : ℕ) (g : Game) where
  starts : start_unwritable (s_to_ms rule) 3 g.events ≡ false
  unfolding start_unwritable
  starts = refl

  measured : metrics_bad g.header g.bytes 3 ≡ false
  unfolding metrics_bad
  measured = refl

  told-3 : {k : ℕ} → first_refusal (checks_under rule 3 g) ≡ Bad k → OfVersion3 k
  told-3 =
      told_is OfVersion3 (checks_under rule 3 g) (
        λ q. (λ e. omega (arith, e), λ e. omega (arith, e), λ e. omega (arith, e)),
        (
          λ q. (λ e. omega (arith, e), λ e. omega (arith, e), λ e. omega (arith, e)),
          (
            λ q. (λ e. omega (arith, e), λ e. omega (arith, e), λ e. omega (arith, e)),
            (
              untold refl,
              (
                λ q. (λ e. omega (arith, e), λ e. omega (arith, e), λ e. omega (arith, e)),
                (
                  λ q. (λ e. omega (arith, e), λ e. omega (arith, e), λ e. omega (arith, e)),
                  (
                    λ q. (λ e. omega (arith, e), λ e. omega (arith, e), λ e. omega (arith, e)),
                    (
                      λ q. (λ e. omega (arith, e), λ e. omega (arith, e), λ e. omega (arith, e)),
                      (
                        untold measured,
                        (
                          untold starts,
                          (λ q. (λ e. omega (arith, e), λ e. omega (arith, e), λ e. omega (arith, e)), tt),
                        ),
                      ),
                    ),
                  ),
                ),
              ),
            ),
          ),
        ),
      )

  sized-3 : (v : Verdict) (n : ℕ) → ((k : ℕ) → v ≡ Bad k → OfVersion3 k)
      → OfVersion3 (size_number (size_by v n))
  sized-3 Fine n h = (λ e. omega (arith, e), λ e. omega (arith, e), λ e. omega (arith, e))
  sized-3 (Bad k) n h = h k refl

  written-3 : (v : Verdict) (n room : ℕ) → ((k : ℕ) → v ≡ Bad k → OfVersion3 k)
      → OfVersion3 (written_number (written_by v n room))
  written-3 Fine n room h =
      (elim (leb n room) as (λ t. OfVersion3 (written_number (cond t (Bytes n) (Short (capped n))))) [
        | true ↦ (λ e. omega (arith, e), λ e. omega (arith, e), λ e. omega (arith, e))
        | false ↦ (λ e. omega (arith, e), λ e. omega (arith, e), λ e. omega (arith, e))
      ])
  written-3 (Bad k) n room h = h k refl

  pub version-3-sized : OfVersion3 (size_number (size_of rule 3 g))
  unfolding size_of
  version-3-sized = sized-3 (first_refusal (checks_under rule 3 g)) (length (file_of (s_to_ms rule) 3 g))
      (λ k. told-3)

  pub version-3-written : (room : ℕ) → OfVersion3 (written_number (written_of rule 3 g room))
  unfolding written_of
  version-3-written room =
      written-3 (first_refusal (checks_under rule 3 g)) (length (file_of (s_to_ms rule) 3 g)) room (λ k. told-3)
