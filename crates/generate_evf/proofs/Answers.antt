-- An answer of a writer, by its number: what callers go by. Assumes nothing.
--     refused-number     a refusal's number is the answer's
--     refused-case       by cases, a refusal is what its number gives
--     refused-bytes      a refusal is no length; refused-short and no length that the room falls short of
--     written-cases      an answer is a length, a length that the room falls short of, or a refusal
--     number-seen        the number of writing a game is that of the first refusal that holds, or 23 for the
--                        room
use Prim.Native.Nat.{ℕ}
use mathlib.Core.Path.{◌≡◌, refl, sym, ap, ◌∙◌}
use mathlib.Core.Bool.{true, false, cond}
use mathlib.Core.List.{List}
use mathlib.Core.Option.{Option, none, some}
use native.Mathlib.Omega.{arith}
use lib.Dec.{leb}
use lib.ListN.{length}
use Rattle.times.specs.Times.{s_to_ms}
use Rattle.game.specs.Refusals.{file_buffer_short}
use Rattle.game.specs.Checks.{Check, first_of}
use Rattle.game.specs.Same.{Game}
use Rattle.game.proofs.Checks.{first-cases, first-of, none-holds}
use Rattle.byte_writer.specs.Places.{capped}
use Rattle.evf_layout.specs.Layout.{file_of}
use Rattle.evf_judging.specs.declared.Verdict.TheVariants.{Fine, Refused as Bad}
use Rattle.evf_judging.specs.Refusals.{first_refusal, checks_under}
use Rattle.generate_evf.specs.declared.Written.{Written}
use Rattle.generate_evf.specs.declared.Written.TheVariants.{Bytes, Refused, Short}
use Rattle.generate_evf.specs.Written.{written_by, written_of, written_number, writing_number, refusal_of}
use Rattle.generate_evf.specs.Written.{written_case}

pub refused-number : (w : Written) {k : ℕ} → refusal_of w ≡ some k → written_number w ≡ k
refused-number (Bytes n) e = let z : ◌≡◌ {A = ℕ} 0 1 = cc in absurd (omega arith)
refused-number (Refused j) {k} e = let q : j ≡ k = cc in q
refused-number (Short n) e = let z : ◌≡◌ {A = ℕ} 0 1 = cc in absurd (omega arith)

pub refused-case : {A : Type 0} (bytes short refused : ℕ → A) (w : Written) {k : ℕ} → refusal_of w ≡ some k
    → written_case bytes short refused w ≡ refused k
refused-case bytes short refused (Bytes n) e = let z : ◌≡◌ {A = ℕ} 0 1 = cc in absurd (omega arith)
refused-case bytes short refused (Refused j) {k} e = let q : j ≡ k = cc in ap refused q
refused-case bytes short refused (Short n) e = let z : ◌≡◌ {A = ℕ} 0 1 = cc in absurd (omega arith)

pub refused-bytes : {w : Written} {k n : ℕ} → refusal_of w ≡ some k → w ≡ Bytes n → ⊥
refused-bytes {k = k} e q =
    let y : ◌≡◌ {A = Option ℕ} none (some k) = ap refusal_of (sym q) ∙ e in
    let z : ◌≡◌ {A = ℕ} 0 1 = cc in absurd (omega arith)

pub refused-short : {w : Written} {k n : ℕ} → refusal_of w ≡ some k → w ≡ Short n → ⊥
refused-short {k = k} e q =
    let y : ◌≡◌ {A = Option ℕ} none (some k) = ap refusal_of (sym q) ∙ e in
    let z : ◌≡◌ {A = ℕ} 0 1 = cc in absurd (omega arith)

pub written-cases : (P : Written → Type 0) → ((n : ℕ) → P (Bytes n)) → ((n : ℕ) → P (Short n))
    → ((k : ℕ) (w : Written) → refusal_of w ≡ some k → P w) → (w : Written) → P w
written-cases P bytes short refused (Bytes n) = bytes n
written-cases P bytes short refused (Refused k) = refused k (Refused k) refl
written-cases P bytes short refused (Short n) = short n

-- BY THE CHECKS, of a game whose file has n bytes
room-number : (n room : ℕ)
    → written_number (cond (leb n room) (Bytes n) (Short (capped n))) ≡ cond (leb n room) 0 file_buffer_short
room-number n room =
    (elim (leb n room) as
    (λ t. written_number (cond t (Bytes n) (Short (capped n))) ≡ cond t 0 file_buffer_short)
    [ true ↦ refl | false ↦ refl ])

number_by : (cs : List Check) (n room : ℕ)
    → written_number (written_by (first_refusal cs) n room) ≡ first_of (cond (leb n room) 0 file_buffer_short)
    (λ k. k) cs
number_by cs n room =
    let fine = cond (leb n room) 0 file_buffer_short in
    first-cases Fine Bad cs (λ v. written_number (written_by v n room) ≡ first_of fine (λ k. k) cs)
    (λ none. room-number n room ∙ sym (none-holds fine (λ k. k) cs none))
    (λ k f. sym (first-of fine (λ k. k) cs k f))

pub number-seen : (rule version : ℕ) (g : Game) (room : ℕ)
    → written_number (written_of rule version g room) ≡ writing_number rule version g room
unfolding written_of
number-seen rule version g room = number_by (checks_under rule version g) (length (file_of
    (s_to_ms rule) version g)) room
