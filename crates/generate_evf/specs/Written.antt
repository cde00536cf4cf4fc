-- What the writers and their sizing answer by a rule, and what a writer leaves in the lent file (01, Refusals
-- 14 to 23; 02, notes 3 and 5). Definitions only.
use Rattle.std.specs.Prelude.{ℕ, ◌≡◌, cond, List, leb, length}
use Rattle.std.proofs.Math.Option.{Option, none, some}
use Rattle.std.proofs.lemmas.List.Edits.{sets}
use Rattle.times.specs.Times.{s_to_ms}
use Rattle.game.specs.Refusals.{pixels_too_large, first_event_unwritable, file_buffer_short, metrics_unwritable}
use Rattle.game.specs.Checks.{first_of}
use Rattle.game.specs.Same.{Game}
use Rattle.byte_writer.specs.Places.{capped}
use Rattle.generate_evf.specs.declared.Size.{Size}
use Rattle.generate_evf.specs.declared.Size.TheVariants.{Bytes as Takes, Refused as Unsized}
use Rattle.generate_evf.specs.declared.Written.{Written}
use Rattle.generate_evf.specs.declared.Written.TheVariants.{Bytes, Refused, Short}
use Rattle.evf_judging.specs.declared.Verdict.{Verdict}
use Rattle.evf_judging.specs.declared.Verdict.TheVariants.{Fine, Refused as Bad}
use Rattle.evf_layout.specs.Layout.{file_of}
use Rattle.evf_judging.specs.Refusals.{first_refusal, checks_under}

-- SIZING: the number of the refusal, or the length of the file, capped at the largest usize
abbrev pub size_by : Verdict → (length : ℕ) → Size
size_by Fine n = Takes (capped n)
size_by (Bad k) n = Unsized k

unfoldable pub size_of : (rule version : ℕ) → Game → Size
size_of rule version g =
    size_by (first_refusal (checks_under rule version g)) (length (file_of (s_to_ms rule) version g))

-- WRITING: the number of the refusal; or the length, where there is room for it; or that length, capped, of
-- which the room falls short
abbrev pub written_by : Verdict → (length room : ℕ) → Written
written_by Fine n room = cond (leb n room) (Bytes n) (Short (capped n))
written_by (Bad k) n room = Refused k

unfoldable pub written_of : (rule version : ℕ) → Game → (room : ℕ) → Written
written_of rule version g room =
    written_by (first_refusal (checks_under rule version g)) (length (file_of (s_to_ms rule) version g)) room

-- the lent file then: its first bytes, and the rest as it was; all as it was where the call is refused or the
-- room falls short
abbrev pub file_by : Verdict → (bytes file : List ℕ) → List ℕ
file_by Fine bytes file = cond (leb (length bytes) (length file)) (sets file 0 bytes) file
file_by (Bad k) bytes file = file

unfoldable pub file_then : (rule version : ℕ) → Game → (file : List ℕ) → List ℕ
file_then rule version g file =
    file_by (first_refusal (checks_under rule version g)) (file_of (s_to_ms rule) version g) file

-- 01'S NUMBER of an answer, 0 for none
abbrev pub size_number : Size → ℕ
size_number (Takes n) = 0
size_number (Unsized k) = k

abbrev pub written_number : Written → ℕ
written_number (Bytes n) = 0
written_number (Refused k) = k
written_number (Short n) = file_buffer_short

-- the number of writing a game: that of the first refusal that holds, 23 where the room falls short
abbrev pub writing_number : (rule version : ℕ) → Game → (room : ℕ) → ℕ
writing_number rule version g room =
    first_of (cond (leb (length (file_of (s_to_ms rule) version g)) room) 0 file_buffer_short) (λ n. n)
    (checks_under rule version g)

-- version 3 has no place for 16, 21 and 25: none of its numbers is one of them
abbrev pub OfVersion3 : ℕ → Type 0
OfVersion3 n = (n ≡ pixels_too_large → ⊥) × (n ≡ first_event_unwritable → ⊥) × (n ≡ metrics_unwritable → ⊥)

-- FOR CALLERS, who see of a refusal its number alone (proofs/Answers.antt has the laws)

-- the answer of a call that is refused with a number
abbrev pub refused_with : ℕ → Written
refused_with k = Refused k

-- the number of a refusal; none where the file was written or the room falls short
abbrev pub refusal_of : Written → Option ℕ
refusal_of (Bytes n) = none
refusal_of (Refused k) = some k
refusal_of (Short n) = none

-- by the length that was written, the length that the room falls short of, or the refusal's number
module _ {ℓ} {A : Type ℓ} where
  abbrev pub written_case : (bytes short refused : ℕ → A) → Written → A
  written_case bytes short refused (Bytes n) = bytes n
  written_case bytes short refused (Refused k) = refused k
  written_case bytes short refused (Short n) = short n

-- what sizing answers, by a writer's answer to the same game
abbrev pub size_in : Written → Size
size_in (Bytes n) = Takes n
size_in (Refused k) = Unsized k
size_in (Short n) = Takes n

-- what a writer promises of its answer, the answer's number, and each byte of the lent file
pub record Generates (version : ℕ) (g : Game) (file : List ℕ) (rule : ℕ) (answer : Written)
    (file' : List ℕ) : Type 0 where
  pub answer_is : answer ≡ written_of rule version g (length file)
  pub number_is : written_number answer ≡ writing_number rule version g (length file)
  pub file_is : file' ≡ file_then rule version g file
