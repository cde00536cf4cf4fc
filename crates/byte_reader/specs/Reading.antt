-- Reading a file field by field, up to the first one that is wrong (01, Refusals). Definitions only.
use Rattle.std.specs.Prelude.{ℕ, ◌<◌, Bool, cond, List, get_or}

-- a file is bytes: every entry of the list is below 256
abbrev pub Bytes : List ℕ → Type 0
Bytes file = (i : ℕ) → get_or file i 0 < 256

-- what a field gives: a value and the place after it, or the number of a refusal
pub data Got (A : Type 0) : Type 0 where
  ok : A → ℕ → Got A
  no : ℕ → Got A

-- a field is read from a file at a place
abbrev pub Reader : Type 0 → Type 0
Reader A = List ℕ → ℕ → Got A

abbrev pub follow : {A B : Type 0} → Got A → (A → ℕ → Got B) → Got B
follow (ok a to) q = q a to
follow (no n) q = no n

-- one field, then what its value asks for, from the place after it
infixl 20 ◌>>=◌
unfoldable pub ◌>>=◌ : {A B : Type 0} → Reader A → (A → Reader B) → Reader B
◌>>=◌ p q = λ file at. follow (p file at) (λ a to. q a file to)

-- nothing is read, and the value is a
unfoldable pub pure : {A : Type 0} → A → Reader A
pure a = λ file at. ok a at

-- nothing is read, and the file is refused
unfoldable pub refuse : {A : Type 0} → ℕ → Reader A
refuse n = λ file at. no n

-- nothing is read, and what is bad is refused
unfoldable pub refuse_when : Bool → ℕ → Reader (Unit {0})
refuse_when bad n = λ file at. cond bad (no n) (ok tt at)
