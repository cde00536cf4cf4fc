-- What the private functions promise: an error's place in the table. Definitions only.
use Rattle.std.specs.Prelude.{ℕ, suc, cond, List, [], ◌∷◌, get_or, eqb}
use Rattle.errors.specs.Errors.{Error, table}

-- the numbers, and the words, of some errors
abbrev pub numbers_of : List Error → List ℕ
numbers_of [] = []
numbers_of (e ∷ others) = e.number ∷ numbers_of others

abbrev pub texts_of : List Error → List (List ℕ)
texts_of [] = []
texts_of (e ∷ others) = e.words ∷ texts_of others

-- where a number first stands in a list; the list's length where it does not
unfoldable pub place_in : List ℕ → ℕ → ℕ
place_in [] n = 0
place_in (m ∷ others) n = cond (eqb m n) 0 (suc (place_in others n))

unfoldable pub place_of : ℕ → ℕ
place_of n = place_in (numbers_of table) n

unfoldable pub text_at_place : ℕ → List ℕ
text_at_place k = get_or (texts_of table) k []
