-- What the private functions promise: the texts of the table one behind the other, by their place.
-- Definitions only.
use Rattle.std.specs.Prelude.{ℕ, ◌*◌, cond, List, [], ◌∷◌, get_or, ltb}
use Rattle.words.specs.Words.{Refusal, table, unknown}

-- the words and the advice of each
abbrev pub pieces_of : List Refusal → List (List ℕ)
pieces_of [] = []
pieces_of (r ∷ others) = r.words ∷ r.advice ∷ pieces_of others

-- what is said of an unknown number, then what is said of each refusal in its order
unfoldable pub pieces : List (List ℕ)
pieces = pieces_of (unknown ∷ table)

unfoldable pub piece_at : ℕ → List ℕ
piece_at k = get_or pieces k []

-- the place of a number's words; the advice stands behind them
unfoldable pub place_of : ℕ → ℕ
place_of n = cond (ltb 28 n) 0 (2 * n)
