-- The blocks that are so many texts, without a reader (02, note 3): none, or a text, its 00, and the rest.
-- `texts-is` in proofs/Texts.antt says that the reader takes exactly these. Definitions only.
use Rattle.std.specs.Prelude.{ℕ, suc, List, [], ◌∷◌, ◌++◌}
use Rattle.text.specs.Words.{Word}

pub data Texts : (count : ℕ) → (block : List ℕ) → Type 0 where
  none : Texts 0 []
  more : {n : ℕ} {text rest : List ℕ} → Word text → Texts n rest → Texts (suc n) (text ++ 0 ∷ rest)
