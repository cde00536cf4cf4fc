-- Texts as they are written (01, Header). Definitions only. Numbers are `byte_reader`'s `bytes_of`.
use Rattle.std.specs.Prelude.{ℕ, List, [], ◌∷◌, ◌++◌, length}
use Rattle.byte_reader.specs.Numbers.{bytes_of}

-- a text and the 00 that ends it
abbrev pub zero_ended : List ℕ → List ℕ
zero_ended text = text ++ 0 ∷ []

-- a u16 and that many bytes
abbrev pub counted : List ℕ → List ℕ
counted text = bytes_of 2 (length text) ++ text
