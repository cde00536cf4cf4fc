-- The refusals as the help tells them: each by its number, in words, with what a person can do. Definitions
-- only.
use Rattle.std.specs.Prelude.{ℕ, zero, suc, cond, List, [], ◌∷◌, ◌++◌, ltb}
use Rattle.text.specs.Decimals.{decimal_bytes}
use Rattle.lines.specs.Ascii.{ascii}
use Rattle.lines.specs.Fields.{newline}
use Rattle.words.specs.Words.{words_of, advice_of}

-- a space before a number of one digit, so that numbers stand below each other
abbrev pub indent : ℕ → List ℕ
indent n = cond (ltb n 10) (ascii " ") []

-- a refusal of the help, in two lines: the number and the words; the advice below the words
abbrev pub help_line : ℕ → List ℕ
help_line n = indent n ++ decimal_bytes n ++ ascii "  " ++ words_of n ++ newline ∷ ascii "      " ++ advice_of n
    ++ newline ∷ []

-- the refusals 1 to n, one behind the other
unfoldable pub help_lines_to : ℕ → List ℕ
help_lines_to zero = []
help_lines_to (suc n) = help_lines_to n ++ help_line (suc n)

-- the refusals of the help, 1 to 28
abbrev pub help_lines : List ℕ
help_lines = help_lines_to 28
