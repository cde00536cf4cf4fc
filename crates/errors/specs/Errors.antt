-- The system's error numbers in words (errno of Linux). Definitions only.
use Rattle.std.specs.Prelude.{ℕ, cond, List, [], ◌∷◌, ◌++◌, eqb, ℤ, pos, negsuc}
use Prim.Native.String.{String}
use Rattle.text.specs.Decimals.{decimal_bytes}
use Rattle.lines.specs.Ascii.{ascii}

-- an error's number and its words
pub record Error : Type 0 where
  pub number : ℕ
  pub words : List ℕ

abbrev pub error : ℕ → String → Error
error n words = record { number = n; words = ascii words }

-- the errors that opening, reading, writing and renaming a file meet
unfoldable pub table : List Error
table =
    error 2 "no such file or folder"
    ∷ error 1 "permission denied"
    ∷ error 13 "permission denied"
    ∷ error 20 "a part of the name is no folder"
    ∷ error 21 "a folder, not a file"
    ∷ error 17 "the name is taken"
    ∷ error 28 "no room left on the device"
    ∷ error 122 "the disk quota is used up"
    ∷ error 30 "the file system is read-only"
    ∷ error 36 "the name is too long"
    ∷ error 40 "too many links"
    ∷ error 5 "the device failed"
    ∷ error 27 "the file would be too large"
    ∷ error 23 "too many open files"
    ∷ error 24 "too many open files"
    ∷ error 12 "no memory left"
    ∷ error 22 "a name that no file can have"
    ∷ error 6 "no such device"
    ∷ error 9 "it is not open"
    ∷ []

-- what is said of a number that the table lacks
abbrev pub other_words : ℕ → List ℕ
other_words n = ascii "the system's error " ++ decimal_bytes n

-- the words of a number among some errors
abbrev pub among_of : List Error → ℕ → List ℕ
among_of [] n = other_words n
among_of (e ∷ others) n = cond (eqb n e.number) e.words (among_of others n)

unfoldable pub error_words : ℕ → List ℕ
error_words n = among_of table n

-- the number of an error, which is an i32; one below 0 counts as 0
abbrev pub number_of : ℤ → ℕ
number_of (pos n) = n
number_of (negsuc n) = 0
