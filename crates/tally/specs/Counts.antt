-- How many files there were, and what became of them. Definitions only.
use Rattle.std.specs.Prelude.{ℕ, ◌+◌, min, Bool, true, false, cond, ◌||◌, List, [], ◌∷◌, ◌++◌, eqb, ltb}
use Rattle.text.specs.Decimals.{decimal_bytes}
use Rattle.lines.specs.Ascii.{ascii}
use Rattle.lines.specs.Fields.{newline}
use Rattle.tally.specs.declared.Fate.{Fate}
use Rattle.tally.specs.declared.Fate.TheVariants.{Done, Differs, Refused, Failed}
use Rattle.tally.specs.declared.Tally.{Tally}

-- the largest u64, where counts stop
abbrev pub most_count : ℕ
most_count = 18446744073709551615

-- one more
abbrev pub one_more : ℕ → ℕ
one_more n = min (n + 1) most_count

-- the counts of files, and of those that were done, differ, were refused and failed
abbrev pub made : ℕ → ℕ → ℕ → ℕ → ℕ → Tally
made n d u r f = record { files = n; done = d; differ = u; refused = r; failed = f }

-- nothing counted yet
abbrev pub none : Tally
none = made 0 0 0 0 0

-- a file more, and what became of it
abbrev pub counted_of : Tally → Fate → Tally
counted_of t Done = made (one_more t.files) (one_more t.done) t.differ t.refused t.failed
counted_of t Differs = made (one_more t.files) t.done (one_more t.differ) t.refused t.failed
counted_of t Refused = made (one_more t.files) t.done t.differ (one_more t.refused) t.failed
counted_of t Failed = made (one_more t.files) t.done t.differ t.refused (one_more t.failed)

-- the files of a run, one after the other
abbrev pub count_all : Tally → List Fate → Tally
count_all t [] = t
count_all t (f ∷ fs) = count_all (counted_of t f) fs

abbrev pub is_done : Fate → Bool
is_done Done = true
is_done Differs = false
is_done Refused = false
is_done Failed = false

abbrev pub is_differing : Fate → Bool
is_differing Done = false
is_differing Differs = true
is_differing Refused = false
is_differing Failed = false

abbrev pub is_refused : Fate → Bool
is_refused Done = false
is_refused Differs = false
is_refused Refused = true
is_refused Failed = false

abbrev pub is_failed : Fate → Bool
is_failed Done = false
is_failed Differs = false
is_failed Refused = false
is_failed Failed = true

-- the status of a run: 2 where something failed, else 1 where something was refused or differs, else 0
abbrev pub status_of : Tally → ℕ
status_of t = cond (ltb 0 t.failed) 2 (cond (ltb 0 t.refused || ltb 0 t.differ) 1 0)

-- a number and a word
abbrev pub number_and : ℕ → List ℕ → List ℕ
number_and n word = decimal_bytes n ++ word

-- one file, or several
abbrev pub files_part : ℕ → List ℕ
files_part n = number_and n (cond (eqb n 1) (ascii " file: ") (ascii " files: "))

-- those that differ, where there is one
abbrev pub differ_part : ℕ → List ℕ
differ_part n = cond (eqb n 0) [] (number_and n (cond (eqb n 1) (ascii " differs, ") (ascii " differ, ")))

-- the counts as they are told
abbrev pub counts_part : Tally → List ℕ
counts_part t = files_part t.files ++ (number_and t.done (ascii " done, ") ++ (differ_part t.differ
    ++ (number_and t.refused (ascii " refused, ") ++ number_and t.failed (ascii " failed"))))

-- and as a line
abbrev pub tally_line : Tally → List ℕ
tally_line t = counts_part t ++ (newline ∷ [])
