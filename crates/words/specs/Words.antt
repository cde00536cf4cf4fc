-- The refusals for people: what a file has that was refused, and what can be done about it (01, Refusals;
-- README, "Why a replay is refused"). Definitions only. 11, 12, 14, 15, 17, 18 and 23 to 26 no command
-- answers.
use Rattle.std.specs.Prelude.{ℕ, cond, List, [], ◌∷◌, ◌++◌, eqb}
use Prim.Native.String.{String}
use Rattle.lines.specs.Ascii.{ascii}
use Rattle.lines.specs.Fields.{tab, newline, column}
use Rattle.game.specs.Refusals.{file_ends, version_unknown, text_not_utf8, arbiter, time_not_decimal}
use Rattle.game.specs.Refusals.{time_too_large, height_zero, first_code_unknown, code_unknown, ms_too_large}
use Rattle.game.specs.Refusals.{board_buffer_short, row_short, already_version4, text_outside, size_unwritable}
use Rattle.game.specs.Refusals.{pixels_too_large, board_short, number_too_large, text_unwritable}
use Rattle.game.specs.Refusals.{length_unwritable, first_event_unwritable, event_unwritable, file_buffer_short}
use Rattle.game.specs.Refusals.{work_short, metrics_unwritable, pixels_zero, buttons_together}
use Rattle.times.specs.Times.{no_such_rule}

-- a refusal's number, its words, and what a person can do
pub record Refusal : Type 0 where
  pub number : ℕ
  pub words : List ℕ
  pub advice : List ℕ

abbrev pub refusal : ℕ → String → String → Refusal
refusal n words advice = record { number = n; words = ascii words; advice = ascii advice }

unfoldable pub table : List Refusal
table =
    refusal file_ends "the file breaks off" "fetch it again: it was cut off"
    ∷ refusal version_unknown "not a replay of version 0 to 4" "if it is a replay, look for a newer evf"
    ∷ refusal text_not_utf8 "a text that must be UTF-8 is not" "save it anew with its own software"
    ∷ refusal arbiter "a replay of Arbiter, whose start and end are not understood"
    "use the tools of Arbiter's own format"
    ∷ refusal time_not_decimal "start or end is not a decimal number" "save it anew with its own software"
    ∷ refusal time_too_large "start or end lies too far in the future" "fetch it again: it is damaged"
    ∷ refusal height_zero "the board has no rows" "fetch it again: it is damaged"
    ∷ refusal first_code_unknown "the first event has an unknown code" "fetch it again: it is damaged"
    ∷ refusal code_unknown "an event has an unknown code" "fetch it again: it is damaged"
    ∷ refusal ms_too_large "an event's time is too large" "fetch it again: it is damaged"
    ∷ refusal board_buffer_short "no room for the board" "tell the makers of the program that says so"
    ∷ refusal row_short "no room for the events" "tell the makers of the program that says so"
    ∷ refusal already_version4 "already version 4" "nothing has to be done: keep it as it is"
    ∷ refusal text_outside "a text lies outside the file" "tell the makers of the program that says so"
    ∷ refusal size_unwritable "the board's size does not fit the format"
    "tell the makers of the program that says so"
    ∷ refusal pixels_too_large "the board in pixels is too large for version 4"
    "keep the old file: no copy is made of such a board"
    ∷ refusal board_short "the board has too few cells" "tell the makers of the program that says so"
    ∷ refusal number_too_large "mines, 3BV or time are too large for the format"
    "tell the makers of the program that says so"
    ∷ refusal text_unwritable "player, race or unique id is not UTF-8"
    "keep the old file, or save it anew in UTF-8"
    ∷ refusal length_unwritable "the device id is too long for version 4"
    "keep the old file: no copy can hold it"
    ∷ refusal first_event_unwritable "version 4 cannot hold the first event, or there is none"
    "keep the old file: no copy can hold it"
    ∷ refusal event_unwritable "an event has an unknown kind or goes back in time"
    "keep the old file: no copy can hold it"
    ∷ refusal file_buffer_short "no room for the copy" "tell the makers of the program that says so"
    ∷ refusal work_short "no room to work in" "tell the makers of the program that says so"
    ∷ refusal metrics_unwritable "the custom metrics are not as many texts as they are said to be"
    "tell the makers of the program that says so"
    ∷ refusal no_such_rule "the rule of rounding is neither 1 nor 2" "ask for rule 1 or 2"
    ∷ refusal pixels_zero "a cell has no pixels" "fetch it again: it is damaged"
    ∷ refusal buttons_together "the game has chords, both buttons at once, which evf play does not know"
    "see the board before the first of them: evf play --after N"
    ∷ []

-- what is said of a number that no refusal has
unfoldable pub unknown : Refusal
unknown = refusal 0 "no refusal has this number" "tell the makers of the program that says so"

-- the refusal of a number among some
abbrev pub among_of : List Refusal → ℕ → Refusal
among_of [] n = unknown
among_of (r ∷ others) n = cond (eqb n r.number) r (among_of others n)

unfoldable pub refusal_of : ℕ → Refusal
refusal_of n = among_of table n

abbrev pub words_of : ℕ → List ℕ
words_of n = (refusal_of n).words

abbrev pub advice_of : ℕ → List ℕ
advice_of n = (refusal_of n).advice

-- the line of a file that was refused: `refused`, the number and the words, parted by tabs
abbrev pub refused_line : ℕ → List ℕ
refused_line n = ascii "refused" ++ column n ++ tab ∷ [] ++ words_of n ++ newline ∷ []
