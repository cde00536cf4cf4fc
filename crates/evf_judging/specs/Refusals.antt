-- The games that a version cannot hold: 14 to 20, 25, 21 and 22, in checking order; and before them 26 (01,
-- Refusals; 02, notes 3 and 5). `toMs` is how seconds become milliseconds. Definitions only.
use Rattle.std.specs.Prelude.{ℕ, zero, suc, ◌+◌, ◌*◌, Bool, false, not, ◌&&◌, ◌||◌, List, [], ◌∷◌, eqb, ltb, Float, length}
use Rattle.times.specs.Times.{is_rule, no_such_rule, s_to_ms}
use Rattle.text.specs.declared.Place.{Place}
use Rattle.game.specs.declared.Header.{Header}
use Rattle.game.specs.Header.{place_at}
use Rattle.game.specs.Refusals.{text_outside, size_unwritable, pixels_too_large, board_short, number_too_large}
use Rattle.game.specs.Refusals.{text_unwritable, length_unwritable, metrics_unwritable}
use Rattle.game.specs.Refusals.{first_event_unwritable, event_unwritable}
use Rattle.game.specs.Limits.{largest_u16, largest_u24, largest_pixels}
use Rattle.judging_texts.specs.Texts.{texts_bad, lengths_bad, metrics_bad}
use Rattle.game.specs.Sizes.{sizes_bad, cells_short}
use Rattle.game.specs.Checks.{Check, ◌when◌, first_of}
use Rattle.game.specs.Same.{Game}
use Rattle.evf_records.specs.Refusals.{start_unwritable, event_unwritable as entryUnwritable}
use Rattle.evf_judging.specs.declared.Verdict.{Verdict}
use Rattle.evf_judging.specs.declared.Verdict.TheVariants.{Fine, Refused}

-- a test holds of a number below k
abbrev pub any_below : ℕ → (ℕ → Bool) → Bool
any_below zero test = false
any_below (suc k) test = any_below k test || test k

-- 14: one of the nine texts, or the block of the custom metrics, ends past the lent bytes, written or not
abbrev pub ends_past : (bytes : ℕ) → Place → Bool
ends_past bytes p = ltb bytes (p.start + p.len)

abbrev pub texts_past : (bytes : ℕ) → Header → Bool
texts_past bytes h = any_below 9 (λ slot. ends_past bytes (place_at h slot))

abbrev pub any_past : (bytes : ℕ) → Header → Bool
any_past bytes h = texts_past bytes h || ends_past bytes h.metrics

-- 16: in version 4, a board of too many pixels either way
abbrev pub pixels_bad : (version : ℕ) → Header → Bool
pixels_bad version h =
    eqb version 4
    && (ltb largest_pixels (h.height * h.cell_pixel_size)
    || ltb largest_pixels (h.width * h.cell_pixel_size))

-- 18: mines or 3BV that are no u16, or in version 3 a time that is no u24
abbrev pub number_bad : (version : ℕ) → Header → Bool
number_bad version h =
    ltb largest_u16 h.mine_num
    || (ltb largest_u16 h.bbbv || (not (eqb version 4) && ltb largest_u24 h.rtime_ms.0))

-- 01's number of a verdict, 0 for none
abbrev pub verdict_number : Verdict → ℕ
verdict_number Fine = 0
verdict_number (Refused n) = n

-- the verdict of the first check that holds
abbrev pub first_refusal : List Check → Verdict
first_refusal = first_of Fine Refused

-- all of them, where it is known what 21 and 22 say of the row; the last five look into the texts and the row
abbrev pub late_checks : (version : ℕ) → Header → (bytes : List ℕ) → (start event : Bool) → List Check
late_checks version h bytes start event =
    (text_unwritable when texts_bad h bytes version) ∷
    (length_unwritable when lengths_bad h bytes version) ∷
    (metrics_unwritable when metrics_bad h bytes version) ∷
    (first_event_unwritable when start) ∷
    (event_unwritable when event) ∷ []

abbrev pub checks_by : (version : ℕ) → Header → (bytes : List ℕ) → (cells : ℕ) → (start event : Bool)
    → List Check
checks_by version h bytes cells start event =
    (text_outside when any_past (length bytes) h) ∷
    (size_unwritable when sizes_bad h.height h.width) ∷
    (pixels_too_large when pixels_bad version h) ∷
    (board_short when cells_short h.height h.width cells) ∷
    (number_too_large when number_bad version h) ∷ late_checks version h bytes start event

-- the checks of a game in a version, by a conversion
abbrev pub checks : (toMs : Float → ℕ) → (version : ℕ) → Game → List Check
checks toMs version g =
    checks_by version g.header g.bytes (length g.cells) (start_unwritable toMs version g.events)
    (entryUnwritable toMs version g.events)

-- 26 stands before the others: what was taken for a rule is none
abbrev pub under_rule : (rule : ℕ) → List Check → List Check
under_rule rule cs = (no_such_rule when not (is_rule rule)) ∷ cs

-- the refusals of writing a game in a version by a rule, in checking order
abbrev pub checks_under : (rule version : ℕ) → Game → List Check
checks_under rule version g = under_rule rule (checks (s_to_ms rule) version g)
