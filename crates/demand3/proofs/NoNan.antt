-- NO READING GIVES A NAN, as specs/NoNan.antt states it: seconds are those of a count of milliseconds below
-- 2 ^ 32. Assumes nothing but that the file is bytes.
--     no_nan    the statement
use Prim.Native.Nat.{ℕ, ◌^◌, ◌<◌}
use mathlib.Core.Path.{◌≡◌, refl, sym, ap, subst, ◌∙◌}
use mathlib.Core.Bool.{Bool, true, false, not}
use mathlib.Core.List.{List}
use native.Mathlib.Omega.{arith}
use lib.Dec.{T}
use lib.Ieee.{Float, is_nan}
use borrow.Author.Tests.{eqb-true}
use Rattle.text.specs.declared.Place.{Place}
use Rattle.times.specs.Times.{seconds_of}
use Rattle.times.proofs.Seconds.{seconds-number}
use Rattle.game.specs.declared.Header.{Header}
use Rattle.game.specs.declared.Event.{Event}
use Rattle.byte_reader.specs.Reading.{Bytes as AllBytes}
use Rattle.evf_events.specs.Start.{first_cursor}
use Rattle.evf_events.proofs.Version4.{Rising, none, mouse, state, Version4 as AllEvents, starts, all-events}
use Rattle.evf_video.specs.Reading.{game, reading_of}
use Rattle.read_back.specs.Saved.{Timed, no_events, at_ms}
use Rattle.read_back.proofs.Readings.{read_plain, only-mouse}
use Rattle.evf_video.proofs.Trace.{traced}
use Rattle.upgrade.specs.Copy.{is_new}
use Rattle.upgrade.proofs.Numbers.{older}
use Rattle.demand3.specs.NoNan.{AllNumbers, NoNan}
use Rattle.demand3.proofs.Demand3.{fits}

number : {seconds : Float} {ms : ℕ} → seconds ≡ seconds_of ms → ms < 2 ^ 32 → T (not (is_nan seconds))
number {seconds} {ms} e l = subst (λ (s : Float). T (not (is_nan s))) (sym e) (seconds-number ms l)

-- versions 0 to 3: milliseconds of 24 bits
timed_numbers : {es : List Event} → Timed es → AllNumbers es
timed_numbers no_events = tt
timed_numbers (at_ms e l t) = (number e l, timed_numbers t)

-- version 4
rising_numbers : {last : ℕ} {es : List Event} → Rising last es → AllNumbers es
rising_numbers none = tt
rising_numbers (mouse e h l k r) = (number e l, rising_numbers r)
rising_numbers (state e h l r) = (number e l, rising_numbers r)

all_numbers : {es : List Event} → AllEvents es → AllNumbers es
all_numbers (starts e l k r) = (number e (omega (arith, l)), rising_numbers r)

by_version : (file : List ℕ) (small : AllBytes file) (h : Header) (place : Place) (es : List Event)
    → reading_of file ≡ game h place es → (t : Bool) → is_new h ≡ t → AllNumbers es
by_version file small h place es reads true e =
    let way = traced file reads in
    let v : way.opened.header.version ≡ 4 =
    sym (ap (λ (k : Header). k.version) way.header_is) ∙ eqb-true h.version 4 e in
    all_numbers
    (all-events file small (first_cursor way.opened.header.version way.at) v refl way.runs)
by_version file small h place es reads false e =
    timed_numbers (subst Timed (only-mouse file small reads (older file small reads e))
    (read_plain file small reads).timed)

pub no_nan : NoNan
no_nan file cells entries small r =
    by_version file small r.header r.board r.events (fits small r).is (is_new r.header) refl
