-- START AND END AS VERSION 3 WRITES THEM (01, Header): which are read as they are. Assumes nothing but that
-- they fit 64 bits.
--     kept_read         those that are kept are read as they are
--     read_kept         and those that are read as they are, are kept
--     refused-number    none is refused but with 4 and 6
use Prim.Native.Nat.{ℕ, ◌+◌, ◌*◌, ◌^◌, ◌<◌}
use mathlib.Core.Path.{◌≡◌, refl, sym, ap, ◌∙◌}
use mathlib.Core.Bool.{Bool, true, false, cond, ◌&&◌, ◌||◌, and-eq-true_iff, true≢false}
use mathlib.Core.Logic.{◌⊎◌, inl, inr}
use mathlib.Core.List.{List}
use native.Mathlib.Omega.{arith}
use lib.Dec.{eqb, ltb}
use borrow.Author.Tests.{le-ltb, eq-eqb, eqb-true}
use Rattle.std.specs.Prelude.{Option, Some}
use Rattle.text.proofs.Decimals.{decimal-back}
use Rattle.times.specs.declared.GameMs.{GameMs}
use Rattle.times.specs.Times.{calendar_of}
use Rattle.game.specs.Header.{software_slot}
use Rattle.game.specs.Refusals.{arbiter, time_too_large}
use Rattle.game.specs.Same.{Game, text_of}
use Rattle.header_fields.specs.declared.Span.{Span}
use Rattle.header_fields.specs.Fields.{span_of}
use Rattle.header_software.specs.declared.Times.{Times}
use Rattle.header_software.specs.declared.Times.TheVariants.{Known, Refused}
use Rattle.header_software.specs.Software.{begins_with, arbiter_name, vienna_name, yuan_name, largest_u64}
use Rattle.header_software.specs.Software.{vienna, yuan, times_of}
use Rattle.fields_back.specs.Carried.{times_read}
use Rattle.read_back_v3.specs.Back3.{times_kept}

-- what is known of times: whether there are any, their refusal, and what start and end are
abbrev is_known : Times → Bool
is_known (Known span) = true
is_known (Refused n) = false

abbrev number_in : Times → ℕ
number_in (Known span) = 0
number_in (Refused n) = n

abbrev start_in : Times → ℕ
start_in (Known span) = span.start.0
start_in (Refused n) = 0

abbrev end_in : Times → ℕ
end_in (Known span) = span.end.0
end_in (Refused n) = 0

-- by what the software's name begins with: Arbiter, Viennasweeper, 元
abbrev times_by : (a v y : Bool) (start end : ℕ) → GameMs → Times
times_by a v y start end time = cond a (Refused arbiter)
    (cond v (vienna (Some start) time) (cond y (Known (span_of start end)) (Known (span_of 0 0))))

abbrev kept_by : (a v y : Bool) (start end : ℕ) → GameMs → Bool
kept_by a v y start end time = cond a false
    (cond v (eqb start 0 && eqb end (calendar_of time).0) (cond y true (eqb start 0 && eqb end 0)))

-- a span that is refused where it is too late
too_late_lem : (b : Bool) (span : Span) {n : ℕ} → cond b (Refused time_too_large) (Known span) ≡ Refused n
    → (n ≡ arbiter) ⊎ (n ≡ time_too_large)
too_late_lem true span e = inr (sym (ap number_in e))
too_late_lem false span e = absurd (true≢false (ap is_known e))

module _ (start end : ℕ) (time : GameMs) (he : end < 2 ^ 64) where
  both : (k : ℕ) → (eqb start 0 && eqb end k) ≡ true → (start ≡ 0) × (end ≡ k)
  both k e = let p = (and-eq-true_iff (eqb start 0) (eqb end k)).0 e in
      (eqb-true _ _ p.0, eqb-true _ _ p.1)

  both-are : (k : ℕ) → start ≡ 0 → end ≡ k → (eqb start 0 && eqb end k) ≡ true
  both-are k a b = rw (eq-eqb _ _ a, eq-eqb _ _ b)

  vienna-kept : start ≡ 0 → end ≡ (calendar_of time).0 → vienna (Some start) time ≡ Known (span_of start end)
  unfolding vienna
  vienna-kept a b =
      let us : start * 1000000 ≡ start = omega arith in
      let later : start + (calendar_of time).0 ≡ end = omega arith in
      rw (us, later, le-ltb largest_u64 start (omega arith), le-ltb largest_u64 end (omega arith))

  by_name : (a v y : Bool) → kept_by a v y start end time ≡ true
      → times_by a v y start end time ≡ Known (span_of start end)
  by_name true v y e = absurd (true≢false (sym e))
  by_name false true y e = let p = both (calendar_of time).0 e in vienna-kept p.0 p.1
  by_name false false true e = refl
  by_name false false false e = let p = both 0 e in rw (p.0, p.1)

  -- Viennasweeper's start counts seconds, so only 0 is the same in microseconds
  vienna-back : (b : Bool) (n m : ℕ) → n ≡ start * 1000000 → m ≡ n + (calendar_of time).0
      → cond b (Refused time_too_large) (Known (span_of n m)) ≡ Known (span_of start end)
      → (start ≡ 0) × (end ≡ (calendar_of time).0)
  vienna-back true n m en em e = absurd (true≢false (sym (ap is_known e)))
  vienna-back false n m en em e =
      let s : n ≡ start = ap start_in e in
      let t : m ≡ end = ap end_in e in
      (omega (arith, s, en), omega (arith, s, t, en, em))

  by_name-back : (a v y : Bool) → times_by a v y start end time ≡ Known (span_of start end)
      → kept_by a v y start end time ≡ true
  unfolding vienna
  by_name-back true v y e = absurd (true≢false (sym (ap is_known e)))
  by_name-back false true y e =
      let n = start * 1000000 in
      let m = n + (calendar_of time).0 in
      let p = vienna-back (ltb largest_u64 n || ltb largest_u64 m) n m refl refl e in
      both-are (calendar_of time).0 p.0 p.1
  by_name-back false false true e = refl
  by_name-back false false false e = both-are 0 (sym (ap start_in e)) (sym (ap end_in e))

  -- what is refused is Arbiter, or too late a Viennasweeper
  refused-by : (a v y : Bool) {n : ℕ} → times_by a v y start end time ≡ Refused n
      → (n ≡ arbiter) ⊎ (n ≡ time_too_large)
  unfolding vienna
  refused-by true v y e = inl (sym (ap number_in e))
  refused-by false true y e =
      let n = start * 1000000 in
      let m = n + (calendar_of time).0 in
      too_late_lem (ltb largest_u64 n || ltb largest_u64 m) (span_of n m) e
  refused-by false false true e = absurd (true≢false (ap is_known e))
  refused-by false false false e = absurd (true≢false (ap is_known e))

module _ (g : Game) (hs : g.header.start_time.0 < 2 ^ 64) (he : g.header.end_time.0 < 2 ^ 64) where
  abbrev start : ℕ
  start = g.header.start_time.0

  abbrev end : ℕ
  end = g.header.end_time.0

  abbrev begins : List ℕ → Bool
  begins name = begins_with name (text_of g software_slot)

  -- a decimal number is read as itself
  times-by : times_read g
      ≡ times_by (begins arbiter_name) (begins vienna_name) (begins yuan_name) start end g.header.rtime_ms
  unfolding times_of yuan
  times-by = rw (decimal-back start hs, decimal-back end he)

  pub kept_read : times_kept g ≡ true → times_read g ≡ Known (span_of start end)
  kept_read e =
      times-by ∙ by_name start end g.header.rtime_ms he (begins arbiter_name) (begins vienna_name)
      (begins yuan_name) e

  pub read_kept : {span : Span} → times_read g ≡ Known span → span.start ≡ g.header.start_time
      → span.end ≡ g.header.end_time → times_kept g ≡ true
  read_kept {span} e a b =
      by_name-back start end g.header.rtime_ms he (begins arbiter_name) (begins vienna_name)
      (begins yuan_name) (sym times-by ∙ e ∙ rw (← a, ← b))

  pub refused-number : {n : ℕ} → times_read g ≡ Refused n → (n ≡ arbiter) ⊎ (n ≡ time_too_large)
  refused-number e =
      refused-by start end g.header.rtime_ms he (begins arbiter_name) (begins vienna_name)
      (begins yuan_name) (sym times-by ∙ e)
