-- The next event after the first of version 4: one record is taken, and reading goes on behind it. Nothing
-- above sees the number of turns. Assumes nothing.
--     turn          later_from takes one record and goes on
--     stood, ..     what it comes to at each record that the code finds
--     Holds, holds  what holds of every answer that one record can give holds of later_from
use Rattle.std.proofs.Common.{◌≡◌, ℕ, zero, suc, ◌+◌, ◌-◌, ◌<◌, ◌≤◌, Bool, true, false, cond, leb, ◌≢◌, List, length, sym, refl, ap, ◌∙◌, arith, le-leb, leb-true}
use borrow.Author.Tests.{lt-leb}
use Rattle.game.specs.declared.GameState.{GameState}
use Rattle.game.specs.Kinds.{kind_of}
use Rattle.game.specs.Refusals.{file_ends, code_unknown, ms_too_large}
use Rattle.byte_reader.specs.Reading.{Got, ok}
use Rattle.evf_events.specs.declared.EventCursor.{EventCursor}
use Rattle.evf_events.specs.declared.Step.{Step}
use Rattle.evf_events.specs.declared.Step.TheVariants.{End, Refused}
use Rattle.records_v4.specs.Records.{Change, moves, becomes, Later, pauses, event, later_record}
use Rattle.evf_events.specs.Events.{where_ms_fit, changed, event_after, act, later, later_from}
use Rattle.records_v4.specs.Tells.{Stands}
use Rattle.records_v4.proofs.Records.{later-end}
use Rattle.records_v4.proofs.Seen.{Seen, cut, unknown, stop, skip, pause, mouse, state, seen}
use Rattle.evf_events.proofs.Steps.{waited}

-- TURNS
act_same : (file : List ℕ) (at : ℕ) {r : Got Later} (f g : ℕ → ℕ → Step) (c : EventCursor) (p : ℕ)
    → Seen file at r
    → ((n q : ℕ) → at < n → f n q ≡ g n q) → act r f c p ≡ act r g c p
act_same file at f g c p cut h = refl
act_same file at f g c p (unknown i l m e) h = refl
act_same file at f g c p (stop i) h = refl
act_same file at f g c p (skip i) h = h (at + 1) p (omega arith)
act_same file at f g c p (pause i ms) h = ap (where_ms_fit (p + ms)) (h (at + 3) (p + ms) (omega arith))
act_same file at f g c p (mouse i code wait dx dy a b) h = refl
act_same file at f g c p (state i s wait) h = refl

enough : (file : List ℕ) (c : EventCursor) (f g at p : ℕ) → length file ≤ at + f → length file ≤ at + g
    → later f file c at p ≡ later g file c at p
unfolding later
enough file c zero zero at p hf hg = refl
enough file c zero (suc g) at p hf hg = let e : length file ≤ at = omega arith in rw (later-end file at e)
enough file c (suc f) zero at p hf hg = let e : length file ≤ at = omega arith in rw (later-end file at e)
enough file c (suc f) (suc g) at p hf hg =
    act_same file at (later f file c) (later g file c) c p (seen file at)
    (λ n q h. enough file c f g n q (omega arith) (omega arith))

module _ (file : List ℕ) (c : EventCursor) (at p : ℕ) where
  pub turn : later_from file c at p ≡ act (later_record file at) (later_from file c) c p
  unfolding later later_from
  turn =
      enough file c (length file - at) (suc (length file)) at p (omega arith) (omega arith)
      ∙ act_same file at (later (length file) file c) (later_from file c) c p (seen file at)
      (λ n q h. enough file c (length file) (length file - n) n q (omega arith) (omega arith))

  pub turned : {g : Got Later} → later_record file at ≡ g
      → later_from file c at p ≡ act g (later_from file c) c p
  turned e = turn ∙ rw e

  pub stood : {r : Later} {n : ℕ} → Stands file at r n
      → later_from file c at p ≡ act (ok r (at + n)) (later_from file c) c p
  stood s = turned s.is

  -- an event, where the code has the last event's ms and the wait
  pub event-stood : {n wait : ℕ} {change : Change} → Stands file at (event wait change) n
      → {last w : ℕ} {r : Step} → last ≡ c.ms.0 → w ≡ wait
      → r ≡ where_ms_fit (last + (p + w)) (changed c (at + n) (last + (p + w)) change)
      → r ≡ later_from file c at p
  event-stood {n} {wait} {change} s {last} {w} clock e er =
      let sum : last + (p + w) ≡ last + (p + wait) = omega arith in
      waited c (at + n) p wait change clock sum er ∙ sym (stood s)

  -- a pause of n, by whether the sum of the pauses is still a u32
  module _ (n : ℕ) {ms : ℕ} (s : Stands file at (pauses ms) 3) (e : n ≡ ms) where
    pub pause-late : 4294967295 < p + n → later_from file c at p ≡ Refused ms_too_large
    pause-late h = let l : 4294967295 < p + ms = omega arith in stood s ∙ rw (lt-leb (p + ms) 4294967295 l)

    pub pause-on : p + n ≤ 4294967295 → later_from file c at p ≡ later_from file c (at + 3) (p + n)
    pause-on h = let l : p + ms ≤ 4294967295 = omega arith in stood s ∙ rw (le-leb (p + ms) 4294967295 l, e)

-- WHATEVER IS ANSWERED
pub by_test : {A : Type 0} (P : A → Type 0) (b : Bool) {x y : A} → (b ≡ true → P x) → (b ≡ false → P y)
    → P (cond b x y)
by_test P true f g = f refl
by_test P false f g = g refl

-- P holds of each answer of one record, where reading began at a place and its events are not before the
-- cursor's
pub record Holds (P : Step → Type 0) (file : List ℕ) (c : EventCursor) (from : ℕ) : Type 0 where
  pub ends : P (Refused file_ends)
  pub unnamed : P (Refused code_unknown)
  pub late : P (Refused ms_too_large)
  pub stopped : (at : ℕ) → from < at → at ≤ length file → P (End at true)
  pub moved : (at ms code dx dy : ℕ) → from + 6 ≤ at → at ≤ length file → c.ms.0 ≤ ms → ms ≤ 4294967295
      → code ≢ 0 → code ≤ 12 → P (changed c at ms (moves (kind_of code) dx dy))
  pub became : (at ms : ℕ) (s : GameState) → from + 2 ≤ at → at ≤ length file → c.ms.0 ≤ ms
      → ms ≤ 4294967295 → P (changed c at ms (becomes s))

module _ (P : Step → Type 0) (file : List ℕ) (c : EventCursor) (from : ℕ) (h : Holds P file c from) where
  of-act : (at : ℕ) {r : Got Later} (on : ℕ → ℕ → Step) (p : ℕ) → from ≤ at → Seen file at r
      → ((n q : ℕ) → from ≤ n → P (on n q)) → P (act r on c p)
  unfolding event_after
  of-act at on p l cut go = h.ends
  of-act at on p l (unknown i a b e) go = h.unnamed
  of-act at on p l (stop i) go = h.stopped (at + 1) (omega arith) i
  of-act at on p l (skip i) go = go (at + 1) p (omega arith)
  of-act at on p l (pause i ms) go =
      by_test P (leb (p + ms) 4294967295) (λ t. go (at + 3) (p + ms) (omega arith)) (λ t. h.late)
  of-act at on p l (mouse i code wait dx dy a b) go =
      by_test P (leb (c.ms.0 + (p + wait)) 4294967295)
      (λ t. h.moved (at + 6) (c.ms.0 + (p + wait)) code dx dy (omega arith) i (omega arith)
      (leb-true _ _ t) a b) (λ t. h.late)
  of-act at on p l (state i s wait) go =
      by_test P (leb (c.ms.0 + (p + wait)) 4294967295)
      (λ t. h.became (at + 2) (c.ms.0 + (p + wait)) s (omega arith) i (omega arith) (leb-true _ _ t))
      (λ t. h.late)

  of-later : (turns at p : ℕ) → from ≤ at → P (later turns file c at p)
  unfolding later
  of-later zero at p l = h.ends
  of-later (suc turns) at p l = of-act at (later turns file c) p l (seen file at) (of-later turns)

  pub holds : P (later_from file c from 0)
  unfolding later_from
  holds = of-later (length file - from) from 0 (omega arith)
