-- The pauses of a wait are read to their end, and leave a wait that one record tells. Assumes nothing.
--     no_pauses    a wait that one record tells has none
--     one-pause    what reading comes to behind one pause
--     passed       what reading comes to behind the pauses
use Prim.Native.Nat.{ℕ, zero, suc, ◌+◌, ◌-◌, ◌≤◌, ◌<◌}
use mathlib.Core.Path.{◌≡◌, refl, ◌∙◌}
use mathlib.Core.Bool.{true, false}
use mathlib.Core.List.{List, [], ◌∷◌, ◌++◌}
use native.Mathlib.Nat.{add-zero}
use native.Mathlib.Omega.{arith}
use lib.Dec.{leb}
use lib.ListN.{length}
use borrow.Author.Tests.{leb-true, leb-false, le-leb, lt-leb}
use Rattle.byte_reader.specs.Numbers.{bytes_of}
use Rattle.byte_reader.proofs.Laws.{Stands, front, behind}
use Rattle.evf_events.specs.declared.EventCursor.{EventCursor}
use Rattle.evf_events.specs.Events.{later_from}
use Rattle.evf_events.proofs.Turns.{turned}
use Rattle.mouse_records.specs.Pauses.{longest_wait, pause_in, pauses, rest, pauses_of, rest_of}
use Rattle.read_back.proofs.Fields.{taken, pause-takes}

-- ONE PAUSE MORE OR NONE
module _ (turns wait : ℕ) where
  none : wait ≤ longest_wait → (pauses (suc turns) wait ≡ []) × (rest (suc turns) wait ≡ wait)
  unfolding pauses rest
  none h = let e = le-leb wait longest_wait h in (rw (e, pauses), rw (e, rest))

  more : longest_wait < wait
      → (pauses (suc turns) wait ≡ 255 ∷ bytes_of 2 (pause_in wait) ++ pauses turns (wait - pause_in wait))
      × (rest (suc turns) wait ≡ rest turns (wait - pause_in wait))
  unfolding pauses rest
  more h = let e = lt-leb wait longest_wait h in (rw (e, pauses), rw (e, rest))

pub no_pauses : (wait : ℕ) → wait ≤ longest_wait → (pauses_of wait ≡ []) × (rest_of wait ≡ wait)
unfolding pauses_of rest_of pauses rest
no_pauses zero h = (refl, refl)
no_pauses (suc n) h = none n (suc n) h

-- The pauses e of a wait stand at a place, and leave the wait l. Behind them all of it but l is added to the
-- sum p of the pauses before.
pub record Passed (s : List ℕ) (c : EventCursor) (at p wait : ℕ) (e : List ℕ) (l : ℕ) : Type 0 where
  pub small : l ≤ longest_wait
  pub less : l ≤ wait
  pub same : later_from s c at p ≡ later_from s c (at + length e) (p + (wait - l))

module _ (s : List ℕ) (c : EventCursor) where
  pub one-pause : {r : List ℕ} (n at p : ℕ) → n < 65536 → p + n ≤ 4294967295
      → Stands s at (255 ∷ bytes_of 2 n) r → later_from s c at p ≡ later_from s c (at + 3) (p + n)
  one-pause n at p b h e =
      turned s c at p (taken s at (pause-takes s n b) e) ∙ rw (le-leb (p + n) 4294967295 h)

  stay : (at p wait : ℕ) → wait ≤ longest_wait → Passed s c at p wait [] wait
  stay at p wait h = let z : p + (wait - wait) ≡ p = omega arith in
      record { small = h; less = omega arith; same = rw (add-zero at, z) }

  -- as many turns as milliseconds will do, since a pause takes one or more; and no sum passes that of all
  -- pauses
  pass : (turns wait at p : ℕ) {r : List ℕ} → wait ≤ turns → p + wait ≤ 4294967295
      → Stands s at (pauses turns wait) r → Passed s c at p wait (pauses turns wait) (rest turns wait)
  unfolding pauses rest
  pass zero wait at p t h e = stay at p wait (omega arith)
  pass (suc turns) wait at p {r} t h e =
      (elim (leb wait longest_wait) as
      (λ b. leb wait longest_wait ≡ b
      → Passed s c at p wait (pauses (suc turns) wait) (rest (suc turns) wait)) [
        | true ↦ λ q. let l = leb-true wait longest_wait q in
            rw ((none turns wait l).0, (none turns wait l).1) (stay at p wait l)
        | false ↦ λ q.
            let l = leb-false wait longest_wait q in
            let n = pause_in wait in
            let st : Stands s at (255 ∷ bytes_of 2 n ++ pauses turns (wait - n)) r =
            rw (more turns wait l).0 at e in
            let i = pass turns (wait - n) (at + 3) (p + n) (omega arith) (omega arith)
            (behind s at (255 ∷ bytes_of 2 n) (pauses turns (wait - n)) r st) in
            let sum : p + n + (wait - n - rest turns (wait - n)) ≡ p + (wait - rest turns (wait - n)) =
            omega (arith, i.less) in
            let to : at + 3 + length (pauses turns (wait - n))
            ≡ at + suc (suc (suc (length (pauses turns (wait - n))))) = omega arith in
            rw ((more turns wait l).0, (more turns wait l).1)
            (record {
              small = i.small;
              less = omega (arith, i.less);
              same = one-pause n at p (omega arith) (omega arith)
                  (front s at (255 ∷ bytes_of 2 n) (pauses turns (wait - n)) r st) ∙ i.same ∙ rw (sum, to);
            })
      ])
      refl

  pub passed : (wait at : ℕ) {r : List ℕ} → wait ≤ 4294967295 → Stands s at (pauses_of wait) r
      → Passed s c at 0 wait (pauses_of wait) (rest_of wait)
  unfolding pauses_of rest_of
  passed wait at h e = pass wait wait at 0 (omega arith) (omega arith) e
