-- A row judged, measured and written: what the two passes come to. Assumes nothing.
--     seen-row         judging a row tells what keeps its version from holding it, and the length of its
--                      bytes
--     put_row          writing it stores its bytes from a place on,
--     put_row_place    comes to the place behind them,
--     put_row_writes   which is both in the form that fields are chained by,
--     put_row_off      and does nothing where it is off
use Prim.Native.Nat.{ℕ, suc, ◌+◌, ◌≤◌}
use mathlib.Core.Path.{◌≡◌, refl, sym, ap, subst, ◌∙◌}
use mathlib.Core.Bool.{true, false}
use mathlib.Core.List.{List, [], ◌∷◌, foldl}
use native.Mathlib.Nat.{add-zero, zero-add}
use native.Mathlib.Omega.{arith}
use lib.Dec.{eqb}
use lib.Ieee.{Float}
use lib.ListN.{length, length-append}
use lib.Seq.{sets}
use borrow.Author.Tests.{ne_eqb}
use Rattle.times.specs.Times.{s_to_ms}
use Rattle.game.specs.declared.Event.{Event}
use Rattle.byte_writer.specs.Places.{most, capped, Writes, length_of}
use Rattle.byte_writer.proofs.Laws.{writes_none, writes_then, plus-length}
use Rattle.mouse_records.specs.declared.Last.{Last}
use Rattle.evf_records.specs.declared.Seen.{Seen}
use Rattle.evf_records.specs.declared.Run.{Run}
use Rattle.evf_records.specs.declared.FirstFault.{FirstFault}
use Rattle.evf_records.specs.declared.EntryFault.{EntryFault}
use Rattle.mouse_records.specs.Records.{nothing_yet, entry_bytes, last_after, row_bytes}
use Rattle.evf_records.specs.Causes.{first_entry_fault, first_fault_of, entry_fault, entry_fault_from}
use Rattle.evf_records.specs.Causes.{entry_fault_of}
use Rattle.std.specs.Prelude.{Option, is_some}
use Rattle.std.specs.Option.{option_or}
use Rattle.evf_records.specs.Steps.{unseen, seen_after, seen_by, SeenRow, ran_after, wrote_after, puts}
use Rattle.evf_records.specs.Steps.{bytes_now, put_by}
use Rattle.evf_records.proofs.Causes.{next_none, next_next, begins-caused, holds-caused}
use Rattle.mouse_records.proofs.Records.{long}

-- JUDGED
pub counted-not : (k : ℕ) → eqb (capped (suc k)) 0 ≡ false
counted-not k = ne_eqb (capped (suc k)) 0 (omega arith)

pub counted-more : (k j : ℕ) → capped (capped k + j) ≡ capped (k + j)
counted-more k j = omega arith

-- behind k entries and one, with n bytes so far
abbrev behind : (version rule k : ℕ) → Option FirstFault → Option EntryFault → Last → (n : ℕ) → Seen
behind version rule k first fault last n =
    record {
      version = version;
      rule = rule;
      entries = capped (suc k);
      first_fault = first;
      entry_fault = fault;
      last = last;
      len = length_of n;
    }

module _ (version rule : ℕ) where
  abbrev toMs : Float → ℕ
  toMs = s_to_ms rule

  record Later (k : ℕ) (first : Option FirstFault) (fault : Option EntryFault) (last : Last) (n : ℕ) (row : List Event)
      (s : Seen) : Type 0 where
    version_is : s.version ≡ version
    rule_is : s.rule ≡ rule
    first_is : s.first_fault ≡ first
    entry_is : s.entry_fault ≡ option_or fault (entry_fault_from toMs version (suc k) last row)
    length_is : s.len ≡ length_of (n + length (row_bytes toMs version last row))

  one_entry : (k : ℕ) (first : Option FirstFault) (fault : Option EntryFault) (last : Last) (n : ℕ) (e : Event)
      → seen_after (behind version rule k first fault last n) e
      ≡ behind version rule (suc k) first (option_or fault (entry_fault toMs version (capped (suc k)) last e))
      (last_after toMs last e) (n + length (entry_bytes toMs version last e))
  unfolding seen_after
  one_entry k first fault last n e =
      let m : capped (capped (suc k) + 1) ≡ capped (suc (suc k)) = omega arith in
      rw (counted-not k, m, plus-length n (length (entry_bytes toMs version last e)))

  seen-later : (k : ℕ) (first : Option FirstFault) (fault : Option EntryFault) (last : Last) (n : ℕ) (row : List Event)
      → Later k first fault last n row (seen_by (behind version rule k first fault last n) row)
  seen-later k first fault last n [] =
      record {
        version_is = refl;
        rule_is = refl;
        first_is = refl;
        entry_is = sym (next_none fault);
        length_is = ap length_of (sym (add-zero n));
      }
  seen-later k first fault last n (e ∷ es) =
      let next = entry_fault toMs version (capped (suc k)) last e in
      let to = last_after toMs last e in
      let rest = seen-later (suc k) first (option_or fault next) to
      (n + length (entry_bytes toMs version last e)) es in
      rw (one_entry k first fault last n e)
      (record {
        version_is = rest.version_is;
        rule_is = rest.rule_is;
        first_is = rest.first_is;
        entry_is = rest.entry_is ∙ next_next fault next (entry_fault_from toMs version (suc (suc k)) to es);
        length_is = rest.length_is
            ∙ ap length_of
            (omega (arith, length-append (entry_bytes toMs version last e) (row_bytes toMs version to es)));
      })

  first_entry : (e : Event)
      → seen_after (unseen version rule) e
      ≡ behind version rule 0 (first_entry_fault toMs version e) (entry_fault toMs version 0 nothing_yet e)
      (last_after toMs nothing_yet e) (length (entry_bytes toMs version nothing_yet e))
  unfolding seen_after
  first_entry e = rw (plus-length 0 (length (entry_bytes toMs version nothing_yet e)), zero-add)

  from-causes : {row : List Event} {s : Seen} → s.version ≡ version → s.rule ≡ rule
      → s.first_fault ≡ first_fault_of toMs version row → s.entry_fault ≡ entry_fault_of toMs version row
      → s.len ≡ length_of (length (row_bytes toMs version nothing_yet row)) → SeenRow version rule row s
  from-causes {row} v u f e l = record {
    version_is = v;
    rule_is = u;
    first_is = f;
    entry_is = e;
    start_is = ap is_some f ∙ begins-caused toMs version row;
    event_is = ap is_some e ∙ holds-caused toMs version row;
    length_is = l;
  }

  pub seen-row : (row : List Event) → SeenRow version rule row (seen_by (unseen version rule) row)
  seen-row [] = from-causes refl refl refl refl refl
  seen-row (e ∷ es) =
      let first = first_entry_fault toMs version e in
      let fault = entry_fault toMs version 0 nothing_yet e in
      let to = last_after toMs nothing_yet e in
      let rest = seen-later 0 first fault to (length (entry_bytes toMs version nothing_yet e)) es in
      rw (first_entry e)
      (from-causes rest.version_is rest.rule_is rest.first_is rest.entry_is
      (rest.length_is
      ∙ ap length_of
      (sym (length-append (entry_bytes toMs version nothing_yet e) (row_bytes toMs version to es)))))

-- WRITTEN
-- where writing stands behind an entry
abbrev next : Run → Event → Run
next r e =
    record {
      version = r.version;
      rule = r.rule;
      off = false;
      at = capped (r.at + length (bytes_now r e));
      last =
          last_after (s_to_ms r.rule) r.last e;
    }

put_one : (r : Run) (d : List ℕ) (e : Event) → r.off ≡ false
    → puts (r, d) e ≡ (next r e, sets d r.at (bytes_now r e))
unfolding ran_after wrote_after
put_one r d e off = rw off

-- the bytes of a row, from where writing stands to where it then stands
abbrev Written : Run → List ℕ → List Event → Type 0
Written r d row = Writes d (put_by r d row).1 r.at (row_bytes (s_to_ms r.rule) r.version r.last row)
    (put_by r d row).0.at

module _ (r : Run) (d : List ℕ) (off : r.off ≡ false) (l : length d ≤ most) (e : Event) where
  abbrev entry : List ℕ
  entry = bytes_now r e

  abbrev stored : Writes d (sets d r.at entry) r.at entry (capped (r.at + length entry))
  stored = record { is = refl; next = refl }

  put_first : (es : List Event) → Written (next r e) (sets d r.at entry) es → Written r d (e ∷ es)
  put_first es w =
      subst (λ (p : Run × List ℕ). Writes d (foldl puts p es).1 r.at
      (row_bytes (s_to_ms r.rule) r.version r.last (e ∷ es)) (foldl puts p es).0.at)
      (sym (put_one r d e off)) (writes_then l stored (λ _. w))

pub put_row_writes : (r : Run) (d : List ℕ) (row : List Event) → r.off ≡ false → length d ≤ most
    → r.at ≤ most → Written r d row
put_row_writes r d [] off l a = writes_none d r.at a
put_row_writes r d (e ∷ es) off l a =
    put_first r d off l e es
    (put_row_writes (next r e) (sets d r.at (bytes_now r e)) es refl
    (long l (stored r d off l e)) (omega arith))

pub put_row : (r : Run) (d : List ℕ) (row : List Event) → r.off ≡ false → length d ≤ most
    → (put_by r d row).1 ≡ sets d r.at (row_bytes (s_to_ms r.rule) r.version r.last row)
put_row r d [] off l = refl
put_row r d (e ∷ es) off l =
    (put_first r d off l e es
    (put_row_writes (next r e) (sets d r.at (bytes_now r e)) es refl
    (long l (stored r d off l e)) (omega arith))).is

pub put_row_place : (r : Run) (d : List ℕ) (row : List Event) → r.off ≡ false → length d ≤ most
    → r.at ≤ most
    → (put_by r d row).0.at ≡ capped (r.at + length (row_bytes (s_to_ms r.rule) r.version r.last row))
put_row_place r d row off l a = (put_row_writes r d row off l a).next

put_none : (r : Run) (d : List ℕ) (e : Event) → r.off ≡ true → puts (r, d) e ≡ (r, d)
unfolding ran_after wrote_after
put_none r d e off = rw off

pub put_row_off : (r : Run) (d : List ℕ) (row : List Event) → r.off ≡ true → put_by r d row ≡ (r, d)
put_row_off r d [] off = refl
put_row_off r d (e ∷ es) off =
    ap (λ (p : Run × List ℕ). foldl puts p es) (put_none r d e off) ∙ put_row_off r d es off
