-- A row taken entry by entry: judged and measured, and written. Seconds become milliseconds by the rule that
-- the state carries. Definitions only.
use Rattle.std.specs.Prelude.{ℕ, ◌+◌, ◌≡◌, Bool, true, false, cond, not, ◌&&◌, eqb, Float, length, Some, None, is_some}
use Rattle.std.specs.Option.{option_or}
use mathlib.Core.List.{List, foldl}
use Rattle.std.proofs.lemmas.List.Edits.{sets}
use Rattle.times.specs.Times.{s_to_ms}
use Rattle.game.specs.declared.MouseKind.{MouseKind}
use Rattle.game.specs.declared.Event.{Event}
use Rattle.game.specs.declared.Event.TheVariants.{Mouse}
use Rattle.byte_writer.specs.declared.Length.{Length}
use Rattle.byte_writer.specs.Places.{capped, length_of, plus_of}
use Rattle.mouse_records.specs.declared.Last.{Last}
use Rattle.evf_records.specs.declared.Seen.{Seen}
use Rattle.evf_records.specs.declared.Run.{Run}
use Rattle.evf_records.specs.declared.FirstFault.TheVariants.{NoEntry}
use Rattle.mouse_records.specs.Records.{nothing_yet, entry_bytes, last_after, row_bytes}
use Rattle.evf_records.specs.Refusals.{start_unwritable, event_unwritable}
use Rattle.evf_records.specs.Causes.{first_entry_fault, first_fault_of, entry_fault, entry_fault_of}

-- JUDGED AND MEASURED: before the first entry, with n bytes counted before; in version 4 a first entry is
-- missing
abbrev pub unseen_behind : (version rule n : ℕ) → Seen
unseen_behind version rule n = record {
  version = version;
  rule = rule;
  entries = 0;
  first_fault = cond (eqb version 4) (Some NoEntry) None;
  entry_fault = None;
  last = nothing_yet;
  len = length_of n;
}

abbrev pub unseen : (version rule : ℕ) → Seen
unseen version rule = unseen_behind version rule 0

-- what is known of a row: its version, the rule, its bytes in that version, the last mouse event, and whether
-- 21 or 22 holds
abbrev pub seen_version : Seen → ℕ
seen_version s = s.version

abbrev pub seen_rule : Seen → ℕ
seen_rule s = s.rule

abbrev pub seen_length : Seen → Length
seen_length s = s.len

abbrev pub seen_last : Seen → Last
seen_last s = s.last

abbrev pub seen_start_bad : Seen → Bool
seen_start_bad s = is_some s.first_fault

abbrev pub seen_event_bad : Seen → Bool
seen_event_bad s = is_some s.entry_fault

-- an entry was seen, in version 4: what follows may be taken as a run of plain events
abbrev pub seen_begun4 : Seen → Bool
seen_begun4 s = not (eqb s.entries 0) && eqb s.version 4

-- k entries more that change neither 21 nor 22, the last mouse event among them, and n bytes more
unfoldable pub seen_past : Seen → Last → (k n : ℕ) → Seen
seen_past s last k n = record {
  version = s.version;
  rule = s.rule;
  entries = capped (s.entries + k);
  first_fault = s.first_fault;
  entry_fault = s.entry_fault;
  last = last;
  len = plus_of s.len n;
}

-- WRITTEN: where writing the entries stands: from a place on, behind a mouse event, and nowhere
abbrev pub run_from : (version rule at : ℕ) → Run
run_from version rule at = record { version = version; rule = rule; off = false; at = at; last = nothing_yet }

abbrev pub run_past : (rule at : ℕ) → Last → Run
run_past rule at last = record { version = 4; rule = rule; off = false; at = at; last = last }

abbrev pub run_off : (version rule : ℕ) → Run
run_off version rule = record { version = version; rule = rule; off = true; at = 0; last = nothing_yet }

-- writing is on, in version 4; the rule; the place where the next entry goes, and the mouse event before it
abbrev pub run_on4 : Run → Bool
run_on4 r = not r.off && eqb r.version 4

abbrev pub run_rule : Run → ℕ
run_rule r = r.rule

abbrev pub run_place : Run → ℕ
run_place r = r.at

abbrev pub run_last : Run → Last
run_last r = r.last

-- one entry more: the first one decides on the start, and the first fault stays
unfoldable pub seen_after : Seen → Event → Seen
seen_after s e = let toMs = s_to_ms s.rule in
    record {
      version = s.version;
      rule = s.rule;
      entries = capped (s.entries + 1);
      first_fault = cond (eqb s.entries 0) (first_entry_fault toMs s.version e) s.first_fault;
      entry_fault = option_or s.entry_fault (entry_fault toMs s.version s.entries s.last e);
      last = last_after toMs s.last e;
      len = plus_of s.len (length (entry_bytes toMs s.version s.last e));
    }

abbrev pub seen_by : Seen → List Event → Seen
seen_by = foldl seen_after

-- the bytes of an entry where writing stands
abbrev pub bytes_now : Run → Event → List ℕ
bytes_now r e = entry_bytes (s_to_ms r.rule) r.version r.last e

-- an entry written: nothing where writing is off
unfoldable pub ran_after : Run → Event → Run
ran_after r e = cond r.off r (record {
  version = r.version;
  rule = r.rule;
  off = false;
  at = capped (r.at + length (bytes_now r e));
  last = last_after (s_to_ms r.rule) r.last e;
})

unfoldable pub wrote_after : List ℕ → Run → Event → List ℕ
wrote_after d r e = cond r.off d (sets d r.at (bytes_now r e))

-- a row written: where writing stands then, and the buffer
abbrev pub puts : Run × List ℕ → Event → Run × List ℕ
puts p e = (ran_after p.0 e, wrote_after p.1 p.0 e)

abbrev pub put_by : Run → List ℕ → List Event → Run × List ℕ
put_by r d = foldl puts (r, d)

-- What is known behind a row is what the definitions say of the row, by the rule's conversion.
pub record SeenRow (version rule : ℕ) (row : List Event) (s : Seen) : Type 0 where
  pub version_is : seen_version s ≡ version
  pub rule_is : seen_rule s ≡ rule
  pub first_is : s.first_fault ≡ first_fault_of (s_to_ms rule) version row
  pub entry_is : s.entry_fault ≡ entry_fault_of (s_to_ms rule) version row
  pub start_is : seen_start_bad s ≡ start_unwritable (s_to_ms rule) version row
  pub event_is : seen_event_bad s ≡ event_unwritable (s_to_ms rule) version row
  pub length_is : seen_length s ≡ length_of (length (row_bytes (s_to_ms rule) version nothing_yet row))

-- A mouse event more, at given milliseconds: right for all seconds that come to so many by the rule.
pub record JudgesMove (s : Seen) (kind : MouseKind) (ms x y : ℕ) (s' : Seen) : Type 0 where
  pub right : (seconds : Float) → s_to_ms s.rule seconds ≡ ms → s' ≡ seen_after s (Mouse seconds kind x y)

-- A mouse event written, right in the same way.
pub record PutsMove (r : Run) (kind : MouseKind) (ms x y : ℕ) (d d' : List ℕ) (r' : Run) : Type 0 where
  pub right : (seconds : Float) → s_to_ms r.rule seconds ≡ ms
      → (r' ≡ ran_after r (Mouse seconds kind x y)) × (d' ≡ wrote_after d r (Mouse seconds kind x y))
