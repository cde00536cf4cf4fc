-- What the steps promise, of which the writers are made: a game judged, and the bytes around its events
-- written. Definitions only.
use Rattle.std.specs.Prelude.{ℕ, ◌+◌, ◌≡◌, Bool, true, false, cond, List, [], ℤ, length}
use Rattle.std.proofs.lemmas.List.Edits.{sets}
use Rattle.game.specs.declared.Header.{Header}
use Rattle.byte_writer.specs.declared.Length.{Length}
use Rattle.byte_writer.specs.Places.{capped, plus_of, fits_in}
use Rattle.evf_records.specs.declared.Seen.{Seen}
use Rattle.evf_records.specs.Steps.{seen_version, seen_rule, seen_length, seen_start_bad, seen_event_bad}
use Rattle.evf_records.specs.Steps.{run_from, run_off}
use Rattle.generate_evf.specs.declared.Size.{Size}
use Rattle.generate_evf.specs.declared.Size.TheVariants.{Bytes as Takes, Refused as Unsized}
use Rattle.generate_evf.specs.declared.Written.TheVariants.{Bytes, Refused, Short}
use Rattle.generate_evf.specs.declared.Ready.{Ready}
use Rattle.evf_judging.specs.declared.Verdict.{Verdict}
use Rattle.evf_judging.specs.declared.Verdict.TheVariants.{Fine, Refused as Bad}
use Rattle.layout_fields.specs.Fields.{lent}
use Rattle.evf_layout.specs.Layout.{front_of, tail_of}
use Rattle.evf_judging.specs.Refusals.{first_refusal, checks_by, under_rule}

module _ (h : Header) (bytes : List ℕ) (board : List ℤ) (seen : Seen) where
  -- what stands before the events and behind them
  abbrev pub front_seen : List ℕ
  front_seen = front_of (seen_version seen) (lent h bytes board [])

  abbrev pub tail_seen : List ℕ
  tail_seen = tail_of (seen_version seen) (lent h bytes board [])

  -- the first refusal that holds, the row judged before
  unfoldable pub verdict_of : Verdict
  verdict_of = first_refusal
      (under_rule (seen_rule seen)
      (checks_by (seen_version seen) h bytes (length board) (seen_start_bad seen) (seen_event_bad seen)))

  -- the length of the whole file, from that of the events
  unfoldable pub whole_of : Length
  whole_of = plus_of (plus_of (seen_length seen) (length front_seen)) (length tail_seen)

  abbrev pub sized_by : Verdict → Size
  sized_by Fine = Takes whole_of.bytes
  sized_by (Bad k) = Unsized k

  unfoldable pub size_seen : Size
  size_seen = sized_by verdict_of

  abbrev pub roomy : (room : Bool) → Ready
  roomy true =
      record {
        written = Bytes whole_of.bytes;
        run = run_from (seen_version seen) (seen_rule seen) (capped (length front_seen));
      }
  roomy false = record { written = Short whole_of.bytes; run = run_off (seen_version seen) (seen_rule seen) }

  abbrev pub ready_by : Verdict → (room : ℕ) → Ready
  ready_by Fine room = roomy (fits_in whole_of room)
  ready_by (Bad k) room = record { written = Refused k; run = run_off (seen_version seen) (seen_rule seen) }

  -- the answer, and where the events go
  unfoldable pub ready_of : (file : List ℕ) → Ready
  ready_of file = ready_by verdict_of (length file)

  -- front and tail, with room for the events between them
  abbrev pub around : (file : List ℕ) → List ℕ
  around file = sets (sets file 0 front_seen) (capped (capped (length front_seen) + (seen_length seen).bytes))
      tail_seen

  abbrev pub around_by : Verdict → (file : List ℕ) → List ℕ
  around_by Fine file = cond (fits_in whole_of (length file)) (around file) file
  around_by (Bad k) file = file

  unfoldable pub around_of : (file : List ℕ) → List ℕ
  around_of file = around_by verdict_of file

-- a length that was worked out without the board
pub record WholeIs (h : Header) (bytes : List ℕ) (seen : Seen) (l : Length) : Type 0 where
  pub is : (board : List ℤ) → l ≡ whole_of h bytes board seen
