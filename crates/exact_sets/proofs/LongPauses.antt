-- 10 OF A FILE, by laws: reading refuses the table's file with 65537 pauses of 65535 ms and one of 1 ms.
-- Assumes nothing.
--     reading10    the reading of that file
use Prim.Native.Nat.{ℕ, zero, suc, ◌+◌, ◌*◌, ◌≤◌}
use mathlib.Core.Path.{◌≡◌, refl, sym, ◌∙◌}
use mathlib.Core.Bool.{false}
use mathlib.Core.List.{List, [], ◌∷◌, ◌++◌, append-nil}
use native.Mathlib.Omega.{arith}
use lib.ListN.{length, length-append}
use Rattle.text.specs.declared.Place.{Place}
use Rattle.text.specs.Places.{absent}
use Rattle.text.specs.Ends.{up_to00}
use Rattle.text.specs.Utf8.{utf8, byte}
use Rattle.times.specs.Times.{seconds_of}
use Rattle.board.specs.Bits.{bit_at}
use Rattle.board.specs.Geometry.{mines_in}
use Rattle.game.specs.declared.Event.TheVariants.{Mouse}
use Rattle.game.specs.declared.MouseKind.TheVariants.{Mv}
use Rattle.game.specs.Kinds.{kind_of}
use Rattle.game.specs.Header.{level_of}
use Rattle.byte_reader.specs.Reading.{ok, ◌>>=◌, pure, refuse, refuse_when}
use Rattle.byte_reader.specs.Numbers.{big_endian, bytes_of, number as numberField}
use Rattle.byte_reader.specs.Fields.{bytes, counted_bytes, text, must_be_utf8, utf8_text, utf8_bytes}
use Rattle.byte_reader.proofs.Laws.{Stands, front, behind}
use Rattle.header_fields.specs.Fields.{contents, flags, sizes, board_bytes}
use Rattle.metrics.specs.Block.{texts, block_of_texts, custom_metrics}
use Rattle.header_v4.specs.Front.{translation, new_texts, new_front}
use Rattle.evf_header.specs.Opening.{Opened, header_of, front_of, metrics_of, opening}
use Rattle.evf_events.specs.declared.EventCursor.{EventCursor}
use Rattle.evf_events.specs.declared.Step.TheVariants.{Got as Next, Refused as Broken}
use Rattle.record_fields.specs.Fields.{mouse_body}
use Rattle.records_v4.specs.Records.{is_first, first_record}
use Rattle.evf_events.specs.Events.{later_from, step_of, refused, events_from}
use Rattle.evf_events.specs.Start.{first_cursor}
use Rattle.evf_events.proofs.Turns.{turned}
use Rattle.evf_events.proofs.Runs.{turn}
use Rattle.evf_events.proofs.Steps.{step-first, step-later}
use Rattle.evf_video.specs.Reading.{none, reading_of}
use Rattle.read_back.proofs.Fields.{taken, pause-takes}
use Rattle.read_back.proofs.Pauses.{one-pause}
use Rattle.exact_sets.specs.ExactSets.{new, first_move, headed_by, long_pauses, refused10}

-- PAUSES
pauses_long : (n : ℕ) → length (long_pauses n) ≡ n * 3
pauses_long zero = refl
pauses_long (suc n) = omega (arith, pauses_long n)

module _ (s : List ℕ) (c : EventCursor) where
  -- as many as come to no more than the largest u32, and one that passes it
  pass : (k at p : ℕ) {r : List ℕ} → p + k * 65535 ≤ 4294967295 → Stands s at (long_pauses k) r
      → later_from s c at p ≡ later_from s c (at + k * 3) (p + k * 65535)
  pass zero at p h e = let a : at + 0 * 3 ≡ at = omega arith in let b : p + 0 * 65535 ≡ p = omega arith in
      rw (a, b)
  pass (suc k) at p {r} h e =
      let a : at + 3 + k * 3 ≡ at + suc k * 3 = omega arith in
      let b : p + 65535 + k * 65535 ≡ p + suc k * 65535 = omega arith in
      one-pause s c 65535 at p (omega arith) (omega arith)
      (front s at (255 ∷ bytes_of 2 65535) (long_pauses k) r e)
      ∙ pass k (at + 3) (p + 65535) (omega arith) (behind s at (255 ∷ bytes_of 2 65535) (long_pauses k) r e)
      ∙ rw (a, b)

  past : (at p : ℕ) {r : List ℕ} → p ≡ 4294967295 → Stands s at (255 ∷ bytes_of 2 1) r
      → later_from s c at p ≡ Broken 10
  past at p q e = turned s c at p (taken s at (pause-takes s 1 (omega arith)) e) ∙ rw q

-- THE FILE: its header, its first event, and the pauses behind that
abbrev one_pause : List ℕ
one_pause = 255 ∷ 0 ∷ 1 ∷ []

abbrev behind_first : EventCursor
behind_first = record { version = 4; at = 48; first = false; ms = record { 0 = 0 }; x = 0; y = 0 }

abbrev empty : ℕ → Place
empty at = record { start = at; len = 0 }

abbrev opened_new : Opened
opened_new =
    let texts : List Place =
    empty 34 ∷ absent ∷ absent ∷ empty 35 ∷ empty 36 ∷ empty 37 ∷ record { start = 16; len = 2 } ∷ empty
    40 ∷ absent ∷ [] in
    record { header = headed_by (empty 42) 0 1 0 0 0 0 texts; board = empty 40 }

module _ (r : List ℕ) (long : length r ≡ 196614) where
  abbrev file : List ℕ
  file = new ++ (first_move ++ r)

  opens_at : opening file 0 ≡ ok opened_new 42
  unfolding up_to00 utf8 byte bit_at mines_in kind_of level_of ◌>>=◌ pure refuse refuse_when big_endian numberField
      bytes text must_be_utf8 utf8_text utf8_bytes contents flags sizes board_bytes texts block_of_texts
      custom_metrics translation new_texts new_front header_of front_of metrics_of opening mouse_body is_first
      first_record counted_bytes
  opens_at = rw (long, opening) (rw (long, new_front) refl)

  first_step : step_of file (first_cursor 4 42) ≡ Next (Mouse (seconds_of 0) Mv 0 0) behind_first
  unfolding up_to00 utf8 byte bit_at mines_in kind_of level_of ◌>>=◌ pure refuse refuse_when big_endian numberField
      bytes text must_be_utf8 utf8_text utf8_bytes contents flags sizes board_bytes texts block_of_texts
      custom_metrics translation new_texts new_front header_of front_of metrics_of opening mouse_body is_first
      first_record counted_bytes
  first_step = step-first file (first_cursor 4 42) refl refl
      ∙ rw (long, first_record) (rw (long, mouse_body) refl)

  -- a file that refuses at its second event
  refused-there : step_of file behind_first ≡ Broken 10 → reading_of file ≡ none 10
  unfolding reading_of
  refused-there e =
      let second : events_from file behind_first ≡ refused 10 = turn file behind_first ∙ rw e in
      let first : events_from file (first_cursor 4 42) ≡ refused 10 =
      turn file (first_cursor 4 42) ∙ rw (first_step, second) in
      rw (opens_at, first)

second_step : (s : List ℕ) (k : ℕ) → k ≡ 65537 → Stands s 48 (long_pauses k ++ one_pause) []
    → step_of s behind_first ≡ Broken 10
second_step s k e h =
    let last : Stands s (48 + k * 3) one_pause [] =
    rw (pauses_long k) at (behind s 48 (long_pauses k) one_pause [] h) in
    step-later s behind_first refl refl ∙ pass s behind_first k 48 0 (omega (arith, e))
    (front s 48 (long_pauses k) one_pause [] h)
    ∙ past s behind_first (48 + k * 3) (0 + k * 65535) (omega (arith, e)) last

reading_at : (k : ℕ) → k ≡ 65537 → reading_of (new ++ (first_move ++ (long_pauses k ++ one_pause))) ≡ none 10
reading_at k e =
    let r = long_pauses k ++ one_pause in
    let long : length r ≡ 196614 = length-append (long_pauses k) one_pause ∙ omega (arith, pauses_long k, e) in
    refused-there r long
    (second_step (file r long) k e (record { start = omega arith; here = sym (append-nil r) }))

pub reading10 : reading_of refused10 ≡ none 10
unfolding refused10
reading10 = reading_at 65537 refl
