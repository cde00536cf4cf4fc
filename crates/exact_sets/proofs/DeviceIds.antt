-- 20 IN VERSION 4, by laws: a device id of 65536 bytes. Assumes nothing.
--     writing20, sizing20       of a game
--     sizing-fine               65535 bytes are sized
--     upgrading20, copying20    of a file of version 2
use Prim.Native.Nat.{ℕ, zero, suc, min}
use mathlib.Core.Path.{◌≡◌, refl, sym, ap, ◌∙◌}
use mathlib.Core.Bool.{true, false}
use mathlib.Core.List.{List, [], ◌∷◌, ◌++◌, append_assoc}
use mathlib.Core.Option.{some}
use native.Mathlib.Omega.{arith}
use lib.Dec.{lit<}
use lib.Ieee.{mul, div, of_int}
use lib.ListN.{length, take, drop, length-append, length-take}
use lib.Seq.{drop-drop, drop_at}
use Rattle.lists.specs.Lists.{each}
use Rattle.lists.proofs.Each.{length-each}
use Rattle.text.proofs.Ends.{text_back}
use Rattle.text.specs.declared.Place.{Place}
use Rattle.text.specs.Places.{absent}
use Rattle.text.specs.Ends.{up_to00}
use Rattle.text.specs.Bytes.{NoZero}
use Rattle.text.specs.Utf8.{utf8, byte}
use Rattle.times.specs.Times.{seconds_of, halves_away, s_to_ms}
use Rattle.board.specs.Bits.{bit_at}
use Rattle.board.specs.Geometry.{cells, mines_in}
use Rattle.game.specs.declared.Header.{Header}
use Rattle.game.specs.declared.Event.{Event}
use Rattle.game.specs.declared.Event.TheVariants.{Mouse}
use Rattle.game.specs.declared.MouseKind.TheVariants.{Mv}
use Rattle.game.specs.Kinds.{kind_of}
use Rattle.game.specs.Header.{level_of}
use Rattle.game.specs.Sizes.{sizes_bad, cells_short}
use Rattle.byte_reader.specs.Reading.{ok, ◌>>=◌, pure, refuse, refuse_when}
use Rattle.byte_reader.specs.Numbers.{big_endian, bytes_of, number as numberField}
use Rattle.byte_reader.specs.Fields.{bytes, text, must_be_utf8, utf8_text}
use Rattle.byte_reader.proofs.Laws.{Stands, Takes, then, pure-takes, number-takes, front, behind}
use Rattle.header_fields.specs.Fields.{contents, flags, sizes, board_bytes}
use Rattle.metrics.specs.Block.{texts, are_texts}
use Rattle.header_software.specs.Software.{times_of}
use Rattle.header_v0_v3.specs.Front.{old_texts, old_times, old_device, old_front}
use Rattle.evf_header.specs.Opening.{header_of, front_of, metrics_of, opening}
use Rattle.evf_events.specs.declared.EventCursor.{EventCursor}
use Rattle.record_fields.specs.Fields.{ends, mouse, mouse_body}
use Rattle.records_v0_v3.specs.Records.{kind_in, old_record}
use Rattle.evf_events.specs.Events.{read, events_from}
use Rattle.evf_events.specs.Start.{first_cursor}
use Rattle.evf_events.proofs.Runs.{turn}
use Rattle.evf_events.proofs.Steps.{step-old}
use Rattle.evf_video.specs.Reading.{game, checksum, reading_of, game_read}
use Rattle.evf_video.specs.Parsed.{parse_of}
use Rattle.evf_records.specs.Refusals.{start_unwritable, event_unwritable}
use Rattle.evf_judging.specs.declared.Verdict.TheVariants.{Fine, Refused as Bad}
use Rattle.judging_texts.specs.Texts.{texts_bad, lengths_bad, metrics_bad}
use Rattle.evf_judging.specs.Refusals.{first_refusal, checks_under}
use Rattle.generate_evf.specs.Written.{written_of, size_of, written_number, size_number}
use Rattle.upgrade.specs.Copy.{copied_by, told_by}
use Rattle.read_back.proofs.Fields.{taken}
use Rattle.exact_sets.specs.ExactSets.{zeros, old, no_texts, move, device, worded, long_device}

-- OF A GAME: a device id of n bytes
module _ (n m : ℕ) (e : n ≡ m) where
  long-id : length (zeros n) ≡ m
  long-id = length-each n (λ i. 0) ∙ e

  all-of-it : length (take n (zeros n)) ≡ m
  all-of-it = length-take n (zeros n) ∙ omega (arith, long-id, e)

module _ (n : ℕ) (e : n ≡ 65536) where
  verdict : first_refusal (checks_under halves_away 4 (long_device n)) ≡ Bad 20
  unfolding long_device worded sizes_bad cells_short texts_bad lengths_bad metrics_bad are_texts texts pure utf8
      start_unwritable event_unwritable
  verdict = rw (long-id n 65536 e, all-of-it n 65536 e, e)

  pub writing20 : written_number (written_of halves_away 4 (long_device n) 100) ≡ 20
  unfolding written_of
  writing20 = rw verdict

  pub sizing20 : size_number (size_of halves_away 4 (long_device n)) ≡ 20
  unfolding size_of
  sizing20 = rw verdict

-- and one byte less
module _ (n : ℕ) (e : n ≡ 65535) where
  verdict-fine : first_refusal (checks_under halves_away 4 (long_device n)) ≡ Fine
  unfolding long_device worded sizes_bad cells_short texts_bad lengths_bad metrics_bad are_texts texts pure utf8
      start_unwritable event_unwritable seconds_of s_to_ms mul div of_int
  verdict-fine = rw (long-id n 65535 e, all-of-it n 65535 e, e)

  pub sizing-fine : size_number (size_of halves_away 4 (long_device n)) ≡ 0
  unfolding size_of
  sizing-fine = rw verdict-fine

-- OF AN UPGRADE: a file of version 2 that ends with a device id of 65536 bytes, 00 and two records, together
-- r
abbrev one_record : List ℕ
one_record = bytes_of 1 1 ++ (bytes_of 3 0 ++ (bytes_of 2 0 ++ bytes_of 2 0))

abbrev last_record : List ℕ
last_record = bytes_of 1 255

module _ (s : List ℕ) where
  old-mouse : Takes s (old_record 2) one_record (λ v. v ≡ mouse Mv 0 0 0)
  unfolding old_record mouse_body kind_in kind_of
  old-mouse =
      then s _ (number-takes s 1 1 (lit< tt)) (λ code e.
      rw e (then s _ (number-takes s 3 0 (lit< tt)) (λ ms em.
      then s _ (number-takes s 2 0 (lit< tt)) (λ x ex.
      then s _ (number-takes s 2 0 (lit< tt)) (λ y ey. pure-takes s (mouse Mv ms x y) (rw (em, ex, ey)))))))

  old-ends : Takes s (old_record 2) last_record (λ v. v ≡ ends false)
  unfolding old_record
  old-ends = then s _ (number-takes s 1 255 (lit< tt)) (λ code e. rw e (pure-takes s (ends false) refl))

abbrev empty : ℕ → Place
empty at = record { start = at; len = 0 }

abbrev old_header : Header
old_header = record {
  version = 2;
  is_completed = false;
  is_official = false;
  is_fair = false;
  nf = false;
  translated = true;
  use_question = false;
  use_cursor_pos_lim = false;
  use_auto_replay = false;
  height = 1;
  width = 0;
  mine_num = 0;
  cell_pixel_size = 0;
  mode = 0;
  bbbv = 0;
  rtime_ms = record { 0 = 0 };
  start_time = record { 0 = 0 };
  end_time = record { 0 = 0 };
  level = 6;
  mines_found = 0;
  texts = empty 14 ∷ absent ∷ absent ∷ empty 15 ∷ empty 16 ∷ empty 17 ∷ empty 20 ∷ record
      { start = 21; len = 65536 } ∷ absent ∷ [];
  metrics = absent;
  metrics_count = 0;
}

abbrev one_move : List Event
one_move = Mouse (seconds_of 0) Mv 0 0 ∷ []

module _ (r : List ℕ) (long : length r ≡ 65546) (Ends-there : up_to00 r ≡ some 65536)
    (rest : drop 65537 r ≡ (one_record ++ last_record) ++ []) where
  abbrev deviced : List ℕ
  deviced = old 2 1 0 0 ++ (no_texts ++ r)

  opens-old : opening deviced 0 ≡ ok (record { header = old_header; board = empty 65558 }) 65558
  unfolding up_to00 must_be_utf8 utf8 byte bit_at mines_in level_of ◌>>=◌ pure refuse refuse_when big_endian
      numberField bytes text utf8_text contents flags sizes board_bytes old_texts old_times old_device old_front
      header_of front_of metrics_of opening times_of
  opens-old = rw (long, opening) (rw (long, old_front) (rw (Ends-there, text) refl))

  abbrev there : ℕ
  there = 65558

  stands : Stands deviced there (one_record ++ last_record) []
  stands = record { start = omega (arith, long); here = sym (drop-drop 65537 21 deviced) ∙ rest }

  first-record : old_record 2 deviced there ≡ ok (mouse Mv 0 0 0) 65566
  first-record = taken deviced there (old-mouse deviced) (front deviced there one_record last_record [] stands)

  last-record : old_record 2 deviced 65566 ≡ ok (ends false) 65567
  last-record = taken deviced 65566 (old-ends deviced) (behind deviced there one_record last_record [] stands)

  all_read : events_from deviced (first_cursor 2 there) ≡ read one_move 65567 false
  all_read =
      let c : EventCursor =
      record { version = 2; at = 65566; first = false; ms = record { 0 = 0 }; x = 0; y = 0 } in
      let last : events_from deviced c ≡ read [] 65567 false =
      turn deviced c ∙ rw (step-old deviced c (omega arith), last-record) in
      turn deviced (first_cursor 2 there)
      ∙ rw (step-old deviced (first_cursor 2 there) (omega arith), first-record, last)

  reading-old : reading_of deviced ≡ game old_header (empty there) one_move
  unfolding reading_of checksum pure
  reading-old = rw (opens-old, all_read)

  all-taken : length (take 65536 r) ≡ 65536
  all-taken = length-take 65536 r ∙ ap (min 65536) long

  verdict-old : first_refusal (checks_under halves_away 4 (game_read deviced old_header
      (empty there) one_move)) ≡ Bad 20
  unfolding cells sizes_bad cells_short texts_bad lengths_bad metrics_bad are_texts texts pure utf8 start_unwritable
      event_unwritable
  verdict-old = rw (long, all-taken)

  upgrading-old : written_number (copied_by halves_away deviced (parse_of deviced 0 1) 100) ≡ 20
  unfolding parse_of written_of
  upgrading-old = rw (reading-old, verdict-old)

  copying-old : told_by (copied_by halves_away deviced (reading_of deviced) 100) ≡ 20
  unfolding written_of
  copying-old = rw (reading-old, verdict-old)

-- the file of the table is such a one
ones : (n : ℕ) → NoZero (each n (λ i. 1))
ones zero = refl
ones (suc n) = rw (ones n)

module _ (n : ℕ) (e : n ≡ 65536) where
  abbrev id : List ℕ
  id = each n (λ i. 1)

  abbrev behind-id : List ℕ
  behind-id = id ++ (0 ∷ move 0 ++ (255 ∷ []))

  id-long : length id ≡ 65536
  id-long = length-each n (λ i. 1) ∙ e

  whole_long : length behind-id ≡ 65546
  whole_long = length-append id (0 ∷ move 0 ++ (255 ∷ [])) ∙ omega (arith, id-long)

  id-ends : up_to00 behind-id ≡ some 65536
  id-ends = text_back id (move 0 ++ (255 ∷ [])) (ones n) ∙ ap some id-long

  id-rest : drop 65537 behind-id ≡ (one_record ++ last_record) ++ []
  id-rest = ap (drop 65537) (sym (append_assoc id (0 ∷ []) (move 0 ++ (255 ∷ []))))
      ∙ drop_at (id ++ (0 ∷ [])) (move 0 ++ (255 ∷ [])) 65537
      (length-append id (0 ∷ []) ∙ omega (arith, id-long))

  pub upgrading20 : written_number (copied_by halves_away (device n) (parse_of (device n) 0 1) 100) ≡ 20
  unfolding device
  upgrading20 = upgrading-old behind-id whole_long id-ends id-rest

  pub copying20 : told_by (copied_by halves_away (device n) (reading_of (device n)) 100) ≡ 20
  unfolding device
  copying20 = copying-old behind-id whole_long id-ends id-rest
