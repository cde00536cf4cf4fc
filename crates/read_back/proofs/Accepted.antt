-- THE FILE OF AN ACCEPTED GAME (01, "Version 4 writer and upgrade"), by what the writers' and the reader's
-- contracts say. Assumes nothing but that the game's numbers and positions are of their types.
--     wrote           an answer of n bytes: the first n bytes of the lent file are the file of the game
--     written_back    they read as the game that it is saved as
--     same-written    and as the game itself, where that is plain
--     into-buffers    a file that reads as a game is parsed wherever there is room for its cells and events
--     board-holds     and the lent board begins with its cells then
--     row-holds       the lent row with its events
--     least-length    a file of version 4 has 51 bytes, its software's and its translation's, or more
use Prim.Native.Nat.{ℕ, ◌+◌, ◌-◌, ◌*◌, ◌≤◌}
use mathlib.Core.Path.{◌≡◌, refl, sym, ap, subst, ◌∙◌}
use mathlib.Core.Bool.{Bool, true, false, cond}
use mathlib.Core.List.{List, [], ◌∷◌, ◌++◌, append-nil}
use native.Mathlib.Omega.{arith}
use lib.Dec.{leb}
use lib.Ieee.{Float}
use lib.IntN.{ℤ}
use lib.ListN.{length, take, drop, length-append}
use lib.Seq.{sets, take_at}
use borrow.Author.Tests.{leb-true, le-leb}
use Rattle.lists.proofs.Stores.{sets-front}
use Rattle.times.specs.Times.{s_to_ms}
use Rattle.game.specs.declared.MouseKind.{MouseKind}
use Rattle.game.specs.declared.Event.{Event}
use Rattle.game.specs.declared.Event.TheVariants.{Mouse, State}
use Rattle.game.specs.Header.{software_slot, player_slot, race_slot, unique_id_slot, device_id_slot, checksum_slot}
use Rattle.game.specs.Kinds.{code_of}
use Rattle.game.specs.Same.{Game, text_of}
use Rattle.byte_writer.specs.Fields.{zero_ended}
use Rattle.byte_writer.specs.Places.{capped}
use Rattle.mouse_records.specs.declared.Last.{Last}
use Rattle.mouse_records.specs.Records.{record_bytes, difference, record4, nothing_yet, last_after, row_bytes}
use Rattle.mouse_records.specs.Pauses.{pauses_of, rest_of}
use Rattle.evf_records.specs.Refusals.{no_start}
use Rattle.layout_v4.specs.Version4.{translation_bytes, front4, tail4}
use Rattle.evf_layout.specs.Layout.{file_of}
use Rattle.layout_lengths.proofs.Sums.{zero_ended_lem, counted-length, texts4-length, metrics-length}
use Rattle.layout_lengths.proofs.Sums.{front4-length, tail4-length}
use Rattle.evf_judging.specs.declared.Verdict.{Verdict}
use Rattle.evf_judging.specs.declared.Verdict.TheVariants.{Fine, Refused as Bad}
use Rattle.evf_judging.specs.Refusals.{first_refusal, checks, checks_under}
use Rattle.generate_evf.proofs.Ruled.{ruled-fine}
use Rattle.evf_video.specs.Reading.{game}
use Rattle.evf_video.specs.Parsed.{parse_of, board_then, row_then}
use Rattle.generate_evf.specs.declared.Written.TheVariants.{Bytes, Short}
use Rattle.generate_evf.specs.Written.{written_by, written_of, file_then}
use Rattle.read_back.specs.Saved.{area, saved_game}
use Rattle.read_back.specs.Back.{InTypes, Plain4, on_board, ReadsBack}
use Rattle.read_back.proofs.Whole.{file_back_ms, same_back_ms}
use Rattle.read_back.proofs.Checks.{fine-sayable, fine-holdable}

-- WRITING

-- the checks passed, and the first n bytes of the lent file are then those of the game's
pub record Wrote (rule version : ℕ) (g : Game) (file : List ℕ) (n : ℕ) : Type 0 where
  pub fine : first_refusal (checks (s_to_ms rule) version g) ≡ Fine
  pub long : n ≡ length (file_of (s_to_ms rule) version g)
  pub room : n ≤ length file
  pub first : take n (file_then rule version g file) ≡ file_of (s_to_ms rule) version g

-- by the verdict, and by whether there is room
roomy : (b : Bool) (m n : ℕ) → cond b (Bytes m) (Short (capped m)) ≡ Bytes n → (b ≡ true) × (n ≡ m)
roomy true m n e = (refl, cc)
roomy false m n e = let z : ◌≡◌ {A = ℕ} 0 1 = cc in absurd (omega arith)

fine_written : (v : Verdict) (m room n : ℕ) → written_by v m room ≡ Bytes n
    → (v ≡ Fine) × (leb m room ≡ true) × (n ≡ m)
fine_written Fine m room n e = let r = roomy (leb m room) m n e in (refl, r.0, r.1)
fine_written (Bad k) m room n e = let z : ◌≡◌ {A = ℕ} 0 1 = cc in absurd (omega arith)

module _ (rule version : ℕ) (g : Game) (file : List ℕ) {n : ℕ} where
  pub wrote : written_of rule version g (length file) ≡ Bytes n → Wrote rule version g file n
  unfolding written_of file_then
  wrote e =
      let d = file_of (s_to_ms rule) version g in
      let w = fine_written (first_refusal (checks_under rule version g)) (length d) (length file) n e in
      let room : length d ≤ length file = leb-true (length d) (length file) w.1 in
      record {
        fine = ruled-fine rule (checks (s_to_ms rule) version g) w.0;
        long = w.2;
        room = omega (arith, room, w.2);
        first = rw (w.0, w.1, sets-front file d room) (take_at d (drop (length d) file) n (sym w.2));
      }

module _ (rule : ℕ) (g : Game) (types : InTypes g) (file : List ℕ) {n : ℕ}
    (e : written_of rule 4 g (length file) ≡ Bytes n) where
  -- what the file of the game reads as, the first bytes of the lent file read as
  in-file : (k : Game) → ReadsBack (file_of (s_to_ms rule) 4 g ++ []) k
      → ReadsBack (take n (file_then rule 4 g file)) k
  in-file k = subst (λ (l : List ℕ). ReadsBack l k)
      (append-nil (file_of (s_to_ms rule) 4 g) ∙ sym (wrote rule 4 g file e).first)

  pub written_back : ReadsBack (take n (file_then rule 4 g file)) (saved_game (s_to_ms rule) g)
  written_back = in-file (saved_game (s_to_ms rule) g)
      (file_back_ms rule g (fine-holdable (s_to_ms rule) g (wrote rule 4 g file e).fine types) [])

  pub same-written : Plain4 g → ReadsBack (take n (file_then rule 4 g file)) (on_board g)
  same-written p = in-file (on_board g)
      (same_back_ms rule g p (fine-holdable (s_to_ms rule) g (wrote rule 4 g file e).fine types) [])

-- READING INTO BUFFERS
module _ (copy : List ℕ) (k : Game) (b : ReadsBack copy k) where
  pub into-buffers : (cells entries : ℕ) → area k ≤ cells → length k.events ≤ entries
      → parse_of copy cells entries ≡ game b.header b.board b.events
  unfolding parse_of
  into-buffers cells entries room rows =
      let h : b.header.height ≡ k.header.height = b.same.height in
      let w : b.header.width ≡ k.header.width = b.same.width in
      let es : b.events ≡ k.events = b.same.events in
      let cells_fit : leb (b.header.height * b.header.width) cells ≡ true =
      rw (h, w) (le-leb (area k) cells room) in
      let events-fit : leb (length b.events) entries ≡ true =
      rw es (le-leb (length k.events) entries rows) in
      rw (b.reads, cells_fit, events-fit)

  module _ (board : List ℤ) (row : List Event) (room : area k ≤ length board)
      (rows : length k.events ≤ length row) where
    pub board-holds : board_then copy (parse_of copy (length board) (length row)) board
        ≡ sets board 0 k.cells
    board-holds = rw (into-buffers (length board) (length row) room rows) (ap (sets board 0) b.same.cells)

    pub row-holds : row_then (parse_of copy (length board) (length row)) row ≡ sets row 0 k.events
    row-holds = rw (into-buffers (length board) (length row) room rows) (ap (sets row 0) b.same.events)

-- LENGTH

-- a record has a code, a byte of milliseconds and a position
record_long : (last : Last) (kind : MouseKind) (ms x y : ℕ) → 6 ≤ length (record4 last kind ms x y)
unfolding record4
record_long last kind ms x y =
    let wait = ms - last.ms.0 in
    omega (
      arith,
      length-append (pauses_of wait)
          (record_bytes (code_of kind) 1 (rest_of wait) (difference last.x x) (difference last.y y)),
    )

-- a row that version 4 may begin with has one
row_long : (toMs : Float → ℕ) (row : List Event) → no_start toMs row ≡ false
    → 6 ≤ length (row_bytes toMs 4 nothing_yet row)
row_long toMs [] e = let z : ◌≡◌ {A = ℕ} 0 1 = cc in absurd (omega arith)
row_long toMs (State seconds state ∷ es) e = let z : ◌≡◌ {A = ℕ} 0 1 = cc in absurd (omega arith)
row_long toMs (Mouse seconds kind x y ∷ es) e =
    let ms = toMs seconds in
    let last = last_after toMs nothing_yet (Mouse seconds kind x y) in
    omega (
      arith,
      record_long nothing_yet kind ms x y,
      length-append (record4 nothing_yet kind ms x y)
          (row_bytes toMs 4 last es),
    )

pub text_long : (t : List ℕ) → 1 ≤ length (zero_ended t)
text_long t = omega (arith, zero_ended_lem t t refl)

module _ (toMs : Float → ℕ) (g : Game) where
  front_long : 42 + (length (text_of g software_slot) + length (translation_bytes g)) ≤ length (front4 g)
  front_long =
      omega (
        arith,
        front4-length g,
        metrics-length g,
        texts4-length g,
        zero_ended_lem (text_of g software_slot) (text_of g software_slot) refl,
        text_long (text_of g player_slot),
        text_long (text_of g race_slot),
        text_long (text_of g unique_id_slot),
        counted-length (text_of g device_id_slot) (text_of g device_id_slot) refl,
      )

  -- 34 bytes of numbers and country, the ends of four texts, three counts of two bytes, a record of 6 and the
  -- end of the events: a board of width 0 has no byte
  pub least-length : first_refusal (checks toMs 4 g) ≡ Fine
      → 51 + (length (text_of g software_slot) + length (translation_bytes g)) ≤ length (file_of toMs 4 g)
  least-length e =
      let row = row_bytes toMs 4 nothing_yet g.events in
      let sum = text_of g checksum_slot in
      omega (
        arith,
        length-append (front4 g) (row ++ tail4 g),
        length-append row (tail4 g),
        front_long,
        row_long toMs g.events (fine-sayable toMs g e).begins,
        tail4-length g,
        counted-length sum sum refl,
      )
