-- A WHOLE FILE OF VERSION 4 READS BACK (01, "Version 4 writer and upgrade"). Assumes nothing of `toMs`, by
-- which seconds become milliseconds, but that it gives a u32, and for `saved-is-same` and `same_back` that it
-- gives whole milliseconds back.
--     whole_back       in any version, what is read before, at and behind the events makes the saved game
--     file-back        the file of a game that version 4 holds, whatever follows it, reads as the game that
--                      it is saved as
--     as_same          a file that reads as a game reads as one that is the same
--     carried_same     in any version that carries start, end, translation and custom metrics as they are, a
--                      plain game is saved as itself
--     saved-is-same    so it is in version 4
--     same_back        and the file of such a game reads as that game
--     file_back_ms, same_back_ms   both with `s_to_ms`, by any rule
use Prim.Native.Nat.{ℕ, ◌+◌, ◌^◌, ◌<◌}
use mathlib.Core.Path.{◌≡◌, refl, sym, ap, ◌∙◌}
use mathlib.Core.Bool.{Bool, true, false, cond}
use mathlib.Core.List.{List, [], ◌++◌, append-nil}
use native.Mathlib.Omega.{arith}
use lib.Ieee.{Float}
use lib.ListN.{length, get_or}
use Rattle.text.specs.declared.Place.{Place}
use Rattle.text.specs.Places.{absent, bytes_at}
use Rattle.times.specs.Times.{seconds_of, s_to_ms}
use Rattle.times.proofs.Seconds.{ms_small, round_trip}
use Rattle.board.specs.Geometry.{cells, mine_at, mines_in}
use Rattle.board.specs.Bits.{bit_at, packed}
use Rattle.board.proofs.Packed.{packed_mines}
use Rattle.board.proofs.Trip.{cells_back}
use Rattle.game.specs.declared.Event.{Event}
use Rattle.game.specs.declared.Header.{Header}
use Rattle.game.specs.Header.{level_of, translated_software_slot, original_encoding_slot, country_slot}
use Rattle.game.specs.Header.{checksum_slot, place_at}
use Rattle.game.specs.Country.{two_letters}
use Rattle.game.specs.Same.{Game, text_of, block_of, SameGame}
use Rattle.game.proofs.Letters.{form_again}
use Rattle.game.proofs.Same.{same_trans}
use Rattle.byte_reader.specs.Reading.{ok}
use Rattle.byte_reader.specs.Numbers.{bytes_of}
use Rattle.byte_reader.proofs.Laws.{Stands, front, behind}
use Rattle.byte_writer.specs.Fields.{counted}
use Rattle.header_fields.specs.declared.Flags.{Flags}
use Rattle.header_fields.specs.declared.Sizes.{Sizes}
use Rattle.header_fields.specs.declared.Span.{Span}
use Rattle.evf_header.specs.Opening.{Opened, opening, header_of}
use Rattle.evf_events.specs.Events.{read, events_from}
use Rattle.evf_events.specs.Start.{first_cursor}
use Rattle.evf_video.specs.Reading.{game, checksum, with_checksum, reading_of, game_read}
use Rattle.mouse_records.specs.Records.{nothing_yet, row_bytes}
use Rattle.layout_v4.specs.Version4.{front4, tail4}
use Rattle.evf_layout.specs.Layout.{file_of}
use Rattle.fields_back.specs.Carried.{Carried, carried4}
use Rattle.fields_back.proofs.Flags.{first_marks, second_marks, first_back, second_back}
use Rattle.fields_back.proofs.Taken.{counted-takes}
use Rattle.read_back.specs.Saved.{saved_events, area, saved_as, saved_game}
use Rattle.read_back.specs.Back.{Holdable, Plain, Plain4, on_board, ReadsAs, ReadsBack}
use Rattle.read_back.proofs.Events.{events_back, saved_same}
use Rattle.read_back.proofs.Header.{OpenedCarries, opening-takes}

-- WHAT IS READ IS THE SAVED GAME

-- of equal lists of flags, the flag at a place
mark : {l m : List Bool} (k : ℕ) → l ≡ m → get_or l k false ≡ get_or m k false
mark k e = ap (λ (l : List Bool). get_or l k false) e

module _ (toMs : Float → ℕ) (version : ℕ) (g : Game) (carried : Carried) (s : List ℕ) (o : Opened)
    (i : OpenedCarries s version g carried o) where
  -- the packed board has the mines of the game's
  board-back : {A : Type 0} (f : (ℕ → Bool) → A)
      → f (bit_at (packed (mine_at g.cells) (area g) ++ [])) ≡ f (mine_at g.cells)
      → f (bit_at (bytes_at s o.board)) ≡ f (mine_at g.cells)
  board-back f e = ap (λ (l : List ℕ). f (bit_at l))
      (i.board ∙ sym (append-nil (packed (mine_at g.cells) (area g)))) ∙ e

  same-saved : (p : Place) → bytes_at s p ≡ text_of g checksum_slot
      → two_letters carried.country ≡ two_letters (text_of g country_slot)
      → SameGame (game_read s (with_checksum o.header p) o.board (saved_events toMs g.events))
      (saved_as version carried toMs g)
  unfolding header_of
  same-saved p e letters =
      let h = g.header in
      let mine = mine_at g.cells in
      let f = i.front_is in
      let t = f.texts in
      let first = ap (λ (z : Flags). first_marks z.first) f.flags ∙ first_back h f.translated_bit in
      let second = ap (λ (z : Flags). second_marks z.second) f.flags ∙ second_back h in
      rw i.header
      (record {
        height = ap (λ (z : Sizes). z.height) f.sizes;
        width = ap (λ (z : Sizes). z.width) f.sizes;
        mines = ap (λ (z : Sizes). z.mine_num) f.sizes;
        cell_pixels = ap (λ (z : Sizes). z.cell_pixel_size) f.sizes;
        mode = ap (λ (z : Sizes). z.mode) f.sizes;
        bbbv = ap (λ (z : Sizes). z.bbbv) f.sizes;
        time = f.time;
        start = ap (λ (z : Span). z.start) f.span;
        end = ap (λ (z : Span). z.end) f.span;
        level = ap (λ (z : Sizes). level_of z.height z.width z.mine_num) f.sizes;
        mines_found = board-back (λ m. mines_in m (area g)) (packed_mines mine (area g) []);
        completed = mark 0 first;
        official = mark 1 first;
        fair = mark 2 first;
        nf = mark 3 first;
        translated = f.translated;
        question = mark 0 second;
        cursor_limit = mark 1 second;
        auto_replay = mark 2 second;
        cells = ap (λ (z : Sizes). cells (bit_at (bytes_at s o.board)) z.height z.width) f.sizes
            ∙ board-back (λ m. cells m h.height h.width) (cells_back mine h.height h.width []);
        events = refl;
        software = t.software;
        translated_software = t.translated_software;
        original_encoding = t.original_encoding;
        player = t.player;
        race = t.race;
        unique_id = t.unique_id;
        country = ap two_letters t.country ∙ letters;
        device_id = t.device_id;
        checksum = e;
        metrics_count = i.metrics_are.count;
        metrics = i.metrics_are.block;
      })

-- THE FILE

-- header, events and checksum, each from where the one before it ends
parts : (s : List ℕ) (version : ℕ) (o : Opened) (at to : ℕ) (es : List Event) (follows : Bool) (p : Place)
    {end : ℕ} → o.header.version ≡ version → opening s 0 ≡ ok o at
    → events_from s (first_cursor version at) ≡ read es to follows → checksum version follows s to ≡ ok p end
    → reading_of s ≡ game (with_checksum o.header p) o.board es
unfolding reading_of
parts s version o at to es follows p v a b c = rw (a, v, b, c)

-- what a version carries before the events, the events as they are saved, and the checksum
pub whole_back : (toMs : Float → ℕ) (version : ℕ) (g : Game) (carried : Carried) (s : List ℕ) (o : Opened)
    (at to : ℕ) (follows : Bool) (p : Place) {end : ℕ} → OpenedCarries s version g carried o
    → opening s 0 ≡ ok o at
    → events_from s (first_cursor version at) ≡ read (saved_events toMs g.events) to follows
    → checksum version follows s to ≡ ok p end → bytes_at s p ≡ text_of g checksum_slot
    → two_letters carried.country ≡ two_letters (text_of g country_slot)
    → ReadsAs version carried.country s (saved_as version carried toMs g)
unfolding header_of
whole_back toMs version g carried s o at to follows p i a b c sum letters =
    let v : o.header.version ≡ version = ap (λ (k : Header). k.version) i.header in
    record {
      header = with_checksum o.header p;
      board = o.board;
      events = saved_events toMs g.events;
      reads = parts s version o at to (saved_events toMs g.events) follows p v a b c;
      same = same-saved toMs version g carried s o i p sum letters;
      version = v;
      country = rw i.header i.front_is.texts.country;
    }

module _ (toMs : Float → ℕ) (small : (seconds : Float) → toMs seconds < 2 ^ 32) (g : Game)
    (w : Holdable toMs g) where
  standing-back : (s r : List ℕ) → Stands s 0 (file_of toMs 4 g) r → ReadsBack s (saved_game toMs g)
  unfolding tail4 checksum
  standing-back s r h =
      let row = row_bytes toMs 4 nothing_yet g.events in
      let sum = counted (text_of g checksum_slot) in
      let at = 0 + length (front4 g) in
      let later = behind s 0 (front4 g) (row ++ tail4 g) r h in
      let o = (opening-takes s toMs g w).go 0 ((row ++ tail4 g) ++ r)
      (front s 0 (front4 g) (row ++ tail4 g) r h) in
      let tail = behind s at row (tail4 g) r later in
      let es = events_back toMs small s g.events w.positions w.says.begins w.says.rises at
      (sum ++ r) (front s at row (tail4 g) r later) in
      let p = (counted-takes s (text_of g checksum_slot) w.says.checksum).go (at + length row + 1) r
      (behind s (at + length row) (bytes_of 1 0) sum r tail) in
      whole_back toMs 4 g (carried4 g) s o.value at (at + length row + 1) true p.value o.holds
      o.gives es p.gives p.holds (form_again (text_of g country_slot))

  pub file-back : (r : List ℕ) → ReadsBack (file_of toMs 4 g ++ r) (saved_game toMs g)
  file-back r = standing-back (file_of toMs 4 g ++ r) r (record { start = omega arith; here = refl })

-- SAVED AS ITSELF

-- a text of a translation: there is one, or it is empty
kept : (d : List ℕ) (p : Place) (b : Bool) → (b ≡ false → bytes_at d p ≡ [])
    → bytes_at d (cond b p absent) ≡ bytes_at d p
kept d p true e = refl
kept d p false e = sym (e refl)

-- a file that reads as a game reads as one that is the same
pub as_same : {version : ℕ} {form : List ℕ} (s : List ℕ) (k l : Game) → ReadsAs version form s k
    → SameGame k l → ReadsAs version form s l
as_same s k l b e =
    record {
      header = b.header;
      board = b.board;
      events = b.events;
      reads = b.reads;
      same = same_trans (game_read s b.header b.board b.events) k l b.same e;
      version = b.version;
      country = b.country;
    }

-- a version that carries start, end, translation and metrics as they are saves a plain game as itself
pub carried_same : (toMs : Float → ℕ) → ((ms : ℕ) → ms < 2 ^ 32 → toMs (seconds_of ms) ≡ ms) → (version : ℕ)
    (g : Game) (carried : Carried) → Plain g → carried.span.start ≡ g.header.start_time
    → carried.span.end ≡ g.header.end_time → carried.translated ≡ g.header.translated
    → (carried.translation ≡ false → text_of g translated_software_slot ≡ [])
    → (carried.translation ≡ false → text_of g original_encoding_slot ≡ [])
    → carried.metrics_count ≡ g.header.metrics_count
    → bytes_at g.bytes carried.metrics ≡ block_of g
    → SameGame (saved_as version carried toMs g) (on_board g)
carried_same toMs back version g carried p start end translated no_translation no_encoding count block =
    let place : ℕ → Place = place_at g.header in
    let both = carried.translation in
    record {
      height = refl;
      width = refl;
      mines = refl;
      cell_pixels = refl;
      mode = refl;
      bbbv = refl;
      time = refl;
      start = start;
      end = end;
      level = sym p.level;
      mines_found = sym p.mines_found;
      completed = refl;
      official = refl;
      fair = refl;
      nf = refl;
      translated = translated;
      question = refl;
      cursor_limit = refl;
      auto_replay = refl;
      cells = sym p.numbers;
      events = saved_same toMs back g.events p.timed;
      software = refl;
      translated_software = kept g.bytes (place translated_software_slot) both no_translation;
      original_encoding = kept g.bytes (place original_encoding_slot) both no_encoding;
      player = refl;
      race = refl;
      unique_id = refl;
      country = refl;
      device_id = refl;
      checksum = refl;
      metrics_count = count;
      metrics = block;
    }

module _ (toMs : Float → ℕ) (back : (ms : ℕ) → ms < 2 ^ 32 → toMs (seconds_of ms) ≡ ms) (g : Game)
    (p : Plain4 g) where
  pub saved-is-same : SameGame (saved_game toMs g) (on_board g)
  saved-is-same =
      carried_same toMs back 4 g (carried4 g) p.plain refl refl refl p.no_translation p.no_encoding
      refl refl

  pub same_back : ((seconds : Float) → toMs seconds < 2 ^ 32) → Holdable toMs g → (r : List ℕ)
      → ReadsBack (file_of toMs 4 g ++ r) (on_board g)
  same_back small w r =
      as_same (file_of toMs 4 g ++ r) (saved_game toMs g) (on_board g) (file-back toMs small g w r) saved-is-same

-- as seconds become milliseconds in a file
pub file_back_ms : (rule : ℕ) (g : Game) → Holdable (s_to_ms rule) g → (r : List ℕ)
    → ReadsBack (file_of (s_to_ms rule) 4 g ++ r) (saved_game (s_to_ms rule) g)
file_back_ms rule = file-back (s_to_ms rule) (ms_small rule)

pub same_back_ms : (rule : ℕ) (g : Game) → Plain4 g → Holdable (s_to_ms rule) g → (r : List ℕ)
    → ReadsBack (file_of (s_to_ms rule) 4 g ++ r) (on_board g)
same_back_ms rule g p w r = same_back (s_to_ms rule) (round_trip rule) g p (ms_small rule) w r
