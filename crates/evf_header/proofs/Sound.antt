-- What is sure of everything that `opening` gives, and that it refuses with 1 to 7 only. Assumes nothing but
-- that the file is bytes.
--     opening-sure     whatever is given satisfies `Sound`; a refusal's number is 1 to 7
--     opening-gives    the same of what is given
--     opening-refuses  the same of a refusal
--     answer-sound     the same of what a call of `read_opening` answers, where it is not refused
--     answer-early     and where it is
use Prim.Native.Nat.{ℕ, zero, suc, ◌*◌, ◌^◌, ◌≤◌, ◌<◌}
use mathlib.Core.Path.{◌≡◌, refl, ap}
use mathlib.Core.Bool.{true, false, not}
use mathlib.Core.List.{List, [], ◌∷◌}
use native.Mathlib.Omega.{arith}
use lib.ListN.{length, get_or}
use lib.Dec.{eqb, ltb}
use borrow.Author.Tests.{ltb-false, eqb-true, eqb-false}
use Rattle.text.specs.declared.Place.{Place}
use Rattle.text.specs.Places.{absent, bytes_at, Inside}
use Rattle.text.specs.Utf8.{utf8}
use Rattle.board.specs.Geometry.{mines_in}
use Rattle.board.specs.Bits.{bit_at, packed_length}
use Rattle.game.specs.declared.Header.{Header}
use Rattle.game.specs.Header.{level_of, software_slot, translated_software_slot, original_encoding_slot, player_slot}
use Rattle.game.specs.Header.{race_slot, unique_id_slot, country_slot, device_id_slot, checksum_slot, place_at}
use Rattle.game.specs.Header.{block_at}
use Rattle.game.specs.Refusals.{version_unknown, height_zero}
use Rattle.byte_reader.specs.declared.ByteReader.{ByteReader}
use Rattle.byte_reader.specs.declared.ByteReader.TheVariants.{At, Refused}
use Rattle.byte_reader.specs.Reading.{Bytes, ok, no}
use Rattle.byte_reader.specs.Cursor.{Reads}
use Rattle.byte_reader.proofs.Cursor.{read_at, read-not}
use Rattle.header_fields.specs.declared.Front.{Front}
use Rattle.header_software.specs.Software.{begins_with, yuan_name}
use Rattle.header_fields.specs.Fields.{flag, board_bytes}
use Rattle.metrics.specs.declared.Metrics.{Metrics}
use Rattle.metrics.specs.Texts.{Texts}
use Rattle.evf_header.specs.Opening.{Opened, header_of, front_of, opening, blank_opening}
use Rattle.header_fields.specs.Fields.{texts_of}
use Rattle.header_fields.proofs.Sure.{Early, Sure, Text, Utf8, sure-then, sure-pure, sure-weaken, sure-if}
use Rattle.header_fields.proofs.Sure.{sure-when, sure-contents, sure-bytes, sure-number}
use Rattle.header_fields.proofs.Fits.{AllIn, FrontIs}
use Rattle.header_v0_v3.proofs.Fits.{OldIs, old-sure}
use Rattle.header_v4.proofs.Fits.{NewIs, new-sure}
use Rattle.evf_header.proofs.Metered.{MetricsAre, metrics-sure}

-- versions 0 to 3
pub record SoundOld (s : List ℕ) (h : Header) : Type 0 where
  pub software : Utf8 s (place_at h software_slot)
  pub player : Text s (place_at h player_slot)
  pub race : Text s (place_at h race_slot)
  pub id : Text s (place_at h unique_id_slot)
  pub country : Text s (place_at h country_slot)
  pub device : Text s (place_at h device_id_slot)
  pub no_translation : place_at h translated_software_slot ≡ absent
  pub no_encoding : place_at h original_encoding_slot ≡ absent
  pub no_device : h.version < 2 → place_at h device_id_slot ≡ absent
  pub translated : h.translated ≡ not (begins_with yuan_name (bytes_at s (place_at h software_slot)))
  pub no_question : h.version < 3 → h.use_question ≡ false
  pub no_limit : h.version < 3 → h.use_cursor_pos_lim ≡ false
  pub no_replay : h.version < 3 → h.use_auto_replay ≡ false
  pub time : h.rtime_ms.0 < 16777216
  pub no_count : h.metrics_count ≡ 0
  pub no_metrics : h.metrics ≡ absent

-- version 4
pub record SoundNew (s : List ℕ) (h : Header) : Type 0 where
  pub software : Utf8 s (place_at h software_slot)
  pub translation : h.translated ≡ true
      → Utf8 s (place_at h translated_software_slot) × Utf8 s (place_at h original_encoding_slot)
  pub no_translation : h.translated ≡ false
      → (place_at h translated_software_slot ≡ absent) × (place_at h original_encoding_slot ≡ absent)
  pub player : Utf8 s (place_at h player_slot)
  pub race : Utf8 s (place_at h race_slot)
  pub id : Utf8 s (place_at h unique_id_slot)
  pub country_len : (place_at h country_slot).len ≡ 2
  pub country_utf8 : utf8 (bytes_at s (place_at h country_slot)) ≡ true
  pub device_len : (place_at h device_id_slot).len < 65536

pub record Sound (s : List ℕ) (h : Header) (board : Place) : Type 0 where
  pub version : h.version ≤ 4
  pub height_some : 0 < h.height
  pub height : h.height < 256
  pub width : h.width < 256
  pub mines : h.mine_num < 65536
  pub pixels : h.cell_pixel_size < 256
  pub mode : h.mode < 65536
  pub bbbv : h.bbbv < 65536
  pub time : h.rtime_ms.0 < 2 ^ 32
  pub start : h.start_time.0 < 2 ^ 64
  pub end : h.end_time.0 < 2 ^ 64
  pub level : h.level ≡ level_of h.height h.width h.mine_num
  pub found : h.mines_found ≡ mines_in (bit_at (bytes_at s board)) (h.height * h.width)
  pub board_in : Inside s board
  pub board_len : board.len ≡ packed_length (h.height * h.width)
  pub nine : length h.texts ≡ 9
  pub texts_in : (slot : ℕ) → Inside s (place_at h slot)
  pub no_checksum : place_at h checksum_slot ≡ absent
  pub metrics_count : h.metrics_count < 65536
  pub metrics_in : Inside s h.metrics
  pub metrics : Texts h.metrics_count (block_at h s)
  pub old : h.version < 4 → SoundOld s h
  pub new : h.version ≡ 4 → SoundNew s h

each_in : (s : List ℕ) (l : List Place) → AllIn s l → (slot : ℕ) → Inside s (get_or l slot absent)
each_in s [] h zero = omega arith
each_in s [] h (suc n) = omega arith
each_in s (p ∷ l) h zero = h.0
each_in s (p ∷ l) h (suc n) = each_in s l h.1 n

module _ (s : List ℕ) where
  board-sure : (height width : ℕ)
      → Sure s (board_bytes height width)
      (λ p. (0 < height) × Inside s p × (p.len ≡ packed_length (height * width)))
  unfolding board_bytes
  board-sure height width =
      sure-then s _ (sure-when s (eqb height 0) height_zero (omega arith)) (λ u e.
      sure-weaken s (sure-bytes s (packed_length (height * width)))
      (λ p h. (omega (arith, eqb-false height 0 e), h.0, h.1)))

-- what is sure of either layout
record Layout (s : List ℕ) (version : ℕ) (t : Front) : Type 0 where
  all : FrontIs s t
  old : version < 4 → OldIs s version t
  new : version ≡ 4 → NewIs s t

module _ (s : List ℕ) (small : Bytes s) where
  front-sure : (version : ℕ) → Sure s (front_of version) (Layout s version)
  unfolding front_of
  front-sure version =
      sure-if s (eqb version 4) _ _
      (λ e. sure-weaken s (new-sure s small)
      (λ t h. record
      { all = h.0; old = λ l. absurd (omega (arith, eqb-true version 4 e)); new = λ q. h.1 }))
      (λ e. sure-weaken s (old-sure s small version)
      (λ t h. record { all = h.0; old = λ l. h.1; new = λ q. absurd (eqb-false version 4 e q) }))

  module _ (version : ℕ) (t : Front) (board : Place) (l : Layout s version t) (m : Metrics)
      (w : MetricsAre s version m) where
    h : Header
    h = header_of version t (mines_in (bit_at (bytes_at s board)) (t.sizes.height * t.sizes.width)) m

    sound-old : version < 4 → SoundOld s h
    unfolding h header_of
    sound-old v = let o = l.old v in record {
      software = o.software;
      player = o.player;
      race = o.race;
      id = o.id;
      country = o.country;
      device = o.device;
      no_translation = o.no_translation;
      no_encoding = o.no_encoding;
      no_device = o.no_device;
      translated = o.translated;
      no_question = λ q. ap (λ (n : ℕ). flag n 0x80) (o.second q);
      no_limit = λ q. ap (λ (n : ℕ). flag n 0x40) (o.second q);
      no_replay = λ q. ap (λ (n : ℕ). flag n 0x20) (o.second q);
      time = o.time;
      no_count = ap (λ (k : Metrics). k.count) (w.old v);
      no_metrics = ap (λ (k : Metrics). k.block) (w.old v);
    }

    sound-new : version ≡ 4 → SoundNew s h
    unfolding h header_of
    sound-new v = let o = l.new v in let w = o.texts in record {
      software = w.software;
      translation = w.two.both;
      no_translation = w.two.neither;
      player = w.player;
      race = w.race;
      id = w.id;
      country_len = o.country_len;
      country_utf8 = o.country_utf8;
      device_len = w.device_len;
    }

    sound : version ≤ 4 → 0 < t.sizes.height → Inside s board
        → board.len ≡ packed_length (t.sizes.height * t.sizes.width) → Sound s h board
    unfolding h header_of
    sound v some inside long = let z = l.all.sizes in record {
      version = v;
      height_some = some;
      height = z.height;
      width = z.width;
      mines = z.mines;
      pixels = z.pixels;
      mode = z.mode;
      bbbv = z.bbbv;
      time = l.all.time;
      start = l.all.span.start;
      end = l.all.span.end;
      level = refl;
      found = refl;
      board_in = inside;
      board_len = long;
      nine = refl;
      texts_in = each_in s (texts_of t.texts) l.all.texts_in;
      no_checksum = refl;
      metrics_count = w.count;
      metrics_in = w.inside;
      metrics = w.texts;
      old = sound-old;
      new = sound-new;
    }

  pub opening-sure : Sure s opening (λ o. Sound s o.header o.board)
  unfolding opening h
  opening-sure =
      sure-then s _ (sure-number s small 1) (λ version n.
      sure-then s _ (sure-when s (ltb 4 version) version_unknown (omega arith)) (λ u v.
      sure-then s _ (front-sure version) (λ t l.
      sure-then s _ (board-sure s t.sizes.height t.sizes.width) (λ board b.
      sure-then s _ (sure-contents s board) (λ bits e.
      sure-then s _ (metrics-sure s small version) (λ m w.
      sure-pure s _ (rw e (sound version t board l m w (ltb-false 4 version v) b.0 b.1 b.2))))))))

  pub opening-gives : (at : ℕ) (o : Opened) (to : ℕ) → opening s at ≡ ok o to → Sound s o.header o.board
  opening-gives at o to e = rw e at (opening-sure.at_all at)

  pub opening-refuses : (at n : ℕ) → opening s at ≡ no n → Early n
  opening-refuses at n e = rw e at (opening-sure.at_all at)

  -- what a call of `read_opening` answers
  module _ {o : Opened} {n : ByteReader} (r : Reads blank_opening opening s (At 0) o n) where
    pub answer-sound : (to : ℕ) → n ≡ At to → Sound s o.header o.board
    answer-sound to e = opening-gives 0 o to (read_at r to e)

    pub answer-early : (k : ℕ) → n ≡ Refused k → Early k
    answer-early k e = opening-refuses 0 k (read-not r k e)
