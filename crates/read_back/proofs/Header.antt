-- What stands before the events is read (01, Header, Board). Assumes nothing.
--     any-opening      in any version, where what stands before the board is read
--     opening-takes    what version 4 writes
use Prim.Native.Nat.{ℕ, ◌≤◌}
use mathlib.Core.Path.{◌≡◌, refl, sym, ap, subst, ◌∙◌}
use mathlib.Core.Bool.{Bool, true, false, cond}
use mathlib.Core.List.{List, [], ◌∷◌, ◌++◌, append_assoc}
use native.Mathlib.Omega.{arith}
use lib.Dec.{ltb}
use lib.Ieee.{Float}
use lib.ListN.{length, get_or}
use borrow.Author.Tests.{lt-ltb, le-ltb}
use Rattle.text.specs.declared.Place.{Place}
use Rattle.text.specs.Places.{absent, bytes_at}
use Rattle.text.specs.Bytes.{all, is_ascii}
use Rattle.text.specs.Utf8.{utf8}
use Rattle.text.proofs.Octets.{ascii}
use Rattle.text.specs.Words.{Word}
use Rattle.board.specs.Geometry.{mine_at, mines_in}
use Rattle.board.specs.Bits.{bit_at, packed}
use Rattle.game.specs.Header.{software_slot, translated_software_slot, original_encoding_slot, player_slot}
use Rattle.game.specs.Header.{race_slot, unique_id_slot, country_slot, device_id_slot, place_at}
use Rattle.game.specs.Country.{two_letters}
use Rattle.game.specs.Same.{Game, text_of}
use Rattle.game.proofs.Letters.{Form, form}
use Rattle.byte_reader.specs.Fields.{utf8_bytes}
use Rattle.byte_reader.specs.Numbers.{bytes_of}
use Rattle.byte_reader.proofs.Laws.{Takes, then, pure-takes, number-takes, bytes-takes, checked, word-takes}
use Rattle.byte_writer.specs.Fields.{zero_ended}
use Rattle.header_fields.specs.declared.Flags.{Flags}
use Rattle.header_fields.specs.declared.Sizes.{Sizes}
use Rattle.header_fields.specs.declared.Front.{Front}
use Rattle.header_fields.specs.Fields.{flag, board_bytes}
use Rattle.metrics.specs.declared.Metrics.{Metrics}
use Rattle.metrics.specs.Block.{custom_metrics}
use Rattle.metrics.proofs.Texts.{block-takes}
use Rattle.header_v4.specs.Front.{both_texts, translation, new_texts, new_front}
use Rattle.evf_header.specs.Opening.{Opened, header_of, front_of, metrics_of, opening}
use Rattle.layout_fields.specs.Fields.{flags4, second_flags, start_bytes, board_bytes as boardWritten}
use Rattle.layout_v4.specs.Version4.{translation_bytes, metrics_bytes, texts4 as textsWritten}
use Rattle.layout_v4.specs.Version4.{front4 as frontWritten}
use Rattle.fields_back.specs.Fits.{SizesFit}
use Rattle.fields_back.specs.Carried.{Carried, carried4}
use Rattle.fields_back.proofs.Flags.{first_small, second_small, first_back}
use Rattle.fields_back.proofs.Taken.{last, when-takes, contents-takes, counted-takes}
use Rattle.fields_back.proofs.Fields.{sizes_bytes, marks-takes, sizes-takes, board-takes}
use Rattle.fields_back.proofs.Fields.{TextsCarry, FrontCarries}
use Rattle.read_back.specs.Saved.{area}
use Rattle.read_back.specs.Back.{Holdable}

-- THEIR BYTES

-- behind the version, up to the board
abbrev to_board : Game → List ℕ
to_board g =
    let h = g.header in
    (bytes_of 1 (flags4 h) ++ bytes_of 1 (second_flags h))
    ++ (sizes_bytes h ++ (bytes_of 4 h.rtime_ms.0 ++ (two_letters (text_of g country_slot) ++
    (bytes_of 8 h.start_time.0 ++ (bytes_of 8 h.end_time.0 ++ textsWritten g)))))

-- WHAT IS READ

-- the custom metrics, as a version carries them
pub record MetricsCarry (s : List ℕ) (g : Game) (carried : Carried) (m : Metrics) : Type 0 where
  pub count : m.count ≡ carried.metrics_count
  pub block : bytes_at s m.block ≡ bytes_at g.bytes carried.metrics

-- everything before the events, as a version carries it: the header but for its checksum, and where the board
-- lies
pub record OpenedCarries (s : List ℕ) (version : ℕ) (g : Game) (carried : Carried) (o : Opened) : Type 0 where
  pub front : Front
  pub front_is : FrontCarries s g carried front
  pub metrics : Metrics
  pub metrics_are : MetricsCarry s g carried metrics
  pub header : o.header ≡ header_of version front (mines_in (bit_at (bytes_at s o.board)) (area g)) metrics
  pub board : bytes_at s o.board ≡ packed (mine_at g.cells) (area g)

-- a country's two-letter form is ASCII, and so UTF-8
form_utf8 : (l : List ℕ) → Form l → utf8 l ≡ true
form_utf8 l f =
    let a = f.first in
    let b = f.second in
    let letters : all is_ascii (a ∷ b ∷ []) ≡ true =
    rw (
      lt-ltb a 128 (omega (arith, f.first_upper.most)),
      lt-ltb b 128 (omega (arith, f.second_upper.most)),
    ) in
    ap utf8 f.is ∙ ascii (a ∷ b ∷ []) letters

module _ (s : List ℕ) where
  two-takes : (t : List ℕ) → Takes s (utf8_bytes 2) (two_letters t) (λ a. bytes_at s a ≡ two_letters t)
  unfolding utf8_bytes
  two-takes t = let f = form t in
      checked s (two_letters t) (form_utf8 (two_letters t) f)
      (bytes-takes s (two_letters t) 2 (sym (ap length f.is)))

  -- the version, what stands before the board, the board, and metrics where there are any
  pub any-opening : (version : ℕ) (g : Game) (carried : Carried) → version ≤ 4 → SizesFit g.header
      → {e f : List ℕ} → Takes s (front_of version) e (FrontCarries s g carried)
      → Takes s (metrics_of version) f (MetricsCarry s g carried)
      → Takes s opening (bytes_of 1 version ++ (e ++ (boardWritten g ++ f)))
      (OpenedCarries s version g carried)
  unfolding opening
  any-opening version g carried v w fronts metrics =
      then s _ (number-takes s 1 version (omega arith)) λ n e.
      rw e
      (then s _ (when-takes s (ltb 4 version) _ (le-ltb 4 version v)) λ u _.
      then s _ fronts λ t f.
      let hs : t.sizes.height ≡ g.header.height = ap (λ (z : Sizes). z.height) f.sizes in
      let ws : t.sizes.width ≡ g.header.width = ap (λ (z : Sizes). z.width) f.sizes in
      let on : Takes s (board_bytes t.sizes.height t.sizes.width) (boardWritten g)
      (λ p. bytes_at s p ≡ packed (mine_at g.cells) (area g)) = rw (hs, ws) (board-takes s g w) in
      then s _ on λ p ep.
      then s _ (contents-takes s p) λ d ed.
      last s _ metrics λ m em.
      record {
        front = t;
        front_is = f;
        metrics = m;
        metrics_are = em;
        header = rw (ed, hs, ws);
        board = ep;
      })

  -- the texts of a translation, in its bytes d at p and q: both or neither
  translation-takes : (d : List ℕ) (p q : Place) (b : Bool) → (b ≡ true → Word (bytes_at d p))
      → (b ≡ true → Word (bytes_at d q))
      → Takes s (translation b) (cond b (zero_ended (bytes_at d p) ++ zero_ended (bytes_at d q)) [])
      (λ t. (bytes_at s t.software ≡ bytes_at d (cond b p absent))
      × (bytes_at s t.encoding ≡ bytes_at d (cond b q absent)))
  unfolding translation both_texts
  translation-takes d p q true u v =
      then s _ (word-takes s (bytes_at d p) (u refl))
      (λ a e. last s _ (word-takes s (bytes_at d q) (v refl)) (λ b f. (e, f)))
  translation-takes d p q false u v =
      pure-takes s (record { software = absent; encoding = absent }) (refl, refl)

  module _ (toMs : Float → ℕ) (g : Game) (w : Holdable toMs g) where
    texts-takes : (country : Place) → bytes_at s country ≡ two_letters (text_of g country_slot)
        → Takes s (new_texts country g.header.translated) (textsWritten g) (TextsCarry s g (carried4 g))
    unfolding new_texts textsWritten translation_bytes
    texts-takes country e =
        let place : ℕ → Place = place_at g.header in
        then s _ (word-takes s (text_of g software_slot) w.says.software) λ a ea.
        then s _ (translation-takes g.bytes (place translated_software_slot) (place original_encoding_slot)
        g.header.translated w.says.translated_software w.says.original_encoding) λ b eb.
        then s _ (word-takes s (text_of g player_slot) w.says.player) λ c ec.
        then s _ (word-takes s (text_of g race_slot) w.says.race) λ d ed.
        then s _ (word-takes s (text_of g unique_id_slot) w.says.unique_id) λ i ei.
        last s _ (counted-takes s (text_of g device_id_slot) w.says.device_id) λ v ev.
        record {
          software = ea;
          translated_software = eb.0;
          original_encoding = eb.1;
          player = ec;
          race = ed;
          unique_id = ei;
          country = e;
          device_id = ev;
        }

    front-takes : Takes s (front_of 4) (to_board g) (FrontCarries s g (carried4 g))
    unfolding front_of new_front
    front-takes =
        let h = g.header in
        let t = h.translated in
        then s _ (marks-takes s 4 (flags4 h) (second_flags h) (omega arith) (first_small h t) (second_small h))
        λ m em.
        then s _ (sizes-takes s h w.sizes) λ n en.
        then s _ (number-takes s 4 h.rtime_ms.0 w.time) λ ms et.
        then s _ (two-takes (text_of g country_slot)) λ c ec.
        then s _ (number-takes s 8 h.start_time.0 w.start) λ a ea.
        then s _ (number-takes s 8 h.end_time.0 w.end) λ b eb.
        let translated : flag m.first 0x08 ≡ h.translated =
        ap (λ (f : Flags). flag f.first 0x08) em ∙ ap (λ (l : List Bool). get_or l 4 false)
        (first_back h t) in
        last s _ (rw translated (texts-takes c ec)) λ v ev.
        record {
          translated_bit = t;
          flags = em;
          sizes = en;
          time = rw et;
          span = rw (ea, eb);
          translated = translated;
          texts = ev;
        }

    -- the custom metrics
    metrics-takes : Takes s (metrics_of 4) (metrics_bytes g) (MetricsCarry s g (carried4 g))
    unfolding metrics_of custom_metrics metrics_bytes
    metrics-takes =
        let h = g.header in
        then s _ (number-takes s 2 h.metrics_count w.metrics_count) λ n e.
        rw e (last s _ (block-takes s w.says.metrics) λ p ep. record { count = refl; block = ep })

    -- what is written, in the order in which it is read
    read_order : bytes_of 1 4 ++ (to_board g ++ (boardWritten g ++ metrics_bytes g)) ≡ frontWritten g
    unfolding frontWritten start_bytes
    read_order =
        let h = g.header in
        ap (λ (l : List ℕ). start_bytes 4 (flags4 h) h ++ (bytes_of 4 h.rtime_ms.0 ++ l))
        (append_assoc (two_letters (text_of g country_slot))
        (bytes_of 8 h.start_time.0 ++ (bytes_of 8 h.end_time.0 ++ textsWritten g))
        (boardWritten g ++ metrics_bytes g))

    pub opening-takes : Takes s opening (frontWritten g) (OpenedCarries s 4 g (carried4 g))
    opening-takes =
        subst (λ (l : List ℕ). Takes s opening l (OpenedCarries s 4 g (carried4 g))) read_order
        (any-opening 4 g (carried4 g) (omega arith) w.sizes front-takes metrics-takes)
