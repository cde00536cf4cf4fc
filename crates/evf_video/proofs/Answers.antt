-- The numbers that reading can refuse with, and what is sure of a game that version 4 gave. Assumes nothing
-- but that the file is bytes.
--     reading-refuses    a file is refused with 1 to 10
--     parse-refuses      read into buffers, with 1 to 12
--     open-refuses       opened, with 1 to 7
--     check-number       the exported check answers at most 10
--     check-refuses      and not 0 where the file is refused
--     version-4          the texts of a game that version 4 gave are such as its writer takes
use Prim.Native.Nat.{ℕ, ◌*◌, ◌≤◌, ◌<◌}
use mathlib.Core.Path.{◌≡◌, refl}
use mathlib.Core.Bool.{Bool}
use mathlib.Core.List.{List}
use native.Mathlib.Omega.{arith}
use lib.Dec.{eqb, leb}
use lib.ListN.{length}
use lib.Seq.{get_or-set_same, get_or-set_other}
use borrow.Author.Tests.{eqb-false}
use Rattle.text.specs.declared.Place.{Place}
use Rattle.text.specs.Places.{absent, Inside}
use Rattle.game.specs.declared.Header.{Header}
use Rattle.game.specs.declared.Event.{Event}
use Rattle.game.specs.Header.{software_slot, translated_software_slot, original_encoding_slot, player_slot}
use Rattle.game.specs.Header.{race_slot, unique_id_slot, country_slot, device_id_slot, checksum_slot, place_at}
use Rattle.byte_reader.specs.Reading.{Bytes, Got, ok, no}
use Rattle.evf_header.specs.Opening.{Opened, opening}
use Rattle.header_fields.proofs.Sure.{SureOf, Sure, sure-pure, sure-weaken, sure-if, sure-bytes, sure-counted}
use Rattle.evf_header.proofs.Sound.{SoundNew, Sound, opening-sure}
use Rattle.evf_events.specs.Events.{Events, read, refused, events_from}
use Rattle.evf_events.specs.declared.Start.{Start}
use Rattle.evf_events.specs.declared.Start.TheVariants.{At, Refused}
use Rattle.evf_events.specs.Start.{first_cursor, behind_opening, open_of}
use Rattle.evf_events.proofs.Turns.{by_test}
use Rattle.evf_events.proofs.Numbers.{StepNumber, was_file_ends, was_version_unknown, was_first_code_unknown}
use Rattle.evf_events.proofs.Numbers.{was_code_unknown, was_ms_too_large, events-number}
use Rattle.evf_video.specs.Reading.{Reading, game, none, checksum, with_checksum, behind_events}
use Rattle.evf_video.specs.Reading.{behind_header, from_start, reading_of, number_of}
use Rattle.evf_video.specs.Parsed.{into_buffers, parse_of}

abbrev pub Within : (most n : ℕ) → Type 0
Within most n = (1 ≤ n) × (n ≤ most)

-- a header that version 4 gave, its checksum among its texts
pub record Version4 (s : List ℕ) (h : Header) : Type 0 where
  -- software, player, race and id, and those of a translation, are UTF-8 without 00; the device id is below
  -- 65536 bytes
  pub texts : SoundNew s h
  pub checksum-in : Inside s (place_at h checksum_slot)
  pub checksum-len : (place_at h checksum_slot).len < 65536

abbrev ReadingIs : List ℕ → Reading → Type 0
ReadingIs s (game h board es) = h.version ≡ 4 → Version4 s h
ReadingIs s (none n) = Within 10 n

abbrev Refuses : ℕ → Reading → Type 0
Refuses most (game h board es) = Unit {0}
Refuses most (none n) = Within most n

abbrev StartIs : Start → Type 0
StartIs (At c) = Unit {0}
StartIs (Refused n) = Within 7 n

step-within : {n : ℕ} → StepNumber n → Within 10 n
step-within was_file_ends = omega arith
step-within was_version_unknown = omega arith
step-within was_first_code_unknown = omega arith
step-within was_code_unknown = omega arith
step-within was_ms_too_large = omega arith

-- ---- the checksum leaves the other texts where they are
kept : (h : Header) (p : Place) (slot : ℕ) → slot < checksum_slot
    → place_at (with_checksum h p) slot ≡ place_at h slot
kept h p slot below = get_or-set_other h.texts checksum_slot slot p absent (λ e. omega (arith, e, below))

module _ (s : List ℕ) where
  new-kept : (h : Header) (p : Place) → SoundNew s h → SoundNew s (with_checksum h p)
  new-kept h p o = record {
    software = rw (kept h p software_slot (omega arith)) o.software;
    translation = rw
        (kept h p translated_software_slot (omega arith), kept h p original_encoding_slot (omega arith))
        o.translation;
    no_translation = rw
        (kept h p translated_software_slot (omega arith), kept h p original_encoding_slot (omega arith))
        o.no_translation;
    player = rw (kept h p player_slot (omega arith)) o.player;
    race = rw (kept h p race_slot (omega arith)) o.race;
    id = rw (kept h p unique_id_slot (omega arith)) o.id;
    country_len = rw (kept h p country_slot (omega arith)) o.country_len;
    country_utf8 = rw (kept h p country_slot (omega arith)) o.country_utf8;
    device_len = rw (kept h p device_id_slot (omega arith)) o.device_len;
  }

  with-checksum : (h : Header) (p : Place) → length h.texts ≡ 9 → SoundNew s h → Inside s p
      → p.len < 65536 → Version4 s (with_checksum h p)
  with-checksum h p nine new inside long =
      let e : place_at (with_checksum h p) checksum_slot ≡ p =
      get_or-set_same h.texts checksum_slot p absent (omega (arith, nine)) in
      record { texts = new-kept h p new; checksum-in = rw e inside; checksum-len = rw e long }

  module _ (small : Bytes s) where
    pub checksum-sure : (version : ℕ) (follows : Bool)
        → Sure s (checksum version follows) (λ p. Inside s p × (version ≡ 4 → p.len < 65536))
    unfolding checksum
    checksum-sure version follows =
        sure-if s (eqb version 4) _ _
        (λ e. sure-weaken s (sure-counted s small) (λ p h. (h.0, λ q. h.1)))
        (λ e.
        sure-if s follows _ _
        (λ f. sure-weaken s (sure-bytes s 32) (λ p h. (h.0, λ q. absurd (eqb-false version 4 e q))))
        (λ f. sure-pure s absent (omega arith, λ q. absurd (eqb-false version 4 e q))))

    -- ---- the header, the events, the checksum
    behind-events : (o : Opened) (es : List Event) (g : Got Place) → Sound s o.header o.board
        → SureOf (λ p. Inside s p × (o.header.version ≡ 4 → p.len < 65536)) g
        → ReadingIs s (behind_events o es g)
    behind-events o es (ok p to) sound c =
        λ v. with-checksum o.header p sound.nine (sound.new v) c.0 (c.1 v)
    behind-events o es (no n) sound c = (c.0, omega (arith, c.1))

    behind-header : (o : Opened) (E : Events) → Sound s o.header o.board
        → ((n : ℕ) → E ≡ refused n → StepNumber n) → ReadingIs s (behind_header s o E)
    behind-header o (read es at follows) sound f =
        behind-events o es (checksum o.header.version follows s at) sound
        ((checksum-sure o.header.version follows).at_all at)
    behind-header o (refused n) sound f = step-within (f n refl)

    from_start_lem : (g : Got Opened) → SureOf (λ o. Sound s o.header o.board) g
        → ReadingIs s (from_start s g)
    from_start_lem (ok o at) h =
        behind-header o (events_from s (first_cursor o.header.version at)) h
        (λ n e. events-number s (first_cursor o.header.version at) e)
    from_start_lem (no n) h = (h.0, omega (arith, h.1))

    reading-is : ReadingIs s (reading_of s)
    unfolding reading_of
    reading-is = from_start_lem (opening s 0) ((opening-sure s small).at_all 0)

    pub reading-refuses : {n : ℕ} → reading_of s ≡ none n → Within 10 n
    reading-refuses e = rw e at reading-is

    pub version-4 : {h : Header} {board : Place} {es : List Event} → reading_of s ≡ game h board es
        → h.version ≡ 4 → Version4 s h
    version-4 e = rw e at reading-is

    -- ---- the cursor, the exported check
    start_is : (g : Got Opened) → SureOf (λ o. Sound s o.header o.board) g → StartIs (behind_opening g)
    start_is (ok o at) h = tt
    start_is (no n) h = h

    open_is : StartIs (open_of s)
    unfolding open_of
    open_is = start_is (opening s 0) ((opening-sure s small).at_all 0)

    pub open-refuses : {n : ℕ} → open_of s ≡ Refused n → Within 7 n
    open-refuses e = rw e at open_is

    number_is : (r : Reading) → ReadingIs s r → number_of r ≤ 10
    number_is (game h board es) i = omega arith
    number_is (none n) i = i.1

    pub check-number : number_of (reading_of s) ≤ 10
    check-number = number_is (reading_of s) reading-is

    pub check-refuses : {n : ℕ} → reading_of s ≡ none n → 1 ≤ number_of (reading_of s)
    check-refuses e = rw e (reading-refuses e).0

    -- ---- the buffers
    into : (r : Reading) (cells entries : ℕ) → ReadingIs s r → Refuses 12 (into_buffers r cells entries)
    into (game h board es) cells entries i =
        by_test (Refuses 12) (leb (h.height * h.width) cells)
        (λ e. by_test (Refuses 12) (leb (length es) entries) (λ f. tt) (λ f. omega arith))
        (λ e. omega arith)
    into (none n) cells entries i = (i.0, omega (arith, i.1))

    parse-is : (cells entries : ℕ) → Refuses 12 (parse_of s cells entries)
    unfolding parse_of
    parse-is cells entries = into (reading_of s) cells entries reading-is

    pub parse-refuses : (cells entries : ℕ) {n : ℕ} → parse_of s cells entries ≡ none n → Within 12 n
    parse-refuses cells entries e = rw e at (parse-is cells entries)
