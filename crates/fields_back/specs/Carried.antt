-- What a file carries of a header in its version's own way (01, Header, "Version 4 writer and upgrade",
-- "Version 3 writer"; 02, note 3); flags, sizes and the time are the same in both. Definitions only.
use Rattle.std.specs.Prelude.{ℕ, Bool, false, not, cond, List, [], ◌∷◌}
use Rattle.text.specs.declared.Place.{Place}
use Rattle.text.specs.Places.{absent}
use Rattle.text.specs.Decimals.{decimal_bytes}
use Rattle.game.specs.declared.Header.{Header}
use Rattle.game.specs.Header.{software_slot, translated_software_slot, original_encoding_slot, player_slot}
use Rattle.game.specs.Header.{race_slot, unique_id_slot, country_slot, device_id_slot, checksum_slot, place_at}
use Rattle.game.specs.Country.{two_letters}
use Rattle.game.specs.Same.{Game, text_of}
use Rattle.header_fields.specs.declared.Span.{Span}
use Rattle.header_fields.specs.Fields.{span_of}
use Rattle.header_software.specs.declared.Times.{Times}
use Rattle.header_software.specs.Software.{begins_with, yuan_name, times_of}

-- start and end, whether the game is translated, whether the two texts of a translation are there, the
-- country's bytes, and where the block of the custom metrics lies and how many they are
pub record Carried : Type 0 where
  pub span : Span
  pub translated : Bool
  pub translation : Bool
  pub country : List ℕ
  pub metrics : Place
  pub metrics_count : ℕ

-- version 4 has a field for each, the country in its two-letter form
abbrev pub carried4 : Game → Carried
carried4 g = record {
  span = span_of g.header.start_time.0 g.header.end_time.0;
  translated = g.header.translated;
  translation = g.header.translated;
  country = two_letters (text_of g country_slot);
  metrics = g.header.metrics;
  metrics_count = g.header.metrics_count;
}

-- what a reader makes of the start and end that version 3 writes in decimal, by the software's name
abbrev pub times_read : Game → Times
times_read g =
    let h = g.header in
    times_of (text_of g software_slot) (decimal_bytes h.start_time.0) (decimal_bytes h.end_time.0)
    h.rtime_ms

-- Version 3 has no field for a translation: a game counts as translated unless its software begins with 元,
-- and the two texts are never there. Nor has it one for custom metrics. `span` is what `times_read` gives.
abbrev pub carried3 : Span → Game → Carried
carried3 span g = record {
  span = span;
  translated = not (begins_with yuan_name (text_of g software_slot));
  translation = false;
  country = text_of g country_slot;
  metrics = absent;
  metrics_count = 0;
}

-- the nine texts as they are saved; the two of a translation are absent where they are not written
abbrev pub saved_texts : (translation : Bool) → Header → List Place
saved_texts translation h =
    place_at h software_slot ∷
    cond translation (place_at h translated_software_slot) absent ∷
    cond translation (place_at h original_encoding_slot) absent ∷
    place_at h player_slot ∷
    place_at h race_slot ∷
    place_at h unique_id_slot ∷
    place_at h country_slot ∷
    place_at h device_id_slot ∷
    place_at h checksum_slot ∷ []
