-- Versions 0 to 3 up to the board (01, Header). Definitions only.
use Rattle.std.specs.Prelude.{ℕ, not, cond, leb}
use Rattle.text.specs.declared.Place.{Place}
use Rattle.text.specs.Places.{absent}
use Rattle.times.specs.declared.GameMs.{GameMs}
use Rattle.byte_reader.specs.Reading.{Reader, ◌>>=◌, pure, refuse}
use Rattle.byte_reader.specs.Numbers.{number}
use Rattle.byte_reader.specs.Fields.{text, utf8_text}
use Rattle.header_v0_v3.specs.declared.OldTexts.{OldTexts}
use Rattle.header_fields.specs.declared.Span.{Span}
use Rattle.header_software.specs.declared.Times.{Times}
use Rattle.header_software.specs.declared.Times.TheVariants.{Known, Refused}
use Rattle.header_fields.specs.declared.Texts.{Texts}
use Rattle.header_fields.specs.declared.Front.{Front}
use Rattle.header_software.specs.Software.{begins_with, yuan_name, times_of}
use Rattle.header_fields.specs.Fields.{contents, flags, sizes}

-- software, start and end must be UTF-8; the player's texts need not be
unfoldable pub old_texts : Reader OldTexts
old_texts = do
  software ← utf8_text
  player ← text
  race ← text
  id ← text
  start ← utf8_text
  end ← utf8_text
  pure (record
      { software = software; player = player; race = race; unique_id = id; start = start; end = end })

-- a span, or its refusal
abbrev pub known : Times → Reader Span
known (Known span) = pure span
known (Refused n) = refuse n

-- judged right behind the end text
unfoldable pub old_times : OldTexts → GameMs → Reader Span
old_times words time = do
  software ← contents words.software
  start ← contents words.start
  end ← contents words.end
  known (times_of software start end time)

-- versions 2 and 3 have a device id
unfoldable pub old_device : ℕ → Reader Place
old_device version = cond (leb 2 version) text (pure absent)

-- the texts of these versions, with none of a translation
abbrev pub with_old : OldTexts → (country device : Place) → Texts
with_old words country device = record {
  software = words.software;
  translated_software = absent;
  original_encoding = absent;
  player = words.player;
  race = words.race;
  unique_id = words.unique_id;
  country = country;
  device_id = device;
}

unfoldable pub old_front : ℕ → Reader Front
old_front version = do
  marks ← flags version
  size ← sizes
  ms ← number 3
  words ← old_texts
  span ← old_times words (record { 0 = ms })
  country ← text
  device ← old_device version
  software ← contents words.software
  pure (record {
    flags = marks;
    sizes = size;
    time = record { 0 = ms };
    span = span;
    translated = not (begins_with yuan_name software);
    texts = with_old words country device;
  })
