-- Version 4 up to the board (01, Header). Every text must be UTF-8. Definitions only.
use Rattle.std.specs.Prelude.{Bool, cond}
use Rattle.text.specs.declared.Place.{Place}
use Rattle.text.specs.Places.{absent}
use Rattle.byte_reader.specs.Reading.{Reader, ◌>>=◌, pure}
use Rattle.byte_reader.specs.Numbers.{number}
use Rattle.byte_reader.specs.Fields.{counted_bytes, utf8_text, utf8_bytes}
use Rattle.header_v4.specs.declared.Translation.{Translation}
use Rattle.header_fields.specs.declared.Texts.{Texts}
use Rattle.header_fields.specs.declared.Front.{Front}
use Rattle.header_fields.specs.Fields.{span_of}
use Rattle.header_fields.specs.Fields.{flag, flags, sizes}

-- a translated replay names the software's translation and the encoding that it came from
unfoldable pub both_texts : Reader Translation
both_texts = do
  software ← utf8_text
  encoding ← utf8_text
  pure (record { software = software; encoding = encoding })

unfoldable pub translation : Bool → Reader Translation
translation translated = cond translated both_texts (pure (record { software = absent; encoding = absent }))

-- from the software to the device id, which may be any bytes; the country stands before them
unfoldable pub new_texts : (country : Place) → (translated : Bool) → Reader Texts
new_texts country translated = do
  software ← utf8_text
  two ← translation translated
  player ← utf8_text
  race ← utf8_text
  id ← utf8_text
  device ← counted_bytes
  pure (record {
    software = software;
    translated_software = two.software;
    original_encoding = two.encoding;
    player = player;
    race = race;
    unique_id = id;
    country = country;
    device_id = device;
  })

unfoldable pub new_front : Reader Front
new_front = do
  marks ← flags 4
  size ← sizes
  ms ← number 4
  country ← utf8_bytes 2
  start ← number 8
  end ← number 8
  words ← new_texts country (flag marks.first 0x08)
  pure (record {
    flags = marks;
    sizes = size;
    time = record { 0 = ms };
    span = span_of start end;
    translated = flag marks.first 0x08;
    texts = words;
  })
