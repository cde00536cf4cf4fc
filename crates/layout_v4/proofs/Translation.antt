-- The two texts of a translation, by whether the game is translated. Assumes nothing.
use mathlib.Core.Path.{◌≡◌}
use mathlib.Core.Bool.{true, false}
use mathlib.Core.List.{[], ◌++◌}
use Rattle.game.specs.Header.{translated_software_slot, original_encoding_slot}
use Rattle.game.specs.Same.{Game}
use Rattle.layout_fields.specs.Fields.{text_bytes}
use Rattle.layout_v4.specs.Version4.{translation_bytes}

module _ (g : Game) where
  pub untranslated : g.header.translated ≡ false → [] ≡ translation_bytes g
  unfolding translation_bytes
  untranslated e = rw e

  pub translated : g.header.translated ≡ true
      → text_bytes g translated_software_slot ++ text_bytes g original_encoding_slot ≡ translation_bytes g
  unfolding translation_bytes
  translated e = rw e
