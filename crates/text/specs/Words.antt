-- A text that can be ended by 00 and be read as UTF-8 (01, "Bytes, text, numbers"). Definitions only.
use Rattle.std.specs.Prelude.{◌≡◌, true, List, ℕ}
use Rattle.text.specs.Bytes.{NoZero}
use Rattle.text.specs.Utf8.{utf8}

pub record Word (text : List ℕ) : Type 0 where
  pub spelled : utf8 text ≡ true
  pub free : NoZero text
