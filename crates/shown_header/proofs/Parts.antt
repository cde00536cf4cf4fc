-- The flags of a shown header. Assumes nothing.
use Prim.Native.Nat.{ℕ}
use mathlib.Core.Path.{◌≡◌, refl}
use mathlib.Core.Bool.{Bool, true, false}
use mathlib.Core.List.{List, [], ◌∷◌, ◌++◌}
use lib.Dec.{eqb}
use lib.ListN.{length}
use mir.Val.{bool_byte}
use Rattle.game.specs.declared.Header.{Header}
use Rattle.game.specs.Header.{text_at, checksum_slot}
use Rattle.lines.specs.Ascii.{ascii}
use Rattle.forms.specs.Filled.{piece, taken, filled}
use Rattle.shown_header.specs.Lines.{flags_shown}

-- a flag as a number, and back
pub bit_is : (b : Bool) → eqb (bool_byte b) 1 ≡ b
bit_is true = refl
bit_is false = refl

-- THE FLAGS
module _ (file : List ℕ) (h : Header) (events n : ℕ) where
  abbrev flagsForm : List ℕ
  flagsForm =
      ascii "completed            ?\n" ++
      ascii "official             ?\n" ++
      ascii "fair                 ?\n" ++
      ascii "no flags             ?\n" ++
      ascii "translated           ?\n" ++
      ascii "question marks       ?\n" ++
      ascii "cursor limit         ?\n" ++
      ascii "auto replay          ?\n" ++
      ascii "checksum             # bytes\n" ++
      ascii "events               #\n"

  abbrev flagValues : List ℕ
  flagValues =
      bool_byte h.is_completed ∷
      bool_byte h.is_official ∷
      bool_byte h.is_fair ∷
      bool_byte h.nf ∷
      bool_byte h.translated ∷
      bool_byte h.use_question ∷
      bool_byte h.use_cursor_pos_lim ∷
      bool_byte h.use_auto_replay ∷ n ∷ events ∷ []

  pub flags-are : n ≡ length (text_at h file checksum_slot)
      → filled h file flagsForm flagValues ≡ flags_shown file h events
  unfolding filled piece taken flags_shown
  flags-are e =
      rw (
        bit_is h.is_completed,
        bit_is h.is_official,
        bit_is h.is_fair,
        bit_is h.nf,
        bit_is h.translated,
        bit_is h.use_question,
        bit_is h.use_cursor_pos_lim,
        bit_is h.use_auto_replay,
        e,
      )
