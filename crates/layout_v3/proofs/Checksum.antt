-- The end of the events, by whether there is a checksum. Assumes nothing.
use mathlib.Core.Path.{◌≡◌}
use mathlib.Core.List.{◌++◌}
use lib.ListN.{length}
use borrow.Author.Tests.{eq-eqb, ne_eqb}
use Rattle.game.specs.Header.{checksum_slot}
use Rattle.game.specs.Same.{Game, text_of}
use Rattle.byte_reader.specs.Numbers.{bytes_of}
use Rattle.layout_v3.specs.Version3.{no_checksum, tail3}

module _ (g : Game) where
  pub no_checksum_lem : length (text_of g checksum_slot) ≡ 0 → bytes_of 1 no_checksum ≡ tail3 g
  unfolding tail3
  no_checksum_lem e = rw (eq-eqb _ _ e)

  pub some-checksum : (length (text_of g checksum_slot) ≡ 0 → ⊥)
      → bytes_of 1 0 ++ text_of g checksum_slot ≡ tail3 g
  unfolding tail3
  some-checksum e = rw (ne_eqb _ _ e)
