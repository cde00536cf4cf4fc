-- How long the parts of a file are, from how long their fields are. Assumes nothing.
use Prim.Native.Nat.{ℕ, ◌+◌}
use mathlib.Core.Path.{◌≡◌, refl, sym, ap, ◌∙◌}
use mathlib.Core.Bool.{true, false, cond}
use mathlib.Core.List.{List, [], ◌∷◌, ◌++◌}
use native.Mathlib.Omega.{arith}
use lib.Dec.{eqb}
use lib.ListN.{length, length-append}
use borrow.Author.Tests.{eqb-true}
use Rattle.text.specs.Decimals.{decimal_bytes}
use Rattle.board.specs.Bits.{packed_length}
use Rattle.board.specs.Geometry.{mine_at}
use Rattle.board.proofs.Packed.{length-packed}
use Rattle.game.specs.declared.Header.{Header}
use Rattle.game.specs.Header.{software_slot, translated_software_slot, original_encoding_slot, player_slot}
use Rattle.game.specs.Header.{race_slot, unique_id_slot, country_slot, device_id_slot, checksum_slot}
use Rattle.game.specs.Country.{two_letters}
use Rattle.game.specs.Same.{Game, text_of, block_of}
use Rattle.game.proofs.Letters.{form}
use Rattle.byte_reader.specs.Numbers.{bytes_of}
use Rattle.byte_writer.specs.Fields.{zero_ended, counted}
use Rattle.layout_fields.specs.Fields.{start_bytes, cell_count, board_bytes, text_bytes}
use Rattle.layout_v3.specs.Version3.{no_checksum, texts3, front3, tail3}
use Rattle.layout_v4.proofs.Translation.{translated}
use Rattle.layout_v4.specs.Version4.{translation_bytes, texts4, metrics_bytes, front4, tail4}

-- of a text t that is known as u
pub zero_ended_lem : (t u : List ℕ) → t ≡ u → length t + 1 ≡ length (zero_ended u)
zero_ended_lem t u e = rw e (sym (length-append u (0 ∷ [])))

pub decimal_ended : (n v : ℕ) → v ≡ length (decimal_bytes n) → v + 1 ≡ length (zero_ended (decimal_bytes n))
decimal_ended n v e = rw e (zero_ended_lem (decimal_bytes n) (decimal_bytes n) refl)

pub counted-length : (t u : List ℕ) → t ≡ u → length t + 2 ≡ length (counted u)
counted-length t u e = rw e (omega (arith, length-append (bytes_of 2 (length u)) u))

start_length : (version flags : ℕ) (h : Header) → length (start_bytes version flags h) ≡ 12
unfolding start_bytes
start_length version flags h = refl

letters-length : (t : List ℕ) → length (two_letters t) ≡ 2
letters-length t = ap length (form t).is

board_length : (g : Game) → length (board_bytes g) ≡ packed_length (cell_count g.header)
unfolding board_bytes
board_length g = length-packed (mine_at g.cells) (cell_count g.header)

module _ (g : Game) where
  -- VERSION 4
  pub both : g.header.translated ≡ true
      → length (text_bytes g translated_software_slot) + length (text_bytes g original_encoding_slot)
      ≡ length (translation_bytes g)
  both e = sym (length-append (text_bytes g translated_software_slot) (text_bytes g original_encoding_slot))
      ∙ ap length (translated g e)

  pub texts4-length : length (text_bytes g software_slot) + length (translation_bytes g) + length
      (text_bytes g player_slot) + length (text_bytes g race_slot) + length (text_bytes g unique_id_slot) + length
      (counted (text_of g device_id_slot)) ≡ length (texts4 g)
  unfolding texts4
  texts4-length = simp length-append (omega arith)

  pub metrics-length : length (block_of g) + 2 ≡ length (metrics_bytes g)
  unfolding metrics_bytes
  metrics-length = omega (arith, length-append (bytes_of 2 g.header.metrics_count) (block_of g))

  pub front4-length : 34 + length (texts4 g) + packed_length (cell_count g.header) + length (metrics_bytes g)
      ≡ length (front4 g)
  unfolding front4
  front4-length = simp (length-append, board_length, letters-length, start_length) (omega arith)

  pub tail4-length : 1 + length (counted (text_of g checksum_slot)) ≡ length (tail4 g)
  unfolding tail4
  tail4-length = omega (arith, length-append (bytes_of 1 0) (counted (text_of g checksum_slot)))

  -- VERSION 3
  pub texts3-length : length (text_bytes g software_slot) + length (text_bytes g player_slot) + length
      (text_bytes g race_slot) + length (text_bytes g unique_id_slot) + length
      (zero_ended (decimal_bytes g.header.start_time.0)) + length
      (zero_ended (decimal_bytes g.header.end_time.0)) + length (text_bytes g country_slot) + length
      (text_bytes g device_id_slot) ≡ length (texts3 g)
  unfolding texts3
  texts3-length = simp length-append (omega arith)

  pub front3-length : 15 + length (texts3 g) + packed_length (cell_count g.header) ≡ length (front3 g)
  unfolding front3
  front3-length = simp (length-append, board_length, start_length) (omega arith)

  pub tail3-length : 1 + length (text_of g checksum_slot) ≡ length (tail3 g)
  unfolding tail3
  tail3-length =
      (elim (eqb (length (text_of g checksum_slot)) 0) as
      (λ t. eqb (length (text_of g checksum_slot)) 0 ≡ t
      → 1 + length (text_of g checksum_slot)
      ≡ length (cond t (bytes_of 1 no_checksum) (bytes_of 1 0 ++ text_of g checksum_slot))) [
        | true ↦ λ e. omega (arith, eqb-true (length (text_of g checksum_slot)) 0 e)
        | false ↦ λ e. omega (arith, length-append (bytes_of 1 0) (text_of g checksum_slot))
      ])
      refl
