-- What is shown of any file is at most 131072 bytes. Assumes nothing but that the file is bytes.
use Prim.Native.Nat.{ℕ, ◌+◌, ◌*◌, ◌≤◌, ◌<◌}
use mathlib.Core.Path.{◌≡◌, refl}
use mathlib.Core.List.{List}
use native.Mathlib.Nat.{mul-le-mul}
use native.Mathlib.Omega.{arith}
use lib.IntN.{ℤ}
use lib.ListN.{length, length-append}
use Rattle.game.specs.declared.Header.{Header}
use Rattle.byte_reader.specs.Reading.{Bytes}
use Rattle.evf_video.specs.Reading.{Reading, game, none, reading_of, cells_at}
use Rattle.evf_video.proofs.Buffers.{sized}
use Rattle.board_text.proofs.Rows.{length-board}
use Rattle.shown_header.proofs.Small.{header-small}
use Rattle.shown.specs.Shown.{game_shown, reading_shown, shown_of}

game_small : (file : List ℕ) (h : Header) (events : ℕ) (cells : List ℤ) → h.height < 256 → h.width < 256
    → length (game_shown file h cells events) ≤ 131072
unfolding game_shown
game_small file h events cells tall wide =
    let a : h.height ≤ 255 = omega arith in
    let b : h.width + 1 ≤ 256 = omega arith in
    let c : h.height * (h.width + 1) ≤ 255 * 256 = mul-le-mul a b in
    simp length-append (omega (arith, header-small file h events, length-board cells h.width h.height))

reading_small : (file : List ℕ) → Bytes file → (R : Reading) → reading_of file ≡ R
    → length (reading_shown file R) ≤ 131072
reading_small file small (game h place es) e =
    let z = sized file h place es small e in
    game_small file h (length es) (cells_at file h place) z.height z.width
reading_small file small (none n) e = omega arith

pub shown-small : (file : List ℕ) → Bytes file → length (shown_of file) ≤ 131072
unfolding shown_of
shown-small file small = reading_small file small (reading_of file) refl
