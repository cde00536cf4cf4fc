-- What was written into a buffer of 65536 bytes is the whole output, at its start. Assumes nothing but that
-- the input is bytes.
use Prim.Native.Nat.{ℕ, ◌≤◌}
use mathlib.Core.Path.{◌≡◌, sym, ap, ◌∙◌}
use mathlib.Core.List.{List, ◌++◌}
use native.Mathlib.Omega.{arith}
use lib.ListN.{length, drop}
use lib.Seq.{take_at, drop_at, length-take-le}
use Rattle.lists.proofs.Stores.{sets-front}
use Rattle.byte_reader.specs.Reading.{Bytes}
use Rattle.byte_writer.specs.Places.{Writes}
use Rattle.byte_writer.proofs.Laws.{writes_length}
use Rattle.listed.specs.Listed.{listed_of, Lists}
use Rattle.listed.proofs.Fits.{listed-fits}

pub lists : (file d : List ℕ) {d' : List ℕ} {r : ℕ} → Bytes file → length d ≡ 65536
    → Writes d d' 0 (listed_of file) r → Lists file d d' r
lists file d {d'} {r} small room w =
    let fits : length (listed_of file) ≤ length d = omega (arith, listed-fits file small) in
    let many : r ≡ length (listed_of file) = omega (arith, w.next, listed-fits file small) in
    let front : d' ≡ listed_of file ++ drop (length (listed_of file)) d =
    w.is ∙ sets-front d (listed_of file) fits in
    let inside : r ≤ length d' = omega (arith, writes_length w) in
    record {
      is = rw front (take_at (listed_of file) _ r (sym many));
      rest = rw front (drop_at (listed_of file) _ r (sym many) ∙ ap (λ (n : ℕ). drop n d) (sym many));
      counts = (inside, sym (length-take-le r d' inside));
    }
