-- Texts and counted bytes at a place, by the tests of the code; and that what is read as a place ends in the
-- file. Assumes nothing.
use Prim.Native.Nat.{ℕ, ◌+◌, ◌-◌, ◌<◌, ◌≤◌}
use mathlib.Core.Path.{◌≡◌, refl}
use mathlib.Core.Bool.{true, false}
use mathlib.Core.List.{List}
use mathlib.Core.Option.{Option, none, some}
use native.Mathlib.Omega.{arith}
use lib.ListN.{length, drop}
use borrow.Author.Tests.{lt-leb, le-leb}
use Rattle.std.specs.Prelude.{Some, None}
use Rattle.text.specs.Ends.{up_to00, end_after, text_end}
use Rattle.byte_reader.specs.Reading.{ok, no}
use Rattle.byte_reader.specs.Fields.{bytes, ended, text, must_be_utf8}
use Rattle.byte_reader.specs.declared.ByteReader.{ByteReader}
use Rattle.byte_reader.specs.declared.ByteReader.TheVariants.{At as Here, Refused}
use Rattle.byte_reader.specs.Cursor.{Reads}
use Rattle.byte_reader.proofs.Cursor.{read-value, read-refused}
use Rattle.game.specs.Refusals.{text_not_utf8}
use Rattle.text.specs.declared.Place.{Place}
use Rattle.text.specs.Places.{absent, bytes_at}
use Rattle.text.specs.Utf8.{utf8}

module _ (n : ℕ) (file : List ℕ) (at : ℕ) where
  pub bytes-short : length file < at + n → bytes n file at ≡ no 1
  unfolding bytes
  bytes-short h = rw (lt-leb _ _ h)

  pub bytes_whole : at + n ≤ length file → bytes n file at ≡ ok (record { start = at; len = n }) (at + n)
  unfolding bytes
  bytes_whole h = rw (le-leb _ _ h)

module _ (file : List ℕ) (at : ℕ) where
  found : (end : ℕ) (o : Option ℕ) → end_after at o ≡ Some end
      → ended at o ≡ ok (record { start = at; len = end - at }) (end + 1)
  found end none q = let z : ◌≡◌ {A = ℕ} 0 1 = cc in absurd (omega arith)
  found end (some n) q =
      let l : end ≡ at + n = cc in
      let d : end - at ≡ n = omega arith in
      let m : at + (n + 1) ≡ end + 1 = omega arith in
      rw (d, m)

  -- a text whose 00 stands at `end`
  pub text-found : (end : ℕ) → text_end file at ≡ Some end
      → text file at ≡ ok (record { start = at; len = end - at }) (end + 1)
  unfolding text text_end
  text-found end q = found end (up_to00 (drop at file)) q

  unended : (o : Option ℕ) → end_after at o ≡ None → ended at o ≡ no 1
  unended none q = refl
  unended (some n) q = let z : ◌≡◌ {A = ℕ} 0 1 = cc in absurd (omega arith)

  pub text-open : text_end file at ≡ None → text file at ≡ no 1
  unfolding text text_end
  text-open q = unended (up_to00 (drop at file)) q

-- a place whose bytes have to be UTF-8, from a cursor
module _ (file : List ℕ) (p : Place) (c : ByteReader) (at : ℕ) (e : c ≡ Here at) where
  pub utf8-good : utf8 (bytes_at file p) ≡ true → Reads absent (must_be_utf8 p) file c p c
  unfolding must_be_utf8
  utf8-good u = rw e (read-value absent (must_be_utf8 p) file (Here at) at p at refl (rw u))

  pub utf8-bad : utf8 (bytes_at file p) ≡ false
      → Reads absent (must_be_utf8 p) file c absent (Refused text_not_utf8)
  unfolding must_be_utf8
  utf8-bad u = read-refused absent (must_be_utf8 p) file c at text_not_utf8 e (rw u)
