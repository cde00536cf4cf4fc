-- So many texts, passed over one at a time. Assumes nothing.
use Prim.Native.Nat.{ℕ, suc, ◌+◌, ◌-◌, ◌≤◌, ◌<◌}
use mathlib.Core.Path.{◌≡◌}
use native.Mathlib.Omega.{arith}
use mathlib.Core.List.{List}
use Rattle.text.specs.declared.Place.{Place}
use Rattle.text.specs.Places.{absent}
use Rattle.byte_reader.specs.declared.ByteReader.{ByteReader}
use Rattle.byte_reader.specs.Fields.{utf8_text}
use Rattle.byte_reader.specs.Cursor.{Reads, Gives}
use Rattle.byte_reader.proofs.Cursor.{gives_then, gives-read, gives-pure}
use Rattle.metrics.specs.Block.{texts}

-- with i of n texts skipped on the way from c
pub record Skipped (file : List ℕ) (c : ByteReader) (n : ℕ) (next : ByteReader) (i : ℕ) : Type 0 where
  pub at_most : i ≤ n
  pub rest : (to : ByteReader) → Gives (texts (n - i)) file next tt to → Gives (texts n) file c tt to

module _ (file : List ℕ) (c : ByteReader) (n : ℕ) where
  pub none-skipped : Skipped file c n c 0
  none-skipped = let e : n - 0 ≡ n = omega arith in record { at_most = omega arith; rest = rw e (λ to g. g) }

  module _ {next : ByteReader} {i : ℕ} (k : Skipped file c n next i) where
    pub one-skipped : {p : Place} {m : ByteReader} → i < n → Reads absent utf8_text file next p m
        → Skipped file c n m (i + 1)
    unfolding texts
    one-skipped h r =
        let e : n - i ≡ suc (n - (i + 1)) = omega arith in
        record {
          at_most = omega arith;
          rest = λ to g. k.rest to (rw e (gives_then (λ p. texts (n - (i + 1))) (gives-read r) g));
        }

    pub all-skipped : n ≤ i → Gives (texts n) file c tt next
    unfolding texts
    all-skipped h =
        let e : n - i ≡ 0 = omega arith in
        k.rest next (rw e gives-pure)
