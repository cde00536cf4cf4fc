-- `ByteReader::get_number` meets its contract: by the cursor's case and whether the file has the k bytes.
-- Assumes nothing.
use native.Mathlib.Omega.{arith}
use Rattle.byte_reader.specs.Numbers.{number}
use Rattle.byte_reader.proofs.Numbers.{short, whole, some_below}
use Rattle.byte_reader.proofs.Cursor.{read-value, read-refused, refused-before}
use Rattle.byte_reader.proofs.ByteReader.get_number.Goals as goal

pub returns-then-file-at : goal.returns-then-file-at
returns-then-file-at c =
    let a = c.args in
    record {
      reads = read-refused 0 (number a.k) _ _ _ 1 c.in-At.is
          (short a.k _ _ (omega arith));
      fits = some_below a.k;
    }

pub returns-then-file-at-2 : goal.returns-then-file-at-2
returns-then-file-at-2 c =
    let a = c.args in
    record {
      reads = read-refused 0 (number a.k) _ _ _ 1 c.in-At.is
          (short a.k _ _ (omega arith));
      fits = some_below a.k;
    }

pub returns-else-file-at-2 : goal.returns-else-file-at-2
returns-else-file-at-2 c =
    let call = c.number_at.ensures in
    let a = c.args in
    let given = whole a.k a.file.now c.in-At.at
    (omega arith) in
    record {
      reads = read-value 0 (number a.k) _ _ _ _ _
          c.in-At.is (rw (← call.is) at given);
      fits = call.fits;
    }

pub returns-in-Refused : goal.returns-in-Refused
returns-in-Refused c = let a = c.args in
    record {
      reads = refused-before 0 (number a.k) _ _ _ c.in-Refused.is;
      fits = some_below a.k;
    }
