-- `records_v4::mouse::is_mouse` meets its contract: the tests in a row. Assumes nothing.
use native.Mathlib.Omega.{arith}
use Rattle.records_v4.proofs.MouseRecords.{no_whole, no_code, mouse_is}
use Rattle.records_v4.proofs.mouse.is_mouse.Goals as goal

pub returns-then-file-at : goal.returns-then-file-at
returns-then-file-at c = no_whole _ _ (omega arith)

pub returns-then-file-at-lt-RECORD_LEN : goal.returns-then-file-at-lt-RECORD_LEN
returns-then-file-at-lt-RECORD_LEN c = no_whole _ _ (omega arith)

pub returns-then-code-lt-FIRST_KIND : goal.returns-then-code-lt-FIRST_KIND
returns-then-code-lt-FIRST_KIND c = no_code _ _ (omega arith) (omega arith)

pub returns : goal.returns
returns c = mouse_is _ _ (omega arith) (omega arith)
