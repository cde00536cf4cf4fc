use native.Mathlib.Omega.{arith}
use Rattle.text.proofs.Written.{store_starts, store_goes_on}
use Rattle.text.proofs.put_decimal.Goals as goal

pub loop-i-init : goal.loop-i-init
loop-i-init c = store_starts _ _ _ _ c.decimal_len-i.ensures

pub loop-i-preserved : goal.loop-i-preserved
loop-i-preserved c =
    rw (c.put_byte.ensures, c.digit.ensures)
    (store_goes_on c.loop-i.invariant (omega arith))
