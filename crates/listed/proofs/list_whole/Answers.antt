-- `listed::list_whole` meets its contract: every output fits. Assumes nothing but what a slice and an array
-- tell, that the input is bytes and the buffer has 65536.
use mathlib.Core.Path.{◌≡◌}
use lib.ListN.{length}
use Rattle.listed.proofs.Lent.{lists}
use native.Mathlib.Omega.{arith}
use Rattle.listed.proofs.list_whole.Goals as goal

pub returns : goal.returns
returns c =
    let room : length c.args.out.now ≡ 65536 = omega arith in
    lists _ _ (λ i. (c.type_inv.file i).fits) room c.list_into.ensures
