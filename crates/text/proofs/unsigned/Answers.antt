-- By whether a + stands in front. Assumes nothing.
use Rattle.text.proofs.Spelled.{decimal-signed, decimal_unsigned}
use Rattle.text.proofs.unsigned.Goals as goal

pub returns-in-Some : goal.returns-in-Some
returns-in-Some c =
    let e = c.in-Some.ensures.cases in
    rw (e.1) (decimal-signed c.args.s.now e.0)

pub returns-in-None : goal.returns-in-None
returns-in-None c = decimal_unsigned c.args.s.now c.in-None.ensures.cases
