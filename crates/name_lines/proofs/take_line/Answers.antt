-- `name_lines::take_line` meets its contract. Assumes nothing.
use Rattle.name_lines.proofs.Taking.{rest_is, takes-ended, takes-open}
use Rattle.name_lines.proofs.take_line.Goals as goal

pub returns-then-n-rest : goal.returns-then-n-rest
returns-then-n-rest c =
    takes-ended _ _ _ _ _ _ _ _ (rest_is _ _ c.min.ensures) c.line_len-n.ensures.0 c.put_bytes.ensures
    c.gather_more-gathered.ensures c.if-n-rest.true

pub returns : goal.returns
returns c =
    takes-open _ _ _ _ _ _ _ _ (rest_is _ _ c.min.ensures) c.line_len-n.ensures.0 c.put_bytes.ensures
    c.gather_more-gathered.ensures c.if-n-rest.false
