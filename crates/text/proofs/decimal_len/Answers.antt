use borrow.Author.Rules.{rules}
use Rattle.text.proofs.Written.{count-starts}
use Rattle.text.proofs.decimal_len.Goals as goal

pub loop-rest-init : goal.loop-rest-init
loop-rest-init c = count-starts _ (search rules)
