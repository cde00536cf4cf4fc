-- `text::utf8::utf8_tail` meets its contract: what is tested of classes is UTF8-tail, which antt computes
-- over all bytes. Assumes nothing.
use mathlib.Core.Path.{◌∙◌}
use native.Mathlib.Omega.{arith}
use Rattle.text.specs.Utf8.{within, tail}
use Rattle.text.specs.Classes.{class_of, in_classes}
use Rattle.text.proofs.Classes.{starts-same}
use Rattle.text.proofs.utf8.utf8_tail.Goals as goal

pub returns : goal.returns
unfolding class_of
returns c =
    let a = c.args in
    c.is_class.ensures
    ∙ starts-same (in_classes _ _) (within tail) tt a.s.now a.i
    (λ k. omega (arith, c.type_inv.s k))
