-- `generate_evf::size_of` meets its contract. Assumes nothing.
use mathlib.Core.Path.{sym, ap, ◌∙◌}
use Rattle.byte_writer.specs.declared.Length.{Length}
use Rattle.generate_evf.specs.declared.Size.TheVariants.{Bytes}
use Rattle.generate_evf.specs.Steps.{verdict_of}
use Rattle.generate_evf.proofs.Around.{sized, unsized}
use Rattle.generate_evf.proofs.size_of.Goals as goal

pub returns-in-Fine : goal.returns-in-Fine
unfolding verdict_of
returns-in-Fine c =
    let a = c.args in
    ap (λ (l : Length). Bytes l.bytes) (c.whole_len-len.ensures.is a.board.now)
    ∙ sized a.header a.bytes.now a.board.now a.seen
    (sym c.first_refusal.ensures ∙ c.in-Fine.is)

pub returns-in-Refused : goal.returns-in-Refused
unfolding verdict_of
returns-in-Refused c =
    let a = c.args in
    unsized a.header a.bytes.now a.board.now a.seen _
    (sym c.first_refusal.ensures ∙ c.in-Refused.is)
