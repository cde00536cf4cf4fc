-- `layout_v3::write_tail_3` meets its contract. Assumes nothing.
use mathlib.Core.List.{[]}
use mathlib.Core.Path.{◌≡◌, sym, ap, ◌∙◌}
use borrow.Author.Rules.{rules}
use native.Mathlib.Omega.{arith}
use lib.ListN.{length}
use Rattle.layout_v3.proofs.Checksum.{no_checksum_lem, some-checksum}
use Rattle.layout_fields.specs.Fields.{lent}
use Rattle.byte_writer.proofs.Laws.{writes_then, writes_as}
use Rattle.layout_v3.proofs.write_tail_3.Goals as goal

pub returns-then-is_empty : goal.returns-then-is_empty
returns-then-is_empty c =
    let none : length c.text_of-checksum.result.now ≡ 0 = search rules in
    writes_as
    (no_checksum_lem (lent c.args.h c.args.bytes.now [] []) (ap length (sym c.text_of-checksum.ensures) ∙ none))
    c.write_u8.ensures

pub returns : goal.returns
returns c =
    let some : length c.text_of-checksum.result.now ≡ 0 → ⊥ = search rules in
    writes_as
    (some-checksum (lent c.args.h c.args.bytes.now [] [])
    (λ e. some (ap length c.text_of-checksum.ensures ∙ e)))
    (writes_then (omega arith) c.write_u8-next.ensures
    (λ l. writes_as c.text_of-checksum.ensures c.write_bytes.ensures))
