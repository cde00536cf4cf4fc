-- `part_names::write_part_name` meets its contract: five writes in a row. Assumes nothing.
use Prim.Native.Nat.{ℕ, ◌≤◌}
use mathlib.Core.Path.{ap, ◌∙◌}
use native.Mathlib.Omega.{arith}
use lib.ListN.{length}
use Rattle.text.specs.Decimals.{decimal_bytes}
use Rattle.byte_writer.specs.Places.{most}
use Rattle.byte_writer.proofs.Laws.{writes_then, writes_as}
use Rattle.part_names.specs.Parts.{digest, part_name}
use Rattle.part_names.proofs.Steps.{digest_then}
use Rattle.part_names.proofs.write_part_name.Goals as goal

pub returns : goal.returns
unfolding part_name
returns c =
    let name = c.args.name.now in
    let bytes = c.args.bytes.now in
    let both = c.digest_of-2.ensures
    ∙ ap (λ (h : ℕ). digest h bytes) c.digest_of.ensures
    ∙ digest_then 0 name bytes in
    let room : length c.args.out.now ≤ most = omega (arith, c.well_formed.0.0) in
    let shorter = writes_as c.shorten.ensures c.write_bytes-at-2.ensures in
    let number = writes_as (ap decimal_bytes both) c.write_number-at.ensures in
    let named = writes_then room c.write_bytes-at.ensures (λ _. shorter) in
    let parted = writes_then room named (λ _. c.write_bytes-at-3.ensures) in
    let numbered = writes_then room parted (λ _. number) in
    writes_then room numbered (λ _. c.write_bytes.ensures)
