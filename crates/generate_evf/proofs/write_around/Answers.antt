-- `generate_evf::write_around` meets its contract. Assumes nothing.
use Rattle.layout_v3.specs.Version3.{tail3}
use Rattle.layout_v4.specs.Version4.{tail4}
use Rattle.generate_evf.proofs.Around.{from_start_lem, around_is}
use Rattle.generate_evf.proofs.write_around.Goals as goal

pub returns : goal.returns
unfolding tail4 tail3
returns c =
    rw (← c.version-version.ensures, ← c.length-len.ensures) (
      from_start_lem c.write_front-at.ensures,
      around_is c.length-len.result.bytes
          c.write_front-at.ensures c.advance-end.ensures c.write_tail.ensures,
    )
