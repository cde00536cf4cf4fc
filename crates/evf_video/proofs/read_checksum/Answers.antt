-- `evf_video::read_checksum` meets its contract: by the version, and by whether a checksum follows.
-- Assumes nothing.
use mathlib.Core.Path.{refl}
use Rattle.byte_reader.specs.Reading.{pure}
use Rattle.byte_reader.specs.Cursor.{value_from, cursor_after}
use Rattle.evf_video.proofs.Checksum.{sum-counted, sum-follows, sum-absent}
use Rattle.evf_video.proofs.read_checksum.Goals as goal

pub returns-then-version-eq4 : goal.returns-then-version-eq4
returns-then-version-eq4 c =
    let a = c.args in
    rw (sum-counted a.version a.follows c.if-version-eq4.true) c.get_counted.ensures

pub returns-then-follows : goal.returns-then-follows
returns-then-follows c =
    let a = c.args in
    rw (sum-follows a.version a.follows c.if-version-eq4.false c.if-follows.true)
    c.get_buffer.ensures

pub returns : goal.returns
unfolding pure value_from cursor_after
returns c =
    let a = c.args in
    rw (sum-absent a.version a.follows c.if-version-eq4.false c.if-follows.false)
    (record { value-is = refl; next-is = refl })
