-- `evf_header::read_opening` meets its contract: the stages are one read of `opening`, and a cursor that
-- refused comes with the blank header. Assumes nothing.
use Prim.Native.Nat.{◌*◌}
use Rattle.text.specs.Places.{bytes_at}
use Rattle.board.specs.Geometry.{mines_in}
use Rattle.board.specs.Bits.{bit_at}
use Rattle.byte_reader.specs.declared.ByteReader.TheVariants.{At}
use Rattle.byte_reader.specs.Cursor.{Gives}
use Rattle.byte_reader.proofs.Cursor.{gives_then, gives-read, gives-pure, gives_when, read-given, read_no}
use Rattle.evf_header.specs.Opening.{Opened, opening, header_of, blank_opening}
use Rattle.header_fields.proofs.Contents.{gives_contents}
use Rattle.evf_header.proofs.read_opening.Goals as goal

-- `whole`: up to the cursor behind everything, what is read, and the header that the code would make of it
pub returns-in-At : goal.returns-in-At
unfolding opening
returns-in-At c =
    let t = c.read_front-front.result.value in
    let v = c.get_u8-version.result.value in
    let file = c.args.file.now in
    let bits = bytes_at file c.read_board_place-board.result.value in
    let o : Opened = record {
      header = header_of v t (mines_in (bit_at bits) (t.sizes.height * t.sizes.width))
          c.read_metrics-metrics.result.value;
      board = c.read_board_place-board.result.value;
    } in
    let whole : Gives opening file (At 0) o c.read_metrics-metrics.result.next =
    gives_then _ (gives-read c.get_u8-version.ensures)
    (gives_then _ (gives_when _ _ c.refuse_if-known.ensures)
    (gives_then _ c.read_front-front.ensures
    (gives_then _ (gives-read c.read_board_place-board.ensures)
    (gives_then _ (gives_contents _ _)
    (gives_then _ c.read_metrics-metrics.ensures gives-pure))))) in
    rw (c.header_of.ensures, c.mines_found-found.ensures, c.part.ensures)
    (read-given whole blank_opening _ c.in-At.is)

pub returns-in-Refused : goal.returns-in-Refused
unfolding opening
returns-in-Refused c =
    let t = c.read_front-front.result.value in
    let v = c.get_u8-version.result.value in
    let file = c.args.file.now in
    let bits = bytes_at file c.read_board_place-board.result.value in
    let o : Opened = record {
      header = header_of v t (mines_in (bit_at bits) (t.sizes.height * t.sizes.width))
          c.read_metrics-metrics.result.value;
      board = c.read_board_place-board.result.value;
    } in
    let whole : Gives opening file (At 0) o c.read_metrics-metrics.result.next =
    gives_then _ (gives-read c.get_u8-version.ensures)
    (gives_then _ (gives_when _ _ c.refuse_if-known.ensures)
    (gives_then _ c.read_front-front.ensures
    (gives_then _ (gives-read c.read_board_place-board.ensures)
    (gives_then _ (gives_contents _ _)
    (gives_then _ c.read_metrics-metrics.ensures gives-pure))))) in
    rw c.blank_header.ensures (read_no whole blank_opening _ c.in-Refused.is)
