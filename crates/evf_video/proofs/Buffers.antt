-- A judged file and the buffers that it is to be read into. Assumes nothing but that the file is bytes.
use Prim.Native.Nat.{ℕ, ◌+◌, ◌-◌, ◌*◌, ◌^◌, ◌≤◌, ◌<◌}
use mathlib.Core.Path.{◌≡◌, refl, subst}
use mathlib.Core.Bool.{Bool, true, false, cond}
use mathlib.Core.List.{List}
use native.Mathlib.Nat.{mul-le-mul}
use native.Mathlib.Omega.{arith}
use lib.Dec.{leb}
use lib.IntN.{ℤ}
use lib.ListN.{length, take, drop}
use lib.Seq.{sets}
use borrow.Author.Tests.{le-leb, lt-leb, leb-true}
use Rattle.text.specs.declared.Place.{Place}
use Rattle.text.specs.Places.{bytes_at, Inside}
use Rattle.board.specs.Bits.{bit_at}
use Rattle.board.specs.Geometry.{cells, board_after}
use Rattle.game.specs.declared.Header.{Header}
use Rattle.game.specs.declared.Event.{Event}
use Rattle.game.specs.Refusals.{board_buffer_short, row_short}
use Rattle.byte_reader.specs.Reading.{Bytes, Got, ok, no}
use Rattle.evf_header.specs.Opening.{Opened, opening}
use Rattle.evf_header.proofs.Sound.{Sound, opening-gives}
use Rattle.evf_events.specs.declared.EventCursor.{EventCursor}
use Rattle.evf_events.specs.Events.{Events, read, refused, events_from}
use Rattle.evf_events.specs.Start.{first_cursor}
use Rattle.evf_video.specs.declared.Judged.{Judged}
use Rattle.evf_video.specs.declared.RowLeft.{RowLeft}
use Rattle.evf_video.specs.declared.Outcome.TheVariants.{Read}
use Rattle.evf_video.specs.Reading.{Reading, game, none, with_checksum, checksum, behind_events}
use Rattle.evf_video.specs.Reading.{behind_header, from_start, reading_of}
use Rattle.evf_video.specs.Parsed.{into_buffers, answer_of}
use Rattle.evf_video.specs.Judging.{judged, start_of}
use Rattle.evf_video.specs.Turns.{run_for}
use Rattle.evf_video.proofs.Judging.{IsGame}

-- INTO BUFFERS
module _ (c : EventCursor) (R : Reading) (j : Judged) (cells entries : ℕ) (w : IsGame c R j) where
  pub board-short : cells < j.header.height * j.header.width
      → none board_buffer_short ≡ into_buffers R cells entries
  board-short h = rw (w.is, lt-leb (j.header.height * j.header.width) cells h)

  module _ (room : j.header.height * j.header.width ≤ cells) where
    pub row-short : entries < j.events → none row_short ≡ into_buffers R cells entries
    row-short h =
        let l : entries < length w.events = omega (arith, w.many) in
        rw (
          w.is,
          le-leb (j.header.height * j.header.width) cells room,
          lt-leb (length w.events) entries l,
        )

    pub both-fit : j.events ≤ entries → R ≡ into_buffers R cells entries
    both-fit h =
        let l : length w.events ≤ entries = omega (arith, w.many) in
        rw (
          w.is,
          le-leb (j.header.height * j.header.width) cells room,
          le-leb (length w.events) entries l,
        )

pub stays_none : (R : Reading) (cells entries n : ℕ) → R ≡ none n → R ≡ into_buffers R cells entries
stays_none R cells entries n e = rw e

-- what is read into buffers was read, and fits them
pub record Fitted (R : Reading) (cells entries : ℕ) (h : Header) (b : Place) (es : List Event) : Type 0 where
  pub is : R ≡ game h b es
  pub board_fits : h.height * h.width ≤ cells
  pub row_fits : length es ≤ entries

module _ (cells entries : ℕ) (h : Header) (b : Place) (es : List Event) where
  by_row : (g : Header) (p : Place) (ds : List Event) (t : Bool) → leb (length ds) entries ≡ t
      → g.height * g.width ≤ cells
      → cond t (game g p ds) (none row_short) ≡ game h b es → Fitted (game g p ds) cells entries h b es
  by_row g p ds true e l q =
      let f : g ≡ h = cc in
      let k : ds ≡ es = cc in
      record {
        is = q;
        board_fits = subst (λ (x : Header). x.height * x.width ≤ cells) f l;
        row_fits = subst (λ (x : List Event). length x ≤ entries) k (leb-true _ _ e);
      }
  by_row g p ds false e l q = let z : ◌≡◌ {A = ℕ} 0 1 = cc in absurd (omega arith)

  by-board : (g : Header) (p : Place) (ds : List Event) (t : Bool) → leb (g.height * g.width) cells ≡ t
      → cond t (cond (leb (length ds) entries) (game g p ds) (none row_short)) (none board_buffer_short)
      ≡ game h b es → Fitted (game g p ds) cells entries h b es
  by-board g p ds true e q = by_row g p ds (leb (length ds) entries) refl (leb-true _ _ e) q
  by-board g p ds false e q = let z : ◌≡◌ {A = ℕ} 0 1 = cc in absurd (omega arith)

  pub fitted : (R : Reading) → into_buffers R cells entries ≡ game h b es → Fitted R cells entries h b es
  fitted (game g p ds) q = by-board g p ds (leb (g.height * g.width) cells) refl q
  fitted (none n) q = let z : ◌≡◌ {A = ℕ} 0 1 = cc in absurd (omega arith)

-- SIZES: whatever is read has a board of at most 255 x 255 cells whose bytes are in the file
pub record Sized (s : List ℕ) (h : Header) (b : Place) : Type 0 where
  pub height : h.height < 256
  pub width : h.width < 256
  pub inside : Inside s b

module _ (s : List ℕ) (h : Header) (b : Place) (es : List Event) where
  of-sum : (o : Opened) (ds : List Event) (g : Got Place) → Sound s o.header o.board
      → behind_events o ds g ≡ game h b es → Sized s h b
  of-sum o ds (ok p to) w q =
      let f : with_checksum o.header p ≡ h = cc in
      let k : o.board ≡ b = cc in
      record {
        height = subst (λ (x : Header). x.height < 256) f w.height;
        width = subst (λ (x : Header). x.width < 256) f w.width;
        inside =
            subst (Inside s) k w.board_in;
      }
  of-sum o ds (no n) w q = let z : ◌≡◌ {A = ℕ} 0 1 = cc in absurd (omega arith)

  of-events : (o : Opened) (E : Events) → Sound s o.header o.board → behind_header s o E ≡ game h b es
      → Sized s h b
  of-events o (read ds at k) w q = of-sum o ds (checksum o.header.version k s at) w q
  of-events o (refused n) w q = let z : ◌≡◌ {A = ℕ} 0 1 = cc in absurd (omega arith)

  of-start : Bytes s → (g : Got Opened) → opening s 0 ≡ g → from_start s g ≡ game h b es → Sized s h b
  of-start small (ok o at) e q =
      of-events o (events_from s (first_cursor o.header.version at)) (opening-gives s small 0 o at e) q
  of-start small (no n) e q = let z : ◌≡◌ {A = ℕ} 0 1 = cc in absurd (omega arith)

  pub sized : Bytes s → reading_of s ≡ game h b es → Sized s h b
  unfolding reading_of
  sized small q = of-start small (opening s 0) refl q

pub product_fits : (h w : ℕ) → h < 256 → w < 256 → h * w < 2 ^ 64
product_fits h w a b =
    let c : h ≤ 255 = omega arith in
    let d : w ≤ 255 = omega arith in
    let e : h * w ≤ 255 * 255 = mul-le-mul c d in
    omega arith

-- READY: the answer and the run
abbrev ready_for : List ℕ → Reading → RowLeft
ready_for file R = record { parsed = answer_of R; run = run_for file R }

abbrev ready : Judged → (done : Bool) → RowLeft
ready j done =
    record {
      parsed = record { outcome = j.outcome; header = j.header; events = j.events };
      run = record { done = done; cursor = j.cursor };
    }

module _ (file : List ℕ) (R : Reading) (j : Judged) where
  pub ready-game : IsGame (start_of file) R j → j.outcome ≡ Read → ready j false ≡ ready_for file R
  ready-game w o = rw (o, w.many, w.cursor_is, w.is)

  pub ready-none : (n : ℕ) → j ≡ judged (start_of file) R → R ≡ none n → ready j true ≡ ready_for file R
  ready-none n e q = rw (e, q)

-- THE BOARD: the part of the file that is read as bits is the board's place
pub board_read_lem : (file : List ℕ) (d : List ℤ) (p : Place) (h w : ℕ) → h * w ≤ length d
    → board_after (bit_at (take (p.start + p.len - p.start) (drop p.start file))) h w d
    ≡ sets d 0 (cells (bit_at (bytes_at file p)) h w)
unfolding board_after
board_read_lem file d p h w l =
    let e : p.start + p.len - p.start ≡ p.len = omega arith in
    rw (e, le-leb (h * w) (length d) l)
