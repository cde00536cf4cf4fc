-- What the steps of the upgrade come to: a game written from the events in its file, and a file judged or
-- read before. Assumes nothing.
use Prim.Native.Nat.{ℕ, ◌*◌, ◌≤◌, ◌<◌, ◌^◌}
use mathlib.Core.Path.{◌≡◌, refl, sym, ap, ◌∙◌}
use mathlib.Core.Bool.{Bool, true, false}
use mathlib.Core.List.{List, []}
use native.Mathlib.Nat.{mul-le-mul}
use native.Mathlib.Omega.{arith}
use lib.IntN.{ℤ}
use lib.ListN.{length}
use lib.Seq.{sets}
use lib.Dec.{eqb}
use borrow.Author.Tests.{eq-eqb, ne_eqb, le-leb, eqb-true, eqb-false}
use Rattle.text.specs.declared.Place.{Place}
use Rattle.text.specs.Places.{bytes_at}
use Rattle.board.specs.Bits.{bit_at}
use Rattle.board.specs.Geometry.{board_after}
use Rattle.game.specs.declared.Event.{Event}
use Rattle.game.specs.declared.Header.{Header}
use Rattle.game.specs.Refusals.{already_version4}
use Rattle.byte_reader.specs.Reading.{Bytes}
use Rattle.evf_events.specs.declared.EventCursor.{EventCursor}
use Rattle.evf_events.specs.Events.{Events, read, refused, events_from}
use Rattle.evf_video.specs.Reading.{Reading, game, none, reading_of, cells_at}
use Rattle.evf_header.proofs.Sound.{opening-gives}
use Rattle.evf_video.proofs.Trace.{traced}
use Rattle.evf_video.specs.declared.Judged.{Judged}
use Rattle.evf_video.specs.declared.RowFill.{RowFill as Going}
use Rattle.evf_video.specs.declared.RowLeft.{RowLeft as Started}
use Rattle.evf_video.specs.declared.Outcome.TheVariants.{Read as Got, Refused as Lost}
use Rattle.evf_video.specs.Parsed.{into_buffers, parse_of, answer_of, board_then}
use Rattle.evf_video.specs.Judging.{judged, start_of, judged_of}
use Rattle.evf_video.specs.Turns.{run_for, board_ready, row_left_of}
use Rattle.evf_video.proofs.Buffers.{fitted, sized}
use Rattle.evf_video.proofs.Filled.{read-singly}
use Rattle.evf_records.specs.declared.Seen.{Seen}
use Rattle.evf_records.specs.Steps.{unseen, seen_by}
use Rattle.layout_fields.specs.Fields.{lent}
use Rattle.generate_evf.specs.declared.Ready.{Ready}
use Rattle.generate_evf.specs.declared.Written.{Written}
use Rattle.generate_evf.specs.Written.{refused_with}
use Rattle.generate_evf.specs.Steps.{ready_of, around_of}
use Rattle.generate_evf.proofs.Whole.{generates}
use Rattle.passes.specs.declared.Survey.{Survey}
use Rattle.passes.specs.declared.Survey.TheVariants.{All, Refused as Broken}
use Rattle.upgrade.specs.Copy.{game_copied, game_copy, copied_by, copy_by}
use Rattle.passes.specs.EventPasses.{survey_by, Surveys, PutsEvents}
use Rattle.upgrade.specs.CopySteps.{CopiesJudged, CopiesGame, CopiesPacked, made_for, board_for, copy_for}
use Rattle.upgrade.proofs.Board.{same-copied, same_copy}
use Rattle.passes.proofs.Passes.{old-same}

-- A GAME, ITS BOARD LENT
module _ (file : List ℕ) (h : Header) (board : List ℤ) (c : EventCursor) where
  pub written-game : (seen : Seen) (copy : List ℕ) → length copy < 2 ^ 64 → (ready : Ready)
      → ready ≡ ready_of h file board seen copy
      → (mid : List ℕ) → mid ≡ around_of h file board seen copy → (out : List ℕ)
      → PutsEvents file c.version c.at ready.run mid out
      → CopiesJudged file h board c seen copy ready.written out
  written-game seen copy long ready r mid m out w = record {
    right = λ p o es at b q rule s.
        let g = generates 4 rule h file board es copy long in
        let v : c.version < 4 = omega (arith, p, o) in
        let n = ne_eqb h.version 4 (λ e. omega (arith, e, o)) in (
          rw (r, s, n) g.answer_is,
          w.right v es at b (sym (old-same file c v) ∙ q) ∙ rw (r, m, s, n) g.file_is,
        );
  }

-- ITS BOARD PACKED IN THE FILE
pub cells-most : (h w : ℕ) → h < 256 → w < 256 → h * w ≤ 65025
cells-most h w a b =
    let c : h ≤ 255 = omega arith in
    let d : w ≤ 255 = omega arith in
    let e : h * w ≤ 255 * 255 = mul-le-mul c d in
    omega arith

pub unpacked_game : (file : List ℕ) (h : Header) (place : Place) (c : EventCursor) (copy : List ℕ)
    → h.height < 256 → h.width < 256
    → (d d' : List ℤ) (bits : List ℕ) → 65025 ≡ length d → bits ≡ bytes_at file place
    → d' ≡ board_after (bit_at bits) h.height h.width d
    → (rule : ℕ) (answer : Written) (out : List ℕ) → CopiesGame file h d' c copy rule answer out
    → CopiesPacked file h place c copy rule answer out
unfolding board_after
unpacked_game file h place c copy tall wide d d' bits long p e rule answer out g =
    let room : h.height * h.width ≤ length d =
    omega (arith, cells-most h.height h.width tall wide, long) in
    let f : d' ≡ sets d 0 (cells_at file h place) =
    e ∙ rw (p, le-leb (h.height * h.width) (length d) room) in
    record {
      right = λ i o es at b q.
          let r = g.right i o es at b q in (
            r.0 ∙ ap (λ (l : List ℤ). game_copied rule (lent h file l es) (length copy)) f
                ∙ same-copied rule file h place es tall wide d room (length copy),
            r.1 ∙ ap (λ (l : List ℤ). game_copy rule (lent h file l es) copy) f
                ∙ same_copy rule file h place es tall wide d room copy,
          );
    }

-- WHAT A SURVEY SAW
pub record Saw (rule : ℕ) (E : Events) (seen : Seen) (at : ℕ) (checksum : Bool) : Type 0 where
  pub events : List Event
  pub is : E ≡ read events at checksum
  pub judged : seen ≡ seen_by (unseen 4 rule) events

saw_by : (rule : ℕ) (E : Events) (seen : Seen) (at : ℕ) (k : Bool)
    → All seen at k ≡ survey_by (unseen 4 rule) E → Saw rule E seen at k
saw_by rule (read es to f) seen at k e = record { events = es; is = cc; judged = cc }
saw_by rule (refused m) seen at k e = let z : ◌≡◌ {A = ℕ} 0 1 = cc in absurd (omega arith)

saw_not : (rule : ℕ) (E : Events) (n : ℕ) → Broken n ≡ survey_by (unseen 4 rule) E → E ≡ refused n
saw_not rule (read es to f) n e = let z : ◌≡◌ {A = ℕ} 0 1 = cc in absurd (omega arith)
saw_not rule (refused m) n e = cc

module _ (file : List ℕ) (c : EventCursor) (rule : ℕ) (r : Survey)
    (w : Surveys file c.version c.at rule r) (v : c.version < 4) where
  surveyed : r ≡ survey_by (unseen 4 rule) (events_from file c)
  surveyed = w.right v ∙ ap (survey_by (unseen 4 rule)) (sym (old-same file c v))

  pub saw : {seen : Seen} {at : ℕ} {k : Bool} → r ≡ All seen at k → Saw rule (events_from file c) seen at k
  saw {seen} {at} {k} g = saw_by rule (events_from file c) seen at k (sym g ∙ surveyed)

  pub saw_none : {n : ℕ} → r ≡ Broken n → events_from file c ≡ refused n
  saw_none {n} g = saw_not rule (events_from file c) n (sym g ∙ surveyed)

-- A GAME WHOSE EVENTS WERE JUDGED
module _ (file : List ℕ) (h : Header) (board : List ℤ) (c : EventCursor) (copy : List ℕ) (rule : ℕ)
    (r : Survey) (w : Surveys file c.version c.at rule r) where
  pub game-judged : {seen : Seen} {at : ℕ} {k : Bool} → r ≡ All seen at k → (answer : Written) (out : List ℕ)
      → CopiesJudged file h board c seen copy answer out
      → CopiesGame file h board c copy rule answer out
  game-judged f answer out g = record {
    right = λ p o es to b q.
        let s = saw file c rule r w (omega (arith, p, o)) f in
        g.right p o es to b q rule
        (s.judged ∙ ap (λ (E : Events). seen_by (unseen 4 rule) (listed E)) (sym s.is ∙ q));
  }
    where
      listed : Events → List Event
      listed (read es at b) = es
      listed (refused n) = []

  pub game-broken : {n : ℕ} → r ≡ Broken n → (answer : Written) (out : List ℕ)
      → CopiesGame file h board c copy rule answer out
  game-broken {n} f answer out = record {
    right = λ p o es to b q.
        let t : refused n ≡ read es to b = sym (saw_none file c rule r w (omega (arith, p, o)) f) ∙ q in
        let z : ◌≡◌ {A = ℕ} 0 1 = cc in absurd (omega arith);
  }

-- A VERSION THAT IS KNOWN AND NOT 4
below : (v : ℕ) → v ≤ 4 → (v ≡ 4 → ⊥) → v < 4
below v l other =
    (elim (eqb v 4) as (λ b. eqb v 4 ≡ b → v < 4) [
      | true ↦ λ e. absurd (other (eqb-true v 4 e))
      | false ↦ λ e. omega (arith, l, eqb-false v 4 e)
    ])
    refl

-- the cursor at a game's first record is of the game's version, which is known
pub record Started-at (file : List ℕ) (h : Header) : Type 0 where
  pub version : (start_of file).version ≡ h.version
  pub known : h.version ≤ 4

pub started : (file : List ℕ) → Bytes file → (h : Header) (b : Place) (es : List Event)
    → reading_of file ≡ game h b es → Started-at file h
unfolding start_of
started file small h b es e =
    let t = traced file e in
    let v : h.version ≡ t.opened.header.version = ap (λ (k : Header). k.version) t.header_is in
    record {
      version = rw t.opens (sym v);
      known = rw v (opening-gives file small 0 t.opened t.at t.opens).version;
    }

record IsRead (file : List ℕ) (R : Reading) (k : Started) : Type 0 where
  place : Place
  events : List Event
  is : R ≡ game k.parsed.header place events
  run_is : k.run ≡ record { done = false; cursor = start_of file }

is_read_lem : (file : List ℕ) (R : Reading) (k : Started)
    → k ≡ record { parsed = answer_of R; run = run_for file R } → k.parsed.outcome ≡ Got → IsRead file R k
is_read_lem file (game h b es) k e o =
    record { place = b; events = es; is = rw e; run_is = ap (λ (x : Started). x.run) e }
is_read_lem file (none n) k e o = let f : k.parsed.outcome ≡ Lost n =
    ap (λ (x : Started). x.parsed.outcome) e in let z : ◌≡◌ {A = ℕ} 0 1 = cc in absurd (omega arith)

is_none : (file : List ℕ) (R : Reading) (k : Started) (n : ℕ)
    → k ≡ record { parsed = answer_of R; run = run_for file R } → k.parsed.outcome ≡ Lost n → R ≡ none n
is_none file (game h b es) k n e o = let f : k.parsed.outcome ≡ Got =
    ap (λ (x : Started). x.parsed.outcome) e in let z : ◌≡◌ {A = ℕ} 0 1 = cc in absurd (omega arith)
is_none file (none m) k n e o = let f : k.parsed.outcome ≡ Lost m =
    ap (λ (x : Started). x.parsed.outcome) e in cc

-- A GAME THAT WAS READ INTO A LENT BOARD
module _ (file : List ℕ) (d : List ℤ) (n : ℕ) (copy : List ℕ) (rule : ℕ) (k : Started)
    (k-is : k ≡ row_left_of file d n)
    (d' : List ℤ) (d-is : d' ≡ board_ready file d n) where
  abbrev Made : Written → List ℕ → Type 0
  Made answer out = (record { written = answer; run = k.run } ≡ made_for file d n copy rule)
      × (d' ≡ board_for file d n copy rule) × (out ≡ copy_for file d n copy rule)

  pub made_none : (m : ℕ) → k.parsed.outcome ≡ Lost m → Made (refused_with m) copy
  unfolding row_left_of board_ready made_for board_for copy_for
  made_none m o =
      let R = parse_of file (length d) n in
      let q = is_none file R k m k-is o in
      (rw (k-is, q), d-is, sym (ap (λ (x : Reading). copy_by rule file x copy) q))

  pub made-new : k.parsed.outcome ≡ Got → k.parsed.header.version ≡ 4
      → Made (refused_with already_version4) copy
  unfolding row_left_of board_ready made_for board_for copy_for
  made-new o four =
      let R = parse_of file (length d) n in
      let w = is_read_lem file R k k-is o in
      let v = eq-eqb k.parsed.header.version 4 four in
      let run_is : k.run ≡ run_for file R = ap (λ (x : Started). x.run) k-is in
      let answer_is : refused_with already_version4 ≡ copied_by rule file R (length copy) = rw (w.is, v) in
      let copy_is : copy ≡ copy_by rule file R copy = rw (w.is, v) in
      (rw (answer_is, run_is), d-is, copy_is)

  pub made-game : Bytes file → k.parsed.outcome ≡ Got → (k.parsed.header.version ≡ 4 → ⊥)
      → (answer : Written) (out : List ℕ)
      → CopiesGame file k.parsed.header d' k.run.cursor copy rule answer out → Made answer out
  unfolding row_left_of board_ready made_for board_for copy_for parse_of
  made-game small o other answer out g =
      let R = into_buffers (reading_of file) (length d) n in
      let h = k.parsed.header in
      let w = is_read_lem file R k k-is o in
      let f = fitted (length d) n h w.place w.events (reading_of file) w.is in
      let z = sized file h w.place w.events small f.is in
      let s = read-singly file h w.place w.events f.is in
      let b : d' ≡ sets d 0 (cells_at file h w.place) =
      d-is ∙ ap (λ (x : Reading). board_then file x d) w.is in
      let u = started file small h w.place w.events f.is in
      let t = g.right (ap (λ (x : Going). x.cursor.version) w.run_is ∙ u.version)
      (below h.version u.known other) w.events s.at s.checksum
      (ap (λ (x : Going). events_from file x.cursor) w.run_is ∙ s.is) in
      let answer_is : answer ≡ copied_by rule file R (length copy) =
      t.0 ∙ ap (λ (l : List ℤ). game_copied rule (lent h file l w.events) (length copy)) b
      ∙ same-copied rule file h w.place w.events z.height z.width d f.board_fits (length copy)
      ∙ sym (ap (λ (x : Reading). copied_by rule file x (length copy)) w.is) in
      let copy_is : out ≡ copy_by rule file R copy =
      t.1 ∙ ap (λ (l : List ℤ). game_copy rule (lent h file l w.events) copy) b
      ∙ same_copy rule file h w.place w.events z.height z.width d f.board_fits copy
      ∙ sym (ap (λ (x : Reading). copy_by rule file x copy) w.is) in
      let run_is : k.run ≡ run_for file R = ap (λ (x : Started). x.run) k-is in
      (rw (answer_is, run_is), d-is, copy_is)

-- A GAME THAT WAS JUDGED, ITS BOARD PACKED IN THE FILE
pub record IsJudged (file : List ℕ) (R : Reading) (j : Judged) : Type 0 where
  pub events : List Event
  pub is : R ≡ game j.header j.board events
  pub cursor_is : j.cursor ≡ start_of file
  pub count_is : j.events ≡ length events

pub is_judged : (file : List ℕ) (R : Reading) (j : Judged) → j ≡ judged (start_of file) R → j.outcome ≡ Got
    → IsJudged file R j
is_judged file (game h b es) j e o =
    record {
      events = es;
      is = rw e;
      cursor_is = ap (λ (x : Judged). x.cursor) e;
      count_is = ap (λ (x : Judged). x.events) e;
    }
is_judged file (none n) j e o = let f : j.outcome ≡ Lost n = ap (λ (x : Judged). x.outcome) e in
    let z : ◌≡◌ {A = ℕ} 0 1 = cc in absurd (omega arith)

pub is_lost : (file : List ℕ) (R : Reading) (j : Judged) (n : ℕ) → j ≡ judged (start_of file) R
    → j.outcome ≡ Lost n → R ≡ none n
is_lost file (game h b es) j n e o = let f : j.outcome ≡ Got = ap (λ (x : Judged). x.outcome) e in
    let z : ◌≡◌ {A = ℕ} 0 1 = cc in absurd (omega arith)
is_lost file (none m) j n e o = let f : j.outcome ≡ Lost m = ap (λ (x : Judged). x.outcome) e in cc

module _ (file copy : List ℕ) (rule : ℕ) (j : Judged) (j-is : j ≡ judged_of file) where
  abbrev Copied : Written → List ℕ → Type 0
  Copied answer out =
      (answer ≡ copied_by rule file (reading_of file) (length copy))
      × (out ≡ copy_by rule file (reading_of file) copy)

  pub copied_none : (n : ℕ) → j.outcome ≡ Lost n → Copied (refused_with n) copy
  unfolding judged_of
  copied_none n o = let q = is_lost file (reading_of file) j n j-is o in (rw q, rw q)

  pub copied-new : j.outcome ≡ Got → j.header.version ≡ 4 → Copied (refused_with already_version4) copy
  unfolding judged_of
  copied-new o four =
      let w = is_judged file (reading_of file) j j-is o in
      let v = eq-eqb j.header.version 4 four in
      (rw (w.is, v), rw (w.is, v))

  module _ (small : Bytes file) (o : j.outcome ≡ Got) where
    pub judged-sizes : (j.header.height < 256) × (j.header.width < 256)
    unfolding judged_of
    judged-sizes =
        let w = is_judged file (reading_of file) j j-is o in
        let z = sized file j.header j.board w.events small w.is in
        (z.height, z.width)

    pub copied-game : (j.header.version ≡ 4 → ⊥) → (answer : Written) (out : List ℕ)
        → CopiesPacked file j.header j.board j.cursor copy rule answer out → Copied answer out
    unfolding judged_of
    copied-game other answer out g =
        let h = j.header in
        let w = is_judged file (reading_of file) j j-is o in
        let u = started file small h j.board w.events w.is in
        let s = read-singly file h j.board w.events w.is in
        let t = g.right (ap (λ (x : EventCursor). x.version) w.cursor_is ∙ u.version)
        (below h.version u.known other) w.events s.at s.checksum
        (ap (events_from file) w.cursor_is ∙ s.is) in (
          t.0 ∙ sym (ap (λ (x : Reading). copied_by rule file x (length copy)) w.is),
          t.1 ∙ sym (ap (λ (x : Reading). copy_by rule file x copy) w.is),
        )
