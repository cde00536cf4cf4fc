-- Re-saving, as specs/Page.antt states it. Assumes nothing but that files are bytes, and that a lent copy is
-- shorter than the largest usize.
--     as_two_calls    read and written
--     as_upgrade      versions 0 to 3
--     of_version_4    version 4
--     unruled         no rule
--     kept            what was written reads as the game
--     metrics_kept    with its custom metrics
--     told_apart      one number
use Prim.Native.Nat.{ℕ, ◌≤◌, ◌<◌}
use mathlib.Core.Path.{◌≡◌, refl, sym, ap, subst, ◌∙◌}
use mathlib.Core.Bool.{Bool, true, false, cond}
use mathlib.Core.Logic.{◌⊎◌, inl, inr}
use mathlib.Core.List.{List}
use native.Mathlib.Omega.{arith}
use lib.Dec.{leb}
use lib.IntN.{ℤ}
use lib.ListN.{length, take}
use lib.Seq.{sets}
use borrow.Author.Tests.{leb-true, leb-false, ne_eqb}
use Rattle.times.specs.Times.{s_to_ms}
use Rattle.lists.proofs.Stores.{sets_first}
use Rattle.text.specs.declared.Place.{Place}
use Rattle.game.specs.declared.Header.{Header}
use Rattle.game.specs.declared.Event.{Event}
use Rattle.game.specs.Header.{block_at}
use Rattle.game.specs.Same.{Game}
use Rattle.game.proofs.Same.{same_metrics}
use Rattle.byte_reader.specs.Reading.{Bytes as AllBytes}
use Rattle.byte_writer.specs.Places.{most, capped}
use Rattle.evf_video.specs.declared.Parsed.{Parsed}
use Rattle.evf_video.specs.declared.Outcome.TheVariants.{Read, Refused as Lost}
use Rattle.evf_video.specs.Reading.{Reading, game, none, reading_of, cells_at, game_read}
use Rattle.evf_video.specs.Parsed.{parse_of, answer_of, board_then, row_then}
use Rattle.evf_video.proofs.Buffers.{fitted, sized}
use Rattle.evf_video.proofs.Answers.{reading-refuses}
use Rattle.layout_fields.specs.Fields.{lent}
use Rattle.evf_layout.specs.Layout.{file_of}
use Rattle.evf_judging.specs.declared.Verdict.{Verdict}
use Rattle.evf_judging.specs.declared.Verdict.TheVariants.{Fine, Refused as Bad}
use Rattle.evf_judging.specs.Refusals.{first_refusal, checks, checks_under}
use Rattle.generate_evf.proofs.Ruled.{ruled-fine, ruled-refused}
use Rattle.generate_evf.specs.declared.Written.{Written}
use Rattle.generate_evf.specs.declared.Written.TheVariants.{Bytes as Length, Refused, Short}
use Rattle.generate_evf.specs.Written.{written_by, written_of, file_then, written_number}
use Rattle.read_back.specs.Saved.{mouse_events}
use Rattle.read_back.specs.Back.{ReadsBack}
use Rattle.read_back.proofs.Accepted.{least-length}
use Rattle.read_back.proofs.Upgraded as core
use Rattle.read_back.proofs.Resaved.{kept_again, only-pixels}
use Rattle.upgrade.proofs.Board.{same-written, same-file}
use Rattle.upgrade.specs.Copy.{told_by, shortest_copy}
use Rattle.resave.specs.Resaved.{resaved_by, resave_by}
use Rattle.resave.specs.Page.{ResaveCall, Saved, AsTwoCalls, AsUpgrade, OfVersion4, Unruled, Kept}
use Rattle.resave.specs.Page.{MetricsKept, ToldApart}

module _ (c : ResaveCall) (s : Saved c) where
  answered : c.answer
      ≡ written_of c.rule 4 (game_read c.file s.header s.board s.events) (length c.copy)
  answered = c.promised.answer_is
      ∙ ap (λ (R : Reading). resaved_by c.rule c.file R (length c.copy)) s.reads

  left : c.copy' ≡ file_then c.rule 4 (game_read c.file s.header s.board s.events) c.copy
  left = c.promised.copy_is ∙ ap (λ (R : Reading). resave_by c.rule c.file R c.copy) s.reads

-- READ AND WRITTEN

record IsRead (R : Reading) (p : Parsed) : Type 0 where
  place : Place
  events : List Event
  is : R ≡ game p.header place events
  count : p.events ≡ length events

is_read_lem : (R : Reading) (p : Parsed) → p ≡ answer_of R → p.outcome ≡ Read → IsRead R p
is_read_lem (game h place es) p e o =
    record { place = place; events = es; is = rw e; count = ap (λ (x : Parsed). x.events) e }
is_read_lem (none n) p e o = let f : p.outcome ≡ Lost n = ap (λ (x : Parsed). x.outcome) e in
    let z : ◌≡◌ {A = ℕ} 0 1 = cc in absurd (omega arith)

pub as_two_calls : AsTwoCalls
unfolding parse_of
as_two_calls c t =
    let file = c.file in
    let h = t.parsed.header in
    let R = parse_of file (length t.board) (length t.row) in
    let w = is_read_lem R t.parsed t.parses.answer_is t.read in
    let es = w.events in
    let f = fitted (length t.board) (length t.row) h w.place es (reading_of file) w.is in
    let z = sized file h w.place es c.bytes f.is in
    let s : Saved c = record { header = h; board = w.place; events = es; reads = f.is } in
    let board_is : t.board' ≡ sets t.board 0 (cells_at file h w.place) =
    t.parses.board_is ∙ ap (λ (x : Reading). board_then file x t.board) w.is in
    let row_is : take t.parsed.events t.row' ≡ es =
    ap (λ (n : ℕ). take n t.row') w.count
    ∙ ap (take (length es)) (t.parses.row_is ∙ ap (λ (x : Reading). row_then x t.row) w.is)
    ∙ sets_first t.row es (length es) refl f.row_fits in
    let lent_is : lent h file t.board' (take t.parsed.events t.row')
    ≡ lent h file (sets t.board 0 (cells_at file h w.place)) es =
    ap (λ (d : List ℤ). lent h file d (take t.parsed.events t.row')) board_is
    ∙ ap (lent h file (sets t.board 0 (cells_at file h w.place))) row_is in (
      answered c s
          ∙ sym (same-written c.rule file h w.place es z.height z.width t.board f.board_fits
          (length c.copy))
          ∙ ap (λ (g : Game). written_of c.rule 4 g (length c.copy)) (sym lent_is)
          ∙ sym t.writes.answer_is,
      left c s
          ∙ sym (same-file c.rule file h w.place es z.height z.width t.board f.board_fits
          c.copy)
          ∙ ap (λ (g : Game). file_then c.rule 4 g c.copy) (sym lent_is)
          ∙ sym t.writes.file_is,
    )

-- VERSIONS 0 TO 3
pub as_upgrade : AsUpgrade
as_upgrade c s old =
    let n = ne_eqb s.header.version 4 (λ e. omega (arith, e, old)) in
    (answered c s ∙ rw (s.reads, n), left c s ∙ rw (s.reads, n))

-- KEPT
pub kept : Kept
kept c n e s =
    subst (λ (l : List ℕ). ReadsBack (take n l)
    (game_read c.file s.header s.board (mouse_events s.events))) (sym (left c s))
    (kept_again c.rule c.file c.bytes s.reads c.copy (sym (answered c s) ∙ e))

-- one file has one reading
abbrev header_in : Reading → Header → Header
header_in (game h place es) other = h
header_in (none n) other = other

pub metrics_kept : MetricsKept
metrics_kept c n e s h board es reads =
    let k = kept c n e s in
    let file = take n c.copy' in
    let same : k.header ≡ h = ap (λ (R : Reading). header_in R h) (sym k.reads ∙ reads) in
    subst (λ (l : Header). (l.metrics_count ≡ s.header.metrics_count)
    × (block_at l file ≡ block_at s.header c.file)) same
    (same_metrics (game_read file k.header k.board k.events)
    (game_read c.file s.header s.board (mouse_events s.events)) k.same)

-- VERSION 4
by_answer : (v : Verdict) (n room : ℕ) → ((k : ℕ) → v ≡ Bad k → k ≡ 16)
    → let a = written_number (written_by v n room) in (a ≡ 0) ⊎ ((a ≡ 16) ⊎ (a ≡ 23))
by_answer Fine n room f =
    elim (leb n room) as (λ t. let a = written_number (cond t (Length n) (Short (capped n))) in
    (a ≡ 0) ⊎ ((a ≡ 16) ⊎ (a ≡ 23))) [ true ↦ inl refl | false ↦ inr (inr refl) ]
by_answer (Bad k) n room f = inr (inl (f k refl))

pub of_version_4 : OfVersion4
unfolding written_of
of_version_4 c s new is =
    let g = game_read c.file s.header s.board s.events in
    let toMs = s_to_ms c.rule in
    rw (answered c s, is)
    (by_answer (first_refusal (checks toMs 4 g)) (length (file_of toMs 4 g)) (length c.copy)
    (λ k. only-pixels c.rule c.file c.bytes s.reads new))

-- NO RULE
pub unruled : Unruled
unfolding written_of
unruled c s q = rw (answered c s, q)

-- NUMBERS: what is sure of an answer into so much room
abbrev Sure : (room : ℕ) → Written → Type 0
Sure room (Length n) = (shortest_copy ≤ n) × (n ≤ room)
Sure room (Short n) = (shortest_copy ≤ n) × (room < n)
Sure room (Refused k) = k < shortest_copy

module _ (room : ℕ) (below : room < most) where
  by-room : (t : Bool) (l : ℕ) → leb l room ≡ t → shortest_copy ≤ l
      → Sure room (cond t (Length l) (Short (capped l)))
  by-room true l e m = (m, leb-true l room e)
  by-room false l e m = let f = leb-false l room e in (omega (arith, m), omega (arith, f, below))

  module _ (file : List ℕ) (small : AllBytes file) (rule : ℕ) where
    late : {k : ℕ} → (k ≡ 16) ⊎ ((19 ≤ k) × (k ≤ 22)) → k < shortest_copy
    late (inl e) = omega (arith, e)
    late (inr e) = omega (arith, e.1)

    by-verdict : (h : Header) (place : Place) (es : List Event) → reading_of file ≡ game h place es
        → (v : Verdict) → first_refusal (checks_under rule 4 (game_read file h place es)) ≡ v
        → Sure room (written_by v (length (file_of (s_to_ms rule) 4 (game_read file h place es))) room)
    by-verdict h place es r Fine e =
        let g = game_read file h place es in
        let l = length (file_of (s_to_ms rule) 4 g) in
        by-room (leb l room) l refl (omega (
          arith,
          least-length (s_to_ms rule) g (ruled-fine rule (checks
              (s_to_ms rule) 4 g) e),
        ))
    by-verdict h place es r (Bad k) e =
        elim (ruled-refused rule (checks (s_to_ms rule) 4 (game_read file h place es)) e) [
          | inl q ↦ omega (arith, q)
          | inr q ↦ late (core.told file small r (s_to_ms rule) q)
        ]

    sure-of : (R : Reading) → reading_of file ≡ R → Sure room (resaved_by rule file R room)
    unfolding written_of
    sure-of (game h place es) r =
        by-verdict h place es r (first_refusal (checks_under rule 4 (game_read file h place es))) refl
    sure-of (none n) r = let w = reading-refuses file small r in omega (arith, w.1)

sure : (c : ResaveCall) → Sure (length c.copy) c.answer
sure c = subst (Sure (length c.copy)) (sym c.promised.answer_is)
    (sure-of (length c.copy) c.below c.file c.bytes c.rule (reading_of c.file) refl)

apart : (room : ℕ) (a : Written) → Sure room a
    → (told_by a < shortest_copy → written_number a ≡ told_by a)
    × ((shortest_copy ≤ told_by a → told_by a ≤ room → a ≡ Length (told_by a))
    × (shortest_copy ≤ told_by a → room < told_by a → written_number a ≡ 23))
apart room (Length n) s =
    (λ l. absurd (omega (arith, s.0)), (λ l r. refl, λ l r. absurd (omega (arith, s.1))))
apart room (Short n) s =
    (λ l. absurd (omega (arith, s.0)), (λ l r. absurd (omega (arith, s.1)), λ l r. refl))
apart room (Refused k) s =
    (λ l. refl, (λ l r. absurd (omega (arith, s)), λ l r. absurd (omega (arith, s))))

pub told_apart : ToldApart
told_apart c = apart (length c.copy) c.answer (sure c)
