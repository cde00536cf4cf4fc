-- What the two passes come to: the steps that are handed a row that was seen give what the definitions say of
-- the whole game. Assumes nothing but that the lent file ends where a usize does.
--     size-seen       sizing
--     written-seen    a writer's answer
--     file-seen       and what it leaves in the lent file: the events go between what stands around them
--     generates       both, as a writer promises them
--     steps           what the calls of a writer come to
use Prim.Native.Nat.{ℕ, ◌+◌, ◌≤◌, ◌<◌, ◌^◌}
use mathlib.Core.Path.{◌≡◌, refl, ap, ◌∙◌}
use mathlib.Core.Bool.{Bool, true, false, cond}
use mathlib.Core.List.{List, [], ◌++◌}
use native.Mathlib.Nat.{zero-add}
use native.Mathlib.Omega.{arith}
use lib.Dec.{leb}
use lib.IntN.{ℤ}
use lib.ListN.{length, length-append}
use lib.Seq.{sets, length-sets}
use borrow.Author.Tests.{leb-true}
use Rattle.times.specs.Times.{s_to_ms}
use Rattle.lists.proofs.Stores.{sets-between}
use Rattle.game.specs.declared.Header.{Header}
use Rattle.game.specs.declared.Event.{Event}
use Rattle.game.specs.Same.{Game}
use Rattle.byte_writer.specs.declared.Length.{Length}
use Rattle.byte_writer.specs.Places.{most, capped, length_of, fits_in}
use Rattle.byte_writer.proofs.Laws.{small, plus-length, fits_length}
use Rattle.evf_records.specs.declared.Seen.{Seen}
use Rattle.evf_records.specs.declared.Run.{Run}
use Rattle.mouse_records.specs.Records.{nothing_yet, row_bytes}
use Rattle.evf_records.specs.Steps.{unseen, seen_by, SeenRow, seen_version, seen_rule, seen_length}
use Rattle.evf_records.specs.Steps.{run_from, run_off, put_by}
use Rattle.evf_records.proofs.Rows.{seen-row, put_row, put_row_off}
use Rattle.layout_fields.specs.Fields.{lent, board_bytes}
use Rattle.layout_v3.specs.Version3.{texts3, front3, tail3}
use Rattle.layout_v4.specs.Version4.{translation_bytes, metrics_bytes, texts4, front4, tail4}
use Rattle.evf_layout.specs.Layout.{front_of, tail_of, file_of}
use Rattle.evf_judging.specs.declared.Verdict.{Verdict}
use Rattle.evf_judging.specs.declared.Verdict.TheVariants.{Fine, Refused as Bad}
use Rattle.evf_judging.specs.Refusals.{first_refusal, checks_under}
use Rattle.generate_evf.specs.declared.Size.TheVariants.{Bytes as Takes}
use Rattle.generate_evf.specs.declared.Written.TheVariants.{Bytes, Short}
use Rattle.generate_evf.specs.declared.Ready.{Ready}
use Rattle.generate_evf.specs.Written.{size_by, size_of, written_by, written_of, file_by, file_then}
use Rattle.generate_evf.specs.Written.{written_number, Generates}
use Rattle.generate_evf.specs.Alike.{SizedAlike, WrittenAlike, FileAlike}
use Rattle.generate_evf.proofs.Answers.{number-seen}
use Rattle.generate_evf.specs.Steps.{front_seen, tail_seen, verdict_of, whole_of, sized_by, size_seen, roomy}
use Rattle.generate_evf.specs.Steps.{ready_by, ready_of, around, around_by, around_of}

module _ (h : Header) (s : List ℕ) (d : List ℤ) where
  -- what stands around the events does not look at them
  front-around : (version : ℕ) (ys : List Event)
      → front_of version (lent h s d []) ≡ front_of version (lent h s d ys)
  unfolding front4 texts4 translation_bytes metrics_bytes board_bytes front3 texts3
  front-around version ys = refl

  tail-around : (version : ℕ) (ys : List Event)
      → tail_of version (lent h s d []) ≡ tail_of version (lent h s d ys)
  unfolding tail4 tail3
  tail-around version ys = refl

  module _ (version rule : ℕ) (ys : List Event) (seen : Seen) (known : SeenRow version rule ys seen) where
    abbrev g : Game
    g = lent h s d ys

    -- the three parts of the file, and the whole
    abbrev front : List ℕ
    front = front_of version g

    abbrev row : List ℕ
    row = row_bytes (s_to_ms rule) version nothing_yet ys

    abbrev tail : List ℕ
    tail = tail_of version g

    abbrev file : List ℕ
    file = file_of (s_to_ms rule) version g

    front_is : front_seen h s d seen ≡ front
    front_is = ap (λ (v : ℕ). front_of v (lent h s d [])) known.version_is ∙ front-around version ys

    tail-is : tail_seen h s d seen ≡ tail
    tail-is = ap (λ (v : ℕ). tail_of v (lent h s d [])) known.version_is ∙ tail-around version ys

    verdict_is : verdict_of h s d seen ≡ first_refusal (checks_under rule version g)
    unfolding verdict_of
    verdict_is = rw (known.version_is, known.rule_is, known.start_is, known.event_is)

    parts : length file ≡ length front + (length row + length tail)
    parts = length-append front (row ++ tail) ∙ ap (λ (n : ℕ). length front + n) (length-append row tail)

    whole_is : whole_of h s d seen ≡ length_of (length file)
    unfolding whole_of
    whole_is =
        rw (
          known.length_is,
          front_is,
          tail-is,
          plus-length (length row) (length front),
          plus-length (length row + length front) (length tail),
        )
        (ap length_of (omega (arith, parts)))

    sized-is : (v : Verdict) → sized_by h s d seen v ≡ size_by v (length file)
    sized-is Fine = ap (λ (l : Length). Takes l.bytes) whole_is
    sized-is (Bad k) = refl

    size_is : size_seen h s d seen ≡ size_of rule version g
    unfolding size_seen size_of
    size_is = sized-is (verdict_of h s d seen) ∙ ap (λ (v : Verdict). size_by v (length file)) verdict_is

    module _ (w : List ℕ) (ends : length w ≤ most) where
      -- there is room just where the file is as long as the whole
      room-is : fits_in (whole_of h s d seen) (length w) ≡ leb (length file) (length w)
      room-is = ap (λ (l : Length). fits_in l (length w)) whole_is ∙ fits_length (length file) (length w) ends

      -- where there is room, nothing is capped
      all-of-it : leb (length file) (length w) ≡ true → (whole_of h s d seen).bytes ≡ length file
      all-of-it t = ap (λ (l : Length). l.bytes) whole_is
          ∙ small (length file) (omega (arith, leb-true (length file) (length w) t, ends))

      roomy-is : (t : Bool) → leb (length file) (length w) ≡ t
          → (roomy h s d seen t).written ≡ cond t (Bytes (length file)) (Short (capped (length file)))
      roomy-is true e = ap Bytes (all-of-it e)
      roomy-is false e = ap (λ (l : Length). Short l.bytes) whole_is

      ready-is : (v : Verdict)
          → (ready_by h s d seen v (length w)).written ≡ written_by v (length file) (length w)
      ready-is Fine =
          ap (λ (t : Bool). (roomy h s d seen t).written) room-is
          ∙ roomy-is (leb (length file) (length w)) refl
      ready-is (Bad k) = refl

      written_is : (ready_of h s d seen w).written ≡ written_of rule version g (length w)
      unfolding ready_of written_of
      written_is = ready-is (verdict_of h s d seen)
          ∙ ap (λ (v : Verdict). written_by v (length file) (length w)) verdict_is

      -- where the events go then
      abbrev placed : Bool → List ℕ
      placed t = (put_by (roomy h s d seen t).run (cond t (around h s d seen w) w) ys).1

      front_at : leb (length file) (length w) ≡ true → capped (length (front_seen h s d seen)) ≡ length front
      front_at t = ap (λ (l : List ℕ). capped (length l)) front_is
          ∙ small (length front) (omega (arith, parts, leb-true (length file) (length w) t, ends))

      tail_at : leb (length file) (length w) ≡ true
          → capped (capped (length (front_seen h s d seen)) + (seen_length seen).bytes)
          ≡ length front + length row
      tail_at t =
          let room = leb-true (length file) (length w) t in
          let r : capped (length row) ≡ length row = small (length row) (omega (arith, parts, room, ends)) in
          let b : (seen_length seen).bytes ≡ length row =
          ap (λ (l : Length). l.bytes) known.length_is ∙ r in
          rw (front_at t, b) (small (length front + length row) (omega (arith, parts, room, ends)))

      around_is : leb (length file) (length w) ≡ true
          → around h s d seen w ≡ sets (sets w 0 front) (length front + length row) tail
      around_is t = rw (tail_at t, front_is, tail-is)

      placed-is : (t : Bool) → leb (length file) (length w) ≡ t → placed t ≡ cond t (sets w 0 file) w
      placed-is true e =
          let long : length (around h s d seen w) ≤ most = rw (around_is e, length-sets, length-sets) ends in
          put_row (run_from (seen_version seen) (seen_rule seen) (capped (length (front_seen h s d seen))))
          (around h s d seen w) ys refl long
          ∙ rw (around_is e, front_at e, known.version_is, known.rule_is) (rw zero-add at
          (sets-between w 0 front row tail))
      placed-is false e =
          ap (λ (p : Run × List ℕ). p.1) (put_row_off (run_off (seen_version seen) (seen_rule seen)) w ys refl)

      put_is : (v : Verdict)
          → (put_by (ready_by h s d seen v (length w)).run (around_by h s d seen v w) ys).1
          ≡ file_by v file w
      put_is Fine = ap placed room-is ∙ placed-is (leb (length file) (length w)) refl
      put_is (Bad k) =
          ap (λ (p : Run × List ℕ). p.1) (put_row_off (run_off (seen_version seen) (seen_rule seen)) w ys refl)

      file_is : (put_by (ready_of h s d seen w).run (around_of h s d seen w) ys).1
          ≡ file_then rule version g w
      unfolding ready_of around_of file_then
      file_is = put_is (verdict_of h s d seen) ∙ ap (λ (v : Verdict). file_by v file w) verdict_is

-- A ROW FROM ITS START
module _ (version rule : ℕ) (h : Header) (s : List ℕ) (d : List ℤ) (ys : List Event) where
  pub size-seen : SizedAlike version rule h s d ys
  size-seen = size_is h s d version rule ys (seen_by (unseen version rule) ys) (seen-row version rule ys)

  pub written-seen : WrittenAlike version rule h s d ys
  written-seen = written_is h s d version rule ys (seen_by (unseen version rule) ys) (seen-row version rule ys)

  pub file-seen : FileAlike version rule h s d ys
  file-seen = file_is h s d version rule ys (seen_by (unseen version rule) ys) (seen-row version rule ys)

  -- both, of a file whose length is a usize
  pub generates : (w : List ℕ) → length w < 2 ^ 64
      → Generates version (lent h s d ys) w rule (ready_of h s d (seen_by (unseen version rule) ys) w).written
      (put_by (ready_of h s d (seen_by (unseen version rule) ys) w).run
      (around_of h s d (seen_by (unseen version rule) ys) w) ys).1
  generates w l =
      let ends : length w ≤ most = omega (arith, l) in
      record {
        answer_is = written-seen w ends;
        number_is = ap written_number (written-seen w ends) ∙ number-seen rule version (lent h s d ys)
            (length w);
        file_is = file-seen w ends;
      }

  -- the calls of a writer, one behind the other
  pub steps : {from seen : Seen} {ready : Ready} {w around put : List ℕ} → from ≡ unseen version rule
      → seen ≡ seen_by from ys → ready ≡ ready_of h s d seen w → around ≡ around_of h s d seen w
      → put ≡ (put_by ready.run around ys).1 → length w < 2 ^ 64
      → Generates version (lent h s d ys) w rule ready.written put
  steps {w = w} f e r a p l = rw (p, a, r, e, f) (generates w l)
