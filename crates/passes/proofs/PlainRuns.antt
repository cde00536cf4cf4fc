-- Runs of plain events: the test, the six bytes of a record, and one more event judged and written. Assumes
-- nothing.
use Rattle.std.proofs.Common.{◌≡◌, ℕ, suc, ◌+◌, ◌-◌, ◌/◌, ◌%◌, ◌^◌, ◌<◌, ◌≤◌, Bool, true, ltb, List, length, set, sym, refl, ap, ◌∙◌, subst, add-one, arith, leb-true}
use lib.Seq.{sets, length-sets}
use Rattle.times.specs.Times.{seconds_of}
use Rattle.times.specs.declared.GameMs.{GameMs}
use Rattle.times.proofs.Seconds.{round_trip}
use Rattle.game.specs.declared.Event.TheVariants.{Mouse}
use Rattle.game.specs.declared.MouseKind.{MouseKind}
use Rattle.game.specs.declared.MouseKind.TheVariants.{Mv, Lc, Lr, Rc, Rr, Mc, Mr, Pf, Cc, L, R, M, Ub}
use Rattle.game.specs.Kinds.{code_of}
use Rattle.byte_writer.specs.Places.{most}
use Rattle.record_fields.specs.Fields.{mouse}
use Rattle.records_v0_v3.specs.Tells.{StandsOld}
use Rattle.records_v4.specs.declared.mouse.MouseRecord.{MouseRecord}
use Rattle.mouse_records.specs.declared.Last.{Last}
use Rattle.evf_records.specs.declared.Seen.{Seen}
use Rattle.evf_records.specs.declared.Run.{Run}
use Rattle.mouse_records.specs.Records.{record4, difference}
use Rattle.evf_records.specs.Refusals.{is_ub}
use Rattle.evf_records.specs.Steps.{seen_begun4, seen_past, seen_after, run_past, run_on4, run_rule, run_place}
use Rattle.evf_records.specs.Steps.{run_last, wrote_after}
use Rattle.evf_records.specs.Plain.{is_plain}
use Rattle.evf_records.proofs.Plain.{plain-record, seen_start, seen_plain, run_past_lem, ran-plain, wrote-plain}
use Rattle.passes.specs.EventPasses.{old_events, survey_by, PutsEvents}
use Rattle.passes.specs.PlainRuns.{plain_bytes, HasRoom, LooksOn, PutsOn, seen_to}
use Rattle.passes.proofs.Passes.{next-event, survey_next, put_next}

-- THE TESTS: a kind is ub where its code is past the others, and a record has room
pub coded : (k : MouseKind) → is_ub k ≡ ltb 12 (code_of k)
coded Mv = refl
coded Lc = refl
coded Lr = refl
coded Rc = refl
coded Rr = refl
coded Mc = refl
coded Mr = refl
coded Pf = refl
coded Cc = refl
coded L = refl
coded R = refl
coded M = refl
coded Ub = refl

pub room_told : {n at : ℕ} {b : Bool} → HasRoom n at b → b ≡ true → at + 6 ≤ n
room_told {n} {at} h t = leb-true (at + 6) n (sym h.is ∙ t)

-- THE RECORD
-- stored byte by byte
pub six_stored : (r : MouseRecord) → r.dx < 65536 → r.dy < 65536 → (d : List ℕ) (at : ℕ)
    → set (set (set (set (set (set d at r.code) (at + 1) r.wait) (at + 2) (r.dx / 256)) (at + 3)
    (r.dx % 256)) (at + 4) (r.dy / 256)) (at + 5) (r.dy % 256)
    ≡ sets d at (plain_bytes r)
six_stored r x y d at =
    let i2 : at + 2 ≡ suc (suc at) = omega arith in
    let i3 : at + 3 ≡ suc (suc (suc at)) = omega arith in
    let i4 : at + 4 ≡ suc (suc (suc (suc at))) = omega arith in
    let i5 : at + 5 ≡ suc (suc (suc (suc (suc at)))) = omega arith in
    rw (add-one at, i2, i3, i4, i5, ← high r.dx x, ← low r.dx, ← high r.dy y, ← low r.dy)
  where
    high : (v : ℕ) → v < 65536 → v / 256 ≡ v / 256 ^ 1 % 256
    high v h = omega arith

    low : (v : ℕ) → v % 256 ≡ v / 256 ^ 0 % 256
    low v = omega arith

-- as it is to be written
pub record_bytes_lem : (last : Last) (kind : MouseKind) (ms x y : ℕ) → is_plain last.ms.0 kind ms ≡ true
    → {c w dx dy : ℕ} → c ≡ code_of kind → w ≡ ms - last.ms.0 → dx ≡ difference last.x x
    → dy ≡ difference last.y y
    → plain_bytes (record { code = c; wait = w; dx = dx; dy = dy }) ≡ record4 last kind ms x y
record_bytes_lem last kind ms x y plain ec ew ex ey =
    rw (ec, ew, ex, ey) (sym (plain-record last kind ms x y plain))

-- JUDGED
pub seen_more : (s : Seen) → seen_begun4 s ≡ true
    → (n : ℕ) (last : Last) (kind : MouseKind) (ms : GameMs) (x y : ℕ) → ms.0 < 4294967296
    → is_plain last.ms.0 kind ms.0 ≡ true
    → seen_after (seen_to s last n) (Mouse (seconds_of ms.0) kind x y)
    ≡ seen_to s (record { ms = ms; x = x; y = y }) (n + 6)
seen_more s begun n last kind ms x y m h =
    let k : n / 6 + 1 ≡ (n + 6) / 6 = omega arith in
    seen_plain s begun last (n / 6) n (seconds_of ms.0) kind ms x y (round_trip s.rule ms.0 m) h
    ∙ ap (λ (j : ℕ). seen_past s (record { ms = ms; x = x; y = y }) j (n + 6)) k

module _ (file : List ℕ) (version from : ℕ) (s : Seen) where
  pub look_none : LooksOn file version from s from s
  look_none = record { right = λ v. refl; further = omega arith }

  pub look-start : s.entries ≤ most → s.len.bytes ≤ most
      → LooksOn file version from s from (seen_to s s.last 0)
  look-start k h =
      record {
        right = λ v. ap (λ (k : Seen). survey_by k (old_events version file from))
            (seen_start s k h);
        further = omega arith;
      }

  pub look-plain : seen_begun4 s ≡ true → (at n : ℕ) (last : Last) (kind : MouseKind) (ms : GameMs) (x y : ℕ)
      → ms.0 < 4294967296 → is_plain last.ms.0 kind ms.0 ≡ true
      → LooksOn file version from s at (seen_to s last n)
      → StandsOld version file at (mouse kind ms.0 x y) 8
      → LooksOn file version from s (at + 8) (seen_to s (record { ms = ms; x = x; y = y }) (n + 6))
  look-plain begun at n last kind ms x y m h w d = record {
    right = λ v.
        ap (λ (k : Seen). survey_by k (old_events version file (at + 8)))
        (sym (seen_more s begun n last kind ms x y m h))
        ∙ sym (survey_next (seen_to s last n) (Mouse (seconds_of ms.0) kind x y)
        (old_events version file (at + 8)))
        ∙ sym (ap (survey_by (seen_to s last n)) (next-event file version at v d)) ∙ w.right v;
    further = omega (arith, w.further);
  }

-- WRITTEN
module _ (file : List ℕ) (version from : ℕ) (run : Run) (out₀ : List ℕ) where
  pub put_none : PutsOn file version from run out₀ from run out₀
  put_none = record { right = λ l p. p; further = omega arith; long = refl }

  pub put-from : run_on4 run ≡ true → (at : ℕ) (r : Run) (out : List ℕ)
      → PutsOn file version from (run_past (run_rule run) (run_place run) (run_last run)) out₀ at r out
      → PutsOn file version from run out₀ at r out
  put-from on at r out p = subst (λ (q : Run). PutsOn file version from q out₀ at r out) (run_past_lem run on) p

  pub put-plain : (rule at to : ℕ) (last : Last) (out : List ℕ) (kind : MouseKind) (ms : GameMs) (x y : ℕ)
      → ms.0 < 4294967296 → is_plain last.ms.0 kind ms.0 ≡ true → to + 6 ≤ most
      → PutsOn file version from run out₀ at (run_past rule to last) out
      → StandsOld version file at (mouse kind ms.0 x y) 8 → (r : MouseRecord)
      → plain_bytes r ≡ record4 last kind ms.0 x y → (out' : List ℕ) → out' ≡ sets out to (plain_bytes r)
      → PutsOn file version from run out₀ (at + 8) (run_past rule (to + 6)
      (record { ms = ms; x = x; y = y })) out'
  put-plain rule at to last out kind ms x y m h room w d r e out' o = record {
    right = λ l p.
        let back = round_trip rule ms.0 m in
        let ran = ran-plain rule to last (seconds_of ms.0) kind ms x y back h room in
        let wrote = wrote-plain rule to last (seconds_of ms.0) kind ms x y back h out in
        w.right l
        (put_next file version at d (run_past rule to last) out l
        (subst (λ (q : Run). PutsEvents file version (at + 8) q
        (wrote_after out (run_past rule to last) (Mouse (seconds_of ms.0) kind x y)) l)
        (sym ran)
        (subst (λ (q : List ℕ). PutsEvents file version (at + 8)
        (run_past rule (to + 6) (record { ms = ms; x = x; y = y })) q l)
        (o ∙ ap (sets out to) e ∙ sym wrote)
        p)));
    further = omega (arith, w.further);
    long = ap length o ∙ length-sets out to (plain_bytes r) ∙ w.long;
  }
