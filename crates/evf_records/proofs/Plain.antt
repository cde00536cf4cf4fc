-- Plain events: one more of them, judged and written, and the bytes of its record. Assumes nothing.
--     Plain, plain_told      the three parts of `is_plain`
--     plain-record           the record
--     seen_start             a run before its first event
--     seen_plain             one more judged
--     run_past_lem               writing that stands behind plain events
--     ran-plain, wrote-plain one more written
--     wrote_long             no entry changes a buffer's length
use Prim.Native.Nat.{ℕ, ◌+◌, ◌-◌, ◌≤◌}
use mathlib.Core.Path.{◌≡◌, refl, sym, ap, ◌∙◌}
use mathlib.Core.Bool.{Bool, true, false, not, cond, ◌&&◌}
use mathlib.Core.List.{List, ◌∷◌, ◌++◌}
use native.Mathlib.Nat.{add-zero}
use native.Mathlib.Omega.{arith}
use lib.Dec.{eqb, leb}
use lib.Ieee.{Float}
use lib.ListN.{length}
use lib.Seq.{sets, length-sets}
use borrow.Author.Tests.{le-ltb, leb-true, eqb-true, eqb-false, ne_eqb, not-true}
use Rattle.times.specs.declared.GameMs.{GameMs}
use Rattle.times.specs.Times.{s_to_ms}
use Rattle.game.specs.declared.Event.{Event}
use Rattle.game.specs.declared.Event.TheVariants.{Mouse}
use Rattle.game.specs.declared.MouseKind.{MouseKind}
use Rattle.game.specs.Kinds.{code_of}
use Rattle.byte_reader.specs.Numbers.{bytes_of}
use Rattle.byte_writer.specs.Places.{most, capped, plus_of}
use Rattle.byte_writer.proofs.Laws.{plus_fits, plus_then}
use Rattle.mouse_records.specs.declared.Last.{Last}
use Rattle.evf_records.specs.declared.Seen.{Seen}
use Rattle.evf_records.specs.declared.Run.{Run}
use Rattle.mouse_records.specs.Pauses.{longest_wait}
use Rattle.mouse_records.specs.Records.{record4, difference}
use Rattle.evf_records.specs.Refusals.{is_ub}
use Rattle.evf_records.specs.Plain.{is_plain}
use Rattle.evf_records.specs.Steps.{seen_begun4, seen_past, seen_after, run_past, run_on4, run_rule}
use Rattle.evf_records.specs.Steps.{run_place, run_last, bytes_now, ran_after, wrote_after}
use Rattle.evf_records.proofs.Causes.{next_none}
use Rattle.mouse_records.proofs.Waits.{none_left}
use Rattle.mouse_records.proofs.Records.{byte}

-- THE PARTS OF THE TEST
both : (a b : Bool) → (a && b) ≡ true → (a ≡ true) × (b ≡ true)
both true b e = (refl, e)
both false b e = let z : ◌≡◌ {A = ℕ} 0 1 = cc in absurd (omega arith)

pub record Plain (last : ℕ) (kind : MouseKind) (ms : ℕ) : Type 0 where
  pub named : is_ub kind ≡ false
  pub later : last ≤ ms
  pub soon : ms - last ≤ 255

pub plain_told : (last : ℕ) (kind : MouseKind) (ms : ℕ) → is_plain last kind ms ≡ true → Plain last kind ms
unfolding is_plain
plain_told last kind ms e =
    let p = both (not (is_ub kind)) (leb last ms && leb (ms - last) longest_wait) e in
    let q = both (leb last ms) (leb (ms - last) longest_wait) p.1 in
    record {
      named = not-true (is_ub kind) p.0;
      later = leb-true last ms q.0;
      soon = leb-true (ms - last) 255 q.1;
    }

-- THE RECORD
module _ (last : Last) (kind : MouseKind) (ms x y : ℕ) (plain : is_plain last.ms.0 kind ms ≡ true) where
  pub plain-record : record4 last kind ms x y ≡ code_of kind ∷ (ms - last.ms.0) ∷ bytes_of 2
      (difference last.x x) ++ bytes_of 2 (difference last.y y)
  unfolding record4
  plain-record =
      let w = (plain_told last.ms.0 kind ms plain).soon in
      let n = none_left (ms - last.ms.0) w in
      rw (n.0, n.1)
      (ap (λ (l : List ℕ). code_of kind ∷ l
      ++ (bytes_of 2 (difference last.x x) ++ bytes_of 2 (difference last.y y)))
      (byte (ms - last.ms.0) (omega arith)))

  plain-long : length (record4 last kind ms x y) ≡ 6
  plain-long = rw plain-record

-- JUDGED
module _ (s : Seen) where
  pub seen_start : s.entries ≤ most → s.len.bytes ≤ most → seen_past s s.last 0 0 ≡ s
  unfolding seen_past
  seen_start k h =
      let m : capped (s.entries + 0) ≡ s.entries = omega arith in
      let l : s.len ≡ plus_of s.len 0 =
      sym (ap (λ (n : ℕ). record { bytes = n; over = s.len.over }) (add-zero s.len.bytes))
      ∙ plus_fits s.len 0 (omega arith) in
      rw (m, ← l)

  pub seen_plain : seen_begun4 s ≡ true
      → (last : Last) (k n : ℕ) (seconds : Float) (kind : MouseKind) (ms : GameMs) (x y : ℕ)
      → s_to_ms s.rule seconds ≡ ms.0
      → is_plain last.ms.0 kind ms.0 ≡ true
      → seen_after (seen_past s last k n) (Mouse seconds kind x y)
      ≡ seen_past s (record { ms = ms; x = x; y = y }) (k + 1) (n + 6)
  unfolding seen_past seen_after
  seen_plain begun last k n seconds kind ms x y e plain =
      let b = both (not (eqb s.entries 0)) (eqb s.version 4) begun in
      let p = plain_told last.ms.0 kind ms.0 plain in
      let m : capped (capped (s.entries + k) + 1) ≡ capped (s.entries + (k + 1)) = omega arith in
      let z : eqb (capped (s.entries + k)) 0 ≡ false =
      begun-still s.entries k (not-true (eqb s.entries 0) b.0) in
      rw (
        m,
        z,
        b.1,
        e,
        p.named,
        le-ltb ms.0 last.ms.0 p.later,
        next_none s.entry_fault,
        plain-long last kind ms.0 x y plain,
        plus_then s.len n 6,
      )
    where
      begun-still : (i j : ℕ) → eqb i 0 ≡ false → eqb (capped (i + j)) 0 ≡ false
      begun-still i j q = let h = eqb-false i 0 q in ne_eqb (capped (i + j)) 0 (omega arith)

-- WRITTEN
pub run_past_lem : (r : Run) → run_on4 r ≡ true → run_past (run_rule r) (run_place r) (run_last r) ≡ r
run_past_lem r on =
    let b = both (not r.off) (eqb r.version 4) on in
    ap (λ (v : ℕ). record { version = v; rule = r.rule; off = false; at = r.at; last = r.last })
    (sym (eqb-true r.version 4 b.1))
    ∙ ap
    (λ (t : Bool). record { version = r.version; rule = r.rule; off = t; at = r.at; last = r.last })
    (sym (not-true r.off b.0))

pub wrote_long : (r : Run) (out : List ℕ) (e : Event) → length (wrote_after out r e) ≡ length out
unfolding wrote_after
wrote_long r out e = by-off r.off
  where
    by-off : (t : Bool) → length (cond t out (sets out r.at (bytes_now r e))) ≡ length out
    by-off true = refl
    by-off false = length-sets out r.at (bytes_now r e)

module _ (rule to : ℕ) (last : Last) (seconds : Float) (kind : MouseKind) (ms : GameMs) (x y : ℕ)
    (e : s_to_ms rule seconds ≡ ms.0) (plain : is_plain last.ms.0 kind ms.0 ≡ true) where
  pub ran-plain : to + 6 ≤ most
      → ran_after (run_past rule to last) (Mouse seconds kind x y)
      ≡ run_past rule (to + 6) (record { ms = ms; x = x; y = y })
  unfolding ran_after
  ran-plain room = let k : capped (to + 6) ≡ to + 6 = omega arith in
      rw (e, plain-long last kind ms.0 x y plain, k)

  pub wrote-plain : (out : List ℕ)
      → wrote_after out (run_past rule to last) (Mouse seconds kind x y)
      ≡ sets out to (record4 last kind ms.0 x y)
  unfolding wrote_after
  wrote-plain out = rw e
