-- The record of a mouse event, by its bytes. Assumes nothing.
--     no_whole, no_code, mouse_is    the test, as the code makes it
--     mouse_here     what the test tells
--     mouse_stands   the record that stands there then
use Prim.Native.Nat.{ℕ, zero, suc, ◌+◌, ◌≤◌, ◌<◌}
use mathlib.Core.Path.{◌≡◌, refl, sym, subst, ◌∙◌}
use mathlib.Core.Bool.{Bool, true, false, ◌&&◌, and-eq-true_iff}
use mathlib.Core.Logic.{◌≢◌}
use mathlib.Core.List.{List}
use native.Mathlib.Omega.{arith}
use lib.Dec.{T, eqb, eqb→eq, leb}
use lib.ListN.{length, get_or}
use borrow.Author.Tests.{le-leb, lt-leb, leb-true}
use Rattle.lists.proofs.Tables.{below}
use Rattle.game.specs.Kinds.{kind_of, code_of}
use Rattle.record_fields.specs.Fields.{field}
use Rattle.record_fields.proofs.Fixed.{field-1}
use Rattle.records_v4.specs.declared.mouse.MouseRecord.{MouseRecord}
use Rattle.records_v4.specs.MouseRecords.{is_mouse, MouseHere, MouseAt, no_record, mouse_read, ReadsMouse}
use Rattle.records_v4.proofs.Records.{later-mouse, mouse-found}

-- from 1 to 12 a code is that of its kind
codes_back : (n : ℕ) → n < 12 → T (eqb (suc n) (code_of (kind_of (suc n))))
unfolding kind_of
codes_back = below (λ n. eqb (suc n) (code_of (kind_of (suc n)))) 12 tt

code_back : (code : ℕ) → 1 ≤ code → code ≤ 12 → code ≡ code_of (kind_of code)
code_back zero h k = absurd (omega arith)
code_back (suc n) h k = eqb→eq (suc n) (code_of (kind_of (suc n))) (codes_back n (omega arith))

module _ (file : List ℕ) (at : ℕ) where
  pub no_whole : length file < at + 6 → false ≡ is_mouse file at
  unfolding is_mouse
  no_whole h = rw (lt-leb (at + 6) (length file) h)

  pub no_code : at + 6 ≤ length file → get_or file at 0 < 1 → false ≡ is_mouse file at
  unfolding is_mouse
  no_code h l = rw (le-leb (at + 6) (length file) h, lt-leb 1 (get_or file at 0) l)

  pub mouse_is : at + 6 ≤ length file → 1 ≤ get_or file at 0 → leb (get_or file at 0) 12 ≡ is_mouse file at
  unfolding is_mouse
  mouse_is h l = rw (le-leb (at + 6) (length file) h, le-leb 1 (get_or file at 0) l)

both : (a b : Bool) → (a && b) ≡ true → (a ≡ true) × (b ≡ true)
both a b = (and-eq-true_iff a b).0

pub mouse_here : {file : List ℕ} {at : ℕ} {b : Bool} → b ≡ is_mouse file at → b ≡ true → MouseHere file at
unfolding is_mouse
mouse_here {file} {at} e t =
    let p = both (leb (at + 6) (length file)) _ (sym e ∙ t) in
    let q = both (leb 1 (get_or file at 0)) (leb (get_or file at 0) 12) p.1 in
    record {
      whole = leb-true (at + 6) (length file) p.0;
      low = leb-true 1 (get_or file at 0) q.0;
      high = leb-true (get_or file at 0) 12 q.1;
    }

mouse_stands : {file : List ℕ} {at wait dx dy : ℕ} → MouseHere file at → wait ≡ get_or file (at + 1) 0
    → wait < 256 → dx ≡ field 2 file (at + 2) → dx < 65536 → dy ≡ field 2 file (at + 4) → dy < 65536
    → MouseAt file at (record { code = get_or file at 0; wait = wait; dx = dx; dy = dy })
mouse_stands {file} {at} m ew w ex x ey y =
    let here : at < length file = omega (arith, m.whole) in
    let named : get_or file at 0 ≢ 0 = λ z. omega (arith, z, m.low) in
    let told = mouse-found (later-mouse file at here named m.high m.whole) refl
    (ew ∙ sym (field-1 file (at + 1) (omega (arith, m.whole)))) ex ey in
    record {
      code_is = refl;
      stands = told.means;
      coded = code_back (get_or file at 0) m.low m.high;
      wait_fits = w;
      dx_fits = x;
      dy_fits = y;
    }

-- WHAT IS READ: zeros, or the bytes
pub reads_none : {file : List ℕ} {at : ℕ} {b : Bool} → b ≡ is_mouse file at → b ≡ false
    → ReadsMouse file at no_record
unfolding mouse_read
reads_none e t = record {
  is = rw (sym e ∙ t);
  wait_fits = omega arith;
  dx_fits = omega arith;
  dy_fits = omega arith;
}

module _ {file : List ℕ} {at : ℕ} (m : MouseHere file at) where
  here-is : is_mouse file at ≡ true
  unfolding is_mouse
  here-is =
      rw (
        le-leb (at + 6) (length file) m.whole,
        le-leb 1 (get_or file at 0) m.low,
        le-leb (get_or file at 0) 12 m.high,
      )

  pub reads_bytes : {wait dx dy : ℕ} → wait ≡ get_or file (at + 1) 0 → wait < 256
      → dx ≡ field 2 file (at + 2) → dx < 65536 → dy ≡ field 2 file (at + 4) → dy < 65536
      → ReadsMouse file at (record { code = get_or file at 0; wait = wait; dx = dx; dy = dy })
  unfolding mouse_read
  reads_bytes ew w ex x ey y =
      record { is = rw (here-is, ew, ex, ey); wait_fits = w; dx_fits = x; dy_fits = y }

  bytes : MouseRecord
  bytes = record {
    code = get_or file at 0;
    wait = get_or file (at + 1) 0;
    dx = field 2 file (at + 2);
    dy = field 2 file (at + 4);
  }

  -- and what it tells where a record stands
  pub mouse-read : {r : MouseRecord} → ReadsMouse file at r → MouseAt file at r
  unfolding mouse_read bytes
  mouse-read {r} w =
      let same : r ≡ bytes = w.is ∙ rw here-is in
      subst (MouseAt file at) (sym same)
      (mouse_stands m refl (subst (λ (q : MouseRecord). q.wait < 256) same w.wait_fits) refl
      (subst (λ (q : MouseRecord). q.dx < 65536) same w.dx_fits) refl
      (subst (λ (q : MouseRecord). q.dy < 65536) same w.dy_fits))
