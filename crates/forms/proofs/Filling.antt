-- A form filled in byte by byte. Assumes nothing.
use Prim.Native.Nat.{ℕ, suc, ◌+◌, ◌≤◌, ◌<◌}
use mathlib.Core.Path.{◌≡◌, refl, sym, ap, ◌∙◌}
use mathlib.Core.List.{List, [], ◌∷◌, ◌++◌, append_assoc, append-nil}
use native.Mathlib.Omega.{arith}
use native.Mathlib.Numerals.{add-one}
use lib.ListN.{length, get_or, drop, drop_of_length-le}
use lib.Seq.{drop-cons, drop-drop, get_or-drop}
use Rattle.game.specs.declared.Header.{Header}
use Rattle.byte_writer.specs.Places.{most, Writes}
use Rattle.byte_writer.proofs.Laws.{writes_none, writes_then, writes_as}
use Rattle.forms.specs.Filled.{piece, taken, filled}

-- BYTE BY BYTE: some of the form is written; its bytes from i on, with the values from k on, are the rest
pub record Filling (h : Header) (file d : List ℕ) (at : ℕ) (form values d' : List ℕ) (to k i : ℕ)
    : Type 0 where
  pub shown : List ℕ
  pub writes : Writes d d' at shown to
  pub rest : shown ++ filled h file (drop i form) (drop k values) ≡ filled h file form values
  pub inside : i ≤ length form
  pub few : k ≤ i

module _ (h : Header) (file d : List ℕ) (at : ℕ) (form values : List ℕ) where
  pub filling-none : at ≤ most → Filling h file d at form values d at 0 0
  filling-none l =
      record {
        shown = [];
        writes = writes_none d at l;
        rest = refl;
        inside = omega arith;
        few = omega arith;
      }

  module _ {d' : List ℕ} {to k i : ℕ} (w : Filling h file d at form values d' to k i) where
    pub filling-more : {d'' : List ℕ} {to' b n t : ℕ} → length d ≤ most → i < length form
        → b ≡ get_or form i 0 → n ≡ get_or values k 0 → t ≡ taken b → t ≤ 1
        → Writes d' d'' to (piece h file b n) to' → Filling h file d at form values d'' to' (k + t) (i + 1)
    unfolding filled
    filling-more {b = b} {n} {t} l q e f g s v =
        let whole : drop i form ≡ b ∷ drop (suc i) form =
        drop-cons form i 0 q ∙ ap (λ (x : ℕ). x ∷ drop (suc i) form) (sym e) in
        let value : get_or (drop k values) 0 0 ≡ n =
        get_or-drop k values 0 0 ∙ ap (λ (x : ℕ). get_or values x 0) (omega arith) ∙ sym f in
        let left : drop (taken b) (drop k values) ≡ drop (k + t) values =
        drop-drop (taken b) k values ∙ ap (λ (x : ℕ). drop (k + x) values) (sym g) in
        let now : w.shown ++ filled h file (b ∷ drop (suc i) form) (drop k values)
        ≡ filled h file form values =
        ap (λ (x : List ℕ). w.shown ++ filled h file x (drop k values)) (sym whole) ∙ w.rest in
        record {
          shown = w.shown ++ piece h file b n;
          writes = writes_then l w.writes (λ _. v);
          rest = rw (add-one, append_assoc, ← value, ← left) now;
          inside = omega arith;
          few = omega (arith, w.few);
        }

    pub filling-all : length form ≤ i → Writes d d' at (filled h file form values) to
    unfolding filled
    filling-all q =
        let none : drop i form ≡ [] = drop_of_length-le form q in
        let now : w.shown ++ filled h file [] (drop k values) ≡ filled h file form values =
        ap (λ (x : List ℕ). w.shown ++ filled h file x (drop k values)) (sym none) ∙ w.rest in
        writes_as (sym (append-nil w.shown) ∙ now) w.writes
