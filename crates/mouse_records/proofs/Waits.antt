-- The pauses of a wait: one at a time, how many bytes they are, and writing them. Assumes nothing.
--     none_left       a wait that a record tells by itself has no pauses
--     one_more        a longer one has a pause, and then the pauses of what is left
--     pauses_long     the closed form of their length
--     Writing         what holds while they are written
use Rattle.std.proofs.Common.{◌≡◌, ℕ, zero, suc, ◌+◌, ◌-◌, ◌*◌, ◌/◌, ◌<◌, ◌≤◌, true, false, leb, List, [], ◌∷◌, ◌++◌, length, sym, refl, ap, ◌∙◌, append_assoc, append-nil, arith, le-leb, leb-false, leb-true}
use borrow.Author.Tests.{lt-leb}
use Rattle.byte_reader.specs.Numbers.{bytes_of}
use Rattle.byte_writer.specs.Places.{most, Writes}
use Rattle.byte_writer.proofs.Laws.{writes_none, writes_then}
use Rattle.mouse_records.specs.Pauses.{pause_in, pauses, rest, pauses_of, rest_of}

-- one turn, with turns enough
enough : (f g w : ℕ) → w ≤ f → w ≤ g → (pauses f w ≡ pauses g w) × (rest f w ≡ rest g w)
unfolding pauses rest
enough zero zero w hf hg = (refl, refl)
enough zero (suc g) w hf hg = let e = le-leb w 255 (omega arith) in (rw (e, pauses), rw (e, rest))
enough (suc f) zero w hf hg = let e = le-leb w 255 (omega arith) in (rw (e, pauses), rw (e, rest))
enough (suc f) (suc g) w hf hg =
    (elim (leb w 255) as
    (λ b. leb w 255 ≡ b → (pauses (suc f) w ≡ pauses (suc g) w) × (rest (suc f) w ≡ rest (suc g) w)) [
      | true ↦ λ e. (rw (e, pauses), rw (e, rest))
      | false ↦ λ e.
          let h : 255 < w = leb-false w 255 e in
          let ih = enough f g (w - pause_in w) (omega arith) (omega arith) in
          (rw (e, pauses, ih.0), rw (e, rest, ih.1))
    ])
    refl

module _ (w : ℕ) where
  pub none_left : w ≤ 255 → (pauses_of w ≡ []) × (rest_of w ≡ w)
  unfolding pauses_of rest_of pauses rest
  none_left h =
      let e = le-leb w 255 h in
      let s = enough w (suc w) w (omega arith) (omega arith) in
      (s.0 ∙ rw (e, pauses), s.1 ∙ rw (e, rest))

  pub one_more : 255 < w
      → (pauses_of w ≡ 255 ∷ bytes_of 2 (pause_in w) ++ pauses_of (w - pause_in w))
      × (rest_of w ≡ rest_of (w - pause_in w))
  unfolding pauses_of rest_of pauses rest
  one_more h =
      let e = lt-leb w 255 h in
      let s = enough w (suc w) w (omega arith) (omega arith) in
      let r = enough w (w - pause_in w) (w - pause_in w) (omega arith) (omega arith) in
      (s.0 ∙ rw (e, pauses, r.0), s.1 ∙ rw (e, rest, r.1))

-- THEIR LENGTH: three bytes for each 65535 ms, and three more where over 255 ms are left
abbrev pub length_in : ℕ → ℕ
length_in w = (w + 65279) / 65535 * 3

length_more : (w : ℕ) → 255 < w → length_in w ≡ 3 + length_in (w - pause_in w)
length_more w h = omega arith

length_upto : (turns w : ℕ) → w ≤ turns → length_in w ≡ length (pauses_of w)
length_upto zero w l = rw (none_left w (omega arith)).0 (omega arith)
length_upto (suc turns) w l =
    (elim (leb w 255) as (λ b. leb w 255 ≡ b → length_in w ≡ length (pauses_of w)) [
      | true ↦ λ e. let h : w ≤ 255 = leb-true w 255 e in rw (none_left w h).0 (omega arith)
      | false ↦ λ e.
          let h : 255 < w = leb-false w 255 e in
          let ih = length_upto turns (w - pause_in w) (omega arith) in
          rw (one_more w h).0 (omega (arith, length_more w h))
    ])
    refl

pub pauses_long : (w : ℕ) → length (pauses_of w) ≡ length_in w
pauses_long w = sym (length_upto w w (omega arith))

-- WRITING: the bytes so far, and those of what is left of the wait, are all of them
pub record Writing (d : List ℕ) (from wait : ℕ) (d' : List ℕ) (at w : ℕ) : Type 0 where
  pub told : List ℕ
  pub wrote : Writes d d' from told at
  pub all : told ++ pauses_of w ≡ pauses_of wait
  pub left : rest_of w ≡ rest_of wait

pub writing : (d : List ℕ) (from wait : ℕ) → from ≤ most → Writing d from wait d from wait
writing d from wait l = record { told = []; wrote = writes_none d from l; all = refl; left = refl }

module _ {d : List ℕ} {from wait : ℕ} {d' : List ℕ} {at w : ℕ} (v : Writing d from wait d' at w) where
  pub written : length d ≤ most → 255 < w → (n : ℕ) → n ≡ pause_in w → (d'' : List ℕ) (to : ℕ)
      → Writes d' d'' at (255 ∷ bytes_of 2 n) to
      → Writing d from wait d'' to (w - n)
  written l h n e d'' to p =
      let more = one_more w h in
      rw e
      (record {
        told = v.told ++ (255 ∷ bytes_of 2 (pause_in w));
        wrote = writes_then l v.wrote (λ _. rw e at p);
        all = append_assoc v.told (255 ∷ bytes_of 2 (pause_in w)) (pauses_of (w - pause_in w))
            ∙ ap (λ (l : List ℕ). v.told ++ l) (sym more.0) ∙ v.all;
        left = sym more.1 ∙ v.left;
      })

  pub over : w ≤ 255 → Writes d d' from (pauses_of wait) at × (w ≡ rest_of wait)
  over h = (rw (sym v.all, (none_left w h).0, append-nil) v.wrote, sym (none_left w h).1 ∙ v.left)
