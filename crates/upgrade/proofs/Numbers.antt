-- The numbers and lengths that the upgrades answer. Assumes that files are bytes and that a lent copy is
-- shorter than the largest usize.
--     among      a number of `upgrade` is among 1 to 13, 16, 19 to 23 and 26; that each of them occurs is shown
--                by the rows of `exact_sets`
--     lengths    a copy has 53 bytes or more
--     apart      so the one number of `evf_upgrade` tells refusal, length and missing room apart
use Prim.Native.Nat.{ℕ, ◌≤◌, ◌<◌}
use mathlib.Core.Path.{◌≡◌, refl, sym, ap, subst}
use mathlib.Core.Bool.{Bool, true, false, cond}
use mathlib.Core.Logic.{◌⊎◌, inl, inr}
use mathlib.Core.List.{List}
use native.Mathlib.Omega.{arith}
use lib.Dec.{leb}
use lib.IntN.{ℤ}
use lib.ListN.{length}
use borrow.Author.Tests.{leb-true, leb-false, eqb-false}
use Rattle.text.specs.declared.Place.{Place}
use Rattle.times.specs.Times.{s_to_ms}
use Rattle.game.specs.declared.Header.{Header}
use Rattle.game.specs.declared.Event.{Event}
use Rattle.game.specs.Refusals.{already_version4}
use Rattle.byte_writer.specs.Places.{most, capped}
use Rattle.byte_reader.specs.Reading.{Bytes}
use Rattle.evf_video.specs.Reading.{Reading, game, none, reading_of, game_read}
use Rattle.evf_video.specs.Parsed.{parse_of}
use Rattle.evf_video.proofs.Buffers.{fitted}
use Rattle.evf_video.proofs.Answers.{Within, reading-refuses, parse-refuses}
use Rattle.evf_layout.specs.Layout.{file_of}
use Rattle.evf_judging.specs.declared.Verdict.{Verdict}
use Rattle.evf_judging.specs.declared.Verdict.TheVariants.{Fine, Refused as Bad}
use Rattle.evf_judging.specs.Refusals.{first_refusal, checks, checks_under}
use Rattle.generate_evf.proofs.Ruled.{ruled-fine, ruled-refused}
use Rattle.generate_evf.specs.declared.Written.{Written}
use Rattle.generate_evf.specs.declared.Written.TheVariants.{Bytes as Length, Refused, Short}
use Rattle.generate_evf.specs.Written.{written_by, written_of, written_number}
use Rattle.read_back.proofs.Upgraded as core
use Rattle.upgrade.specs.Copy.{is_new, copied_by, told_by, shortest_copy, Upgrades, Copies}
use Rattle.upgrade.proofs.Copies.{started}

-- every reading is of version 0 to 4
pub known : (file : List ℕ) → Bytes file → {h : Header} {place : Place} {es : List Event}
    → reading_of file ≡ game h place es → h.version ≤ 4
known file small e = (started file small _ _ _ e).known

pub older : (file : List ℕ) → Bytes file → {h : Header} {place : Place} {es : List Event}
    → reading_of file ≡ game h place es → is_new h ≡ false → h.version < 4
older file small {h} e n = omega (arith, known file small e, eqb-false h.version 4 n)

-- NUMBERS AND LENGTHS: what is sure of an answer into so much room
abbrev pub OneOf : ℕ → Type 0
OneOf k = (1 ≤ k) × ((k ≤ 13) ⊎ ((k ≡ 16) ⊎ (((19 ≤ k) × (k ≤ 22)) ⊎ (k ≡ 26))))

abbrev pub Sure : (room : ℕ) → Written → Type 0
Sure room (Length n) = (53 ≤ n) × (n ≤ room)
Sure room (Short n) = (53 ≤ n) × (room < n)
Sure room (Refused k) = OneOf k

module _ (file : List ℕ) (small : Bytes file) (rule room : ℕ) (below : room < most) where
  module _ (h : Header) (place : Place) (es : List Event) (r : reading_of file ≡ game h place es) where
    late : {k : ℕ} → (k ≡ 16) ⊎ ((19 ≤ k) × (k ≤ 22)) → OneOf k
    late (inl e) = (omega (arith, e), inr (inl e))
    late (inr e) = (omega (arith, e.0), inr (inr (inl e)))

    by-room : (t : Bool) (l : ℕ) → leb l room ≡ t → 53 ≤ l → Sure room (cond t (Length l) (Short (capped l)))
    by-room true l e m = (m, leb-true l room e)
    by-room false l e m = let f = leb-false l room e in (omega (arith, m), omega (arith, f, below))

    by-verdict : h.version < 4 → (v : Verdict)
        → first_refusal (checks_under rule 4 (game_read file h place es)) ≡ v
        → Sure room (written_by v (length (file_of (s_to_ms rule) 4 (game_read file h place es))) room)
    by-verdict old Fine e = let l = length (file_of (s_to_ms rule) 4 (game_read file h place es)) in
        by-room (leb l room) l refl (core.least-copy file small r old (s_to_ms rule)
        (ruled-fine rule (checks (s_to_ms rule) 4 (game_read file h place es)) e))
    by-verdict old (Bad k) e =
        elim (ruled-refused rule (checks (s_to_ms rule) 4 (game_read file h place es)) e) [
          | inl q ↦ (omega (arith, q), inr (inr (inr q)))
          | inr q ↦ late (core.told file small r (s_to_ms rule) q)
        ]

    by_version : (t : Bool) → is_new h ≡ t
        → Sure room (cond t (Refused already_version4) (written_of rule 4 (game_read file h place es) room))
    unfolding written_of
    by_version true e = (omega arith, inl (omega arith))
    by_version false e =
        by-verdict (older file small r e) (first_refusal (checks_under rule 4 (game_read file h place es)))
        refl

  sure-of : (R : Reading)
      → ((h : Header) (place : Place) (es : List Event) → R ≡ game h place es
      → reading_of file ≡ game h place es) → ((n : ℕ) → R ≡ none n → Within 12 n)
      → Sure room (copied_by rule file R room)
  sure-of (game h place es) f g = by_version h place es (f h place es refl) (is_new h) refl
  sure-of (none n) f g = let w = g n refl in (w.0, inl (omega (arith, w.1)))

  pub sure-parsed : (cells entries : ℕ) → Sure room (copied_by rule file (parse_of file cells entries) room)
  unfolding parse_of
  sure-parsed cells entries =
      sure-of (parse_of file cells entries)
      (λ h place es e. (fitted cells entries h place es (reading_of file) e).is)
      (λ n e. parse-refuses file small cells entries e)

  pub sure-read : Sure room (copied_by rule file (reading_of file) room)
  sure-read = sure-of (reading_of file) (λ h place es e. e)
      (λ n e. let w = reading-refuses file small e in (w.0, omega (arith, w.1)))

module _ {file copy copy' : List ℕ} {board board' : List ℤ} {row row' : List Event} {rule : ℕ}
    {answer : Written} (small : Bytes file) (below : length copy < most)
    (u : Upgrades file board row copy rule answer board' row' copy') where
  sure : Sure (length copy) answer
  sure = subst (Sure (length copy)) (sym u.answer_is)
      (sure-parsed file small rule (length copy) below (length board) (length row))

  pub lengths : {n : ℕ} → answer ≡ Length n → 53 ≤ n
  lengths e = (subst (Sure (length copy)) e sure).0

  number_of : (a : Written) → Sure (length copy) a → 1 ≤ written_number a
      → (written_number a ≤ 13) ⊎
      ((written_number a ≡ 16) ⊎
      (((19 ≤ written_number a) × (written_number a ≤ 23)) ⊎ (written_number a ≡ 26)))
  number_of (Length n) s l = absurd (omega arith)
  number_of (Short n) s l = inr (inr (inl (omega arith, omega arith)))
  number_of (Refused k) s l = widen s.1
    where
      widen : (k ≤ 13) ⊎ ((k ≡ 16) ⊎ (((19 ≤ k) × (k ≤ 22)) ⊎ (k ≡ 26)))
          → (k ≤ 13) ⊎ ((k ≡ 16) ⊎ (((19 ≤ k) × (k ≤ 23)) ⊎ (k ≡ 26)))
      widen (inl e) = inl e
      widen (inr (inl e)) = inr (inl e)
      widen (inr (inr (inl e))) = inr (inr (inl (e.0, omega (arith, e.1))))
      widen (inr (inr (inr e))) = inr (inr (inr e))

  pub among : 1 ≤ written_number answer
      → (written_number answer ≤ 13) ⊎
      ((written_number answer ≡ 16) ⊎
      (((19 ≤ written_number answer) × (written_number answer ≤ 23)) ⊎ (written_number answer ≡ 26)))
  among = number_of answer sure

-- ONE NUMBER
module _ {file copy copy' : List ℕ} {rule n : ℕ} (small : Bytes file) (below : length copy < most)
    (u : Copies file copy rule n copy') where
  abbrev answer_of : Written
  answer_of = copied_by rule file (reading_of file) (length copy)

  apart_by : (a : Written) → Sure (length copy) a → n ≡ told_by a
      → (n < shortest_copy → a ≡ Refused n)
      × ((shortest_copy ≤ n → n ≤ length copy → a ≡ Length n)
      × (shortest_copy ≤ n → length copy < n → a ≡ Short n))
  apart_by (Length m) s e = (
    λ l. absurd (omega (arith, s.0, e)),
    (λ l r. ap Length (sym e), λ l r. absurd (omega (arith, s.1, e))),
  )
  apart_by (Short m) s e = (
    λ l. absurd (omega (arith, s.0, e)),
    (λ l r. absurd (omega (arith, s.1, e)), λ l r. ap Short (sym e)),
  )
  apart_by (Refused k) s e =
      (λ l. ap Refused (sym e), (λ l r. absurd (at_most k s.1 e l), λ l r. absurd (at_most k s.1 e l)))
    where
      at_most : (k : ℕ) → (k ≤ 13) ⊎ ((k ≡ 16) ⊎ (((19 ≤ k) × (k ≤ 22)) ⊎ (k ≡ 26))) → n ≡ k
          → shortest_copy ≤ n → ⊥
      at_most k (inl f) q l = omega (arith, f, q)
      at_most k (inr (inl f)) q l = omega (arith, f, q)
      at_most k (inr (inr (inl f))) q l = omega (arith, f.1, q)
      at_most k (inr (inr (inr f))) q l = omega (arith, f, q)

  pub apart : (n < shortest_copy → answer_of ≡ Refused n)
      × ((shortest_copy ≤ n → n ≤ length copy → answer_of ≡ Length n)
      × (shortest_copy ≤ n → length copy < n → answer_of ≡ Short n))
  apart = apart_by answer_of (sure-read file small rule (length copy) below) u.answer_is
