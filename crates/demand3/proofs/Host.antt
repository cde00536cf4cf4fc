-- DEMAND 3 OF `evf_upgrade`, as specs/Demand3.antt states it. Assumes nothing but that files are bytes,
-- and that the lent copy is shorter than the largest usize.
--     host_numbers          the numbers that it answers
--     host_first_reading    13 or more is the answer to a file that reads as a game
--     host_kept             the copy of an accepted game reads as that game
--     host_none-holds       a game that is refused with 19 to 22 has no file of version 4
use Prim.Native.Nat.{ℕ, ◌*◌, ◌≤◌, ◌<◌}
use mathlib.Core.Path.{◌≡◌, refl, sym, ap, subst, ◌∙◌}
use mathlib.Core.Bool.{Bool, true, false, cond}
use mathlib.Core.Logic.{◌⊎◌, inl, inr}
use mathlib.Core.List.{List}
use native.Mathlib.Omega.{arith}
use lib.ListN.{length, take}
use borrow.Author.Tests.{le-leb}
use Rattle.text.specs.declared.Place.{Place}
use Rattle.game.specs.declared.Header.{Header}
use Rattle.game.specs.declared.Event.{Event}
use Rattle.times.specs.Times.{s_to_ms}
use Rattle.game.specs.Refusals.{already_version4}
use Rattle.evf_video.specs.Reading.{Reading, game, none as no-game, reading_of, game_read}
use Rattle.evf_video.specs.Parsed.{parse_of}
use Rattle.evf_video.proofs.Answers.{reading-refuses}
use Rattle.generate_evf.specs.declared.Written.{Written}
use Rattle.generate_evf.specs.declared.Written.TheVariants.{Bytes as Length, Refused, Short}
use Rattle.generate_evf.specs.Written.{written_of, written_number}
use Rattle.read_back.proofs.Upgraded as core
use Rattle.upgrade.specs.Copy.{is_new, game_copied, game_copy, copied_by, copy_by, told_by, shortest_copy}
use Rattle.upgrade.proofs.Numbers.{Sure, sure-read, apart}
use Rattle.demand3.specs.Demand3.{ReadsInto, game_from, ReadsInVersion4, HostCall, HostNumber}
use Rattle.demand3.specs.Demand3.{HostNumbers, HostFirstReading, HostKept, HostNoneHolds}
use Rattle.demand3.proofs.Demand3.{refused-by, fits, kept-game, none-game}

module _ (c : HostCall) where
  abbrev room : ℕ
  room = length c.copy

  abbrev answered : Written
  answered = copied_by c.rule c.file (reading_of c.file) room

  sure : Sure room answered
  sure = sure-read c.file c.bytes c.rule room c.below

  -- a refusal, by what the file reads as
  refused-old : (h : Header) (place : Place) (es : List Event) (k : ℕ)
      → reading_of c.file ≡ game h place es → (t : Bool) → is_new h ≡ t → (1 ≤ k) × (k ≤ 22)
      → cond t (Refused already_version4) (written_of c.rule 4 (game_read
      c.file h place es) room) ≡ Refused k
      → HostNumber k
  refused-old h place es k r true e l q = inr (inl (sym (ap written_number q)))
  refused-old h place es k r false e l q =
      let g = game_read c.file h place es in
      late (core.told c.file c.bytes r (s_to_ms c.rule)
      (refused-by c.rule k l.0 l.1 g room (ap written_number q)))
    where
      late : (k ≡ 16) ⊎ ((19 ≤ k) × (k ≤ 22)) → HostNumber k
      late (inl e) = inr (inr (inl e))
      late (inr e) = inr (inr (inr (inl e)))

  refused_is : (R : Reading) (k : ℕ) → reading_of c.file ≡ R → (1 ≤ k) × (k ≤ 22)
      → copied_by c.rule c.file R room ≡ Refused k → HostNumber k
  refused_is (game h place es) k r l q = refused-old h place es k r (is_new h) refl l q
  refused_is (no-game n) k r l q =
      inl (subst (λ (n : ℕ). (1 ≤ n) × (n ≤ 10)) (ap written_number q)
      (reading-refuses c.file c.bytes r))

  by_number : (k : ℕ) → answered ≡ Refused k → 1 ≤ k
      → (k ≤ 13) ⊎ ((k ≡ 16) ⊎ (((19 ≤ k) × (k ≤ 22)) ⊎ (k ≡ 26))) → HostNumber k
  by_number k q s (inl e) = refused_is (reading_of c.file) k refl (s, omega (arith, e)) q
  by_number k q s (inr (inl e)) = inr (inr (inl e))
  by_number k q s (inr (inr (inl e))) = inr (inr (inr (inl e)))
  by_number k q s (inr (inr (inr e))) = inr (inr (inr (inr (inl e))))

  number_of : (a : Written) → answered ≡ a → Sure room a → HostNumber (told_by a)
  number_of (Length n) e s = inr (inr (inr (inr (inr s.0))))
  number_of (Short n) e s = inr (inr (inr (inr (inr s.0))))
  number_of (Refused k) e s = by_number k e s.0 s.1

  module _ {cells entries : ℕ} (first : ReadsInto c.file cells entries) where
    read : reading_of c.file ≡ game first.header first.board first.events
    read = (fits c.bytes first).is

    game-answered : answered ≡ game_copied c.rule (game_from first) room
    game-answered = ap (λ (R : Reading). copied_by c.rule c.file R room) read

    left : c.copy' ≡ game_copy c.rule (game_from first) c.copy
    left = c.promised.copy_is ∙ ap (λ (R : Reading). copy_by c.rule c.file R c.copy) read

pub host_numbers : HostNumbers
host_numbers c = subst HostNumber (sym c.promised.answer_is) (number_of c (answered c) refl (sure c))

-- a board and a row that are just long enough
read_into : (file : List ℕ) (R : Reading) → reading_of file ≡ R → ((n : ℕ) → R ≡ no-game n → ⊥)
    → (cells : ℕ) × (entries : ℕ) × ReadsInto file cells entries
unfolding parse_of
read_into file (game h place es) e other =
    let cells_fit = le-leb (h.height * h.width) (h.height * h.width) (omega arith) in
    let events-fit = le-leb (length es) (length es) (omega arith) in (
      h.height * h.width,
      length es,
      record { header = h; board = place; events = es; reads = rw (e, cells_fit, events-fit) },
    )
read_into file (no-game n) e other = absurd (other n refl)

pub host_first_reading : HostFirstReading
host_first_reading c l =
    read_into c.file (reading_of c.file) refl
    (λ n e.
    let w = reading-refuses c.file c.bytes e in
    let q : c.answer ≡ n =
    c.promised.answer_is ∙ ap (λ (R : Reading). told_by (copied_by c.rule c.file R (room c))) e in
    omega (arith, l, w.1, q))

pub host_kept : HostKept
host_kept c above fit cells entries first =
    let a : answered c ≡ Length c.answer =
    (apart c.bytes c.below c.promised).1.0 above fit in
    subst (λ (l : List ℕ). ReadsInVersion4 (take c.answer l) cells entries (game_from first))
    (sym (left c first))
    (kept-game c.bytes first c.rule c.copy c.answer (sym (game-answered c first) ∙ a))

pub host_none-holds : HostNoneHolds
host_none-holds c late early cells entries first =
    let a : written_number (answered c) ≡ c.answer =
    ap written_number ((apart c.bytes c.below c.promised).0 (omega (arith, early))) in
    let n : written_number (game_copied c.rule (game_from first) (room c)) ≡ c.answer =
    ap written_number (sym (game-answered c first)) ∙ a in
    none-game c.bytes first c.rule (room c) (omega (arith, n, late)) (omega (arith, n, early))
