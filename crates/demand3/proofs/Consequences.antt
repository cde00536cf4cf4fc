-- WHAT THE PROMISES OF THE UPGRADES COME TO. Assumes nothing but that files are bytes and that a lent copy is
-- no longer than the largest usize.
--     file_alone    the bytes written depend on the file alone: two calls by one rule that answer a length,
--                   with any buffers, leave the same first bytes (two rules: crate rules_agree)
--     as_sized      length and refusals of a game not of version 4 are those that sizing tells
--     twice         a copy, into a board and row as long as the first, is refused a second upgrade with 13
--     without       `evf_upgrade` answers and writes what `upgrade` does, where board and row are long enough
-- Which numbers `upgrade` answers, and that the one number of `evf_upgrade` tells refusal, length and missing
-- room apart, is proved in upgrade/proofs/Numbers.antt.
use Prim.Native.Nat.{ℕ, ◌≤◌}
use mathlib.Core.Path.{◌≡◌, sym, ap, ◌∙◌}
use mathlib.Core.Logic.{inl}
use mathlib.Core.List.{List, []}
use lib.ListN.{length, take}
use Rattle.times.specs.Times.{s_to_ms}
use Rattle.game.specs.Refusals.{already_version4}
use Rattle.game.specs.Same.{Game}
use Rattle.byte_writer.specs.Places.{most}
use Rattle.evf_video.specs.Reading.{Reading, game, none, reading_of, game_read}
use Rattle.evf_video.specs.Parsed.{parse_of}
use Rattle.evf_layout.specs.Layout.{file_of}
use Rattle.generate_evf.specs.declared.Written.TheVariants.{Bytes as Length}
use Rattle.generate_evf.specs.Written.{size_of, size_in, written_number}
use Rattle.generate_evf.proofs.Agree.{agree}
use Rattle.upgrade.specs.Copy.{copied_by, copy_by, told_by}
use Rattle.demand3.specs.Demand3.{game_from, ReadsInVersion4, UpgradeCall, First, HostCall}
use Rattle.demand3.proofs.Demand3.{Accepted, accepted, fits, written, first_reading, answered, left}

-- THE FILE ALONE

-- the copy of a reading
abbrev copy_of : (rule : ℕ) → List ℕ → Reading → List ℕ
copy_of rule file (game h place es) = file_of (s_to_ms rule) 4 (game_read file h place es)
copy_of rule file (none n) = []

-- an answer that is a length
copied_is : (c : UpgradeCall) (n : ℕ) → c.answer ≡ Length n
    → (n ≡ length (copy_of c.rule c.file (reading_of c.file)))
    × (take n c.copy' ≡ copy_of c.rule c.file (reading_of c.file))
copied_is c n e =
    let first = first_reading c (inl (ap written_number e)) in
    let a : Accepted c.rule (game_from first) c.copy n =
    accepted c.bytes first c.rule c.copy n (sym (answered c first) ∙ e) in
    let q : file_of (s_to_ms c.rule) 4 (game_from first) ≡ copy_of c.rule c.file (reading_of c.file) =
    ap (copy_of c.rule c.file) (sym (fits c.bytes first).is) in
    (a.long ∙ ap length q, ap (take n) (left c first) ∙ a.bytes ∙ q)

pub file_alone : (c d : UpgradeCall) (n m : ℕ) → c.answer ≡ Length n → d.answer ≡ Length m
    → d.file ≡ c.file → d.rule ≡ c.rule → (n ≡ m) × (take n c.copy' ≡ take m d.copy')
file_alone c d n m e f same ruled =
    let a = copied_is c n e in
    let b = copied_is d m f in
    let q : copy_of c.rule c.file (reading_of c.file) ≡ copy_of d.rule d.file (reading_of
    d.file) =
    ap (λ (l : List ℕ). copy_of c.rule l (reading_of l)) (sym same)
    ∙ ap (λ (r : ℕ). copy_of r d.file (reading_of d.file)) (sym ruled) in
    (a.0 ∙ ap length q ∙ sym b.0, a.1 ∙ q ∙ sym b.1)

-- SIZING
pub as_sized : (c : UpgradeCall) (first : First c) → (written_number c.answer ≡ already_version4 → ⊥)
    → length c.copy ≤ most
    → size_of c.rule 4 (game_from first) ≡ size_in c.answer
as_sized c first other l =
    let room = length c.copy in
    let way = written c.bytes first c.rule room (λ q. other (ap written_number (answered c first)
    ∙ q)) in
    agree c.rule 4 (game_from first) room l ∙ sym (ap size_in (answered c first ∙ way))

-- TWICE
pub twice : (copy : List ℕ) (cells entries : ℕ) (g : Game) → ReadsInVersion4 copy cells entries g
    → (c : UpgradeCall) → c.file ≡ copy → length c.board ≡ cells → length c.row ≡ entries
    → written_number c.answer ≡ already_version4
twice copy cells entries g r c f a b =
    ap written_number c.promised.answer_is ∙ rw (f, a, b, r.reading.reads, r.version)

-- WITHOUT BOARD AND ROW
pub without : (c : UpgradeCall) (first : First c) (d : HostCall) → d.file ≡ c.file → d.copy ≡ c.copy
    → d.rule ≡ c.rule
    → (d.answer ≡ told_by c.answer) × (d.copy' ≡ c.copy')
without c first d f k u =
    let same : reading_of c.file ≡ parse_of c.file (length c.board) (length c.row) =
    (fits c.bytes first).is ∙ sym first.reads in (
      d.promised.answer_is
          ∙ rw (f, k, u)
          (ap (λ (R : Reading). told_by (copied_by c.rule c.file R (length c.copy))) same
          ∙ sym (ap told_by c.promised.answer_is)),
      d.promised.copy_is
          ∙ rw (f, k, u)
          (ap (λ (R : Reading). copy_by c.rule c.file R c.copy) same ∙ sym c.promised.copy_is),
    )
