-- DEMAND 3 OF `upgrade`, PROVED. The statements stand on one page, in specs/Demand3.antt. Assumes nothing but
-- that files are bytes.
--     first_reading    a length, or a number from 13 on, is the answer to a file that reads as a game
--     kept             the copy of an accepted game reads as that game
--     none-holds       a game that is refused with 19 to 22 has no file of version 4
use Prim.Native.Nat.{ℕ, ◌≤◌, ◌<◌}
use mathlib.Core.Path.{◌≡◌, refl, sym, ap, subst, ◌∙◌}
use mathlib.Core.Bool.{Bool, true, false, cond}
use mathlib.Core.Logic.{◌⊎◌, inl, inr}
use mathlib.Core.List.{List}
use native.Mathlib.Omega.{arith}
use lib.Dec.{leb}
use lib.ListN.{length, take}
use Rattle.times.specs.Times.{s_to_ms}
use Rattle.game.specs.Refusals.{already_version4}
use Rattle.game.specs.Same.{Game}
use Rattle.game.proofs.Same.{same_sym}
use Rattle.byte_reader.specs.Reading.{Bytes as AllBytes}
use Rattle.evf_video.specs.Reading.{Reading, game, none as no-game, reading_of, game_read}
use Rattle.evf_video.specs.Parsed.{parse_of}
use Rattle.evf_video.proofs.Buffers.{Fitted, fitted}
use Rattle.evf_video.proofs.Answers.{parse-refuses}
use Rattle.byte_writer.specs.Places.{capped}
use Rattle.evf_layout.specs.Layout.{file_of}
use Rattle.evf_judging.specs.declared.Verdict.{Verdict}
use Rattle.evf_judging.specs.declared.Verdict.TheVariants.{Fine, Refused as Bad}
use Rattle.evf_judging.specs.Refusals.{first_refusal, checks, checks_under}
use Rattle.generate_evf.proofs.Ruled.{ruled-refused}
use Rattle.generate_evf.specs.declared.Written.{Written}
use Rattle.generate_evf.specs.declared.Written.TheVariants.{Bytes as Length, Short}
use Rattle.generate_evf.specs.Written.{written_by, written_of, written_number}
use Rattle.read_back.specs.Back.{ReadsBack}
use Rattle.read_back.proofs.Accepted.{wrote, into-buffers}
use Rattle.read_back.proofs.Upgraded as core
use Rattle.upgrade.specs.Copy.{is_new, game_copied, game_copy, copied_by, copy_by}
use Rattle.upgrade.proofs.Numbers.{older}
use Rattle.demand3.specs.Demand3.{ReadsInto, game_from, ReadsInVersion4, NoFileInVersion4, UpgradeCall}
use Rattle.demand3.specs.Demand3.{First, FirstReading, Kept, NoneHolds}

-- a writer refuses what the checks refuse
module _ (rule n : ℕ) (some : 1 ≤ n) (most : n ≤ 22) where
  by-room : (b : Bool) (l m : ℕ) → written_number (cond b (Length l) (Short m)) ≡ n → ⊥
  by-room true l m q = omega (arith, q, some)
  by-room false l m q = omega (arith, q, most)

  by-verdict : (v : Verdict) (l room : ℕ) → written_number (written_by v l room) ≡ n → v ≡ Bad n
  by-verdict Fine l room q = absurd (by-room (leb l room) l (capped l) q)
  by-verdict (Bad k) l room q = ap Bad q

  pub refused-by : (g : Game) (room : ℕ) → written_number (written_of rule 4 g room) ≡ n
      → first_refusal (checks (s_to_ms rule) 4 g) ≡ Bad n
  unfolding written_of
  refused-by g room e =
      elim (ruled-refused rule (checks (s_to_ms rule) 4 g)
      (by-verdict (first_refusal (checks_under rule 4 g)) (length (file_of (s_to_ms rule) 4 g)) room e)) [
        | inl q ↦ absurd (omega (arith, q, most))
        | inr q ↦ q
      ]

-- THE GAME OF A FILE

-- an accepted game's copy: nothing was refused, and its first bytes are the file of version 4
pub record Accepted (rule : ℕ) (g : Game) (copy : List ℕ) (n : ℕ) : Type 0 where
  pub fine : first_refusal (checks (s_to_ms rule) 4 g) ≡ Fine
  pub old : g.header.version < 4
  pub long : n ≡ length (file_of (s_to_ms rule) 4 g)
  pub bytes : take n (game_copy rule g copy) ≡ file_of (s_to_ms rule) 4 g

module _ {file : List ℕ} (small : AllBytes file) {cells entries : ℕ}
    (first : ReadsInto file cells entries) where
  abbrev g : Game
  g = game_from first

  pub fits : Fitted (reading_of file) cells entries first.header first.board first.events
  unfolding parse_of
  fits = fitted cells entries first.header first.board first.events (reading_of file) first.reads

  -- answered anything but 13 it is not of version 4, and goes the way of the version 4 writer
  module _ (rule room : ℕ) (other : written_number (game_copied rule g room) ≡ already_version4 → ⊥) where
    by_version : (t : Bool) → is_new first.header ≡ t → is_new first.header ≡ false
    by_version true e = absurd (other (rw e))
    by_version false e = e

    pub not_new : is_new first.header ≡ false
    not_new = by_version (is_new first.header) refl

    pub earlier : first.header.version < 4
    earlier = older file small fits.is not_new

    pub written : game_copied rule g room ≡ written_of rule 4 g room
    written = rw not_new

  pub accepted : (rule : ℕ) (copy : List ℕ) (n : ℕ) → game_copied rule g (length copy) ≡ Length n
      → Accepted rule g copy n
  accepted rule copy n e =
      let room = length copy in
      let other : written_number (game_copied rule g room) ≡ already_version4
      → ⊥ = λ q. let z : ◌≡◌ {A = ℕ} 0 13 = ap written_number (sym e) ∙ q in omega (arith, z) in
      let w = wrote rule 4 g copy (sym (written rule room other) ∙ e) in
      record {
        fine = w.fine;
        old = earlier rule room other;
        long = w.long;
        bytes = rw (not_new rule room other) w.first;
      }

  pub kept-game : (rule : ℕ) (copy : List ℕ) (n : ℕ) → game_copied rule g (length copy) ≡ Length n
      → ReadsInVersion4 (take n (game_copy rule g copy)) cells entries g
  kept-game rule copy n e =
      let a = accepted rule copy n e in
      let new = take n (game_copy rule g copy) in
      let back : ReadsBack new g =
      subst (λ (l : List ℕ). ReadsBack l g) (sym a.bytes)
      (core.kept file small fits.is a.old rule a.fine) in
      record {
        reading = record {
          header = back.header;
          board = back.board;
          events = back.events;
          reads = into-buffers new g back cells entries fits.board_fits fits.row_fits;
        };
        version = back.version;
        same = same_sym (game_read new back.header back.board back.events) g back.same;
        country = back.country;
      }

  -- refused
  pub none-game : (rule room : ℕ) → 19 ≤ written_number (game_copied rule g room)
      → written_number (game_copied rule g room) ≤ 22 → NoFileInVersion4 g
  unfolding parse_of
  none-game rule room late early any cells' entries' small' r version same =
      let other : written_number (game_copied rule g room) ≡ already_version4
      → ⊥ = λ q. omega (arith, q, late) in
      let bad = refused-by rule (written_number (game_copied rule g room)) (omega (arith, late)) early g room
      (ap written_number (sym (written rule room other))) in
      core.lost file small fits.is (earlier rule room other) rule bad late any small'
      (fitted cells' entries' r.header r.board r.events (reading_of any) r.reads).is version
      (same_sym _ _ same)

-- WHAT IS ANSWERED 0, OR 13 AND MORE, IS A GAME
pub is_game : {file : List ℕ} (cells entries : ℕ) (R : Reading) → parse_of file cells entries ≡ R
    → ((n : ℕ) → R ≡ no-game n → (1 ≤ n) × (n ≤ 12)) → (rule room : ℕ)
    → (written_number (copied_by rule file R room) ≡ 0) ⊎ (13 ≤ written_number (copied_by rule file R room))
    → ReadsInto file cells entries
is_game cells entries (game h place es) e refuses rule room l =
    record { header = h; board = place; events = es; reads = e }
is_game cells entries (no-game n) e refuses rule room (inl l) = let w = refuses n refl in
    absurd (omega (arith, w.0, l))
is_game cells entries (no-game n) e refuses rule room (inr l) = let w = refuses n refl in
    absurd (omega (arith, w.1, l))

-- THE STATEMENTS
pub first_reading : FirstReading
first_reading c l =
    let cells = length c.board in
    let entries = length c.row in
    is_game cells entries (parse_of c.file cells entries) refl
    (λ n e. parse-refuses c.file c.bytes cells entries e) c.rule (length c.copy)
    (subst (λ (a : Written). (written_number a ≡ 0) ⊎ (13 ≤ written_number a)) c.promised.answer_is l)

-- what a call whose file reads as a game answered and left
module _ (c : UpgradeCall) (first : First c) where
  pub answered : c.answer ≡ game_copied c.rule (game_from first) (length c.copy)
  answered = c.promised.answer_is ∙ ap (λ (R : Reading). copied_by c.rule c.file R (length c.copy))
      first.reads

  pub left : c.copy' ≡ game_copy c.rule (game_from first) c.copy
  left = c.promised.copy_is ∙ ap (λ (R : Reading). copy_by c.rule c.file R c.copy) first.reads

pub kept : Kept
kept c n e first =
    subst (λ (l : List ℕ). ReadsInVersion4 (take n l) (length c.board) (length c.row) (game_from first))
    (sym (left c first))
    (kept-game c.bytes first c.rule c.copy n (sym (answered c first) ∙ e))

pub none-holds : NoneHolds
none-holds c late early first =
    let q = ap written_number (answered c first) in
    none-game c.bytes first c.rule (length c.copy) (omega (arith, q, late)) (omega (arith, q, early))
