-- NO FILE SHOWS A DIFFERENCE BETWEEN THE RULES, as specs/RulesAgree.antt states it: whole milliseconds come
-- back by both, and a reading has no others. Assumes nothing but that files are bytes.
--     rules_agree        of a game
--     same_under_both    of the upgrade, hosts_same of the one that hosts call
--     resaved_same       of the re-save, hosts_resaved_same of the one that hosts call
use Prim.Native.Nat.{ℕ}
use mathlib.Core.Path.{◌≡◌, refl, sym, ap, ◌∙◌}
use mathlib.Core.Bool.{cond}
use mathlib.Core.List.{List, ◌++◌}
use lib.Ieee.{Float}
use lib.ListN.{length}
use Rattle.text.specs.declared.Place.{Place}
use Rattle.times.specs.Times.{halves_away, halves_to_even, s_to_ms}
use Rattle.times.proofs.Seconds.{round_trip}
use Rattle.game.specs.declared.Event.{Event}
use Rattle.game.specs.declared.Header.{Header}
use Rattle.game.specs.Refusals.{already_version4}
use Rattle.game.specs.Same.{Game}
use Rattle.byte_reader.specs.Reading.{Bytes as AllBytes}
use Rattle.mouse_records.specs.Records.{nothing_yet}
use Rattle.evf_layout.specs.Layout.{front_of, tail_of, file_of}
use Rattle.evf_judging.specs.Refusals.{first_refusal, checks_under}
use Rattle.evf_video.specs.Reading.{Reading, game, none, reading_of, game_read}
use Rattle.evf_video.specs.Parsed.{parse_of}
use Rattle.evf_video.proofs.Buffers.{fitted}
use Rattle.generate_evf.specs.declared.Written.{Written}
use Rattle.generate_evf.specs.Written.{size_of, written_of, file_then, refused_with}
use Rattle.read_back.proofs.Readings.{read_plain}
use Rattle.upgrade.specs.Copy.{is_new, copied_by, copy_by, told_by}
use Rattle.resave.specs.Resaved.{resaved_by, resave_by}
use Rattle.rules_agree.specs.RulesAgree.{WholeMs, Agrees, RulesAgree, SameUnderBoth, HostsSame}
use Rattle.rules_agree.specs.RulesAgree.{ResavedSame, HostsResavedSame}
use Rattle.rules_agree.proofs.Rows.{SameMs, timed-same, bytes_same, start-same, event-same}

abbrev away : Float → ℕ
away = s_to_ms halves_away

abbrev even : Float → ℕ
even = s_to_ms halves_to_even

-- GAMES
module _ (version : ℕ) (g : Game) (whole : WholeMs g) where
  same : SameMs away even g.events
  same = timed-same away even (round_trip halves_away) (round_trip halves_to_even) g.events whole

  verdict-same : first_refusal (checks_under halves_away version g)
      ≡ first_refusal (checks_under halves_to_even version g)
  verdict-same =
      rw (start-same away even g.events same version, event-same away even g.events same version)

  file-same : file_of away version g ≡ file_of even version g
  file-same = ap (λ (l : List ℕ). front_of version g ++ (l ++ tail_of version g))
      (bytes_same away even g.events same version nothing_yet)

  agrees : Agrees version g
  unfolding size_of written_of file_then
  agrees = record {
    verdict = verdict-same;
    bytes = file-same;
    sized = rw (verdict-same, file-same);
    written = λ room. rw (verdict-same, file-same);
    left = λ file. rw (verdict-same, file-same);
  }

pub rules_agree : RulesAgree
rules_agree = agrees

-- FILES
module _ (file : List ℕ) (small : AllBytes file) where
  -- what is read stands at whole milliseconds
  module _ (h : Header) (place : Place) (es : List Event) (reads : reading_of file ≡ game h place es) where
    of-game : Agrees 4 (game_read file h place es)
    of-game = rules_agree 4 (game_read file h place es) (read_plain file small reads).timed

  -- a reading that is the file's, or a refusal
  abbrev Of : Reading → Type 0
  Of R = (h : Header) (place : Place) (es : List Event) → R ≡ game h place es
      → reading_of file ≡ game h place es

  copied-same : (R : Reading) → Of R → (room : ℕ)
      → copied_by halves_away file R room ≡ copied_by halves_to_even file R room
  copied-same (game h place es) o room =
      ap (λ (w : Written). cond (is_new h) (refused_with already_version4) w)
      ((of-game h place es (o h place es refl)).written room)
  copied-same (none n) o room = refl

  copy-same : (R : Reading) → Of R → (copy : List ℕ)
      → copy_by halves_away file R copy ≡ copy_by halves_to_even file R copy
  copy-same (game h place es) o copy =
      ap (λ (l : List ℕ). cond (is_new h) copy l) ((of-game h place es (o h place es refl)).left copy)
  copy-same (none n) o copy = refl

  resaved-by : (R : Reading) → Of R → (room : ℕ)
      → resaved_by halves_away file R room ≡ resaved_by halves_to_even file R room
  resaved-by (game h place es) o room = (of-game h place es (o h place es refl)).written room
  resaved-by (none n) o room = refl

  resave-by : (R : Reading) → Of R → (copy : List ℕ)
      → resave_by halves_away file R copy ≡ resave_by halves_to_even file R copy
  resave-by (game h place es) o copy = (of-game h place es (o h place es refl)).left copy
  resave-by (none n) o copy = refl

  itself : Of (reading_of file)
  itself h place es e = e

  into : (cells entries : ℕ) → Of (parse_of file cells entries)
  unfolding parse_of
  into cells entries h place es e = (fitted cells entries h place es (reading_of file) e).is

pub same_under_both : SameUnderBoth
same_under_both file board row copy small _ _ _ _ _ _ _ _ c d =
    let R = parse_of file (length board) (length row) in
    let o = into file small (length board) (length row) in (
      c.answer_is ∙ copied-same file small R o (length copy) ∙ sym d.answer_is,
      c.board_is ∙ sym d.board_is,
      c.row_is ∙ sym d.row_is,
      c.copy_is ∙ copy-same file small R o copy ∙ sym d.copy_is,
    )

pub hosts_same : HostsSame
hosts_same file copy small _ _ _ _ c d =
    let R = reading_of file in
    let o = itself file small in (
      c.answer_is ∙ ap told_by (copied-same file small R o (length copy)) ∙ sym d.answer_is,
      c.copy_is ∙ copy-same file small R o copy ∙ sym d.copy_is,
    )

pub resaved_same : ResavedSame
resaved_same file copy small _ _ _ _ c d =
    let R = reading_of file in
    let o = itself file small in (
      c.answer_is ∙ resaved-by file small R o (length copy) ∙ sym d.answer_is,
      c.copy_is ∙ resave-by file small R o copy ∙ sym d.copy_is,
    )

pub hosts_resaved_same : HostsResavedSame
hosts_resaved_same file copy small _ _ _ _ c d =
    let R = reading_of file in
    let o = itself file small in (
      c.answer_is ∙ ap told_by (resaved-by file small R o (length copy)) ∙ sym d.answer_is,
      c.copy_is ∙ resave-by file small R o copy ∙ sym d.copy_is,
    )
