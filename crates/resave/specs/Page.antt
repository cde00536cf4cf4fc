-- RE-SAVING, ON A PAGE (02, notes 3 and 5): a file read and written again as version 4. Statements only; each
-- is proved under its own name in proofs/Page.antt.
--
-- What a reader has to know:
--   `Resaves`       what `resave` promises of its answer and its lent copy (specs/Resaved.antt)
--   `Parses`        what `parse` promises (evf_video/specs/Parsed.antt)
--   `Generates`     what the writers promise (generate_evf/specs/Written.antt)
--   `copied_by`, `copy_by`    what an upgrade answers and leaves in its copy (upgrade/specs/Copy.antt)
--   `ReadsBack`     a file of version 4 that reads as a game, its country in two-letter form: the comparison
--                   is `SameGame`, custom metrics among it (read_back/specs/Back.antt, game/specs/Same.antt)
--   `mouse_events`   the mouse events of a row, without its game states (read_back/specs/Saved.antt)
use Rattle.std.specs.Prelude.{ℕ, ◌≤◌, ◌<◌, ◌≡◌, ◌⊎◌, List, ℤ, length, take, true, false}
use Rattle.times.specs.Times.{is_rule, no_such_rule}
use Rattle.text.specs.declared.Place.{Place}
use Rattle.game.specs.declared.Header.{Header}
use Rattle.game.specs.declared.Event.{Event}
use Rattle.game.specs.Header.{block_at}
use Rattle.byte_reader.specs.Reading.{Bytes as AllBytes}
use Rattle.byte_writer.specs.Places.{most}
use Rattle.evf_video.specs.declared.Parsed.{Parsed}
use Rattle.evf_video.specs.declared.Outcome.TheVariants.{Read}
use Rattle.evf_video.specs.Reading.{game, reading_of, game_read}
use Rattle.evf_video.specs.Parsed.{Parses}
use Rattle.layout_fields.specs.Fields.{lent}
use Rattle.generate_evf.specs.declared.Written.{Written}
use Rattle.generate_evf.specs.declared.Written.TheVariants.{Bytes as Length}
use Rattle.generate_evf.specs.Written.{written_number, Generates}
use Rattle.read_back.specs.Saved.{mouse_events}
use Rattle.read_back.specs.Back.{ReadsBack}
use Rattle.upgrade.specs.Copy.{copied_by, copy_by, told_by, shortest_copy}
use Rattle.resave.specs.Resaved.{Resaves}

-- A call of `resave`: the lent file and copy, the rule, the answer, and what the copy holds then. No copy in
-- memory is as long as the largest usize, `most`.
pub record ResaveCall : Type 0 where
  pub file : List ℕ
  pub copy : List ℕ
  pub rule : ℕ
  pub answer : Written
  pub copy' : List ℕ
  pub bytes : AllBytes file
  pub below : length copy < most
  pub promised : Resaves file copy rule answer copy'

-- The game that its file reads as.
pub record Saved (c : ResaveCall) : Type 0 where
  pub header : Header
  pub board : Place
  pub events : List Event
  pub reads : reading_of c.file ≡ game header board events

-- Two calls beside it: `parse` reads the same file into any board and row, and the version 4 writer is lent
-- what that gave, of the row just the events read, a copy as the re-save's, and its rule.
pub record TwoCalls (c : ResaveCall) : Type 0 where
  pub board : List ℤ
  pub row : List Event
  pub parsed : Parsed
  pub board' : List ℤ
  pub row' : List Event
  pub parses : Parses c.file board row parsed board' row'
  pub read : parsed.outcome ≡ Read
  pub answer : Written
  pub copy' : List ℕ
  pub writes : Generates 4 (lent parsed.header c.file board' (take parsed.events row')) c.copy
      c.rule answer copy'

-- READ AND WRITTEN. The re-save answers and leaves what those two calls do.
abbrev pub AsTwoCalls : Type 0
AsTwoCalls = (c : ResaveCall) (t : TwoCalls c) → (c.answer ≡ t.answer) × (c.copy' ≡ t.copy')

-- VERSIONS 0 TO 3: answer and copy are those of the upgrade.
abbrev pub AsUpgrade : Type 0
AsUpgrade = (c : ResaveCall) (s : Saved c) → s.header.version < 4
    → (c.answer ≡ copied_by c.rule c.file (reading_of c.file) (length c.copy))
    × (c.copy' ≡ copy_by c.rule c.file (reading_of c.file) c.copy)

-- VERSION 4, by either rule: a length, 16 or 23, and no other answer; 25 above all is not among them.
abbrev pub OfVersion4 : Type 0
OfVersion4 = (c : ResaveCall) (s : Saved c) → s.header.version ≡ 4 → is_rule c.rule ≡ true
    → let n = written_number c.answer in (n ≡ 0) ⊎ ((n ≡ 16) ⊎ (n ≡ 23))

-- NO RULE: a file that is read, of any version, is answered with 26 where the rule is none.
abbrev pub Unruled : Type 0
Unruled = (c : ResaveCall) → Saved c → is_rule c.rule ≡ false → written_number c.answer ≡ no_such_rule

-- KEPT. Where the answer is a length n, the first n bytes of the copy read as the same game but for its game
-- states: count and bytes of the custom metrics among the rest.
abbrev pub Kept : Type 0
Kept = (c : ResaveCall) (n : ℕ) → c.answer ≡ Length n → (s : Saved c)
    → ReadsBack (take n c.copy') (game_read c.file s.header s.board (mouse_events s.events))

-- THE METRICS. Whatever those bytes read as has as many custom metrics, in a block of the same bytes.
abbrev pub MetricsKept : Type 0
MetricsKept = (c : ResaveCall) (n : ℕ) → c.answer ≡ Length n → (s : Saved c)
    → (h : Header) (board : Place) (es : List Event) → reading_of (take n c.copy') ≡ game h board es
    → (h.metrics_count ≡ s.header.metrics_count)
    × (block_at h (take n c.copy') ≡ block_at s.header c.file)

-- ONE NUMBER, for hosts: below `shortest_copy` it is the number of a refusal; up to the copy's length it is
-- the length that was written; above, the length that there was no room for.
abbrev pub ToldApart : Type 0
ToldApart = (c : ResaveCall) → let n = told_by c.answer in
    (n < shortest_copy → written_number c.answer ≡ n)
    × ((shortest_copy ≤ n → n ≤ length c.copy → c.answer ≡ Length n)
    × (shortest_copy ≤ n → length c.copy < n → written_number c.answer ≡ 23))
