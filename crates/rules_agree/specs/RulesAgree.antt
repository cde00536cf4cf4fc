-- NO FILE SHOWS A DIFFERENCE BETWEEN THE RULES (02, note 5). Statements only; each is proved under its own
-- name in proofs/RulesAgree.antt.
--     RulesAgree       a game whose mouse events stand at whole milliseconds is judged, sized and written the
--                      same by both rules
--     SameUnderBoth    so it is with the upgrade of every file of bytes, for its answer and its three buffers
--     HostsSame        with the upgrade that hosts call
--     ResavedSame      with the re-save, HostsResavedSame and with the one that hosts call
-- Off whole milliseconds the rules do differ: `marked` has 0.0625 s, which is 63 ms by 1 and 62 by 2.
use Rattle.std.specs.Prelude.{ℕ, ◌≡◌, List, ℤ}
use Rattle.times.specs.Times.{halves_away, halves_to_even, s_to_ms}
use Rattle.game.specs.declared.Event.{Event}
use Rattle.game.specs.Same.{Game}
use Rattle.byte_reader.specs.Reading.{Bytes as AllBytes}
use Rattle.evf_layout.specs.Layout.{file_of}
use Rattle.evf_judging.specs.Refusals.{first_refusal, checks_under}
use Rattle.generate_evf.specs.declared.Written.{Written}
use Rattle.generate_evf.specs.Written.{size_of, written_of, file_then}
use Rattle.read_back.specs.Saved.{mouse_events, Timed}
use Rattle.upgrade.specs.Copy.{Upgrades, Copies}
use Rattle.resave.specs.Resaved.{Resaves, ResavesTold}

-- GAMES

-- the seconds of every mouse event are those of a whole number of milliseconds
abbrev pub WholeMs : Game → Type 0
WholeMs g = Timed (mouse_events g.events)

-- the verdict on a game in a version is the same by both rules, and so are the bytes of its file; and with
-- them what sizing and the writers answer, and what these leave in the file that they are lent
pub record Agrees (version : ℕ) (g : Game) : Type 0 where
  pub verdict : first_refusal (checks_under halves_away version g)
      ≡ first_refusal (checks_under halves_to_even version g)
  pub bytes : file_of (s_to_ms halves_away) version g ≡ file_of (s_to_ms halves_to_even) version g
  pub sized : size_of halves_away version g ≡ size_of halves_to_even version g
  pub written : (room : ℕ) → written_of halves_away version g room ≡ written_of halves_to_even version g room
  pub left : (file : List ℕ) → file_then halves_away version g file ≡ file_then halves_to_even version g file

abbrev pub RulesAgree : Type 0
RulesAgree = (version : ℕ) (g : Game) → WholeMs g → Agrees version g

-- FILES

-- two calls of `upgrade` that differ in the rule alone
abbrev pub SameUnderBoth : Type 0
SameUnderBoth = (file : List ℕ) (board : List ℤ) (row : List Event) (copy : List ℕ) → AllBytes file
    → (answer₁ answer₂ : Written) (board₁ board₂ : List ℤ) (row₁ row₂ : List Event) (copy₁ copy₂ : List ℕ)
    → Upgrades file board row copy halves_away answer₁ board₁ row₁ copy₁
    → Upgrades file board row copy halves_to_even answer₂ board₂ row₂ copy₂
    → (answer₁ ≡ answer₂) × (board₁ ≡ board₂) × (row₁ ≡ row₂) × (copy₁ ≡ copy₂)

-- two calls of `evf_upgrade`
abbrev pub HostsSame : Type 0
HostsSame = (file copy : List ℕ) → AllBytes file → (answer₁ answer₂ : ℕ) (copy₁ copy₂ : List ℕ)
    → Copies file copy halves_away answer₁ copy₁ → Copies file copy halves_to_even answer₂ copy₂
    → (answer₁ ≡ answer₂) × (copy₁ ≡ copy₂)

-- two calls of `resave`
abbrev pub ResavedSame : Type 0
ResavedSame = (file copy : List ℕ) → AllBytes file → (answer₁ answer₂ : Written) (copy₁ copy₂ : List ℕ)
    → Resaves file copy halves_away answer₁ copy₁ → Resaves file copy halves_to_even answer₂ copy₂
    → (answer₁ ≡ answer₂) × (copy₁ ≡ copy₂)

-- two calls of `evf_resave`
abbrev pub HostsResavedSame : Type 0
HostsResavedSame = (file copy : List ℕ) → AllBytes file → (answer₁ answer₂ : ℕ) (copy₁ copy₂ : List ℕ)
    → ResavesTold file copy halves_away answer₁ copy₁ → ResavesTold file copy halves_to_even answer₂ copy₂
    → (answer₁ ≡ answer₂) × (copy₁ ≡ copy₂)
