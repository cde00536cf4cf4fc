-- What the private functions promise: a game whose events are given, answered and written. Definitions only.
use Rattle.std.specs.Prelude.{ℕ, ◌≡◌, List, ℤ, length}
use Rattle.text.specs.declared.Place.{Place}
use Rattle.game.specs.declared.Header.{Header}
use Rattle.game.specs.declared.Event.{Event}
use Rattle.evf_video.specs.Reading.{game}
use Rattle.layout_fields.specs.Fields.{lent}
use Rattle.generate_evf.specs.declared.Written.{Written}
use Rattle.generate_evf.specs.Written.{written_of, file_then}
use Rattle.resave.specs.Resaved.{resaved_by, resave_by}

-- its board lent
pub record SavesLent (file : List ℕ) (h : Header) (board : List ℤ) (es : List Event) (copy : List ℕ)
    (rule : ℕ) (answer : Written) (copy' : List ℕ) : Type 0 where
  pub answer_is : answer ≡ written_of rule 4 (lent h file board es) (length copy)
  pub copy_is : copy' ≡ file_then rule 4 (lent h file board es) copy

-- its board packed at a place in the file
pub record SavesPacked (file : List ℕ) (h : Header) (place : Place) (es : List Event) (copy : List ℕ)
    (rule : ℕ) (answer : Written) (copy' : List ℕ) : Type 0 where
  pub answer_is : answer ≡ resaved_by rule file (game h place es) (length copy)
  pub copy_is : copy' ≡ resave_by rule file (game h place es) copy
