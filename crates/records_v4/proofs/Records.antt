-- What each record of version 4 is, by the bytes at its place. Assumes nothing.
--     first-.., later-..       the record where its bytes say so
--     first_found, mouse-found, ..   the record as the code found it
--     told_first, told-later   what it is once its case is known
use Prim.Native.Nat.{ℕ, ◌+◌, ◌≤◌, ◌<◌}
use mathlib.Core.Path.{◌≡◌, sym, ap, subst, ◌∙◌}
use mathlib.Core.Bool.{Bool, true, false, cond}
use mathlib.Core.Logic.{◌≢◌}
use mathlib.Core.List.{List}
use native.Mathlib.Omega.{arith}
use lib.ListN.{length, get_or}
use lib.Dec.{leb}
use borrow.Author.Tests.{eq-eqb, ne_eqb, le-leb, lt-leb}
use Rattle.game.specs.declared.MouseKind.{MouseKind}
use Rattle.game.specs.declared.GameState.{GameState}
use Rattle.std.specs.Prelude.{Some, None}
use Rattle.game.specs.Kinds.{kind_of, begins, state_of}
use Rattle.game.specs.Refusals.{file_ends, first_code_unknown, code_unknown}
use Rattle.byte_reader.specs.Reading.{ok, no, pure, refuse}
use Rattle.record_fields.specs.Fields.{field, mouse as says}
use Rattle.record_fields.proofs.Fixed.{Fixed, number_fixed, pure_fixed, then_fixed, coded, uncoded}
use Rattle.record_fields.proofs.Fixed.{mouse_fixed, mouse-gives}
use Rattle.records_v4.specs.declared.FirstRecord.{FirstRecord}
use Rattle.records_v4.specs.declared.FirstRecord.TheVariants.{Mouse as First}
use Rattle.records_v4.specs.declared.LaterRecord.{LaterRecord}
use Rattle.records_v4.specs.declared.LaterRecord.TheVariants.{Mouse, State, Pause}
use Rattle.records_v4.specs.Records.{is_first, first_body, first_record, moves, becomes, stops, skips}
use Rattle.records_v4.specs.Records.{pauses, event, move_body, pause_body, unnamed, state_body, later_body}
use Rattle.records_v4.specs.Records.{later_record}
use Rattle.records_v4.specs.Tells.{Stands, FirstMeaning, LaterMeaning, TellsFirst, TellsLater}
use Rattle.records_v4.proofs.Codes.{named, not_named}

-- what stands behind a code
move_fixed : (kind : MouseKind)
    → Fixed 5 (move_body kind)
    (λ file at. event (field 1 file at) (moves kind (field 2 file (at + 1)) (field 2 file (at + 1 + 2))))
unfolding move_body
move_fixed kind = then_fixed (number_fixed 1)
    (λ wait. then_fixed (number_fixed 2)
    (λ dx. then_fixed (number_fixed 2) (λ dy. pure_fixed (event wait (moves kind dx dy)))))

pause_fixed : Fixed 2 pause_body (λ file at. pauses (field 2 file at))
unfolding pause_body
pause_fixed = then_fixed (number_fixed 2) (λ ms. pure_fixed (pauses ms))

state_fixed : (state : GameState)
    → Fixed 1 (state_body (Some state)) (λ file at. event (field 1 file at) (becomes state))
unfolding state_body
state_fixed state = then_fixed (number_fixed 1) (λ wait. pure_fixed (event wait (becomes state)))

module _ (file : List ℕ) (at : ℕ) where
  -- THE FIRST OF VERSION 4
  pub first-end : length file ≤ at → first_record file at ≡ no file_ends
  unfolding first_record
  first-end h = uncoded first_body file at h

  module _ (here : at < length file) where
    first_code : first_record file at ≡ first_body (get_or file at 0) file (at + 1)
    unfolding first_record
    first_code = coded first_body file at here

    pub first-unknown : is_first (get_or file at 0) ≡ false → first_record file at ≡ no first_code_unknown
    unfolding refuse
    first-unknown c = first_code ∙ rw c

    module _ (c : is_first (get_or file at 0) ≡ true) where
      pub first-mouse : at + 6 ≤ length file → first_record file at ≡
          ok (says (kind_of (get_or file at 0)) (field 1 file (at + 1)) (field 2 file (at + 2))
          (field 2 file (at + 4))) (at + 6)
      first-mouse h = first_code ∙ rw c (mouse-gives file at 1 (kind_of (get_or file at 0)) h)

      pub first-cut : length file < at + 6 → first_record file at ≡ no file_ends
      first-cut h = first_code
          ∙ rw c ((mouse_fixed 1 (kind_of (get_or file at 0))).cut file (at + 1) (omega arith) (omega arith))

  -- THE OTHERS OF VERSION 4
  pub later-end : length file ≤ at → later_record file at ≡ no file_ends
  unfolding later_record
  later-end h = uncoded later_body file at h

  module _ (here : at < length file) where
    later-code : later_record file at ≡ later_body (get_or file at 0) file (at + 1)
    unfolding later_record
    later-code = coded later_body file at here

    pub later-stop : get_or file at 0 ≡ 0 → Stands file at stops 1
    unfolding pure
    later-stop c = record { is = later-code ∙ rw (eq-eqb (get_or file at 0) 0 c); inside = omega arith }

    module _ (c : get_or file at 0 ≢ 0) where
      module _ (d : get_or file at 0 ≤ 12) where
        later-move : later_record file at ≡ move_body (kind_of (get_or file at 0)) file (at + 1)
        later-move = later-code ∙ rw (ne_eqb (get_or file at 0) 0 c, le-leb (get_or file at 0) 12 d)

        pub later-mouse : at + 6 ≤ length file
            → Stands file at
            (event (field 1 file (at + 1))
            (moves (kind_of (get_or file at 0)) (field 2 file (at + 2)) (field 2 file (at + 4)))) 6
        later-mouse h =
            let x : at + 1 + 1 ≡ at + 2 = omega arith in
            let y : at + 2 + 2 ≡ at + 4 = omega arith in
            let e : at + 1 + 5 ≡ at + 6 = omega arith in
            record {
              is = later-move ∙ (move_fixed (kind_of (get_or file at 0))).gives file (at + 1) (omega arith)
                  ∙ rw (x, y, e);
              inside = h;
            }

        pub later-mouse-cut : length file < at + 6 → later_record file at ≡ no file_ends
        later-mouse-cut h =
            later-move ∙ (move_fixed (kind_of (get_or file at 0))).cut file (at + 1) (omega arith) (omega arith)

      module _ (d : 12 < get_or file at 0) where
        module _ (p : get_or file at 0 ≡ 255) where
          later-255 : later_record file at ≡ pause_body file (at + 1)
          later-255 =
              later-code
              ∙ rw (ne_eqb (get_or file at 0) 0 c, lt-leb (get_or file at 0) 12 d, eq-eqb (get_or file at 0) 255 p)

          pub later-pause : at + 3 ≤ length file → Stands file at (pauses (field 2 file (at + 1))) 3
          later-pause h =
              let e : at + 1 + 2 ≡ at + 3 = omega arith in
              record { is = later-255 ∙ pause_fixed.gives file (at + 1) (omega arith) ∙ rw e; inside = h }

          pub later-pause-cut : length file < at + 3 → later_record file at ≡ no file_ends
          later-pause-cut h = later-255 ∙ pause_fixed.cut file (at + 1) (omega arith) (omega arith)

        module _ (p : get_or file at 0 ≢ 255) where
          past-255 : later_record file at ≡ cond (leb 100 (get_or file at 0)) (pure skips)
              (cond (unnamed (get_or file at 0)) (refuse code_unknown) (state_body (state_of (get_or file at 0))))
              file (at + 1)
          past-255 = later-code
              ∙ rw (ne_eqb (get_or file at 0) 0 c, lt-leb (get_or file at 0) 12 d, ne_eqb (get_or file at 0) 255 p)

          pub later-skip : 100 ≤ get_or file at 0 → Stands file at skips 1
          unfolding pure
          later-skip s = record { is = past-255 ∙ rw (le-leb 100 (get_or file at 0) s); inside = omega arith }

          module _ (s : get_or file at 0 < 100) where
            past-skips : later_record file at ≡ cond (unnamed (get_or file at 0)) (refuse code_unknown)
                (state_body (state_of (get_or file at 0))) file (at + 1)
            past-skips = past-255 ∙ rw (lt-leb 100 (get_or file at 0) s)

            pub later-unnamed : unnamed (get_or file at 0) ≡ true → later_record file at ≡ no code_unknown
            unfolding refuse
            later-unnamed u = past-skips ∙ rw u

            pub later-unknown : state_of (get_or file at 0) ≡ None → later_record file at ≡ no code_unknown
            later-unknown e = later-unnamed (not_named (get_or file at 0) d s e)

            module _ (state : GameState) (e : state_of (get_or file at 0) ≡ Some state) where
              later-state-code : later_record file at ≡ state_body (Some state) file (at + 1)
              later-state-code = past-skips ∙ rw (named (get_or file at 0) d s state e, e)

              pub later-state : at + 2 ≤ length file
                  → Stands file at (event (field 1 file (at + 1)) (becomes state)) 2
              later-state h =
                  let x : at + 1 + 1 ≡ at + 2 = omega arith in
                  record {
                    is = later-state-code ∙ (state_fixed state).gives file (at + 1) (omega arith)
                        ∙ rw x;
                    inside = h;
                  }

              pub later-state-cut : length file < at + 2 → later_record file at ≡ no file_ends
              later-state-cut h =
                  later-state-code ∙ (state_fixed state).cut file (at + 1) (omega arith) (omega arith)

-- AS THE CODE FOUND IT
-- whether version 4 may begin with a code, by the kind that the code has
pub first_code_is : (code : ℕ) {kind : MouseKind} {b t : Bool} → kind ≡ kind_of code → b ≡ begins kind → b ≡ t
    → is_first code ≡ t
unfolding is_first
first_code_is code ek eb et = sym (ap begins ek) ∙ sym eb ∙ et

module _ {file : List ℕ} {at : ℕ} where
  pub first_found : {kind kind' : MouseKind} {ms ms' x x' y y' : ℕ}
      → first_record file at ≡ ok (says kind ms x y) (at + 6)
      → kind' ≡ kind → ms' ≡ ms → x' ≡ x → y' ≡ y → at + 6 ≤ length file → ms' < 256
      → TellsFirst file at (First kind' (record { 0 = ms' }) x' y')
  first_found e ek em ex ey i h = record { means = (record { is = e ∙ rw (ek, em, ex, ey); inside = i }, h) }

  pub mouse-found : {kind kind' : MouseKind} {wait wait' dx dx' dy dy' : ℕ}
      → Stands file at (event wait (moves kind dx dy)) 6
      → kind' ≡ kind → wait' ≡ wait → dx' ≡ dx → dy' ≡ dy → TellsLater file at (Mouse kind' wait' dx' dy')
  mouse-found s ek ew ex ey = record { means = rw (ek, ew, ex, ey) s }

  pub state-found : {state : GameState} {wait wait' : ℕ} → Stands file at (event wait (becomes state)) 2
      → wait' ≡ wait → TellsLater file at (State state wait')
  state-found s ew = record { means = rw ew s }

  pub pause-found : {ms ms' : ℕ} → Stands file at (pauses ms) 3 → ms' ≡ ms → TellsLater file at (Pause ms')
  pause-found s e = record { means = rw e s }

  pub told_first : {f g : FirstRecord} → f ≡ g → TellsFirst file at f → FirstMeaning file at g
  told_first e t = (subst (TellsFirst file at) e t).means

  pub told-later : {f g : LaterRecord} → f ≡ g → TellsLater file at f → LaterMeaning file at g
  told-later e t = (subst (TellsLater file at) e t).means
