-- Codes of mouse kinds and game states (01, Events). Definitions only.
use Rattle.std.specs.Prelude.{ℕ, Bool, true, false, cond, List, [], ◌∷◌, eqb, get_or}
use Rattle.game.specs.declared.MouseKind.{MouseKind}
use Rattle.game.specs.declared.MouseKind.TheVariants.{Mv, Lc, Lr, Rc, Rr, Mc, Mr, Pf, Cc, L, R, M, Ub}
use Rattle.game.specs.declared.GameState.{GameState}
use Rattle.game.specs.declared.GameState.TheVariants.{Replay, Win, Fail, Error}
use Rattle.std.specs.Prelude.{Option, Some, None}

-- the kinds with a code, which is the place in this list, counted from 1
abbrev pub kinds : List MouseKind
kinds = Mv ∷ Lc ∷ Lr ∷ Rc ∷ Rr ∷ Mc ∷ Mr ∷ Pf ∷ Cc ∷ L ∷ R ∷ M ∷ []

-- the kind of a code; any code but 1 to 12 is `Ub`
unfoldable pub kind_of : ℕ → MouseKind
kind_of code = get_or (Ub ∷ kinds) code Ub

-- the code of a kind; 99 for `Ub`, as the version 3 writer puts it
abbrev pub code_of : MouseKind → ℕ
code_of Mv = 1
code_of Lc = 2
code_of Lr = 3
code_of Rc = 4
code_of Rr = 5
code_of Mc = 6
code_of Mr = 7
code_of Pf = 8
code_of Cc = 9
code_of L = 10
code_of R = 11
code_of M = 12
code_of Ub = 99

-- the kinds that a row of version 4 may begin with (01, Refusals 8 and 21)
abbrev pub begins : MouseKind → Bool
begins Mv = true
begins Lc = true
begins Lr = false
begins Rc = true
begins Rr = false
begins Mc = false
begins Mr = false
begins Pf = true
begins Cc = false
begins L = false
begins R = false
begins M = false
begins Ub = false

-- the code of a game state in version 4
abbrev pub state_code : GameState → ℕ
state_code Replay = 81
state_code Win = 82
state_code Fail = 83
state_code Error = 99

-- the game state of a code, where it has one
unfoldable pub state_of : ℕ → Option GameState
state_of code =
    cond (eqb code 81) (Some Replay)
    (cond (eqb code 82) (Some Win)
    (cond (eqb code 83) (Some Fail) (cond (eqb code 99) (Some Error) None)))
