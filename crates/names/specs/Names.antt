-- The names that programs print (01, Events and the program `evflist`). Definitions only.
use Rattle.std.specs.Prelude.{ℕ, [], ◌∷◌}
use Rattle.game.specs.declared.MouseKind.{MouseKind}
use Rattle.game.specs.declared.MouseKind.TheVariants.{Mv, Lc, Lr, Rc, Rr, Mc, Mr, Pf, Cc, L, R, M, Ub}
use Rattle.game.specs.declared.GameState.{GameState}
use Rattle.game.specs.declared.GameState.TheVariants.{Replay, Win, Fail, Error}
use Rattle.names.specs.declared.Name.{Name}

abbrev pub name_of_one : ℕ → Name
name_of_one a = record { bytes = a ∷ 0 ∷ 0 ∷ 0 ∷ 0 ∷ 0 ∷ []; len = 1 }

abbrev pub name_of_two : ℕ → ℕ → Name
name_of_two a b = record { bytes = a ∷ b ∷ 0 ∷ 0 ∷ 0 ∷ 0 ∷ []; len = 2 }

-- in ASCII: mv, lc, lr, rc, rr, mc, mr, pf, cc, l, r, m, ub
abbrev pub kind_name : MouseKind → Name
kind_name Mv = name_of_two 109 118
kind_name Lc = name_of_two 108 99
kind_name Lr = name_of_two 108 114
kind_name Rc = name_of_two 114 99
kind_name Rr = name_of_two 114 114
kind_name Mc = name_of_two 109 99
kind_name Mr = name_of_two 109 114
kind_name Pf = name_of_two 112 102
kind_name Cc = name_of_two 99 99
kind_name L = name_of_one 108
kind_name R = name_of_one 114
kind_name M = name_of_one 109
kind_name Ub = name_of_two 117 98

-- in ASCII: replay, win, fail, error
abbrev pub state_name : GameState → Name
state_name Replay = record { bytes = 114 ∷ 101 ∷ 112 ∷ 108 ∷ 97 ∷ 121 ∷ []; len = 6 }
state_name Win = record { bytes = 119 ∷ 105 ∷ 110 ∷ 0 ∷ 0 ∷ 0 ∷ []; len = 3 }
state_name Fail = record { bytes = 102 ∷ 97 ∷ 105 ∷ 108 ∷ 0 ∷ 0 ∷ []; len = 4 }
state_name Error = record { bytes = 101 ∷ 114 ∷ 114 ∷ 111 ∷ 114 ∷ 0 ∷ []; len = 5 }
