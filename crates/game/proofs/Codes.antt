-- Codes and what they name: back from a code is where one came from. Assumes nothing.
--     kind_of_code    every kind is the kind of its code
--     state_of_code   every game state is the state of its code
--     state_code_of   and no other code names it
use mathlib.Core.Path.{◌≡◌, refl}
use mathlib.Core.Bool.{Bool, true, false, cond}
use Prim.Native.Nat.{ℕ}
use native.Mathlib.Omega.{arith}
use lib.Dec.{T, eqb, eqb→eq}
use Rattle.game.specs.declared.MouseKind.{MouseKind}
use Rattle.game.specs.declared.MouseKind.TheVariants.{Mv, Lc, Lr, Rc, Rr, Mc, Mr, Pf, Cc, L, R, M, Ub}
use Rattle.game.specs.declared.GameState.{GameState}
use Rattle.game.specs.declared.GameState.TheVariants.{Replay, Win, Fail, Error}
use Rattle.std.specs.Prelude.{Option, Some, None}
use Rattle.game.specs.Kinds.{kind_of, code_of, state_code, state_of}

pub kind_of_code : (k : MouseKind) → kind_of (code_of k) ≡ k
unfolding kind_of
kind_of_code Mv = refl
kind_of_code Lc = refl
kind_of_code Lr = refl
kind_of_code Rc = refl
kind_of_code Rr = refl
kind_of_code Mc = refl
kind_of_code Mr = refl
kind_of_code Pf = refl
kind_of_code Cc = refl
kind_of_code L = refl
kind_of_code R = refl
kind_of_code M = refl
kind_of_code Ub = refl

pub state_of_code : (s : GameState) → state_of (state_code s) ≡ Some s
unfolding state_of
state_of_code Replay = refl
state_of_code Win = refl
state_of_code Fail = refl
state_of_code Error = refl

pub state_code_of : (code : ℕ) (s : GameState) → state_of code ≡ Some s → state_code s ≡ code
unfolding state_of
state_code_of code s e =
    go (eqb code 81) (eqb code 82) (eqb code 83) (eqb code 99) (eqb→eq code 81) (eqb→eq code 82)
    (eqb→eq code 83) (eqb→eq code 99) e
  where
    from : (x : GameState) (n : ℕ) → ◌≡◌ {A = Option GameState} (Some x) (Some s) → code ≡ n → state_code x ≡ n
        → state_code s ≡ code
    from x n k c h = let same : x ≡ s = cc in cc

    go : (a b c d : Bool) → (T a → code ≡ 81) → (T b → code ≡ 82) → (T c → code ≡ 83) → (T d → code ≡ 99)
        → cond a (Some Replay) (cond b (Some Win) (cond c (Some Fail) (cond d (Some Error) None)))
        ≡ Some s → state_code s ≡ code
    go true b c d p q r t k = from Replay 81 k (p tt) refl
    go false true c d p q r t k = from Win 82 k (q tt) refl
    go false false true d p q r t k = from Fail 83 k (r tt) refl
    go false false false true p q r t k = from Error 99 k (t tt) refl
    go false false false false p q r t k = let none : ◌≡◌ {A = ℕ} 0 1 = cc in absurd (omega arith)
