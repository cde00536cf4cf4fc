-- What `get` answers is the cell, or nothing past the end, where there is no mine.
use mathlib.Core.Path.{◌≡◌, refl, ap, ◌∙◌}
use mathlib.Core.List.{List}
use Prim.Native.Nat.{ℕ, zero, suc}
use native.Mathlib.Omega.{arith}
use lib.IntN.{ℤ, pos, negsuc}
use lib.ListN.{get_or}
use denote.Bor.{Bor}
use Rattle.std.specs.Prelude.{Option, Some, None}
use Rattle.std.specs.Option.{option_eq, option_map, unwrap_or}
use Rattle.std.specs.Ordering.{int_eq}
use Rattle.board.specs.Geometry.{is_mine, mine_at}
use Rattle.board.proofs.is_mine.Goals as goal

minus_one : (z : ℤ) → int_eq z (negsuc 0) ≡ is_mine z
minus_one (pos n) = refl
minus_one (negsuc zero) = refl
minus_one (negsuc (suc n)) = grind arith

found : (o : Option (Bor ℤ)) (one : Bor ℤ) (board : List ℤ) (k : ℕ) → one.now ≡ negsuc 0
    → ((d : ℤ) → unwrap_or (option_map (λ x. x.now) o) d ≡ get_or board k d)
    → option_eq (λ x y. int_eq x.now y.now) o (Some one) ≡ mine_at board k
unfolding mine_at
found None one board k e h = ap is_mine (h (pos 0))
found (Some x) one board k e h = rw e (minus_one x.now ∙ ap is_mine (h (pos 0)))

pub returns : goal.returns
returns c = c.eq.ensures ∙ found c.get.result _ c.args.board.now c.args.k refl (c.get.ensures.lookup.4 (omega arith))
