-- A text holds no 00 just where none is found. Assumes nothing.
use Prim.Native.Nat.{ℕ, suc}
use mathlib.Core.Path.{◌≡◌, refl, ap, ◌∙◌}
use mathlib.Core.Bool.{Bool, true, false, not, cond, ◌&&◌}
use mathlib.Core.List.{List, [], ◌∷◌}
use mathlib.Core.Option.{Option, none, some, map}
use lib.Dec.{eqb}
use Rattle.text.specs.Bytes.{all, non_zero}
use Rattle.std.specs.Prelude.{is_some}
use Rattle.text.specs.Ends.{up_to00, end_after, text_end}

abbrev missing : Option ℕ → Bool
missing none = true
missing (some n) = false

missing_later : (o : Option ℕ) → missing (map suc o) ≡ missing o
missing_later none = refl
missing_later (some n) = refl

found : (t : List ℕ) → missing (up_to00 t) ≡ all non_zero t
unfolding up_to00
found [] = refl
found (b ∷ t) =
    (elim (eqb b 0) as
    (λ z. eqb b 0 ≡ z → missing (cond z (some 0) (map suc (up_to00 t))) ≡ (not z && all non_zero t)) [
      | true ↦ λ e. refl
      | false ↦ λ e. missing_later (up_to00 t) ∙ found t
    ])
    refl

some-by : (o : Option ℕ) → is_some (end_after 0 o) ≡ not (missing o)
some-by none = refl
some-by (some n) = refl

-- an end is found just where a text holds a 00
pub end_found : (t : List ℕ) → is_some (text_end t 0) ≡ not (all non_zero t)
unfolding text_end
end_found t = some-by (up_to00 t) ∙ ap not (found t)
