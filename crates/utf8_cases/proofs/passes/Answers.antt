-- `utf8_cases::passes` meets its contract: the last n of four bytes are the last n of three.
-- Assumes nothing.
use Rattle.std.proofs.Common.{◌≡◌, ℕ, zero, suc, ◌-◌, ◌≤◌, ◌∙◌, ap, arith, [], ◌∷◌, take, drop, refl}
use Rattle.text.specs.Utf8.{utf8}
use Rattle.utf8_cases.proofs.passes.Goals as goal

last : (n a b c d : ℕ) → n ≤ 3
    → take (4 - (4 - n)) (drop (4 - n) (a ∷ b ∷ c ∷ d ∷ [])) ≡ drop (3 - n) (b ∷ c ∷ d ∷ [])
last zero a b c d h = refl
last (suc zero) a b c d h = refl
last (suc (suc zero)) a b c d h = refl
last (suc (suc (suc zero))) a b c d h = refl
last (suc (suc (suc (suc n)))) a b c d h = absurd (omega arith)

pub returns : goal.returns
returns c =
    c.is_utf8.ensures ∙ ap utf8 (rw c.to_be_bytes-bytes.ensures (last c.args.n _ _ _ _ c.requires))
