-- What `upgrade_into` and `resave_into` promise, from what their callees do. Assumes nothing.
use Prim.Native.Nat.{ℕ}
use mathlib.Core.Path.{◌≡◌, refl, sym, ap, subst, ◌∙◌}
use mathlib.Core.Bool.{true, false, cond}
use mathlib.Core.List.{List}
use native.Mathlib.Omega.{arith}
use lib.Dec.{leb, ltb}
use lib.ListN.{length}
use lib.Seq.{length-take-le}
use borrow.Author.Tests.{leb-true}
use Rattle.upgrade.specs.Copy.{shortest_copy}
use Rattle.answers.specs.declared.Answer.{Answer}
use Rattle.answers.specs.declared.Answer.TheVariants.{Written, Refused, Short}
use Rattle.answers.specs.Answers.{toldApart, Within, Tells}

within : (number room : ℕ) (copy : List ℕ) → room ≡ length copy → Within (toldApart number room) copy
within number room copy e =
    elim (ltb number shortest_copy)
    as (λ b. Within (cond b (Refused number) (cond (leb number room) (Written number) (Short number))) copy)
    [ true ↦ tt | false ↦ fits ]
  where
    fits : Within (cond (leb number room) (Written number) (Short number)) copy
    fits =
        (elim (leb number room) as
        (λ b. leb number room ≡ b → Within (cond b (Written number) (Short number)) copy) [
          | true ↦ λ q.
              let h = leb-true number room q in
              (omega (arith, h, e), sym (length-take-le number copy (omega (arith, h, e))))
          | false ↦ λ q. tt
        ]) refl

pub tells : (promised : ℕ → Type 0) (copy copy' : List ℕ) (number room : ℕ) (r : Answer)
    → promised number → r ≡ toldApart number room
    → room ≡ length copy → room ≡ length copy' → Tells promised copy r copy'
tells promised copy copy' number room r k e f g = record {
  number = number;
  kept = k;
  answer_is = e ∙ ap (toldApart number) f;
  within = subst (λ o. Within o copy') (sym e) (within number room copy' g);
}
