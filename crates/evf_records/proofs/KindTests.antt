-- The test of a mouse kind for `Ub`. Assumes nothing.
use mathlib.Core.Path.{◌≡◌, refl}
use mathlib.Core.Bool.{false}
use mathlib.Core.Logic.{◌≢◌}
use Rattle.game.specs.declared.MouseKind.{MouseKind}
use Rattle.game.specs.declared.MouseKind.TheVariants.{Mv, Lc, Lr, Rc, Rr, Mc, Mr, Pf, Cc, L, R, M, Ub}
use Rattle.evf_records.specs.Refusals.{is_ub}

-- a kind that is not ub
pub not_ub : (kind : MouseKind) → kind ≢ Ub → is_ub kind ≡ false
not_ub Mv h = refl
not_ub Lc h = refl
not_ub Lr h = refl
not_ub Rc h = refl
not_ub Rr h = refl
not_ub Mc h = refl
not_ub Mr h = refl
not_ub Pf h = refl
not_ub Cc h = refl
not_ub L h = refl
not_ub R h = refl
not_ub M h = refl
not_ub Ub h = absurd (h refl)
