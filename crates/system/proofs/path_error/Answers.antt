use Rattle.std.proofs.Common.{ap, sym, ◌∙◌, pos}
use Rattle.system.proofs.Paths.{too_long, by_end}
use Rattle.system.proofs.path_error.Goals as goal

pub returns-then-path-gt-LAST : goal.returns-then-path-gt-LAST
returns-then-path-gt-LAST c = ap pos (too_long _ c.if-path-gt-LAST.true)

pub returns-in-Some : goal.returns-in-Some
returns-in-Some c = ap pos (by_end _ _ c.if-path-gt-LAST.false (sym c.text_end.ensures ∙ c.in-Some.is))

pub returns-in-None : goal.returns-in-None
returns-in-None c =
    ap pos (by_end _ _ c.if-path-gt-LAST.false (sym c.text_end.ensures ∙ c.in-None.is))
