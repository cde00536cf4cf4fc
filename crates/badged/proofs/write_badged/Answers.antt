-- `badged::write_badged` meets its contract: the line of what the file answers. Assumes nothing.
use Rattle.file_badge.specs.FileBadge.{file_badge}
use Rattle.badged.specs.Lines.{badged_line, badged_fate}
use Rattle.badged.proofs.Telling.{tells_as}
use Rattle.badged.proofs.write_badged.Goals as goal

pub returns : goal.returns
unfolding badged_line badged_fate
returns c =
    let a = c.args in
    let is = file_badge a.file.now a.board.now a.cells.now a.wish in
    tells_as {b' = is} c.badge_file-badge.ensures.is c.write_badge.ensures
