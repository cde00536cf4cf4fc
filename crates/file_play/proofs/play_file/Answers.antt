-- A file that is ready, its events, and how it stands then. Assumes nothing.
use Rattle.file_play.proofs.Files.{plays-file}
use Rattle.file_play.proofs.play_file.Goals as goal

pub returns : goal.returns
returns c =
    plays-file _ _ _ _ c.start_file-s.result _ _ c.start_file-s.ensures
    c.play_events-last.ensures c.answer.ensures
