-- A path's error. Assumes nothing.
use Rattle.std.specs.Prelude.{◌≡◌, ℕ, ◌<◌, ◌≤◌, List, length, Option}
use borrow.Author.Tests.{lt-ltb, le-ltb}
use Rattle.text.specs.Ends.{text_end}
use Rattle.system.specs.Files.{path_error, end_error, longest_path, ENAMETOOLONG}

pub too_long : (path : List ℕ) → longest_path < length path → ENAMETOOLONG ≡ path_error path
unfolding path_error
too_long path l = rw (lt-ltb longest_path (length path) l)

pub by_end : (path : List ℕ) (end : Option ℕ) → length path ≤ longest_path → text_end path 0 ≡ end
    → end_error end ≡ path_error path
unfolding path_error
by_end path end l e = rw (le-ltb longest_path (length path) l, e)
