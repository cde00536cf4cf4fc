-- Paths and what is known of a file. Definitions only.
use Rattle.std.specs.Prelude.{ℕ, zero, suc, ◌/◌, ◌%◌, ◌≡◌, Bool, false, true, cond, not, ◌&&◌, List, eqb, ltb, ℤ, pos, length, replicate, set, slice_index_or, Option, Some, None}
use Rattle.std.proofs.lemmas.List.Edits.{sets}
use Rattle.system.specs.declared.types.Stat.{Stat}
use Rattle.system.specs.declared.types.Timespec.{Timespec}
use Rattle.text.specs.Ends.{text_end}
use Rattle.system.specs.declared.Found.{Found}

-- the most bytes of a path, without the 00 that ends it for C
abbrev pub longest_path : ℕ
longest_path = 4095

-- Linux's numbers: the name is too long; an argument that no file can have
abbrev pub ENAMETOOLONG : ℕ
ENAMETOOLONG = 36

abbrev pub EINVAL : ℕ
EINVAL = 22

-- by the first 00 of a path
abbrev pub end_error : Option ℕ → ℕ
end_error (Some n) = EINVAL
end_error None = 0

-- why no file can have this path: it is too long, or holds a 00; else 0
unfoldable pub path_error : List ℕ → ℕ
path_error path = cond (ltb longest_path (length path)) ENAMETOOLONG (end_error (text_end path 0))

-- the last of a path's 4096 bytes, as C takes it, is 0
abbrev pub Ended : List ℕ → Type 0
Ended bytes = slice_index_or bytes 4095 1 ≡ 0

-- a path as C takes it: its bytes at the start of 4096 zeros, the last of which stays 0
unfoldable pub c_path : List ℕ → List ℕ
c_path path = set (sets (replicate 4096 0) 0 path) longest_path 0

-- no file, and the system's error number
abbrev pub unfound : ℤ → Found
unfound number = record { error = true; errno = number; mode = 0; size = pos 0; dev = 0; ino = 0 }

-- what a path's error says of the answer: where there is one, no file was found, by that error; else nothing
abbrev pub Refuses : ℕ → Found → Type 0
Refuses zero found = Unit {0}
Refuses (suc n) found = found ≡ unfound (pos (suc n))

-- what is kept of what the system tells
abbrev pub found_of : Stat → Found
found_of file =
    record {
      error = false;
      errno = pos 0;
      mode = file.st_mode;
      size = file.st_size;
      dev = file.st_dev;
      ino = file.st_ino;
    }

-- the kind of a file: the bits S_IFMT of its mode, octal 170000, as a number (POSIX, sys/stat.h)
abbrev pub kind_of : ℕ → ℕ
kind_of mode = mode / 4096 % 16

-- S_IFREG and S_IFDIR, octal 100000 and 040000
abbrev pub regular : ℕ
regular = 8

abbrev pub folder : ℕ
folder = 4

abbrev pub is_file : Found → Bool
is_file f = not f.error && eqb (kind_of f.mode) regular

abbrev pub is_folder : Found → Bool
is_folder f = not f.error && eqb (kind_of f.mode) folder

-- a struct of zeros for the system to fill
abbrev pub no_time : Timespec
no_time = record { tv_sec = pos 0; tv_nsec = pos 0 }

abbrev pub blank_file : Stat
blank_file = record {
  st_dev = 0;
  st_ino = 0;
  st_nlink = 0;
  st_mode = 0;
  st_uid = 0;
  st_gid = 0;
  pad = 0;
  st_rdev = 0;
  st_size = pos 0;
  st_blksize = pos 0;
  st_blocks = pos 0;
  st_atim = no_time;
  st_mtim = no_time;
  st_ctim = no_time;
  unused = replicate 3 (pos 0);
}
