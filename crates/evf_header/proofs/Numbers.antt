-- Every number from 1 to 7 is the answer to some file: one table and one assertion. (No other number is:
-- `opening-refuses` of Sound.) Assumes nothing.
use Prim.Native.Nat.{ℕ}
use mathlib.Core.Path.{◌≡◌, refl}
use mathlib.Core.List.{List, [], ◌∷◌, ◌++◌, map}
use Rattle.text.specs.Ends.{up_to00}
use Rattle.text.specs.Utf8.{utf8, byte}
use Rattle.text.specs.Decimals.{in_digits, decimal_of}
use Rattle.byte_reader.specs.Reading.{Got, ok, no, ◌>>=◌, pure, refuse, refuse_when}
use Rattle.byte_reader.specs.Numbers.{big_endian, number}
use Rattle.byte_reader.specs.Fields.{bytes, text, must_be_utf8, utf8_text}
use Rattle.header_software.specs.Software.{arbiter_name, vienna_name, yuan_name, vienna, yuan, times_of}
use Rattle.header_fields.specs.Fields.{contents, flags, sizes, board_bytes}
use Rattle.header_v0_v3.specs.Front.{old_texts, old_times, old_device, old_front}
use Rattle.evf_header.specs.Opening.{header_of, front_of, metrics_of, opening}

-- the number of a refusal; 0 where there is none
number_of : {A : Type 0} → Got A → ℕ
number_of (ok a to) = 0
number_of (no n) = n

-- version 0 with a board of that height and one column, up to the software
start : (height : ℕ) → List ℕ
start height = 0 ∷ 0 ∷ height ∷ 1 ∷ 0 ∷ 0 ∷ 0 ∷ 0 ∷ 0 ∷ 0 ∷ 0 ∷ 0 ∷ 0 ∷ 0 ∷ []

-- 18446744073710, whose millionfold passes the largest u64
seconds : List ℕ
seconds = 49 ∷ 56 ∷ 52 ∷ 52 ∷ 54 ∷ 55 ∷ 52 ∷ 52 ∷ 48 ∷ 55 ∷ 51 ∷ 55 ∷ 49 ∷ 48 ∷ []

files : List (List ℕ)
files =
    [] ∷
    (5 ∷ []) ∷
    (start 1 ++ 0xFF ∷ 0 ∷ []) ∷
    (start 1 ++ arbiter_name ++ 0 ∷ 0 ∷ 0 ∷ 0 ∷ 0 ∷ 0 ∷ []) ∷
    (start 1 ++ yuan_name ++ 0 ∷ 0 ∷ 0 ∷ 0 ∷ 0 ∷ 0 ∷ []) ∷
    (start 1 ++ vienna_name ++ 0 ∷ 0 ∷ 0 ∷ 0 ∷ seconds ++ 0 ∷ 0 ∷ []) ∷
    (start 0 ++ 0 ∷ 0 ∷ 0 ∷ 0 ∷ 0 ∷ 0 ∷ 0 ∷ []) ∷ []

answered : map (λ (file : List ℕ). number_of (opening file 0)) files ≡ 1 ∷ 2 ∷ 3 ∷ 4 ∷ 5 ∷ 6 ∷ 7 ∷ []
unfolding number_of start seconds files up_to00 utf8 byte in_digits decimal_of ◌>>=◌ pure refuse refuse_when
    big_endian number bytes text must_be_utf8 utf8_text vienna yuan times_of contents flags sizes board_bytes
    old_texts old_times old_device old_front header_of front_of metrics_of opening
answered = refl
