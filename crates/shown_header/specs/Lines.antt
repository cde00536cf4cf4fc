-- The header of a game for a person: a line for each value. Definitions only. A text of the file is shown by
-- `lines`' Escapes, other values by `forms`' Values.
use Rattle.std.specs.Prelude.{ℕ, cond, ◌&&◌, List, [], ◌∷◌, ◌++◌, eqb, length}
use Rattle.text.specs.Decimals.{decimal_bytes}
use Rattle.game.specs.declared.Header.{Header}
use Rattle.game.specs.Header.{software_slot, translated_software_slot, original_encoding_slot, player_slot}
use Rattle.game.specs.Header.{race_slot, unique_id_slot, country_slot, device_id_slot, checksum_slot, text_at}
use Rattle.lines.specs.Ascii.{ascii}
use Rattle.lines.specs.Escapes.{shown_text}
use Rattle.forms.specs.Values.{yes_no, seconds, level_name}

-- parts, one behind the other
abbrev pub joined : List (List ℕ) → List ℕ
joined [] = []
joined (part ∷ parts) = part ++ joined parts

-- one of the nine texts
abbrev pub text_shown : List ℕ → Header → (slot : ℕ) → List ℕ
text_shown file h slot = shown_text (text_at h file slot)

-- who played, and with what
unfoldable pub names_shown : List ℕ → Header → List ℕ
names_shown file h =
    joined (
    ascii "player               " ∷ text_shown file h player_slot ∷
    ascii "\nrace                 " ∷ text_shown file h race_slot ∷
    ascii "\nunique id            " ∷ text_shown file h unique_id_slot ∷
    ascii "\ncountry              " ∷ text_shown file h country_slot ∷
    ascii "\nsoftware             " ∷ text_shown file h software_slot ∷
    ascii "\n" ∷ [])

-- the two texts of a translation
unfoldable pub translation_shown : List ℕ → Header → List ℕ
translation_shown file h =
    joined (
    ascii "translated software  " ∷ text_shown file h translated_software_slot ∷
    ascii "\noriginal encoding    " ∷ text_shown file h original_encoding_slot ∷
    ascii "\n" ∷ [])

-- the device, the board's sizes, and when it was played
unfoldable pub values_shown : List ℕ → Header → List ℕ
values_shown file h =
    joined (
    ascii "device id            " ∷ text_shown file h device_id_slot ∷
    ascii "\nversion              " ∷ decimal_bytes h.version ∷
    ascii "\nlevel                " ∷ level_name h.level ∷
    ascii "\nboard                " ∷ decimal_bytes h.height ∷ ascii " rows, " ∷ decimal_bytes h.width ∷
    ascii " columns, " ∷ decimal_bytes h.mine_num ∷ ascii " mines" ∷
    ascii "\nmines on the board   " ∷ decimal_bytes h.mines_found ∷
    ascii "\ncell size            " ∷ decimal_bytes h.cell_pixel_size ∷ ascii " pixels" ∷
    ascii "\nmode                 " ∷ decimal_bytes h.mode ∷
    ascii "\n3BV                  " ∷ decimal_bytes h.bbbv ∷
    ascii "\ntime                 " ∷ seconds h.rtime_ms.0 ∷ ascii " s" ∷
    ascii "\nstart                " ∷ decimal_bytes h.start_time.0 ∷ ascii " microseconds" ∷
    ascii "\nend                  " ∷ decimal_bytes h.end_time.0 ∷ ascii " microseconds" ∷
    ascii "\n" ∷ [])

-- the flags, the number of the checksum's bytes and that of the events
unfoldable pub flags_shown : List ℕ → Header → (events : ℕ) → List ℕ
flags_shown file h events =
    joined (
    ascii "completed            " ∷ yes_no h.is_completed ∷
    ascii "\nofficial             " ∷ yes_no h.is_official ∷
    ascii "\nfair                 " ∷ yes_no h.is_fair ∷
    ascii "\nno flags             " ∷ yes_no h.nf ∷
    ascii "\ntranslated           " ∷ yes_no h.translated ∷
    ascii "\nquestion marks       " ∷ yes_no h.use_question ∷
    ascii "\ncursor limit         " ∷ yes_no h.use_cursor_pos_lim ∷
    ascii "\nauto replay          " ∷ yes_no h.use_auto_replay ∷
    ascii "\nchecksum             " ∷ decimal_bytes (length (text_at h file checksum_slot)) ∷ ascii " bytes" ∷
    ascii "\nevents               " ∷ decimal_bytes events ∷
    ascii "\n" ∷ [])

-- the same where a file has them (01, Header: version 4, if translated), else nothing
unfoldable pub translation_if_any : List ℕ → Header → List ℕ
translation_if_any file h = cond (eqb h.version 4 && h.translated) (translation_shown file h) []

-- every value of the header
unfoldable pub header_shown : List ℕ → Header → (events : ℕ) → List ℕ
header_shown file h events =
    names_shown file h ++ (translation_if_any file h ++ (values_shown file h ++ flags_shown file h events))
