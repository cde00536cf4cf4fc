-- What a copy of version 4 does not carry of a file (01, Header, Events, Version 4 writer and upgrade).
-- Definitions only.
use Rattle.std.specs.Prelude.{ℕ, ◌+◌, ◌-◌, Bool, false, not, ◌&&◌, ◌||◌, List, [], ◌∷◌, eqb, ltb, length}
use Rattle.text.specs.Places.{bytes_at}
use Rattle.game.specs.declared.Event.{Event}
use Rattle.game.specs.declared.Event.TheVariants.{Mouse, State}
use Rattle.game.specs.declared.Header.{Header}
use Rattle.game.specs.Header.{country_slot, text_at}
use Rattle.game.specs.Country.{two_letters}
use Rattle.byte_reader.specs.Reading.{Got, ok, no, Reader, ◌>>=◌}
use Rattle.byte_reader.specs.Numbers.{number}
use Rattle.header_fields.specs.Fields.{flags, sizes}
use Rattle.header_software.specs.Software.{begins_with, vienna_name, yuan_name}
use Rattle.header_v0_v3.specs.declared.OldTexts.{OldTexts}
use Rattle.header_v0_v3.specs.Front.{old_texts}
use Rattle.evf_video.specs.Reading.{Reading, game, none, reading_of}
use Rattle.left_out.specs.declared.LeftOut.{LeftOut}
use Rattle.left_out.specs.Ending.{end_of}

-- a text has bytes
abbrev pub there : List ℕ → Bool
there text = ltb 0 (length text)

-- THE COUNTRY

-- the bytes of `XX`
abbrev pub is_unknown : List ℕ → Bool
is_unknown [] = false
is_unknown (a ∷ []) = false
is_unknown (a ∷ b ∷ []) = eqb a 88 && eqb b 88
is_unknown (a ∷ b ∷ c ∷ rest) = false

-- `X` or `x`
abbrev pub is_x : ℕ → Bool
is_x c = eqb c 88 || eqb c 120

-- a country that says `XX` itself, in letters of either case
unfoldable pub says_unknown : List ℕ → Bool
says_unknown [] = false
says_unknown (a ∷ []) = false
says_unknown (a ∷ b ∷ []) = is_x a && is_x b
says_unknown (a ∷ b ∷ c ∷ rest) = false

-- the copy has `XX` for a country that is there and does not say so
unfoldable pub country_lost : List ℕ → Bool
country_lost text = there text && (is_unknown (two_letters text) && not (says_unknown text))

-- START AND END

-- the texts of versions 0 to 3 with start and end among them, from the version on
unfoldable pub words_in : Reader OldTexts
words_in = do
  version ← number 1
  _ ← flags version
  _ ← sizes
  _ ← number 3
  old_texts

-- the software's start and end are understood; any other's read as 0
unfoldable pub understood : (software : List ℕ) → Bool
understood software = begins_with vienna_name software || begins_with yuan_name software

-- start or end is there, and both read as 0
unfoldable pub words_lost : List ℕ → OldTexts → Bool
words_lost file words =
    not (understood (bytes_at file words.software))
    && (there (bytes_at file words.start) || there (bytes_at file words.end))

abbrev pub moments_in : List ℕ → Got OldTexts → Bool
moments_in file (ok words to) = words_lost file words
moments_in file (no n) = false

unfoldable pub moments_lost : List ℕ → Bool
moments_lost file = moments_in file (words_in file 0)

-- of a file of any version: version 4 has both as numbers
abbrev pub moments_left : List ℕ → (version : ℕ) → Bool
moments_left file version = ltb version 4 && moments_lost file

-- GAME STATES

abbrev pub state_count : Event → ℕ
state_count (Mouse seconds kind x y) = 0
state_count (State seconds state) = 1

-- how many there are among some events
abbrev pub states_in : List Event → ℕ
states_in [] = 0
states_in (e ∷ es) = state_count e + states_in es

-- ALL OF IT

-- of a file that is not read
abbrev pub nothing : LeftOut
nothing = record { country = false; moments = false; states = 0; behind = 0; events = 0; metrics = 0 }

-- of one with a header, so many events, so many of them game states, and `end` behind all that is read: the
-- mouse events and the custom metrics are carried
abbrev pub left_at : List ℕ → Header → (events states end : ℕ) → LeftOut
left_at file h events states end = record {
  country = country_lost (text_at h file country_slot);
  moments = moments_left file h.version;
  states = states;
  behind = length file - end;
  events = events - states;
  metrics = h.metrics_count;
}

-- The bytes behind the end are those behind the checksum, or behind the events where none follows.
abbrev pub left_of : List ℕ → Reading → LeftOut
left_of file (game h board es) = left_at file h (length es) (states_in es) (end_of file)
left_of file (none n) = nothing

unfoldable pub left_out_of : List ℕ → LeftOut
left_out_of file = left_of file (reading_of file)
