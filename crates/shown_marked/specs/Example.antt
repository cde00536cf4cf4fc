-- How the marked example M3 of 01 is shown. Definitions only.
use Rattle.std.specs.Prelude.{ℕ, List, [], ◌∷◌, ◌++◌}
use Rattle.lines.specs.Ascii.{ascii}

-- the character 元, with which M3's software begins
abbrev yuan : List ℕ
yuan = 0xE5 ∷ 0x85 ∷ 0x83 ∷ []

unfoldable pub version3_shown : List ℕ
version3_shown =
    ascii "player               P\n" ++
    ascii "race                 \n" ++
    ascii "unique id            \n" ++
    ascii "country              cn\n" ++
    ascii "software             " ++ yuan ++ ascii "\n" ++
    ascii "device id            \n" ++
    ascii "version              3\n" ++
    ascii "level                custom\n" ++
    ascii "board                1 rows, 2 columns, 1 mines\n" ++
    ascii "mines on the board   1\n" ++
    ascii "cell size            16 pixels\n" ++
    ascii "mode                 0\n" ++
    ascii "3BV                  1\n" ++
    ascii "time                 1.000 s\n" ++
    ascii "start                1 microseconds\n" ++
    ascii "end                  2 microseconds\n" ++
    ascii "completed            yes\n" ++
    ascii "official             no\n" ++
    ascii "fair                 no\n" ++
    ascii "no flags             yes\n" ++
    ascii "translated           no\n" ++
    ascii "question marks       no\n" ++
    ascii "cursor limit         no\n" ++
    ascii "auto replay          no\n" ++
    ascii "checksum             0 bytes\n" ++
    ascii "events               2\n" ++
    ascii "\n" ++
    ascii "*1\n"
