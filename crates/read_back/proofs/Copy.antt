-- THE COPY OF A FILE OF VERSIONS 0 TO 3 (01, "Version 4 writer and upgrade"), both ways. The file is read
-- into a lent board, and the game is written as it lies there. Assumes nothing but that files are bytes, and
-- of `toMs` that it gives a u32 and whole milliseconds back.
--     copy-back    where its texts and events can be said, the copy reads as the game that was read
--     copy-none    where they cannot, no file of version 4 does
use Prim.Native.Nat.{ℕ, ◌*◌, ◌^◌, ◌≤◌, ◌<◌}
use mathlib.Core.Path.{◌≡◌, subst}
use mathlib.Core.List.{List, ◌++◌}
use lib.Ieee.{Float}
use lib.IntN.{ℤ}
use lib.ListN.{length}
use lib.Seq.{sets}
use Rattle.text.specs.declared.Place.{Place}
use Rattle.times.specs.Times.{seconds_of}
use Rattle.game.specs.declared.Event.{Event}
use Rattle.game.specs.declared.Header.{Header}
use Rattle.game.specs.Same.{SameGame}
use Rattle.byte_reader.specs.Reading.{Bytes}
use Rattle.evf_video.specs.Reading.{game, reading_of, cells_at, game_read}
use Rattle.layout_fields.specs.Fields.{lent}
use Rattle.evf_layout.specs.Layout.{file_of}
use Rattle.read_back.specs.Back.{Sayable, ReadsBack}
use Rattle.read_back.proofs.Whole.{same_back}
use Rattle.read_back.proofs.Lent.{PlainReading, on-board, lent-plain}
use Rattle.read_back.proofs.Readings.{read_plain, read-holdable, only-mouse}
use Rattle.read_back.proofs.OnlySayable.{read-sayable}

module _ (toMs : Float → ℕ) (back : (ms : ℕ) → ms < 2 ^ 32 → toMs (seconds_of ms) ≡ ms) where
  -- what can be said does not hang on the board
  any-board : (h : Header) (bytes : List ℕ) (c c' : List ℤ) (es : List Event)
      → Sayable toMs (lent h bytes c es) → Sayable toMs (lent h bytes c' es)
  any-board h bytes c c' es w =
      record {
        software = w.software;
        translated_software = w.translated_software;
        original_encoding = w.original_encoding;
        player = w.player;
        race = w.race;
        unique_id = w.unique_id;
        device_id = w.device_id;
        checksum = w.checksum;
        metrics = w.metrics;
        begins = w.begins;
        rises = w.rises;
      }

  -- what the file s reads as, where it reads as a game
  module _ (s : List ℕ) (h : Header) (place : Place) (es : List Event) where
    pub copy-back : ((seconds : Float) → toMs seconds < 2 ^ 32) → Bytes s → reading_of s ≡ game h place es
        → h.version < 4
        → (d : List ℤ) → h.height * h.width ≤ length d → let g =
        lent h s (sets d 0 (cells_at s h place)) es in Sayable toMs g
        → (r : List ℕ) → ReadsBack (file_of toMs 4 g ++ r) (game_read s h place es)
    copy-back few small reads old d room says r =
        let c = sets d 0 (cells_at s h place) in
        let g = lent h s c es in
        subst (ReadsBack (file_of toMs 4 g ++ r)) (on-board s h place es d room)
        (same_back toMs back g (lent-plain s h place es d room
        (subst (PlainReading s h place) (only-mouse s small reads old) (read_plain s small reads))) few
        (read-holdable s small reads toMs c says) r)

    -- whatever the board from which the copy was to be written
    pub copy-none : (c : List ℤ) → (Sayable toMs (lent h s c es) → ⊥)
        → (k : List ℕ) → Bytes k → {h' : Header} {place' : Place} {es' : List Event}
        → reading_of k ≡ game h' place' es' → h'.version ≡ 4
        → SameGame (game_read k h' place' es') (game_read s h place es) → ⊥
    copy-none c none k small reads new same =
        none (any-board h s (cells_at s h place) c es
        (read-sayable toMs back k small reads new (game_read s h place es) same))
