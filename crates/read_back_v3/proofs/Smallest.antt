-- The tables of specs/Smallest.antt: taken by computing, lost by the condition that does not hold. Assumes
-- nothing.
use Prim.Native.Nat.{ℕ, ◌^◌, ◌<◌}
use mathlib.Core.Path.{◌≡◌, refl, sym, ap, subst, ◌∙◌}
use mathlib.Core.Bool.{true, false, not, true≢false}
use mathlib.Core.List.{List, [], ◌∷◌}
use native.Mathlib.Omega.{arith}
use lib.Dec.{lit<}
use lib.Ieee.{Float, nan, inf, fin, mul, div, of_int}
use lib.IntN.{ℤ, pos, negsuc}
use lib.ListN.{length, take}
use Rattle.text.specs.Utf8.{utf8, byte}
use Rattle.text.specs.Decimals.{decimal_bytes}
use Rattle.times.specs.Times.{seconds_of, whole_by, halves_away, s_to_ms}
use Rattle.times.proofs.Seconds.{round_trip}
use Rattle.board.specs.Bits.{packed_byte, packed}
use Rattle.board.specs.Geometry.{beside, crossing, neighbours, number, cell_of, cells, mine_at, mines_in}
use Rattle.game.specs.declared.Event.{Event}
use Rattle.game.specs.declared.Event.TheVariants.{Mouse, State}
use Rattle.game.specs.Header.{level_of, software_slot, translated_software_slot, original_encoding_slot}
use Rattle.game.specs.Sizes.{sizes_bad, cells_short}
use Rattle.game.specs.Same.{Game, text_of, block_of}
use Rattle.header_software.specs.Software.{begins_with, yuan_name}
use Rattle.mouse_records.specs.Records.{record3}
use Rattle.evf_records.specs.Refusals.{start_unwritable, event_unwritable}
use Rattle.layout_fields.specs.Fields.{start_bytes, board_bytes}
use Rattle.layout_v3.specs.Version3.{texts3, front3, tail3}
use Rattle.judging_texts.specs.Texts.{texts_bad, lengths_bad, metrics_bad}
use Rattle.read_back.specs.Saved.{Timed, no_events, at_ms, area}
use Rattle.read_back.specs.Back.{on_board}
use Rattle.read_back_v3.specs.Back3.{written, ReadsBack3, times_kept, Plain3}
use Rattle.read_back_v3.specs.Smallest.{metered_with, Taken, Kept, Lost, EachKept, EachLost}
use Rattle.read_back_v3.proofs.Back3.{same_back, only_same}

module _ (g : Game) (t : Taken g) where
  -- all conditions hold
  by-conditions : take (area g) g.cells ≡ cells (mine_at g.cells) g.header.height g.header.width
      → g.header.level ≡ level_of g.header.height g.header.width g.header.mine_num
      → g.header.mines_found ≡ mines_in (mine_at g.cells) (area g) → Timed g.events
      → times_kept g ≡ true
      → g.header.translated ≡ not (begins_with yuan_name (text_of g software_slot))
      → text_of g translated_software_slot ≡ [] → text_of g original_encoding_slot ≡ []
      → g.header.metrics_count ≡ 0 → block_of g ≡ [] → Kept g
  by-conditions numbers level found timed times translated translation encoding count metrics =
      let plain : Plain3 g = record {
        plain = record {
          numbers = numbers;
          level = level;
          mines_found = found;
          timed = timed;
        };
        times = times;
        translated = translated;
        no_translation = translation;
        no_encoding = encoding;
        no_count = count;
        no_metrics = metrics;
      } in
      record {
        taken = t;
        kept = λ c e. subst (λ (k : Game). ReadsBack3 (written c) (on_board k)) e
            (same_back c (subst Plain3 (sym e) plain));
      }

  -- one does not: what is read back as itself is plain, so what is not plain is lost
  by_condition : (Plain3 g → ⊥) → Lost g
  by_condition bad =
      record {
        taken = t;
        lost = λ c e b. bad (subst Plain3 e
            (only_same c (subst (λ (k : Game). ReadsBack3 (written c) (on_board k)) (sym e) b)));
      }

-- one row of a table, and those behind it
infixr 10 ◌and◌
◌and◌ : {A B : Type 0} → A → B → A × B
a and b = (a, b)

-- KEPT
pub each-kept : EachKept
unfolding metered_with mul div of_int utf8 byte decimal_bytes seconds_of whole_by s_to_ms packed_byte packed beside
    crossing neighbours number cell_of cells mine_at mines_in level_of sizes_bad cells_short record3 start_unwritable
    event_unwritable start_bytes board_bytes texts3 front3 tail3 texts_bad lengths_bad metrics_bad
each-kept =
    by-conditions _ refl refl refl refl no_events refl refl refl refl refl refl and
    by-conditions _ refl refl refl refl no_events refl refl refl refl refl refl and
    by-conditions _ refl refl refl refl no_events refl refl refl refl refl refl and
    by-conditions _ refl refl refl refl no_events refl refl refl refl refl refl and
    by-conditions _ refl refl refl refl no_events refl refl refl refl refl refl and
    by-conditions _ refl refl refl refl (at_ms {ms = 1} refl (lit< tt) no_events) refl refl refl refl refl
    refl and tt

-- LOST

-- the number in the first cell
first : List ℤ → ℕ
first [] = 0
first (pos n ∷ l) = n
first (negsuc n ∷ l) = 0

-- what the first entry of a row is where the row is one of mouse events at whole milliseconds
abbrev FirstTimed : List Event → Type 0
FirstTimed [] = Unit {0}
FirstTimed (Mouse seconds kind x y ∷ es) = (ms : ℕ) × (seconds ≡ seconds_of ms) × (ms < 2 ^ 32)
FirstTimed (State seconds state ∷ es) = ⊥

first_timed : {row : List Event} → Timed row → FirstTimed row
first_timed no_events = tt
first_timed (at_ms {ms = ms} e h t) = (ms, e, h)

-- 1 / 2 ^ 11 of a second is 0 ms, and 0 ms are 0 seconds
abbrev part : Float
part = fin false 1 (negsuc 10)

mantissa : Float → ℕ
mantissa nan = 0
mantissa (inf s) = 0
mantissa (fin s m e) = m

no_ms : s_to_ms halves_away part ≡ 0
unfolding s_to_ms whole_by mul
no_ms = refl

no_seconds : part ≡ seconds_of 0 → ⊥
unfolding seconds_of div of_int mantissa
no_seconds e = absurd (omega (arith, ap mantissa e))

between : (ms : ℕ) → part ≡ seconds_of ms → ms < 2 ^ 32 → ⊥
between ms e h =
    let zero : ms ≡ 0 = sym (round_trip halves_away ms h) ∙ ap (s_to_ms halves_away) (sym e) ∙ no_ms in
    no_seconds (e ∙ ap seconds_of zero)

pub each_lost : EachLost
unfolding metered_with mul div of_int utf8 byte decimal_bytes seconds_of whole_by s_to_ms packed_byte packed beside
    crossing neighbours number cell_of cells mine_at mines_in level_of sizes_bad cells_short record3 start_unwritable
    event_unwritable start_bytes board_bytes texts3 front3 tail3 texts_bad lengths_bad metrics_bad first
each_lost =
    by_condition _ refl (λ p. true≢false (sym p.times)) and
    by_condition _ refl (λ p. true≢false (sym p.times)) and
    by_condition _ refl (λ p. true≢false (sym p.times)) and
    by_condition _ refl (λ p. true≢false (sym p.times)) and
    by_condition _ refl (λ p. true≢false (sym p.times)) and
    by_condition _ refl (λ p. true≢false (sym p.translated)) and
    by_condition _ refl (λ p. true≢false p.translated) and
    by_condition _ refl (λ p. absurd (omega (arith, ap length p.no_translation))) and
    by_condition _ refl (λ p. absurd (omega (arith, ap length p.no_encoding))) and
    by_condition _ refl (λ p. absurd (omega (arith, p.no_count))) and
    by_condition _ refl (λ p. absurd (omega (arith, ap length p.no_metrics))) and
    by_condition _ refl (λ p. absurd (omega (arith, p.plain.level))) and
    by_condition _ refl (λ p. absurd (omega (arith, p.plain.mines_found))) and
    by_condition _ refl (λ p. absurd (omega (arith, ap first p.plain.numbers))) and
    by_condition _ refl (λ p. first_timed p.plain.timed) and
    by_condition _ refl (λ p. let t = first_timed p.plain.timed in between t.0 t.1 t.2) and tt
