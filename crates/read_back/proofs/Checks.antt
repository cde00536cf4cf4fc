-- What the checks of a version say of a game (01, Refusals 14 to 22 and 25): the list of them, and the
-- records that the laws of reading back ask for. Assumes nothing.
--     passes            where the list does not refuse, none of its checks holds
--     fine_sizes        then the sizes fit their fields
--     shared_words      and the texts that every version ends by 00 can be so ended
--     fine-sayable      then texts and events can be said in version 4
--     late-unsayable    and where one of 19 to 22, or 25, is told, they cannot
--     fine-holdable     then version 4 holds the game
use Prim.Native.Nat.{ℕ, ◌≤◌}
use mathlib.Core.Path.{◌≡◌, refl}
use mathlib.Core.Bool.{Bool, true, false, not, ◌&&◌, ◌||◌}
use mathlib.Core.List.{List}
use native.Mathlib.Omega.{arith}
use lib.Dec.{ltb}
use lib.Ieee.{Float}
use lib.ListN.{length}
use borrow.Author.Tests.{ltb-false, eqb-false, le-ltb, not-false}
use Rattle.text.specs.Bytes.{all, non_zero}
use Rattle.text.specs.Utf8.{utf8}
use Rattle.text.specs.Words.{Word}
use Rattle.game.specs.Header.{software_slot, translated_software_slot, original_encoding_slot, player_slot}
use Rattle.game.specs.Header.{race_slot, unique_id_slot, device_id_slot, checksum_slot}
use Rattle.game.specs.Same.{Game, text_of, block_of}
use Rattle.metrics.proofs.Texts.{texts-is}
use Rattle.evf_records.specs.Refusals.{start_unwritable, event_unwritable}
use Rattle.evf_judging.specs.declared.Verdict.TheVariants.{Fine, Refused}
use Rattle.game.specs.Sizes.{sizes_bad, cells_short}
use Rattle.game.proofs.Sizes.{sized_fine}
use Rattle.judging_texts.specs.Texts.{holds00, text_bad, shared_bad, texts_bad, lengths_bad, metrics_bad}
use Rattle.evf_judging.specs.Refusals.{any_past, pixels_bad, number_bad, first_refusal, checks}
use Rattle.evf_judging.proofs.Verdicts.{told_is, untold, first_fine}
use Rattle.fields_back.specs.Fits.{SizesFit}
use Rattle.read_back.specs.Back.{Sayable, InTypes, Holdable}
use Rattle.read_back.proofs.Events.{neither}

-- none of the checks of a version holds
pub record Passes (toMs : Float → ℕ) (version : ℕ) (g : Game) : Type 0 where
  pub inside : any_past (length g.bytes) g.header ≡ false
  pub sizes : sizes_bad g.header.height g.header.width ≡ false
  pub pixels : pixels_bad version g.header ≡ false
  pub board : cells_short g.header.height g.header.width (length g.cells) ≡ false
  pub numbers : number_bad version g.header ≡ false
  pub texts : texts_bad g.header g.bytes version ≡ false
  pub lengths : lengths_bad g.header g.bytes version ≡ false
  pub metrics : metrics_bad g.header g.bytes version ≡ false
  pub begins : start_unwritable toMs version g.events ≡ false
  pub events : event_unwritable toMs version g.events ≡ false

pub passes : (toMs : Float → ℕ) (version : ℕ) (g : Game) → first_refusal (checks toMs version g) ≡ Fine
    → Passes toMs version g
passes toMs version g e =
    let p = first_fine (checks toMs version g) e in
    record {
      inside = p.0;
      sizes = p.1.0;
      pixels = p.1.1.0;
      board = p.1.1.1.0;
      numbers = p.1.1.1.1.0;
      texts = p.1.1.1.1.1.0;
      lengths = p.1.1.1.1.1.1.0;
      metrics = p.1.1.1.1.1.1.1.0;
      begins = p.1.1.1.1.1.1.1.1.0;
      events = p.1.1.1.1.1.1.1.1.1.0;
    }

-- NUMBERS: every version tells the same sizes
pub fine_sizes : (toMs : Float → ℕ) (version : ℕ) (g : Game) → Passes toMs version g → InTypes g
    → SizesFit g.header
unfolding sizes_bad
fine_sizes toMs version g p types =
    let h = g.header in
    let size = sized_fine h.height h.width p.sizes in
    let mines = neither (ltb 65535 h.mine_num) _ p.numbers in
    let bbbv = neither (ltb 65535 h.bbbv) _ mines.1 in
    record {
      some_row = omega (arith, eqb-false h.height 0 (neither _ _ p.sizes).0);
      height = size.0;
      width = size.1;
      mines = omega (arith, ltb-false 65535 h.mine_num mines.0);
      cell_pixels = types.cell_pixels;
      mode = types.mode;
      bbbv = omega (arith, ltb-false 65535 h.bbbv bbbv.0);
    }

-- TEXTS

pub text_word : (t : List ℕ) → text_bad t ≡ false → Word t
text_word t e =
    let p = neither (not (utf8 t)) (holds00 t) e in
    record { spelled = not-false (utf8 t) p.0; free = not-false (all non_zero t) p.1 }

word_text : (t : List ℕ) → Word t → text_bad t ≡ false
word_text t w = rw (w.spelled, w.free)

-- the texts of a translation count where there is one
both_words : (b : Bool) (t u : List ℕ) → (b && (text_bad t || text_bad u)) ≡ false
    → (b ≡ true → Word t) × (b ≡ true → Word u)
both_words true t u e = let p = neither (text_bad t) (text_bad u) e in
    (λ q. text_word t p.0, λ q. text_word u p.1)
both_words false t u e = (untold refl, untold refl)

words_both : (b : Bool) (t u : List ℕ) → (b ≡ true → Word t) → (b ≡ true → Word u)
    → (b && (text_bad t || text_bad u)) ≡ false
words_both true t u p q = rw (word_text t (p refl), word_text u (q refl))
words_both false t u p q = refl

-- the texts that every version ends by 00
pub record SharedWords (g : Game) : Type 0 where
  pub software : Word (text_of g software_slot)
  pub player : Word (text_of g player_slot)
  pub race : Word (text_of g race_slot)
  pub unique_id : Word (text_of g unique_id_slot)

pub shared_words : (g : Game) → shared_bad g.header g.bytes ≡ false → SharedWords g
shared_words g e =
    let a = neither _ _ e in
    let b = neither _ _ a.1 in
    let c = neither _ _ b.1 in
    record {
      software = text_word (text_of g software_slot) a.0;
      player = text_word (text_of g player_slot) b.0;
      race = text_word (text_of g race_slot) c.0;
      unique_id = text_word (text_of g unique_id_slot) c.1;
    }

module _ (toMs : Float → ℕ) (g : Game) where
  -- TEXTS AND EVENTS
  pub fine-sayable : first_refusal (checks toMs 4 g) ≡ Fine → Sayable toMs g
  unfolding texts_bad lengths_bad metrics_bad start_unwritable event_unwritable
  fine-sayable e =
      let p = passes toMs 4 g e in
      let texts = neither _ _ p.texts in
      let words = shared_words g texts.0 in
      let two = both_words g.header.translated (text_of g translated_software_slot)
      (text_of g original_encoding_slot) texts.1 in
      let device = length (text_of g device_id_slot) in
      let sum = length (text_of g checksum_slot) in
      let l = neither (ltb 65535 device) (ltb 65535 sum) p.lengths in
      record {
        software = words.software;
        translated_software = two.0;
        original_encoding = two.1;
        player = words.player;
        race = words.race;
        unique_id = words.unique_id;
        device_id = omega (arith, ltb-false 65535 device l.0);
        checksum = omega (arith, ltb-false 65535 sum l.1);
        metrics = (texts-is g.header.metrics_count (block_of g)).0 (not-false _ p.metrics);
        begins = p.begins;
        rises = p.events;
      }

  texts-fine : Sayable toMs g → texts_bad g.header g.bytes 4 ≡ false
  unfolding texts_bad
  texts-fine w =
      rw (
        word_text (text_of g software_slot) w.software,
        word_text (text_of g player_slot) w.player,
        word_text (text_of g race_slot) w.race,
        word_text (text_of g unique_id_slot) w.unique_id,
      )
      (words_both g.header.translated (text_of g translated_software_slot) (text_of g original_encoding_slot)
      w.translated_software w.original_encoding)

  lengths-fine : Sayable toMs g → lengths_bad g.header g.bytes 4 ≡ false
  unfolding lengths_bad
  lengths-fine w =
      rw (
        le-ltb 65535 (length (text_of g device_id_slot)) (omega (arith, w.device_id)),
        le-ltb 65535 (length (text_of g checksum_slot)) (omega (arith, w.checksum)),
      )

  metrics-fine : Sayable toMs g → metrics_bad g.header g.bytes 4 ≡ false
  unfolding metrics_bad
  metrics-fine w = rw ((texts-is g.header.metrics_count (block_of g)).1 w.metrics)

  start_fine : Sayable toMs g → start_unwritable toMs 4 g.events ≡ false
  unfolding start_unwritable
  start_fine w = w.begins

  event-fine : Sayable toMs g → event_unwritable toMs 4 g.events ≡ false
  unfolding event_unwritable
  event-fine w = w.rises

  pub late-unsayable : {k : ℕ} → first_refusal (checks toMs 4 g) ≡ Refused k → 19 ≤ k → Sayable toMs g → ⊥
  late-unsayable {k} e late w =
      let early : k ≤ 18 =
      told_is (λ n. n ≤ 18) (checks toMs 4 g) (
        λ q. omega arith,
        (
          λ q. omega arith,
          (
            λ q. omega arith,
            (
              λ q. omega arith,
              (
                λ q. omega arith,
                (
                  untold (texts-fine w),
                  (
                    untold (lengths-fine w),
                    (untold (metrics-fine w), (untold (start_fine w), (untold (event-fine w), tt))),
                  ),
                ),
              ),
            ),
          ),
        ),
      )
      e
      in
      omega arith

  pub fine-holdable : first_refusal (checks toMs 4 g) ≡ Fine → InTypes g → Holdable toMs g
  fine-holdable e types =
      record {
        sizes = fine_sizes toMs 4 g (passes toMs 4 g e) types;
        time = types.time;
        start = types.start;
        end = types.end;
        metrics_count = types.metrics_count;
        positions = types.positions;
        says = fine-sayable e;
      }
