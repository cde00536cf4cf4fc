-- What is told of a copy is true of it: its country is `XX` where the country is told as not carried, and
-- start and end are 0 where they are. Assumes nothing.
--     country_unknown    the two-letter form of a country that is lost
--     moments-zero       start and end of a game that was read
use Prim.Native.Nat.{ℕ, ◌<◌}
use mathlib.Core.Path.{◌≡◌, refl, sym, ap, ◌∙◌}
use mathlib.Core.Bool.{Bool, true, false, cond, not, ◌&&◌, ◌||◌}
use mathlib.Core.List.{List, [], ◌∷◌}
use native.Mathlib.Omega.{arith}
use lib.Dec.{eqb, ltb}
use borrow.Author.Tests.{eqb-true, ltb-true, ne_eqb, not-true}
use Rattle.text.specs.declared.Place.{Place}
use Rattle.text.specs.Places.{bytes_at}
use Rattle.times.specs.declared.GameMs.{GameMs}
use Rattle.game.specs.declared.Header.{Header}
use Rattle.game.specs.declared.Event.{Event}
use Rattle.game.specs.Country.{unknown, two_letters}
use Rattle.game.specs.Refusals.{version_unknown}
use Rattle.byte_reader.specs.Reading.{Got, Reader, ok, no, follow, ◌>>=◌, pure, refuse, refuse_when}
use Rattle.byte_reader.specs.Numbers.{number}
use Rattle.byte_reader.specs.Fields.{text}
use Rattle.header_fields.specs.declared.Front.{Front}
use Rattle.header_fields.specs.declared.Flags.{Flags}
use Rattle.header_fields.specs.declared.Sizes.{Sizes}
use Rattle.header_fields.specs.declared.Span.{Span}
use Rattle.header_fields.specs.Fields.{span_of, contents, flags, sizes, board_bytes}
use Rattle.header_software.specs.declared.Times.{Times}
use Rattle.header_software.specs.declared.Times.TheVariants.{Known, Refused}
use Rattle.header_software.specs.Software.{begins_with, vienna_name, yuan_name, arbiter_name, times_of}
use Rattle.header_v0_v3.specs.declared.OldTexts.{OldTexts}
use Rattle.header_v0_v3.specs.Front.{old_texts, known, old_times, old_device, old_front}
use Rattle.metrics.specs.declared.Metrics.{Metrics}
use Rattle.evf_header.specs.Opening.{Opened, header_of, front_of, metrics_of, opening}
use Rattle.evf_video.specs.Reading.{game, reading_of}
use Rattle.evf_video.proofs.Trace.{traced}
use Rattle.left_out.specs.LeftOut.{there, is_unknown, says_unknown, country_lost, words_in, understood}
use Rattle.left_out.specs.LeftOut.{words_lost, moments_lost, left_out_of}

both : (a b : Bool) → (a && b) ≡ true → (a ≡ true) × (b ≡ true)
both true true e = (refl, refl)
both true false e = let z : ◌≡◌ {A = ℕ} 0 1 = cc in absurd (omega arith)
both false b e = let z : ◌≡◌ {A = ℕ} 0 1 = cc in absurd (omega arith)

is_unknown_lem : (t : List ℕ) → is_unknown t ≡ true → t ≡ unknown
is_unknown_lem [] e = let z : ◌≡◌ {A = ℕ} 0 1 = cc in absurd (omega arith)
is_unknown_lem (a ∷ []) e = let z : ◌≡◌ {A = ℕ} 0 1 = cc in absurd (omega arith)
is_unknown_lem (a ∷ b ∷ []) e =
    let p = both (eqb a 88) (eqb b 88) e in rw (eqb-true a 88 p.0, eqb-true b 88 p.1)
is_unknown_lem (a ∷ b ∷ c ∷ t) e = let z : ◌≡◌ {A = ℕ} 0 1 = cc in absurd (omega arith)

pub country_unknown : (t : List ℕ) → country_lost t ≡ true → two_letters t ≡ unknown
unfolding country_lost
country_unknown t e =
    is_unknown_lem (two_letters t)
    (both (is_unknown (two_letters t)) (not (says_unknown t))
    (both (there t) (is_unknown (two_letters t) && not (says_unknown t)) e).1).0

-- FIELDS IN A ROW, TAKEN APART
record Parts {A B : Type 0} (p : Reader A) (q : A → Reader B) (file : List ℕ) (at : ℕ) (b : B) (to : ℕ) :
    Type 0 where
  value : A
  mid : ℕ
  first : p file at ≡ ok value mid
  rest : q value file mid ≡ ok b to

module _ {A B : Type 0} (p : Reader A) (q : A → Reader B) (file : List ℕ) (at : ℕ) {b : B} {to : ℕ} where
  parts-of : (g : Got A) → p file at ≡ g → follow g (λ a to. q a file to) ≡ ok b to → Parts p q file at b to
  parts-of (ok a m) e f = record { value = a; mid = m; first = e; rest = f }
  parts-of (no n) e f = let z : ◌≡◌ {A = ℕ} 0 1 = cc in absurd (omega arith)

  parts : (p >>= q) file at ≡ ok b to → Parts p q file at b to
  unfolding ◌>>=◌
  parts e = parts-of (p file at) refl e

  -- and put together again
  row : {a : A} {m : ℕ} → p file at ≡ ok a m → q a file m ≡ ok b to → (p >>= q) file at ≡ ok b to
  unfolding ◌>>=◌
  row e f = rw e f

given : {A : Type 0} {a b : A} (file : List ℕ) (at : ℕ) {to : ℕ} → pure a file at ≡ ok b to → a ≡ b
unfolding pure
given file at e = cc

-- nothing is read where nothing is refused
passed : (bad : Bool) (n : ℕ) (file : List ℕ) (at : ℕ) {to : ℕ} → refuse_when bad n file at ≡ ok tt to
    → at ≡ to
unfolding refuse_when
passed true n file at e = let z : ◌≡◌ {A = ℕ} 0 1 = cc in absurd (omega arith)
passed false n file at e = cc

-- START AND END
module _ (file : List ℕ) where
  by_names : (a b c : Bool) (X Y : Times) (at : ℕ) {span : Span} {to : ℕ} → (b || c) ≡ false
      → known (cond a (Refused 4) (cond b X (cond c Y (Known (span_of 0 0))))) file at ≡ ok span to
      → span ≡ span_of 0 0
  unfolding pure refuse
  by_names true b c X Y at n e = let z : ◌≡◌ {A = ℕ} 0 1 = cc in absurd (omega arith)
  by_names false true c X Y at n e = let z : ◌≡◌ {A = ℕ} 0 1 = cc in absurd (omega arith)
  by_names false false true X Y at n e = let z : ◌≡◌ {A = ℕ} 0 1 = cc in absurd (omega arith)
  by_names false false false X Y at n e = cc

  span-zero : (words : OldTexts) (ms : GameMs) (at : ℕ) {span : Span} {to : ℕ}
      → understood (bytes_at file words.software) ≡ false → old_times words ms file at ≡ ok span to
      → span ≡ span_of 0 0
  unfolding old_times contents ◌>>=◌ times_of understood
  span-zero words ms at n e =
      let s = bytes_at file words.software in
      by_names (begins_with arbiter_name s) (begins_with vienna_name s) (begins_with yuan_name s) _ _ at n e

  -- the fields of versions 0 to 3 up to their texts, whatever is made of them
  record Words {B : Type 0} (version at : ℕ) (q : Flags → Sizes → ℕ → OldTexts → Reader B) (b : B) (to : ℕ) :
      Type 0 where
    marks : Flags
    size : Sizes
    ms : ℕ
    words : OldTexts
    mid : ℕ
    reads : (flags version >>= (λ _. sizes >>= (λ _. number 3 >>= (λ _. old_texts)))) file at ≡ ok words mid
    rest : q marks size ms words file mid ≡ ok b to

  words_of : {B : Type 0} (version at : ℕ) (q : Flags → Sizes → ℕ → OldTexts → Reader B) {b : B} {to : ℕ}
      → (flags version >>= (λ m. sizes >>= (λ z. number 3 >>= (λ n. old_texts >>= (λ w. q m z n w))))) file at
      ≡ ok b to
      → Words version at q b to
  words_of version at q e =
      let a = parts (flags version) _ file at e in
      let b = parts sizes _ file a.mid a.rest in
      let c = parts (number 3) _ file b.mid b.rest in
      let d = parts old_texts _ file c.mid c.rest in
      record {
        marks = a.value;
        size = b.value;
        ms = c.value;
        words = d.value;
        mid = d.mid;
        reads = row (flags version) _ file at a.first
            (row sizes _ file a.mid b.first (row (number 3) _ file b.mid c.first d.first));
        rest = d.rest;
      }

  -- the fields behind the span leave it as it is
  span-kept : (version : ℕ) (p : Place) (make : Place → Place → List ℕ → Front) (span : Span)
      → ((c d : Place) (s : List ℕ) → (make c d s).span ≡ span) → (at : ℕ) {t : Front} {to : ℕ}
      → (text >>= (λ c. old_device version >>= (λ d. contents p >>= (λ s. pure (make c d s))))) file at
      ≡ ok t to
      → t.span ≡ span
  span-kept version p make span keeps at e =
      let f = parts text _ file at e in
      let g = parts (old_device version) _ file f.mid f.rest in
      let i = parts (contents p) _ file g.mid g.rest in
      ap (λ (t : Front). t.span) (sym (given file i.mid i.rest))
      ∙ keeps f.value g.value i.value

  -- what the front tells
  record Told (version at : ℕ) (t : Front) : Type 0 where
    words : OldTexts
    mid : ℕ
    reads : (flags version >>= (λ _. sizes >>= (λ _. number 3 >>= (λ _. old_texts)))) file at ≡ ok words mid
    zero : understood (bytes_at file words.software) ≡ false → t.span ≡ span_of 0 0

  told : (version at : ℕ) {t : Front} {to : ℕ} → old_front version file at ≡ ok t to → Told version at t
  unfolding old_front
  told version at e =
      let w = words_of version at _ e in
      let s = parts (old_times w.words (record { 0 = w.ms })) _ file w.mid w.rest in
      record {
        words = w.words;
        mid = w.mid;
        reads = w.reads;
        zero = λ n. span-kept version w.words.software _ s.value (λ c d t. refl) s.mid s.rest
            ∙ span-zero w.words _ w.mid n s.first;
      }

  -- the fields behind the front, whatever is made of them
  record Made (make : Place → List ℕ → Metrics → Opened) (o : Opened) : Type 0 where
    board : Place
    bits : List ℕ
    metrics : Metrics
    is : make board bits metrics ≡ o

  made : (version h w : ℕ) (make : Place → List ℕ → Metrics → Opened) (at : ℕ) {o : Opened} {to : ℕ}
      → (board_bytes h w
      >>= (λ b. contents b >>= (λ s. metrics_of version >>= (λ m. pure (make b s m))))) file at ≡ ok o to
      → Made make o
  made version h w make at e =
      let b = parts (board_bytes h w) _ file at e in
      let s = parts (contents b.value) _ file b.mid b.rest in
      let m = parts (metrics_of version) _ file s.mid s.rest in
      record {
        board = b.value;
        bits = s.value;
        metrics = m.value;
        is = given file m.mid m.rest;
      }

  -- the version and the front that a header comes from
  record Header-of (o : Opened) : Type 0 where
    version : ℕ
    mid : ℕ
    first : number 1 file 0 ≡ ok version mid
    front : Front
    end : ℕ
    reads : front_of version file mid ≡ ok front end
    found : ℕ
    metrics : Metrics
    is : header_of version front found metrics ≡ o.header

  header-from : {o : Opened} {at : ℕ} → opening file 0 ≡ ok o at → Header-of o
  unfolding opening
  header-from e =
      let v = parts (number 1) _ file 0 e in
      let r = parts (refuse_when (ltb 4 v.value) version_unknown) _ file v.mid v.rest in
      let t = parts (front_of v.value) _ file r.mid r.rest in
      let m = made v.value _ _ _ t.mid t.rest in
      record {
        version = v.value;
        mid = r.mid;
        first = v.first ∙ ap (λ (n : ℕ). ok v.value n) (passed _ _ file v.mid r.first);
        front = t.value;
        end = t.mid;
        reads = t.first;
        found = _;
        metrics = m.metrics;
        is = ap (λ (o : Opened). o.header) m.is;
      }

  -- of versions 0 to 3
  old-front : (version at : ℕ) {t : Front} {to : ℕ} → version < 4 → front_of version file at ≡ ok t to
      → old_front version file at ≡ ok t to
  unfolding front_of
  old-front version at l e = rw (ne_eqb version 4 (λ q. omega (arith, q, l))) at e

  not-understood : (words : OldTexts) → words_lost file words ≡ true
      → understood (bytes_at file words.software) ≡ false
  unfolding words_lost
  not-understood words e = not-true (understood (bytes_at file words.software)) (both _ _ e).0

  opened-zero : {o : Opened} {at : ℕ} → opening file 0 ≡ ok o at → o.header.version < 4
      → moments_lost file ≡ true → (o.header.start_time.0 ≡ 0) × (o.header.end_time.0 ≡ 0)
  unfolding moments_lost words_in header_of ◌>>=◌
  opened-zero e l lost =
      let h = header-from e in
      let l : h.version < 4 = rw (ap (λ (k : Header). k.version) h.is) l in
      let t = told h.version h.mid (old-front h.version h.mid l h.reads) in
      let z = t.zero (not-understood t.words (rw (h.first, t.reads) at lost)) in (
        ap (λ (k : Header). k.start_time.0) (sym h.is) ∙ ap (λ (s : Span). s.start.0) z,
        ap (λ (k : Header). k.end_time.0) (sym h.is) ∙ ap (λ (s : Span). s.end.0) z,
      )

  pub moments-zero : {h : Header} {board : Place} {es : List Event} → reading_of file ≡ game h board es
      → (left_out_of file).moments ≡ true → (h.start_time.0 ≡ 0) × (h.end_time.0 ≡ 0)
  unfolding left_out_of
  moments-zero {h} q e =
      let t = traced file q in
      let o = t.opened.header in
      let m = both (ltb h.version 4) (moments_lost file) (rw q at e) in
      let v : h.version ≡ o.version = ap (λ (k : Header). k.version) t.header_is in
      let z = opened-zero t.opens (omega (arith, ltb-true h.version 4 m.0, v)) m.1 in (
        ap (λ (k : Header). k.start_time.0) t.header_is ∙ z.0,
        ap (λ (k : Header). k.end_time.0) t.header_is ∙ z.1,
      )
