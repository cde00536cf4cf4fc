-- A text's bytes shown one by one. Assumes nothing.
--     byte_is         a byte is written as it is
--     char_..         how long the first character is, by the tests of the code
--     escaping-..     what is written behind the first i bytes
--     length_escaped  what is shown is at most four times as long
--     length-shown    and never more than 838 bytes
use Prim.Native.Nat.{ℕ, zero, suc, ◌+◌, ◌-◌, ◌*◌, ◌/◌, ◌%◌, ◌≤◌, ◌<◌}
use mathlib.Core.Path.{◌≡◌, refl, sym, ap, ◌∙◌}
use mathlib.Core.Bool.{true, false, cond}
use mathlib.Core.List.{List, [], ◌∷◌, ◌++◌, append_assoc, append-nil}
use native.Mathlib.Omega.{arith}
use lib.Dec.{eqb, ltb}
use lib.ListN.{length, get_or, take, drop, length-append, length-drop, drop_of_length-le, length-take}
use lib.Seq.{drop-cons, take_all}
use native.Mathlib.Numerals.{add-one}
use borrow.Author.Tests.{lt-ltb, le-ltb, eq-eqb, ne_eqb}
use Rattle.text.specs.Utf8.{utf8}
use Rattle.text.specs.Decimals.{decimal_bytes}
use Rattle.text.proofs.Decimals.{twenty_at-most}
use Rattle.byte_reader.specs.Numbers.{bytes_of}
use Rattle.byte_writer.specs.Places.{most, Writes}
use Rattle.byte_writer.proofs.Laws.{writes_none, writes_then, writes_as}
use Rattle.lines.specs.Escapes.{char_length, hex_digit, escape, shown_byte}
use Rattle.lines.specs.Escapes.{backslash, plain_from, escaped_from, escaped_text, most_shown, shown_text}
use Rattle.lines.specs.Ascii.{ascii}

-- a byte is written as it is
pub byte_is : (v : ℕ) → v < 256 → bytes_of 1 v ≡ v ∷ []
byte_is v l = let a : v / 1 % 256 ≡ v = omega arith in rw a

-- THE FIRST CHARACTER
module _ (t : List ℕ) where
  pub char_here : (n : ℕ) → 0 < n → n < 5 → ((k : ℕ) → 0 < k → k < n → utf8 (take k t) ≡ false)
      → utf8 (take n t) ≡ true → n ≡ char_length t
  unfolding char_length
  char_here zero l h before e = absurd (omega arith)
  char_here (suc zero) l h before e = rw e
  char_here (suc (suc zero)) l h before e = rw (before 1 (omega arith) (omega arith), e)
  char_here (suc (suc (suc zero))) l h before e = rw (before 1 (omega arith) (omega arith), before 2 (omega arith) (omega arith), e)
  char_here (suc (suc (suc (suc zero)))) l h before e =
      rw (
        before 1 (omega arith) (omega arith),
        before 2 (omega arith) (omega arith),
        before 3 (omega arith) (omega arith),
        e,
      )
  char_here (suc (suc (suc (suc (suc n))))) l h before e = absurd (omega arith)

  pub char_none : ((k : ℕ) → 0 < k → k < 5 → utf8 (take k t) ≡ false) → 0 ≡ char_length t
  unfolding char_length
  char_none none =
      rw (
        none 1 (omega arith) (omega arith),
        none 2 (omega arith) (omega arith),
        none 3 (omega arith) (omega arith),
        none 4 (omega arith) (omega arith),
      )

-- ONE BYTE
pub escape_self : (b : ℕ) → b ≡ backslash → backslash ∷ backslash ∷ [] ≡ escape b
unfolding escape
escape_self b q = rw (eq-eqb b backslash q)

hex_small : (n : ℕ) → n < 16 → hex_digit n < 256
hex_small n l =
    (elim (ltb n 10) as (λ x. cond x (48 + n) (87 + n) < 256) [
      | true ↦ omega arith
      | false ↦ omega arith
    ])

pub escape_hex : (b h l : ℕ) → (b ≡ backslash → ⊥) → b < 256 → h ≡ hex_digit (b / 16) → l ≡ hex_digit (b % 16)
    → (backslash ∷ 120 ∷ []) ++ (bytes_of 1 h ++ bytes_of 1 l) ≡ escape b
unfolding escape
escape_hex b h l n m p q =
    let i : h < 256 = omega (arith, hex_small (b / 16) (omega arith)) in
    let j : l < 256 = omega (arith, hex_small (b % 16) (omega arith)) in
    let x : h / 1 % 256 ≡ hex_digit (b / 16) = omega arith in
    let y : l / 1 % 256 ≡ hex_digit (b % 16) = omega arith in
    rw (ne_eqb b backslash n, x, y)

pub shown-escape : (n b : ℕ) → n ≡ 0 → escape b ≡ shown_byte n b
unfolding shown_byte
shown-escape n b q = rw q

pub shown_plain : (n b : ℕ) → (n ≡ 0 → ⊥) → b ∷ [] ≡ shown_byte n b
unfolding shown_byte
shown_plain zero b q = absurd (q refl)
shown_plain (suc n) b q = refl

-- BYTE BY BYTE: some of what is to be shown is written, and the bytes from i on show the rest
pub record Escaping (d : List ℕ) (at : ℕ) (t d' : List ℕ) (to left i : ℕ) : Type 0 where
  pub shown : List ℕ
  pub writes : Writes d d' at shown to
  pub rest : shown ++ escaped_from left (drop i t) ≡ escaped_text t
  pub inside : i ≤ length t

module _ (d : List ℕ) (at : ℕ) (t : List ℕ) where
  pub escaping-none : at ≤ most → Escaping d at t d at 0 0
  escaping-none l =
      record { shown = []; writes = writes_none d at l; rest = refl; inside = omega arith }

  module _ {d' : List ℕ} {to left i : ℕ} (w : Escaping d at t d' to left i) where
    pub escaping-more : {d'' : List ℕ} {plain to' left' : ℕ} → length d ≤ most → i < length t
        → plain ≡ plain_from left (take (length t - i) (drop i t)) → Writes d' d'' to (shown_byte plain (get_or t i 0)) to'
        → left' ≡ plain - 1 → Escaping d at t d'' to' left' (i + 1)
    unfolding escaped_from
    escaping-more {plain = plain} l h p v q =
        let b = get_or t i 0 in
        let s : drop i t ≡ b ∷ drop (suc i) t = drop-cons t i 0 h in
        let e : plain ≡ plain_from left (b ∷ drop (suc i) t) =
        p ∙ ap (λ (x : List ℕ). plain_from left x) (take_all _ (drop i t) (omega (arith, length-drop i t)) ∙ s) in
        let r : w.shown ++ escaped_from left (b ∷ drop (suc i) t) ≡ escaped_text t =
        ap (λ (x : List ℕ). w.shown ++ escaped_from left x) (sym s) ∙ w.rest in
        record {
          shown = w.shown ++ shown_byte plain b;
          writes = writes_then l w.writes (λ _. v);
          rest = rw (add-one, q, append_assoc, e) r;
          inside = omega arith;
        }

    pub escaping-all : length t ≤ i → Writes d d' at (escaped_text t) to
    unfolding escaped_from
    escaping-all h =
        let s : drop i t ≡ [] = drop_of_length-le t h in
        let r : w.shown ++ escaped_from left [] ≡ escaped_text t =
        ap (λ (x : List ℕ). w.shown ++ escaped_from left x) (sym s) ∙ w.rest in
        writes_as (sym (append-nil w.shown) ∙ r) w.writes

-- THE FIRST BYTES OF A TEXT
pub shown-short : (t : List ℕ) → length t ≤ most_shown → escaped_text t ≡ shown_text t
unfolding shown_text
shown-short t l =
    rw (le-ltb most_shown (length t) l, take_all most_shown t l) (sym (append-nil (escaped_text t)))

pub shown-long : (t : List ℕ) → most_shown < length t
    → escaped_text (take most_shown t) ++ (ascii " ... " ++ (decimal_bytes (length t) ++ ascii " bytes in all"))
    ≡ shown_text t
unfolding shown_text
shown-long t l = rw (lt-ltb most_shown (length t) l)

-- LENGTHS
length-shown-byte : (n b : ℕ) → length (shown_byte n b) ≤ 4
unfolding shown_byte escape
length-shown-byte zero b =
    (elim (eqb b backslash) as
    (λ x. length (cond x (backslash ∷ backslash ∷ [])
    (backslash ∷ 120 ∷ hex_digit (b / 16) ∷ hex_digit (b % 16) ∷ [])) ≤ 4) [
      | true ↦ omega arith
      | false ↦ omega arith
    ])
length-shown-byte (suc n) b = omega arith

pub length_escaped : (n : ℕ) (s : List ℕ) → length (escaped_from n s) ≤ 4 * length s
unfolding escaped_from
length_escaped n [] = omega arith
length_escaped n (b ∷ s) =
    let k = plain_from n (b ∷ s) in
    let e = length-append (shown_byte k b) (escaped_from (k - 1) s) in
    let f = length-shown-byte k b in
    let g = length_escaped (k - 1) s in
    omega arith

pub length-shown : (t : List ℕ) → length (shown_text t) ≤ 838
unfolding shown_text
length-shown t =
    let s = escaped_text (take most_shown t) in
    let many = ascii " ... " ++ decimal_bytes (length t) ++ ascii " bytes in all" in
    let f : length s ≤ 800 = omega (arith, length_escaped 0 (take most_shown t), length-take most_shown t) in
    (elim (ltb most_shown (length t)) as (λ x. length (s ++ cond x many []) ≤ 838) [
      | true ↦ omega (
        arith,
        length-append s many,
        length-append (decimal_bytes (length t)) (ascii " bytes in all"),
        twenty_at-most (length t),
      )
      | false ↦ omega (arith, length-append s [])
    ])
