-- A country's two-letter form. Assumes nothing.
--     form          the form is two bytes, each a letter of A to Z
--     form_again    the form of a form is that form
--     form_short    a text that is not of two bytes has the form `XX`
--     form_two      a text of two bytes: what the form is, by its bytes
use mathlib.Core.Path.{◌≡◌, refl, sym, ap, ◌∙◌}
use mathlib.Core.Bool.{Bool, true, false, cond, ◌&&◌, ◌||◌}
use mathlib.Core.List.{List, [], ◌∷◌}
use Prim.Native.Nat.{ℕ, ◌-◌, ◌≤◌}
use native.Mathlib.Omega.{arith}
use lib.Dec.{T, leb, leb→le}
use lib.ListN.{length, get_or}
use borrow.Author.Tests.{le-leb, lt-leb}
use Rattle.game.specs.Country.{is_letter, upper, unknown, two_letters}

-- ---- letters

-- a letter of A to Z
pub record Upper (c : ℕ) : Type 0 where
  pub least : 65 ≤ c
  pub most : c ≤ 90

upper-upper : (c : ℕ) → T (is_letter c) → Upper (upper c)
unfolding is_letter upper
upper-upper c t = go (leb 65 c) (leb c 90) (leb 97 c) (leb c 122) (leb→le 65 c) (leb→le c 90) (leb→le 97 c)
    (leb→le c 122) t
  where
    go : (p q r s : Bool) → (T p → 65 ≤ c) → (T q → c ≤ 90) → (T r → 97 ≤ c) → (T s → c ≤ 122)
        → T ((p && q) || (r && s)) → Upper (cond r (c - 32) c)
    go p q true true a b d e t = record { least = omega (arith, d tt); most = omega (arith, e tt) }
    go true true true false a b d e t = absurd (omega (arith, b tt, d tt))
    go true true false s a b d e t = record { least = a tt; most = b tt }
    go true false true false a b d e t = absurd t
    go true false false s a b d e t = absurd t
    go false q true false a b d e t = absurd t
    go false q false s a b d e t = absurd t

upper_letter : (c : ℕ) → Upper c → is_letter c ≡ true
unfolding is_letter
upper_letter c u = simp (le-leb 65 c u.least, le-leb c 90 u.most)

upper_stays : (c : ℕ) → Upper c → upper c ≡ c
unfolding upper
upper_stays c u = simp (lt-leb 97 c (omega (arith, u.most)))

-- ---- the form

-- two bytes, each a letter of A to Z
pub record Form (l : List ℕ) : Type 0 where
  pub first : ℕ
  pub second : ℕ
  pub is : l ≡ first ∷ second ∷ []
  pub first_upper : Upper first
  pub second_upper : Upper second

unknown_form : Form unknown
unknown_form = record {
  first = 88;
  second = 88;
  is = refl;
  first_upper = record { least = omega arith; most = omega arith };
  second_upper = record { least = omega arith; most = omega arith };
}

letters_form : (a b : ℕ) → Form (cond (is_letter a && is_letter b) (upper a ∷ upper b ∷ []) unknown)
letters_form a b = go (is_letter a) (is_letter b) (upper-upper a) (upper-upper b)
  where
    go : (p q : Bool) → (T p → Upper (upper a)) → (T q → Upper (upper b))
        → Form (cond (p && q) (upper a ∷ upper b ∷ []) unknown)
    go true true f g =
        record { first = upper a; second = upper b; is = refl; first_upper = f tt; second_upper = g tt }
    go true false f g = unknown_form
    go false q f g = unknown_form

pub form : (t : List ℕ) → Form (two_letters t)
unfolding two_letters
form [] = unknown_form
form (a ∷ []) = unknown_form
form (a ∷ b ∷ []) = letters_form a b
form (a ∷ b ∷ c ∷ t) = unknown_form

pub form_length : (t : List ℕ) → length (two_letters t) ≡ 2
form_length t = ap length (form t).is

form_kept : (l : List ℕ) → Form l → two_letters l ≡ l
unfolding two_letters
form_kept l f =
    let e = f.is in
    let a = f.first in
    let b = f.second in
    ap two_letters e
    ∙ (simp (
      upper_letter a f.first_upper,
      upper_letter b f.second_upper,
      upper_stays a f.first_upper,
      upper_stays b f.second_upper,
    ))
    ∙ sym e

pub form_again : (t : List ℕ) → two_letters (two_letters t) ≡ two_letters t
form_again t = form_kept (two_letters t) (form t)

-- ---- by the length
pub form_short : (t : List ℕ) → (length t ≡ 2 → ⊥) → two_letters t ≡ unknown
unfolding two_letters
form_short [] h = refl
form_short (a ∷ []) h = refl
form_short (a ∷ b ∷ []) h = absurd (h refl)
form_short (a ∷ b ∷ c ∷ t) h = refl

pub form_two : (t : List ℕ) → length t ≡ 2
    → two_letters t ≡ cond (is_letter (get_or t 0 0) && is_letter (get_or t 1 0))
    (upper (get_or t 0 0) ∷ upper (get_or t 1 0) ∷ []) unknown
unfolding two_letters
form_two [] h = absurd (omega arith)
form_two (a ∷ []) h = absurd (omega arith)
form_two (a ∷ b ∷ []) h = refl
form_two (a ∷ b ∷ c ∷ t) h = absurd (omega arith)
