-- Readers of a header's fields that `byte_reader` has no law of: each takes what is written for it. Assumes
-- nothing.
--     last              the last field, from which the whole is made
--     then-nothing      a field, and then what takes no byte
--     Refuses           wherever some bytes stand, a field is refused with a number
--     then-refuses      fields before it are taken, and those behind it do not matter (`refuses-then`)
--     when-takes        what is not the case is not refused
--     contents-takes    what was read before
--     counted-takes     counted bytes
use Prim.Native.Nat.{ℕ, ◌+◌, ◌<◌}
use mathlib.Core.Path.{◌≡◌, refl, sym, ap, subst}
use mathlib.Core.Bool.{Bool, false}
use mathlib.Core.List.{List, [], ◌++◌, append-nil}
use native.Mathlib.Nat.{add-zero}
use lib.ListN.{length}
use Rattle.text.specs.declared.Place.{Place}
use Rattle.text.specs.Places.{bytes_at}
use Rattle.byte_reader.specs.Reading.{ok, no, Reader, ◌>>=◌, pure, refuse_when}
use Rattle.byte_reader.specs.Fields.{bytes, counted_bytes}
use Rattle.byte_reader.proofs.Laws.{Stands, front, behind, Takes, then, number-takes, bytes-takes}
use Rattle.byte_writer.specs.Fields.{counted}
use Rattle.header_fields.specs.Fields.{contents}

module _ (s : List ℕ) where
  pub last : {A B : Type 0} {p : Reader A} {e : List ℕ} {P : A → Type 0} {Q : B → Type 0} (f : A → B)
      → Takes s p e P → ((a : A) → P a → Q (f a)) → Takes s (p >>= (λ a. pure (f a))) e Q
  unfolding ◌>>=◌ pure
  last f i k =
      record {
        go = λ at r h. let a = i.go at r h in
            record { value = f a.value; gives = rw a.gives; holds = k a.value a.holds };
      }

  pub then-nothing : {A B : Type 0} {p : Reader A} {e : List ℕ} {P : A → Type 0} {Q : B → Type 0}
      (q : A → Reader B) → Takes s p e P → ((a : A) → P a → Takes s (q a) [] Q) → Takes s (p >>= q) e Q
  then-nothing {p = p} {e = e} {Q = Q} q i k =
      subst (λ (l : List ℕ). Takes s (p >>= q) l Q) (append-nil e) (then s q i k)

  pub record Refuses {A : Type 0} (p : Reader A) (e : List ℕ) (n : ℕ) : Type 0 where
    pub go : (at : ℕ) (r : List ℕ) → Stands s at e r → p s at ≡ no n

  pub then-refuses : {A B : Type 0} {p : Reader A} {e f : List ℕ} {P : A → Type 0} {n : ℕ} (q : A → Reader B)
      → Takes s p e P → ((a : A) → P a → Refuses (q a) f n) → Refuses (p >>= q) (e ++ f) n
  unfolding ◌>>=◌
  then-refuses {e = e} {f = f} q i k =
      record {
        go = λ at r h.
            let a = i.go at (f ++ r) (front s at e f r h) in
            rw a.gives ((k a.value a.holds).go (at + length e) r (behind s at e f r h));
      }

  pub refuses-then : {A B : Type 0} {p : Reader A} {e : List ℕ} {n : ℕ} (q : A → Reader B) → Refuses p e n
      → (f : List ℕ) → Refuses (p >>= q) (e ++ f) n
  unfolding ◌>>=◌
  refuses-then {e = e} q i f =
      record { go = λ at r h. rw (i.go at (f ++ r) (front s at e f r h)) }

  pub when-takes : (bad : Bool) (n : ℕ) → bad ≡ false → Takes s (refuse_when bad n) [] (λ u. Unit {0})
  unfolding refuse_when
  when-takes bad n e =
      record {
        go = λ at r h. record { value = tt; gives = rw e (ap (ok tt) (sym (add-zero at))); holds = tt };
      }

  pub contents-takes : (p : Place) → Takes s (contents p) [] (λ d. d ≡ bytes_at s p)
  unfolding contents
  contents-takes p =
      record {
        go = λ at r h.
            record { value = bytes_at s p; gives = ap (ok (bytes_at s p)) (sym (add-zero at)); holds = refl };
      }

  pub counted-takes : (t : List ℕ) → length t < 65536
      → Takes s counted_bytes (counted t) (λ a. bytes_at s a ≡ t)
  unfolding counted_bytes
  counted-takes t h = then s bytes (number-takes s 2 (length t) h) (λ n e. bytes-takes s t n e)
