-- The event records of version 4, read from the bytes that they are written as: one law a record. Assumes
-- nothing.
--     coded, three   a code and what it asks for, and three numbers, in any version
--     first-takes    the first record
--     move-takes     a mouse event behind it
--     pause-takes    a pause
--     stop-takes     the end
--     taken          and what is read then, where the bytes stand
use Prim.Native.Nat.{ℕ, ◌+◌, ◌/◌, ◌%◌, ◌^◌, ◌≤◌, ◌<◌}
use mathlib.Core.Path.{◌≡◌, refl, ap, subst, ◌∙◌}
use mathlib.Core.Bool.{true, false, not, ◌&&◌, and-eq-true_iff}
use mathlib.Core.List.{List, [], ◌∷◌, ◌++◌}
use native.Mathlib.Omega.{arith}
use lib.Dec.{leb, lit<}
use lib.ListN.{length}
use borrow.Author.Tests.{leb-true, le-leb, ne_eqb}
use Rattle.game.specs.declared.MouseKind.{MouseKind}
use Rattle.game.specs.declared.MouseKind.TheVariants.{Mv, Lc, Lr, Rc, Rr, Mc, Mr, Pf, Cc, L, R, M, Ub}
use Rattle.game.specs.Kinds.{code_of, kind_of}
use Rattle.game.proofs.Codes.{kind_of_code}
use Rattle.byte_reader.specs.Reading.{ok, Reader, ◌>>=◌, pure}
use Rattle.byte_reader.specs.Numbers.{bytes_of, number}
use Rattle.byte_reader.proofs.Laws.{Stands, Takes, then, pure-takes, number-takes}
use Rattle.record_fields.specs.Fields.{mouse, mouse_body}
use Rattle.records_v4.specs.Records.{is_first, first_body, first_record, moves, stops, pauses, event, move_body}
use Rattle.records_v4.specs.Records.{pause_body, later_body, later_record}
use Rattle.mouse_records.specs.Records.{record_bytes}
use Rattle.game.specs.Kinds.{begins}
use Rattle.evf_records.specs.Refusals.{is_ub}

-- CODES: version 4 begins with the kinds that it is read to begin with, and every kind but ub has a code from
-- 1 to 12
codes : (kind : MouseKind)
    → (is_first (code_of kind) ≡ begins kind)
    × ((leb 1 (code_of kind) && leb (code_of kind) 12) ≡ not (is_ub kind))
unfolding is_first kind_of
codes Mv = (refl, refl)
codes Lc = (refl, refl)
codes Lr = (refl, refl)
codes Rc = (refl, refl)
codes Rr = (refl, refl)
codes Mc = (refl, refl)
codes Mr = (refl, refl)
codes Pf = (refl, refl)
codes Cc = (refl, refl)
codes L = (refl, refl)
codes R = (refl, refl)
codes M = (refl, refl)
codes Ub = (refl, refl)

named : (kind : MouseKind) → is_ub kind ≡ false → (1 ≤ code_of kind) × (code_of kind ≤ 12)
named kind u =
    let b = (and-eq-true_iff (leb 1 (code_of kind)) (leb (code_of kind) 12)).0 ((codes kind).1 ∙ ap not u) in
    (leb-true 1 (code_of kind) b.0, leb-true (code_of kind) 12 b.1)

module _ (s : List ℕ) where
  -- what a reader gives where the bytes of a value stand
  pub taken : {A : Type 0} {p : Reader A} {e r : List ℕ} {v : A} (at : ℕ) → Takes s p e (λ a. a ≡ v)
      → Stands s at e r → p s at ≡ ok v (at + length e)
  taken {e = e} {r = r} at t h = let g = t.go at r h in g.gives ∙ ap (λ a. ok a (at + length e)) g.holds

  -- a code, and what it asks for
  pub coded : {A : Type 0} {e : List ℕ} {P : A → Type 0} (q : ℕ → Reader A) (code : ℕ) → code < 256
      → Takes s (q code) e P → Takes s (number 1 >>= q) (code ∷ e) P
  coded {e = e} {P = P} q code h t =
      let one : code / 1 % 256 ≡ code = omega arith in
      subst (λ (b : ℕ). Takes s (number 1 >>= q) (b ∷ e) P) one
      (then s q (number-takes s 1 code h) (λ a i. rw i t))

  -- a number of k bytes and two of 16 bits
  pub three : {A : Type 0} (make : ℕ → ℕ → ℕ → A) (k a b c : ℕ) → a < 256 ^ k → b < 65536 → c < 65536
      → Takes s (number k >>= (λ a. number 2 >>= (λ b. number 2 >>= (λ c. pure (make a b c)))))
      (bytes_of k a ++ (bytes_of 2 b ++ bytes_of 2 c)) (λ v. v ≡ make a b c)
  three make k a b c h i j =
      then s _ (number-takes s k a h)
      (λ a' ea. then s _ (number-takes s 2 b i)
      (λ b' eb. then s _ (number-takes s 2 c j)
      (λ c' ec. pure-takes s (make a' b' c') (rw (ea, eb, ec)))))

  module _ (kind : MouseKind) (named-kind : is_ub kind ≡ false) {n x y : ℕ} (hn : n < 256) (hx : x < 65536)
      (hy : y < 65536) where
    in-byte : code_of kind < 256
    in-byte = omega (arith, (named kind named-kind).1)

    pub first-takes : begins kind ≡ true
        → Takes s first_record (record_bytes (code_of kind) 1 n x y) (λ v. v ≡ mouse kind n x y)
    unfolding first_record mouse_body
    first-takes b = coded first_body (code_of kind) in-byte
        (rw ((codes kind).0 ∙ b, kind_of_code kind) (three (mouse kind) 1 n x y hn hx hy))

    pub move-takes : Takes s later_record (record_bytes (code_of kind) 1 n x y)
        (λ v. v ≡ event n (moves kind x y))
    unfolding later_record move_body
    move-takes =
        let c = named kind named-kind in
        coded later_body (code_of kind) in-byte
        (rw (
          ne_eqb (code_of kind) 0 (λ z. omega (arith, c.0, z)),
          le-leb (code_of kind) 12 c.1,
          kind_of_code kind,
        )
        (three (λ wait dx dy. event wait (moves kind dx dy)) 1 n x y hn hx hy))

  pub pause-takes : (n : ℕ) → n < 65536 → Takes s later_record (255 ∷ bytes_of 2 n) (λ v. v ≡ pauses n)
  unfolding later_record pause_body
  pause-takes n h = coded later_body 255 (lit< tt)
      (then s _ (number-takes s 2 n h) (λ m e. pure-takes s (pauses m) (rw e)))

  pub stop-takes : Takes s later_record (0 ∷ []) (λ v. v ≡ stops)
  unfolding later_record
  stop-takes = coded later_body 0 (lit< tt) (pure-takes s stops refl)
