-- What the functions answer, by the cursors in front of the texts and behind them. Assumes nothing.
--     block-gives             the block of the texts that were passed over
--     ends_there, ends-not    whether a block ends where they do
use Prim.Native.Nat.{ℕ}
use mathlib.Core.Path.{◌≡◌, refl, sym, ap, ◌∙◌}
use mathlib.Core.Bool.{false}
use mathlib.Core.List.{List}
use native.Mathlib.Omega.{arith}
use lib.Dec.{eqb}
use lib.ListN.{length}
use Rattle.text.specs.declared.Place.{Place}
use Rattle.byte_reader.specs.declared.ByteReader.{ByteReader}
use Rattle.byte_reader.specs.declared.ByteReader.TheVariants.{At, Refused}
use Rattle.byte_reader.specs.Reading.{Got, ok, no}
use Rattle.byte_reader.specs.Cursor.{value_of, cursor_of, value_from, cursor_after, Gives}
use Rattle.metrics.specs.Block.{texts, placed, block_of_texts, ends_at, are_texts, between}

module _ (file : List ℕ) (n : ℕ) where
  value-placed : (at : ℕ) (g : Got (Unit {0}))
      → between (At at) (cursor_of g) ≡ value_of (between (At at) (cursor_of g)) (placed at g)
  unfolding between
  value-placed at (ok u to) = refl
  value-placed at (no k) = refl

  cursor-placed : (at : ℕ) (g : Got (Unit {0})) → cursor_of g ≡ cursor_of (placed at g)
  cursor-placed at (ok u to) = refl
  cursor-placed at (no k) = refl

  block-after : (c m : ByteReader) → m ≡ cursor_after (texts n) file c
      → Gives (block_of_texts n) file c (between c m) m
  unfolding block_of_texts value_from cursor_after between
  block-after (At at) m e =
      let g = texts n file at in
      rw e (record { value-is = value-placed at g; next-is = cursor-placed at g })
  block-after (Refused k) m e = record { value-is = refl; next-is = e }

  pub block-gives : {c m : ByteReader} {p : Place} → Gives (texts n) file c tt m → p ≡ between c m
      → Gives (block_of_texts n) file c p m
  block-gives {c} {m} g e = rw e (block-after c m g.next-is)

module _ (n : ℕ) (block : List ℕ) where
  at-end : (g : Got (Unit {0})) (end : ℕ) → At end ≡ cursor_of g
      → eqb end (length block) ≡ ends_at (length block) g
  at-end (ok u to) end e = let f : end ≡ to = cc in ap (λ (k : ℕ). eqb k (length block)) f
  at-end (no k) end e = let z : ◌≡◌ {A = ℕ} 0 1 = cc in absurd (omega arith)

  refused-before : (g : Got (Unit {0})) (k : ℕ) → Refused k ≡ cursor_of g → false ≡ ends_at (length block) g
  refused-before (ok u to) k e = let z : ◌≡◌ {A = ℕ} 0 1 = cc in absurd (omega arith)
  refused-before (no j) k e = refl

  module _ {m : ByteReader} (g : Gives (texts n) block (At 0) tt m) where
    pub ends_there : (end : ℕ) → m ≡ At end → eqb end (length block) ≡ are_texts n block
    unfolding are_texts cursor_after
    ends_there end e = at-end (texts n block 0) end (sym e ∙ g.next-is)

    pub ends-not : (k : ℕ) → m ≡ Refused k → false ≡ are_texts n block
    unfolding are_texts cursor_after
    ends-not k e = refused-before (texts n block 0) k (sym e ∙ g.next-is)
