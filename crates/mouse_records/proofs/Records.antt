-- The record of a mouse event: written field by field, and how long it is. Assumes nothing.
--     record3-written, record4-written     the fields one behind the other are the record
--     mouse_long                   how many bytes it has
use Rattle.std.proofs.Common.{◌≡◌, ℕ, ◌+◌, ◌-◌, ◌<◌, ◌≤◌, Bool, true, false, cond, eqb, List, [], ◌∷◌, ◌++◌, length, refl, ap, arith, length-append}
use lib.Seq.{length-sets}
use Rattle.game.specs.Kinds.{code_of}
use Rattle.game.specs.declared.MouseKind.{MouseKind}
use Rattle.byte_reader.specs.Numbers.{bytes_of}
use Rattle.byte_writer.specs.Places.{most, Writes}
use Rattle.byte_writer.proofs.Laws.{writes_then}
use Rattle.mouse_records.specs.declared.Last.{Last}
use Rattle.mouse_records.specs.Pauses.{pauses_of, rest_of}
use Rattle.mouse_records.specs.Records.{record_bytes, record3, difference, record4}
use Rattle.mouse_records.specs.MouseRecords.{mouse_bytes}

pub byte : (n : ℕ) → n < 256 → bytes_of 1 n ≡ n ∷ []
byte n h = ap (λ (m : ℕ). m ∷ []) (omega arith)

module _ {d d₁ : List ℕ} {at p : ℕ} (l : length d ≤ most) where
  pub long : {e : List ℕ} → Writes d d₁ at e p → length d₁ ≤ most
  long v = rw (v.is, length-sets) l

  -- a code, and what stands behind it
  pub code-written : {d₂ : List ℕ} {to : ℕ} {e : List ℕ} (code : ℕ) → code < 256
      → Writes d d₁ at (bytes_of 1 code) p → Writes d₁ d₂ p e to → Writes d d₂ at (code ∷ e) to
  code-written code h v w = writes_then l (rw (byte code h) at v) (λ _. w)

  pub record-written : {d₂ d₃ : List ℕ} {q to : ℕ} (code k ms x y : ℕ) → code < 256
      → Writes d d₁ at (bytes_of 1 code) p → Writes d₁ d₂ p (bytes_of k ms) q
      → Writes d₂ d₃ q (bytes_of 2 x ++ bytes_of 2 y) to → Writes d d₃ at (record_bytes code k ms x y) to
  record-written code k ms x y h v w u = code-written code h v (writes_then (long v) w (λ _. u))

module _ {d d₁ d₂ d₃ : List ℕ} {at p q to : ℕ} (l : length d ≤ most) where
  pub record3-written : {code : ℕ} (kind : MouseKind) (ms x y : ℕ) → code ≡ code_of kind → code < 256
      → Writes d d₁ at (bytes_of 1 code) p → Writes d₁ d₂ p (bytes_of 3 ms) q
      → Writes d₂ d₃ q (bytes_of 2 x ++ bytes_of 2 y) to → Writes d d₃ at (record3 kind ms x y) to
  unfolding record3
  record3-written {code} kind ms x y e h v w u = rw (← e) (record-written l code 3 ms x y h v w u)

  pub record4-written : {d₀ : List ℕ} {o wait code rest x y : ℕ} (last : Last) (kind : MouseKind)
      (to-ms to-x to-y : ℕ) → wait ≡ to-ms - last.ms.0 → code ≡ code_of kind → code < 256
      → rest ≡ rest_of wait → x ≡ difference last.x to-x → y ≡ difference last.y to-y
      → Writes d d₀ at (pauses_of wait) o → Writes d₀ d₁ o (bytes_of 1 code) p
      → Writes d₁ d₂ p (bytes_of 1 rest) q → Writes d₂ d₃ q (bytes_of 2 x ++ bytes_of 2 y) to
      → Writes d d₃ at (record4 last kind to-ms to-x to-y) to
  unfolding record4
  record4-written {d₀} {o} {wait} {code} {rest} {x} {y} last kind to-ms to-x to-y ew ec h er ex ey v₀ v w u =
      rw (← ew, ← ec, ← er, ← ex, ← ey) (writes_then l v₀ (λ m. record-written m code 1 rest x y h v w u))

-- HOW LONG
pub mouse_long : (version : ℕ) (last : Last) (kind : MouseKind) (to : Last)
    → length (mouse_bytes version last kind to)
    ≡ cond (eqb version 4) (length (pauses_of (to.ms.0 - last.ms.0)) + 6) 8
unfolding record3 record4
mouse_long version last kind to = go (eqb version 4)
  where
    go : (b : Bool)
        → length (cond b (record4 last kind to.ms.0 to.x to.y)
        (record3 kind to.ms.0 to.x to.y))
        ≡ cond b (length (pauses_of (to.ms.0 - last.ms.0)) + 6) 8
    go true = length-append (pauses_of (to.ms.0 - last.ms.0)) _
    go false = refl
