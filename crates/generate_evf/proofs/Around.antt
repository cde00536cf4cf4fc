-- The steps of a writer by what was judged: the answer, and the file around the events. Assumes nothing.
use Prim.Native.Nat.{ℕ, ◌+◌}
use mathlib.Core.Path.{◌≡◌, ap, ◌∙◌}
use mathlib.Core.Bool.{Bool, true, false}
use mathlib.Core.List.{List}
use native.Mathlib.Nat.{zero-add}
use lib.IntN.{ℤ}
use lib.ListN.{length}
use lib.Seq.{sets}
use Rattle.game.specs.declared.Header.{Header}
use Rattle.byte_writer.specs.Places.{capped, Writes, fits_in}
use Rattle.evf_records.specs.declared.Seen.{Seen}
use Rattle.evf_records.specs.Steps.{seen_version, seen_rule, run_from, run_off}
use Rattle.evf_judging.specs.declared.Verdict.TheVariants.{Fine, Refused as Bad}
use Rattle.generate_evf.specs.declared.Size.TheVariants.{Bytes as Takes, Refused as Unsized}
use Rattle.generate_evf.specs.declared.Written.TheVariants.{Bytes, Refused, Short}
use Rattle.generate_evf.specs.Steps.{front_seen, verdict_of, whole_of, size_seen, ready_of, around, around_of}

-- the place behind what stands at the start
pub from_start_lem : {d d' e : List ℕ} {to : ℕ} → Writes d d' 0 e to → to ≡ capped (length e)
from_start_lem {e = e} w = w.next ∙ ap capped (zero-add (length e))

-- front and tail, from their two writes
pub around_is : {d d₁ d₂ front tail : List ℕ} {at end to : ℕ} (n : ℕ) → Writes d d₁ 0 front at
    → end ≡ capped (at + n) → Writes d₁ d₂ end tail to
    → d₂ ≡ sets (sets d 0 front) (capped (capped (length front) + n)) tail
around_is {d = d} {front = front} {tail = tail} {end = end} n v e w =
    w.is ∙ ap (λ (l : List ℕ). sets l end tail) v.is ∙ ap (λ (p : ℕ). sets (sets d 0 front) p tail)
    (e ∙ ap (λ (p : ℕ). capped (p + n)) (from_start_lem v))

module _ (h : Header) (bytes : List ℕ) (board : List ℤ) (seen : Seen) where
  pub sized : verdict_of h bytes board seen ≡ Fine
      → Takes (whole_of h bytes board seen).bytes ≡ size_seen h bytes board seen
  unfolding size_seen
  sized v = rw v

  pub unsized : (k : ℕ) → verdict_of h bytes board seen ≡ Bad k → Unsized k ≡ size_seen h bytes board seen
  unfolding size_seen
  unsized k v = rw v

  module _ (file : List ℕ) where
    abbrev room : Bool
    room = fits_in (whole_of h bytes board seen) (length file)

    pub fits : verdict_of h bytes board seen ≡ Fine → room ≡ true
        → (record {
          written = Bytes (whole_of h bytes board seen).bytes;
          run = run_from (seen_version seen) (seen_rule seen) (capped (length (front_seen h bytes board seen)));
        }
        ≡ ready_of h bytes board seen file)
        × (around h bytes board seen file ≡ around_of h bytes board seen file)
    unfolding ready_of around_of
    fits v r = (rw (v, r), rw (v, r))

    pub short : verdict_of h bytes board seen ≡ Fine → room ≡ false
        → (record {
          written = Short (whole_of h bytes board seen).bytes;
          run = run_off (seen_version seen)
              (seen_rule seen);
        }
        ≡ ready_of h bytes board seen file) × (file ≡ around_of h bytes board seen file)
    unfolding ready_of around_of
    short v r = (rw (v, r), rw (v, r))

    pub bad : (k : ℕ) → verdict_of h bytes board seen ≡ Bad k
        → (record {
          written = Refused k;
          run = run_off (seen_version seen)
              (seen_rule seen);
        } ≡ ready_of h bytes board seen file)
        × (file ≡ around_of h bytes board seen file)
    unfolding ready_of around_of
    bad k v = (rw v, rw v)
