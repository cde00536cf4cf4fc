-- What is sure of the custom metrics that a file gives, and that they are refused with 1 to 7 only. Assumes
-- nothing but that the file is bytes.
use Prim.Native.Nat.{ℕ, zero, suc, ◌+◌, ◌-◌, ◌^◌, ◌≤◌, ◌<◌}
use mathlib.Core.Path.{◌≡◌, refl, sym, subst}
use mathlib.Core.Bool.{Bool, true, false, cond}
use mathlib.Core.List.{List}
use native.Mathlib.Omega.{arith}
use lib.Dec.{eqb, leb}
use lib.ListN.{length, take, drop}
use lib.Seq.{take-append_seam}
use borrow.Author.Tests.{leb-true, eqb-true}
use Rattle.text.specs.Places.{bytes_at, Inside}
use Rattle.byte_reader.specs.Reading.{Bytes, Got, ok, no, follow, ◌>>=◌, pure}
use Rattle.byte_reader.specs.Numbers.{big_endian, number}
use Rattle.header_fields.proofs.Sure.{SureOf, Sure, sure-then, sure-pure, sure-if, sure-utf8-text}
use Rattle.header_fields.proofs.Sure.{sure-number}
use Rattle.metrics.specs.declared.Metrics.{Metrics}
use Rattle.metrics.specs.Block.{texts, placed, block_of_texts, custom_metrics, no_metrics}
use Rattle.metrics.specs.Texts.{Texts, none}
use Rattle.metrics.proofs.Texts.{texts-read}
use Rattle.evf_header.specs.Opening.{metrics_of}

pub record MetricsAre (s : List ℕ) (version : ℕ) (m : Metrics) : Type 0 where
  pub count : m.count < 65536
  pub inside : Inside s m.block
  pub texts : Texts m.count (bytes_at s m.block)
  pub old : version < 4 → m ≡ no_metrics

module _ (s : List ℕ) where
  texts-sure : (n : ℕ) → Sure s (texts n) (λ u. Unit {0})
  unfolding texts
  texts-sure zero = sure-pure s tt tt
  texts-sure (suc n) = sure-then s _ (sure-utf8-text s) (λ p h. texts-sure n)

  block_of : (n at : ℕ) → at ≤ length s → n < 65536 → (g : Got (Unit {0})) → texts n s at ≡ g
      → SureOf (λ u. Unit {0}) g
      → SureOf (MetricsAre s 4) (follow (placed at g) (λ p to. ok (record { count = n; block = p }) to))
  block_of n at l small (ok u to) e h =
      let t = texts-read s n at u to l e in
      let k : to - at ≡ length t.block = omega (arith, t.long) in
      let b : take (to - at) (drop at s) ≡ t.block =
      rw (k, t.here) (take-append_seam t.block (drop to s)) in
      record {
        count = small;
        inside = omega (arith, t.inside, t.long);
        texts = subst (Texts n) (sym b) t.are;
        old = λ v. absurd (omega arith);
      }
  block_of n at l small (no k) e h = h

  module _ (small : Bytes s) where
    counted : (at : ℕ) (t : Bool) → leb (at + 2) (length s) ≡ t
        → SureOf (λ n. n < 256 ^ 2) (cond t (ok (big_endian (take 2 (drop at s))) (at + 2)) (no 1))
        → SureOf (MetricsAre s 4)
        (follow (cond t (ok (big_endian (take 2 (drop at s))) (at + 2)) (no 1))
        (λ n to. follow (placed to (texts n s to)) (λ p k. ok (record { count = n; block = p }) k)))
    counted at true e h =
        let n = big_endian (take 2 (drop at s)) in
        block_of n (at + 2) (leb-true (at + 2) (length s) e) (omega (arith, h)) (texts n s (at + 2)) refl
        ((texts-sure n).at_all (at + 2))
    counted at false e h = omega arith

    new-sure : Sure s custom_metrics (MetricsAre s 4)
    unfolding custom_metrics block_of_texts ◌>>=◌ pure number
    new-sure = record {
      at_all = λ at. counted at (leb (at + 2) (length s)) refl ((sure-number s small 2).at_all at);
    }

    pub metrics-sure : (version : ℕ) → Sure s (metrics_of version) (MetricsAre s version)
    unfolding metrics_of
    metrics-sure version =
        sure-if s (eqb version 4) _ _
        (λ e. subst (λ (v : ℕ). Sure s custom_metrics (MetricsAre s v)) (sym (eqb-true version 4 e)) new-sure)
        (λ e. sure-pure s no_metrics
        (record { count = omega arith; inside = omega arith; texts = none; old = λ v. refl }))
