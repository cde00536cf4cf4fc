-- The rows that take long files have the number of the table. Assumes nothing.
use Prim.Native.Nat.{ℕ}
use mathlib.Core.Path.{◌≡◌, refl, ap}
use mathlib.Core.List.{List, ◌∷◌, map}
use Rattle.times.specs.Times.{halves_away}
use Rattle.evf_video.specs.Reading.{Reading, number_of, outcome_number}
use Rattle.evf_video.specs.Parsed.{parse_of, answer_of}
use Rattle.generate_evf.specs.Written.{written_number}
use Rattle.upgrade.specs.Copy.{copied_by, told_by}
use Rattle.exact_sets.proofs.LongPauses.{reading10}
use Rattle.exact_sets.proofs.DeviceIds.{writing20, sizing20, sizing-fine, upgrading20, copying20}
use Rattle.exact_sets.specs.ExactSets.{Row, number_to, refused10, long_table}

cons : {a b : ℕ} {l m : List ℕ} → a ≡ b → l ≡ m → (a ∷ l) ≡ (b ∷ m)
cons e f = rw (e, f)

parsing10 : outcome_number (answer_of (parse_of refused10 0 0)).outcome ≡ 10
unfolding parse_of
parsing10 = rw reading10

upgrading10 : written_number (copied_by halves_away refused10 (parse_of refused10 0 0) 0) ≡ 10
unfolding parse_of
upgrading10 = rw reading10

pub long_exact : map (λ (r : Row). number_to r.asked) long_table ≡ map (λ (r : Row). r.number) long_table
unfolding number_to long_table
long_exact =
    cons (ap number_of reading10)
    (cons parsing10
    (cons upgrading10 (cons (ap (λ (R : Reading). told_by (copied_by halves_away refused10 R 0)) reading10)
    (cons (writing20 65536 refl)
    (cons (sizing20 65536 refl)
    (cons (upgrading20 65536 refl)
    (cons (copying20 65536 refl) (cons (sizing-fine 65535 refl) refl))))))))
