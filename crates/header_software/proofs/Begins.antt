-- Whether a text begins with some bytes: what `starts_with` says of slices. Assumes nothing.
use Rattle.std.proofs.Common.{◌≡◌, ℕ, List, [], ◌∷◌, refl, arith, eqb}
use Rattle.std.proofs.lemmas.Grind.{common_steps}
use Rattle.std.specs.List.{starts_with}
use Rattle.header_software.specs.Software.{begins_with}

turned : (a b : ℕ) → eqb a b ≡ eqb b a
turned a b = grind (arith, common_steps)

pub starts_begins : (s what : List ℕ) → starts_with eqb s what ≡ begins_with what s
starts_begins s [] = refl
starts_begins [] (w ∷ ws) = refl
starts_begins (b ∷ s) (w ∷ ws) = rw (turned w b, starts_begins s ws)
