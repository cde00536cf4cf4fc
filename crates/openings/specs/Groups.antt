-- What is proved of openings beside the contract (proofs/Groups.antt), for whoever wants to believe that they
-- are the largest groups of joined zeros, each counted once. Definitions only.
use Rattle.std.specs.Prelude.{ℕ, ◌≡◌, Bool, true}
use Rattle.board.specs.Geometry.{neighbours}
use Rattle.flood.specs.Spread.{mem, Linked}
use Rattle.flood.specs.Flood.{is_zero}
use Rattle.openings.specs.Bbbv.{opening, leads}

module _ (mine : ℕ → Bool) (h w : ℕ) where
  -- cell k is in the opening of zero j
  abbrev pub In : (j k : ℕ) → Type 0
  In j k = mem (opening mine h w j) k ≡ true

  -- a path of neighbouring zeros leads from j to k
  abbrev pub Joined : (j k : ℕ) → Type 0
  Joined j k = Linked (neighbours h w) (is_zero mine h w) (is_zero mine h w) j k

  -- l is the first cell of an opening that holds k
  pub record Leader (k l : ℕ) : Type 0 where
    pub first : leads mine h w l ≡ true
    pub holds : In l k
