-- What the private functions promise of places in a list of texts. Definitions only.
use Rattle.std.specs.Prelude.{ℕ, ◌-◌, ◌≤◌, ◌≡◌, List, [], length, get_or, take, drop}
use Rattle.text_table.specs.Texts.{texts}

-- the texts from one place on, but the first, are those from another place on
pub record NextAt (list : List ℕ) (at next : ℕ) : Type 0 where
  pub inside : next ≤ length list
  pub others : texts (drop next list) ≡ drop 1 (texts (drop at list))

-- from a place on, the texts are those of the whole list but the first n
pub record Behind (n : ℕ) (list : List ℕ) (at : ℕ) : Type 0 where
  pub inside : at ≤ length list
  pub others : texts (drop at list) ≡ drop n (texts list)

-- the first text from a place on ends before another place
pub record EndsAt (list : List ℕ) (at end : ℕ) : Type 0 where
  pub after : at ≤ end
  pub inside : end ≤ length list
  pub first : get_or (texts (drop at list)) 0 [] ≡ take (end - at) (drop at list)
