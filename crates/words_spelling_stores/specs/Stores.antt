-- Stores into a list, one after another.
--
--   set_three s i a b c         s with a, b, c at the places i, i + 1, i + 2
--   Shifted p q place end      q is p with the entry at a place taken out and those after it, up to the place `end`, moved down by one
use Rattle.std.specs.Prelude.{◌≡◌, List, ℕ, suc, ◌+◌, ◌≤◌, ◌<◌, length, get_or, set}

abbrev pub set_three : List ℕ → ℕ → ℕ → ℕ → ℕ → List ℕ
set_three s i a b c = set (set (set s i a) (i + 1) b) (i + 2) c

pub record Shifted (p q : List ℕ) (place end : ℕ) : Type 0 where
  pub long : length q ≡ length p
  pub below : (j : ℕ) → j < place → get_or q j 0 ≡ get_or p j 0
  pub moved : (j : ℕ) → place ≤ j → j < end → get_or q j 0 ≡ get_or p (suc j) 0
