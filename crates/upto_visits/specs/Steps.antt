-- What an item of a word keeps while the visits are counted. Heights and labels free stay where 3 · height + free is at most 56: the table has their
-- numbers of branches.
--
--   PassedBranches height free item w ..    the branches met before what comes after the item, and the state after it
use Rattle.std.specs.Prelude.{◌≡◌, List, ◌∷◌, ℕ, ◌+◌, ◌*◌, ◌≤◌}
use Rattle.upto_words.specs.Within.{FitsWithin}
use Rattle.upto_weights.specs.Weights.{passed}

pub record PassedBranches (height free item : ℕ) (w : List ℕ) (before height' free' : ℕ) : Type 0 where
  pub passed_is : passed 0 1 height free (item ∷ w) ≡ before + passed 0 1 height' free' w
  pub fits : FitsWithin height' free' w
  pub region : 3 * height' + free' ≤ 56
