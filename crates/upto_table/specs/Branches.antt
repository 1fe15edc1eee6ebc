-- What the table of the numbers of branches promises.
--
--   entry h f                the number in row h for at most f labels free; 0 where there is none (crate upto_table_rows, Rows)
--   BranchesPromise h f r    the promise of the table: r is `weight 0 1 h f`, the branches from a state on, where 3h + f ≤ 56, and otherwise 0
use Rattle.std.specs.Prelude.{◌≡◌, ℕ, ◌+◌, ◌*◌, ◌≤◌, ◌<◌}
use Rattle.upto_weights.specs.Weights.{weight}
pub use Rattle.upto_table_rows.specs.Rows.{entry}

pub record BranchesPromise (h f r : ℕ) : Type 0 where
  pub inside : 3 * h + f ≤ 56 → r ≡ weight 0 1 h f
  pub outside : 56 < 3 * h + f → r ≡ 0
