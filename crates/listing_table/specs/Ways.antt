-- What the table of the numbers of ways promises.
--
--   entry h f            the number in row h for f labels free; 0 where there is none (crate listing_table_rows, Rows)
--   WaysPromise h f r    the promise of the table: r is `ways h f` where 3h + f ≤ 56, and otherwise 0
use Rattle.std.specs.Prelude.{◌≡◌, ℕ, ◌+◌, ◌*◌, ◌≤◌, ◌<◌}
use Rattle.listing.specs.Listing.{ways}
pub use Rattle.listing_table_rows.specs.Rows.{entry}

pub record WaysPromise (h f r : ℕ) : Type 0 where
  pub inside : 3 * h + f ≤ 56 → r ≡ ways h f
  pub outside : 56 < 3 * h + f → r ≡ 0
