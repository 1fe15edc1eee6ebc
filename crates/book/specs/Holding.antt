-- Which positions a share holds (document 01, "Share book").
--
--   ShareHolds n k j p         share j of k holds the position p of size n
use Rattle.std.specs.Prelude.{ℕ, ◌≤◌}
use Rattle.lists.specs.Ranges.{OneTo}
use Rattle.book.specs.Shares.{first, last}

pub record ShareHolds (n k j p : ℕ) : Type 0 where
  pub share : OneTo k j
  pub from : first n k j ≤ p
  pub to : p ≤ last n k j
