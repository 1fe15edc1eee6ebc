-- The tickets of a book's shares, a list of numbers in which 0 is no ticket.
--
--   stands_once l j   the entry j of l, from 1, is 0 or stands at no entry before
use Rattle.std.specs.Prelude.{Bool, true, false, cond, List, ℕ, ◌-◌, eqb}
use Rattle.lists.specs.Lists.{at}
use Rattle.lists.specs.Ranges.{every}
use Rattle.book_connectives.specs.Connectives.{either}

unfoldable pub stands_once : List ℕ → ℕ → Bool
stands_once l j = either (eqb (at l j) 0) (every (j - 1) (λ m. cond (eqb (at l m) (at l j)) false true))
