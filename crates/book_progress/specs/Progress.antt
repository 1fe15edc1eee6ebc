-- What the counting of a book's progress goes by: the heads and the next positions. The tickets and the expiries may be any.
--
--   NextIn h p    each share's next position, in the list p, is in the share or just past it
use Rattle.std.specs.Prelude.{ℕ, suc, ◌≤◌, List}
use Rattle.lists.specs.Lists.{at}
use Rattle.lists.specs.Ranges.{OneTo}
use Rattle.book.specs.declared.types.Heads.{Heads}
use Rattle.book.specs.Shares.{first, last}

abbrev pub NextIn : Heads → List ℕ → Type 0
NextIn h p = (j : ℕ) → OneTo h.shares j → (first h.size h.shares j ≤ at p j) × (at p j ≤ suc (last h.size h.shares j))
