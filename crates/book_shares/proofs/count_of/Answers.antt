-- `count_of` meets its contract: the count of a listed size is below 2^50.
use borrow.Author.Rules.{rules}
use Rattle.book.proofs.Counts.{count_small}
use Rattle.book_shares.proofs.count_of.Goals as goal

pub returns : goal.returns
returns c = (c.count_of.ensures, rw c.count_of.ensures (count_small c.args.size c.requires))
