-- `opened` meets its contract: the first positions, and no ticket.
use borrow.Author.Rules.{rules}
use Rattle.book.specs.Calls.{opened}
use Rattle.book_opening.proofs.opened.Goals as goal

pub returns : goal.returns
returns c = unfold opened in (rw (c.firsts-next.ensures c.args.size c.count_of.ensures.0))
