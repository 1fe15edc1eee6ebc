-- `entered` meets its contract: entry j - 1 of an array is entry j of its list.
use borrow.Author.Rules.{rules}
use Rattle.book.specs.Calls.{entered}
use Rattle.lists.proofs.Lists.{put-place}
use Rattle.book_operations.proofs.books.entered.Goals as goal

pub returns : goal.returns
returns c = let a = c.args in unfold entered in (rw (put-place a.b.next a.j a.p c.requires.0, put-place a.b.ticket a.j a.t c.requires.0, put-place a.b.expiry a.j a.e c.requires.0))
