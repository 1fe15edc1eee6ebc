-- `last_of` meets its contract: the product fits, and the quotient is the definition's.
use borrow.Author.Rules.{rules}
use native.Mathlib.Omega.{arith}
use Rattle.book.specs.Shares.{last}
use Rattle.book.proofs.Counts.{product_small, quotient-small}
use Rattle.book_shares.proofs.last_of.Goals as goal

-- DROPPED overflow-mul-result
-- mul-result : tie.Need-overflow-mul-result
-- mul-result c = let h = product_small c.args.total c.args.j c.requires.0 c.requires.2 in omega arith

pub returns : goal.returns
returns c = (λ n e. unfold last in rw e, quotient-small c.args.total c.args.k c.args.j c.requires.0 c.requires.2)
