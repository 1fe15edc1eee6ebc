-- `expiry_in` meets its contract: each test of the code is the definition's own; the bound beyond the latest tick fits 64 bits.
use borrow.Author.Rules.{rules}
use Rattle.book_entries_conditions.specs.Conditions.{timely}
use Rattle.book_entries_conditions.proofs.expiry_in.Goals as goal

pub returns : goal.returns
returns c = unfold timely in (rw (c.both.ensures, c.either.ensures, c.not.ensures))
