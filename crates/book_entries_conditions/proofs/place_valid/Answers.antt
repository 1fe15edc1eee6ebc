-- `place_valid` meets its contract: each test of the code is the definition's own; the two numbers after a share's ends fit 64 bits.
use borrow.Author.Rules.{rules}
use native.Mathlib.Numerals.{add-one}
use Rattle.book_entries_conditions.specs.Conditions.{placed}
use Rattle.book_entries_conditions.proofs.place_valid.Goals as goal

pub returns : goal.returns
returns c = unfold placed in (rw (c.both.ensures, c.implies.ensures, c.both-within.ensures, add-one, add-one))
