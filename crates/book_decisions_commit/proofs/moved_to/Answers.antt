-- `moved_to` meets its contract: whether the share is finished a position further is told by its last position alone.
use borrow.Author.Rules.{rules}
use mathlib.Core.Path.{◌≡◌, sym}
use mathlib.Core.Bool.{Bool, true, false, cond}
use Prim.Native.Nat.{ℕ}
use lib.Dec.{ltb}
use Rattle.lists.specs.Lists.{at}
use Rattle.lists.specs.Ranges.{OneTo}
use borrow.Author.Tests.{ltb-false}
use Rattle.lists.proofs.Tests.{ltb-true}
use Rattle.book.specs.declared.types.Book.{Book}
use Rattle.book.specs.Shares.{last}
use Rattle.book.specs.Calls.{entered, moved_to}
use Rattle.book.proofs.ValidBook.{Long}
use Rattle.book.proofs.CommitRange.{moved-within, moved-past}
use Rattle.book_entries.specs.Entries.{book_with}
use Rattle.book_decisions_commit.proofs.moved_to.Goals as goal

-- the entries as the code makes them, by whether the share has ended
moved-is : (b : Book) (tick j p : ℕ) → Long b → OneTo 32 j → (ended : Bool) → ended ≡ ltb (last b.size b.shares j) p
    → entered b tick b.issued j p (cond ended 0 (at b.ticket j)) (cond ended 0 (at b.expiry j)) ≡ moved_to b tick j p
moved-is b tick j p L i true e = sym (moved-past b tick j L i p (ltb-true _ _ (sym e)))
moved-is b tick j p L i false e = sym (moved-within b tick j L i p (ltb-false _ _ (sym e)))

pub returns : goal.returns
returns c =
    let s = c.before in (
      λ nexts l. rw (c.unless_ended-2.ensures, c.entry-2.ensures, c.unless_ended.ensures, c.entry.ensures) (moved-is (book_with s.args.h nexts s.args.tickets.now s.args.expiries.now) s.args.tick s.args.j s.args.position record { next_long = l; ticket_long = s.requires.3; expiry_long = s.requires.4 } s.requires.2 _ c.past-ended.ensures),
      s.requires.2,
    )
