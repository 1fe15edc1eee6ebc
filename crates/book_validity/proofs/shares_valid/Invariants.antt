-- `shares_valid` meets its contract: the loop's invariant: the shares so far are valid, and their ends are those of a division of j times the count by k.
use borrow.Author.Rules.{rules}
use mathlib.Core.Path.{◌≡◌, refl, sym, ◌∙◌}
use mathlib.Core.Bool.{Bool, true}
use Prim.Native.Nat.{ℕ, suc, ◌+◌, ◌*◌, ◌-◌, ◌≤◌, ◌<◌}
use native.Mathlib.Numerals.{add-one}
use native.Mathlib.Omega.{arith}
use borrow.Author.Tests.{not-true, not-false}
use Rattle.lists.specs.Ranges.{every}
use Rattle.book_entries.specs.Entries.{book_with, own_valid}
use Rattle.book.proofs.Entries.{every-false}
use Rattle.book_validity.proofs.Ends.{ended, end-small, end_more, shared, part_small, step_small}
use Rattle.book.specs.Shares.{last}
use Rattle.book_validity.proofs.shares_valid.Given as goal

-- the shares so far are valid, and end where they should
abbrev pub invariant-loop-i : goal.invariant-loop-i
invariant-loop-i l = (l.i ≤ l.k) × (every l.i (own_valid (book_with l.h l.next l.ticket l.expiry)) ≡ true) × (l.rest < l.k) × (l.before * l.k + l.rest ≡ l.i * l.total)
