-- `holder` meets its contract: the loop's invariant: the ticket stands where it stands among the first j shares.
use mathlib.Core.Path.{◌≡◌, refl, ◌∙◌}
use mathlib.Core.Logic.{◌≢◌}
use mathlib.Core.List.{List}
use Prim.Native.Nat.{ℕ, zero, suc, ◌-◌, ◌≤◌, ◌<◌}
use native.Mathlib.Omega.{arith}
use lib.ListN.{get_or}
use Rattle.lists.proofs.Tests.{eqb-eq, eqb-ne}
use Rattle.book.specs.declared.types.Book.{Book}
use Rattle.book.specs.declared.types.Heads.{Heads}
use Rattle.book_entries.specs.Entries.{book_with}
use Rattle.book.specs.Shares.{standing, holder}
use Rattle.book_standing.proofs.holder.Given as goal

abbrev pub invariant-loop-i : goal.invariant-loop-i
invariant-loop-i l = (l.i ≤ l.fn.h.shares) × ((h : Heads) (p e : List ℕ) → standing (book_with h p l.tickets e) l.ticket l.i ≡ standing (book_with h p l.tickets e) l.ticket l.fn.h.shares)
