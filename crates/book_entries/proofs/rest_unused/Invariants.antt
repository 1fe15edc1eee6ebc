-- `rest_unused` meets its contract: the loop's invariant: the digits gathered are 0 exactly if the entries so far are.
use mathlib.Core.Path.{◌≡◌, refl, ◌∙◌}
use Prim.Native.Nat.{◌-◌, ◌≤◌}
use native.Mathlib.Omega.{arith}
use borrow.Author.Rules.{rules}
use lib.Dec.{eqb}
use Rattle.book_entries.proofs.Zeros.{unused_to, none-unused, more-unused, all-unused}
use Rattle.book_entries.proofs.rest_unused.Given as goal

abbrev pub invariant-loop-i : goal.invariant-loop-i
invariant-loop-i l = (l.k ≤ l.i) × (l.i ≤ 32) × (eqb l.any 0 ≡ unused_to l.next l.ticket l.expiry l.k l.i)
