-- `rest_unused` meets its contract: the loop's invariant: the digits gathered are 0 exactly if the entries so far are.
use mathlib.Core.Path.{◌≡◌, refl, ◌∙◌}
use Prim.Native.Nat.{◌-◌, ◌≤◌}
use native.Mathlib.Omega.{arith}
use borrow.Author.Rules.{rules}
use lib.Dec.{eqb}
use Rattle.book_entries.proofs.Zeros.{unused_to, none-unused, more-unused, all-unused}
use Rattle.book_entries.proofs.rest_unused.Goals as goal

pub loop-i-preserved : goal.loop-i-preserved
loop-i-preserved c =
    let o = c.before in
    let a = o.before.args in
    (omega arith, omega arith, more-unused a.next.now a.ticket.now a.expiry.now a.k o.loop-i.i o.loop-i.any o.loop-i.invariant.0 o.loop-i.invariant.2)

pub returns : goal.returns
returns c =
    let o = c.before in
    let a = o.before.args in
    o.loop-i.invariant.2 ∙ all-unused a.next.now a.ticket.now a.expiry.now a.k o.loop-i.i c.loop-i-test.false o.loop-i.invariant.1
