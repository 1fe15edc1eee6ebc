-- `tickets_apart` meets its contract: the loop's invariant: the remainders of the tickets so far are marked, and if none has clashed, each stands once.
use mathlib.Core.Path.{refl}
use native.Mathlib.Omega.{arith}
use Rattle.book_tickets.proofs.Apart.{none-marked, more-apart, more-marked}
use Rattle.book_tickets.proofs.tickets_apart.Goals as goal

pub loop-i-init : goal.loop-i-init
loop-i-init c = (omega arith, omega arith, none-marked _, λ e. refl)

pub loop-i-preserved : goal.loop-i-preserved
loop-i-preserved c =
    let o = c.before in
    let v = o.loop-i.invariant in
    let l = o.before.before.args.ticket.now in
    let p = c.mark_place-place.ensures in (
      omega (arith, c.loop-i-test.true),
      omega (arith, v.2.small c.mark_place-place.result),
      more-marked l o.loop-i.i o.loop-i.marks c.mark_place-place.result p.1 v.2 p.0,
      more-apart l o.loop-i.i o.loop-i.marks c.mark_place-place.result p.1 v.2 o.loop-i.clashes v.3,
    )
