-- `follow_own` meets its contract. In the answers, h says that own has the item.
use borrow.Author.Rules.{rules}
use mathlib.Core.Path.{◌≡◌, refl, sym}
use Prim.Native.Nat.{◌<◌}
use native.Mathlib.Omega.{arith}
use lib.ListN.{length, get_or}
use Rattle.labelling_tracing.proofs.Sofar.{sofar-begin, sofar-underway, sofar-event}
use Rattle.labelling_tracing.proofs.Tracked.{tracked-item, tracked-leaves, traced-end}
use Rattle.labelling_tracing.proofs.follow_own.Goals as goal

pub loop-place-init : goal.loop-place-init
loop-place-init c = (record { within = search rules; sofar = sofar-begin c.begin-first.result (c.begin-first.ensures _ c.requires.mapped.0) }, refl)

pub event-done-requires : goal.event-done-requires
event-done-requires c =
    let h : (c.loop-place.place < length c.args.own.now) × (get_or c.args.own.now c.loop-place.place 0 ≡ c.loop-place.item) = (search rules, sym c.if-item-expected.false) in
    sofar-underway (tracked-item c.loop-place.invariant.0 h) c.if-next-eq0.false

pub loop-place-preserved : goal.loop-place-preserved
loop-place-preserved c =
    let h : (c.loop-place.place < length c.args.own.now) × (get_or c.args.own.now c.loop-place.place 0 ≡ c.loop-place.item) = (search rules, sym c.if-item-expected.false) in (
      record { within = search rules; sofar = sofar-event (tracked-item c.loop-place.invariant.0 h) c.if-next-eq0.false _ _ _ c.event-done.result c.event-done.ensures },
      search rules,
    )

pub returns-then-item-expected-clause-traced : goal.returns-then-item-expected-clause-traced
returns-then-item-expected-clause-traced c = tracked-leaves c.loop-place.invariant.0 (λ h. c.if-item-expected.true (sym h.1))

pub returns-then-next-eq0-clause-traced : goal.returns-then-next-eq0-clause-traced
returns-then-next-eq0-clause-traced c =
    let h : (c.loop-place.place < length c.args.own.now) × (get_or c.args.own.now c.loop-place.place 0 ≡ c.loop-place.item) = (search rules, sym c.if-item-expected.false) in
    traced-end _ (search rules) (tracked-item c.loop-place.invariant.0 h) c.if-next-eq0.true

pub returns-clause-traced : goal.returns-clause-traced
returns-clause-traced c =
    let i = c.loop-place.invariant.0.within in
    let e : c.loop-place.place ≡ length c.args.own.now = omega arith in
    rw e at (tracked-leaves c.loop-place.invariant.0 (λ h. let j = h.0 in omega arith))
