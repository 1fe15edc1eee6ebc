-- `event` meets its contract. The tests of the code are those of `move`: the popped edge's partner is itself, is labelled, or is fixed by
-- the black list. In each answer e says what the popped edge is, f its partner, g the next edge round the partner's vertex, h the third.
use mathlib.Core.Path.{◌≡◌, sym, ap, ◌∙◌, subst}
use mathlib.Core.Logic.{◌≢◌}
use mathlib.Core.List.{List, ◌∷◌}
use Prim.Native.Nat.{ℕ}
use native.Mathlib.Omega.{arith}
use lib.ListN.{get_or}
use Rattle.lists.specs.Lists.{at, Has}
use Rattle.labelling_tracing_events.proofs.Underway.{edge-small, edge-stamp, popped-edge, partner-edge, partner-pending, did-W, did-J, did-B, did-F, event-B-room, fork-room, fork-new}
use Rattle.labelling_tracing_events.proofs.event.Goals as goal

followed : (s : List ℕ) {a b x : ℕ} → x ≡ at s a → a ≡ b → x ≡ at s b
followed s e f = e ∙ ap (at s) f

-- two edges that are not pending
new : (q s : ℕ) {x y : ℕ} (r : List ℕ) → q ≡ x → s ≡ y → (¬ Has x r) × (¬ Has y (x ∷ r)) → (¬ Has q r) × (¬ Has s (q ∷ r))
new q s {x} {y} r e f w = subst (λ (a : ℕ). (¬ Has a r) × (¬ Has s (a ∷ r))) (sym e) (subst (λ (a : ℕ). (¬ Has x r) × (¬ Has a (x ∷ r))) (sym f) w)

unlike : {a b x y : ℕ} → a ≢ b → a ≡ x → b ≡ y → x ≢ y
unlike n e f q = n (e ∙ q ∙ sym f)

pub follow-p-requires : goal.follow-p-requires
follow-p-requires c =
    let (o, k, r, u) = c.requires in
    rw ((c.pop-k.ensures (k ∷ r) u.ring).0, u.mapped.lengths) (popped-edge u)

pub returns-then-p-k : goal.returns-then-p-k
returns-then-p-k c =
    λ o k r u.
    let e = (c.pop-k.ensures (k ∷ r) u.ring).0 in
    let f = followed c.args.s1.now c.follow-p.ensures e in
    did-W u _ _ (sym f ∙ c.if-p-k.true ∙ e) (c.pop-k.ensures (k ∷ r) u.ring).1

pub join_pending-item-requires : goal.join_pending-item-requires
join_pending-item-requires c =
    let (o, k, r, u) = c.requires in
    let e = (c.pop-k.ensures (k ∷ r) u.ring).0 in
    let f = followed c.args.s1.now c.follow-p.ensures e in
    let d = unlike c.if-p-k.false f e in
    let b : get_or c.args.stamps.now (at c.args.s1.now k) 0 ≡ c.args.stamp = rw (c.to_index-i.ensures, f) at c.if-stamps-i.true in
    let i : Has c.follow-p.result r = rw f (partner-pending u d b) in
    (r, (c.pop-k.ensures (k ∷ r) u.ring).1, i)

pub returns-then-stamps-i : goal.returns-then-stamps-i
returns-then-stamps-i c =
    λ o k r u.
    let e = (c.pop-k.ensures (k ∷ r) u.ring).0 in
    let f = followed c.args.s1.now c.follow-p.ensures e in
    let d = unlike c.if-p-k.false f e in
    let b : get_or c.args.stamps.now (at c.args.s1.now k) 0 ≡ c.args.stamp = rw (c.to_index-i.ensures, f) at c.if-stamps-i.true in
    let i : Has c.follow-p.result r = rw f (partner-pending u d b) in
    let j = c.join_pending-item.ensures r (c.pop-k.ensures (k ∷ r) u.ring).1 i in
    did-J u _ _ _ d b (rw f at j.0) (rw f at j.1)

pub follow-q-requires : goal.follow-q-requires
follow-q-requires c =
    let (o, k, r, u) = c.requires in
    let e = (c.pop-k.ensures (k ∷ r) u.ring).0 in
    let f = followed c.args.s1.now c.follow-p.ensures e in
    rw f (partner-edge u)

pub overflow_add-result : goal.overflow_add-result
overflow_add-result c =
    let (o, k, r, u) = c.requires in
    let e = (c.pop-k.ensures (k ∷ r) u.ring).0 in
    let f = followed c.args.s1.now c.follow-p.ensures e in
    let g = followed c.args.s0.now c.follow-q.ensures f in
    let d = unlike c.if-p-k.false f e in
    let b : get_or c.args.stamps.now (at c.args.s1.now k) 0 ≢ c.args.stamp = (λ z. c.if-stamps-i.false (rw (c.to_index-i.ensures, f) z)) in
    let m : at c.args.s0.now (at c.args.s1.now k) ≡ at c.args.s1.now k = sym g ∙ c.if-q-p.true ∙ f in
    let room = event-B-room u d b m in
    omega arith

pub returns-then-q-p : goal.returns-then-q-p
returns-then-q-p c =
    λ o k r u.
    let e = (c.pop-k.ensures (k ∷ r) u.ring).0 in
    let f = followed c.args.s1.now c.follow-p.ensures e in
    let g = followed c.args.s0.now c.follow-q.ensures f in
    let d = unlike c.if-p-k.false f e in
    let b : get_or c.args.stamps.now (at c.args.s1.now k) 0 ≢ c.args.stamp = (λ z. c.if-stamps-i.false (rw (c.to_index-i.ensures, f) z)) in
    let m : at c.args.s0.now (at c.args.s1.now k) ≡ at c.args.s1.now k = sym g ∙ c.if-q-p.true ∙ f in
    did-B u _ _ _ d b m (rw f at c.stamp_edge.ensures) (c.pop-k.ensures (k ∷ r) u.ring).1

pub follow-s-requires : goal.follow-s-requires
follow-s-requires c =
    let (o, k, r, u) = c.requires in
    let e = (c.pop-k.ensures (k ∷ r) u.ring).0 in
    let f = followed c.args.s1.now c.follow-p.ensures e in
    let g = followed c.args.s0.now c.follow-q.ensures f in
    rw g (u.mapped.maps.black_in _ (partner-edge u))

pub add_triple-requires-clause-p_in_bounds : goal.add_triple-requires-clause-p_in_bounds
add_triple-requires-clause-p_in_bounds c =
    let (o, k, r, u) = c.requires in
    let e = (c.pop-k.ensures (k ∷ r) u.ring).0 in
    let f = followed c.args.s1.now c.follow-p.ensures e in
    let g = followed c.args.s0.now c.follow-q.ensures f in
    let h = followed c.args.s0.now c.follow-s.ensures g in
    let pe = partner-edge u in
    let qe = u.mapped.maps.black_in _ pe in
    let se = u.mapped.maps.black_in _ qe in
    rw (f, g, h) (edge-stamp u.stamped _ pe, edge-stamp u.stamped _ qe, edge-stamp u.stamped _ se, edge-small u.mapped _ qe, edge-small u.mapped _ se)

pub add_triple-requires-clause-by_index : goal.add_triple-requires-clause-by_index
add_triple-requires-clause-by_index c =
    let (o, k, r, u) = c.requires in
    let e = (c.pop-k.ensures (k ∷ r) u.ring).0 in
    let f = followed c.args.s1.now c.follow-p.ensures e in
    let g = followed c.args.s0.now c.follow-q.ensures f in
    let h = followed c.args.s0.now c.follow-s.ensures g in
    let d = unlike c.if-p-k.false f e in
    let b : get_or c.args.stamps.now (at c.args.s1.now k) 0 ≢ c.args.stamp = (λ z. c.if-stamps-i.false (rw (c.to_index-i.ensures, f) z)) in
    let m = unlike c.if-q-p.false g f in
    let w = new c.follow-q.result c.follow-s.result r g h (fork-new u d b m) in
    (r, (c.pop-k.ensures (k ∷ r) u.ring).1, w.0, w.1)

pub overflow_add-result-2 : goal.overflow_add-result-2
overflow_add-result-2 c =
    let (o, k, r, u) = c.requires in
    let e = (c.pop-k.ensures (k ∷ r) u.ring).0 in
    let f = followed c.args.s1.now c.follow-p.ensures e in
    let g = followed c.args.s0.now c.follow-q.ensures f in
    let d = unlike c.if-p-k.false f e in
    let b : get_or c.args.stamps.now (at c.args.s1.now k) 0 ≢ c.args.stamp = (λ z. c.if-stamps-i.false (rw (c.to_index-i.ensures, f) z)) in
    let m = unlike c.if-q-p.false g f in
    let room = fork-room u d b m in
    omega arith

pub returns : goal.returns
returns c =
    λ o k r u.
    let e = (c.pop-k.ensures (k ∷ r) u.ring).0 in
    let f = followed c.args.s1.now c.follow-p.ensures e in
    let g = followed c.args.s0.now c.follow-q.ensures f in
    let h = followed c.args.s0.now c.follow-s.ensures g in
    let d = unlike c.if-p-k.false f e in
    let b : get_or c.args.stamps.now (at c.args.s1.now k) 0 ≢ c.args.stamp = (λ z. c.if-stamps-i.false (rw (c.to_index-i.ensures, f) z)) in
    let m = unlike c.if-q-p.false g f in
    let w = new c.follow-q.result c.follow-s.result r g h (fork-new u d b m) in
    did-F u _ _ _ d b m
    (rw (f, g, h) at c.add_triple.ensures.stamped)
    (rw (g, h) at (c.add_triple.ensures.pushed r (c.pop-k.ensures (k ∷ r) u.ring).1 w.0 w.1))
