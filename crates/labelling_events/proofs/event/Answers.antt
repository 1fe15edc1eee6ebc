-- `event` meets its contract. The tests of the code are those of `move`: the popped edge's partner is itself, has a label, or is fixed by
-- the black list. In each answer e says what the popped edge is, f its partner, g the next edge round the partner's vertex, h the third.
use borrow.Author.Rules.{rules}
use mathlib.Core.Path.{◌≡◌, sym, ap, ◌∙◌, subst}
use mathlib.Core.Logic.{◌≢◌}
use mathlib.Core.List.{List, ◌∷◌}
use Prim.Native.Nat.{ℕ}
use native.Mathlib.Omega.{arith}
use lib.ListN.{get_or}
use Rattle.lists.specs.Lists.{at, Has}
use Rattle.lists.proofs.Lists.{find-lt}
use Rattle.pending_ring.proofs.Laws.{ring-few}
use Rattle.labelling_events.proofs.Underway.{popped-edge, partner-edge, partner-small, partner-pending, did-W, did-J, did-B, did-F, event-B-room, fork-room, fork-new}
use Rattle.labelling_events.proofs.event.Goals as goal

followed : (s : List ℕ) {a b x : ℕ} → x ≡ at s a → a ≡ b → x ≡ at s b
followed s e f = e ∙ ap (at s) f

-- two edges that are not pending
new : (q s : ℕ) {x y : ℕ} (r : List ℕ) → q ≡ x → s ≡ y → (¬ Has x r) × (¬ Has y (x ∷ r)) → (¬ Has q r) × (¬ Has s (q ∷ r))
new q s {x} {y} r e f w = subst (λ (a : ℕ). (¬ Has a r) × (¬ Has s (a ∷ r))) (sym e) (subst (λ (a : ℕ). (¬ Has x r) × (¬ Has a (x ∷ r))) (sym f) w)

unlike : {a b x y : ℕ} → a ≢ b → a ≡ x → b ≡ y → x ≢ y
unlike n e f q = n (e ∙ q ∙ sym f)

pub follow-p-requires : goal.follow-p-requires
follow-p-requires c =
    let (o, k, r, u) = c.requires in
    rw ((c.pop-k.ensures (k ∷ r) u.ring).0, u.mapped.lengths) (popped-edge _ _ _ _ _ _ _ _ o k r u)

pub returns-then-p-k : goal.returns-then-p-k
returns-then-p-k c =
    λ o k r u.
    let e = (c.pop-k.ensures (k ∷ r) u.ring).0 in
    let f = followed c.args.s1.now c.follow-p.ensures e in
    did-W _ _ _ _ _ _ _ _ o k r u _ _ (sym f ∙ c.if-p-k.true ∙ e) (c.pop-k.ensures (k ∷ r) u.ring).1

pub join_counted-item-requires : goal.join_counted-item-requires
join_counted-item-requires c =
    let (o, k, r, u) = c.requires in
    let e = (c.pop-k.ensures (k ∷ r) u.ring).0 in
    let f = followed c.args.s1.now c.follow-p.ensures e in
    let d = unlike c.if-p-k.false f e in
    let b : get_or c.args.labels.now (at c.args.s1.now k) 0 ≢ 0 = (λ z. c.if-label-ne0.true (rw (c.to_index-i.ensures, f) z)) in
    let i : Has c.follow-p.result r = rw f (partner-pending _ _ _ _ _ _ _ _ o k r u d b) in
    (r, (c.pop-k.ensures (k ∷ r) u.ring).1, i, let t = u.height_is in omega arith)

pub overflow_sub-result : goal.overflow_sub-result
overflow_sub-result c =
    let (o, k, r, u) = c.requires in
    let e = (c.pop-k.ensures (k ∷ r) u.ring).0 in
    let f = followed c.args.s1.now c.follow-p.ensures e in
    let d = unlike c.if-p-k.false f e in
    let b : get_or c.args.labels.now (at c.args.s1.now k) 0 ≢ 0 = (λ z. c.if-label-ne0.true (rw (c.to_index-i.ensures, f) z)) in
    let i : Has c.follow-p.result r = rw f (partner-pending _ _ _ _ _ _ _ _ o k r u d b) in
    let t = u.height_is in
    let l = find-lt _ r i in
    omega arith

pub returns-then-label-ne0 : goal.returns-then-label-ne0
returns-then-label-ne0 c =
    λ o k r u.
    let e = (c.pop-k.ensures (k ∷ r) u.ring).0 in
    let f = followed c.args.s1.now c.follow-p.ensures e in
    let d = unlike c.if-p-k.false f e in
    let b : get_or c.args.labels.now (at c.args.s1.now k) 0 ≢ 0 = (λ z. c.if-label-ne0.true (rw (c.to_index-i.ensures, f) z)) in
    let i : Has c.follow-p.result r = rw f (partner-pending _ _ _ _ _ _ _ _ o k r u d b) in
    let t = u.height_is in
    let j = c.join_counted-item.ensures r (c.pop-k.ensures (k ∷ r) u.ring).1 i (omega arith) in
    did-J _ _ _ _ _ _ _ _ o k r u _ _ _ d b (rw f at j.0) (rw f at j.1)

pub follow-q-requires : goal.follow-q-requires
follow-q-requires c =
    let (o, k, r, u) = c.requires in
    let e = (c.pop-k.ensures (k ∷ r) u.ring).0 in
    let f = followed c.args.s1.now c.follow-p.ensures e in
    rw f (partner-edge _ _ _ _ _ _ _ _ o k r u)

pub give_label-given-requires : goal.give_label-given-requires
give_label-given-requires c =
    let (o, k, r, u) = c.requires in
    let e = (c.pop-k.ensures (k ∷ r) u.ring).0 in
    let f = followed c.args.s1.now c.follow-p.ensures e in
    let g = followed c.args.s0.now c.follow-q.ensures f in
    let d = unlike c.if-p-k.false f e in
    let b : get_or c.args.labels.now (at c.args.s1.now k) 0 ≡ 0 = rw (c.to_index-i.ensures, f) at c.if-label-ne0.false in
    let m : at c.args.s0.now (at c.args.s1.now k) ≡ at c.args.s1.now k = sym g ∙ c.if-q-p.true ∙ f in
    let room = event-B-room _ _ _ _ _ _ _ _ o k r u d b m in
    let n = u.mapped.size in
    let l = u.order_long in
    (omega arith, omega arith, rw f (partner-small _ _ _ _ _ _ _ _ o k r u))

pub returns-then-q-p : goal.returns-then-q-p
returns-then-q-p c =
    λ o k r u.
    let e = (c.pop-k.ensures (k ∷ r) u.ring).0 in
    let f = followed c.args.s1.now c.follow-p.ensures e in
    let g = followed c.args.s0.now c.follow-q.ensures f in
    let d = unlike c.if-p-k.false f e in
    let b : get_or c.args.labels.now (at c.args.s1.now k) 0 ≡ 0 = rw (c.to_index-i.ensures, f) at c.if-label-ne0.false in
    let m : at c.args.s0.now (at c.args.s1.now k) ≡ at c.args.s1.now k = sym g ∙ c.if-q-p.true ∙ f in
    did-B _ _ _ _ _ _ _ _ o k r u _ _ _ _ _ (search rules) (search rules) d b m (rw f at (c.give_label-given.ensures.held o u.holds)) (c.pop-k.ensures (k ∷ r) u.ring).1

pub follow-s-requires : goal.follow-s-requires
follow-s-requires c =
    let (o, k, r, u) = c.requires in
    let e = (c.pop-k.ensures (k ∷ r) u.ring).0 in
    let f = followed c.args.s1.now c.follow-p.ensures e in
    let g = followed c.args.s0.now c.follow-q.ensures f in
    rw g (u.mapped.maps.black_in _ (partner-edge _ _ _ _ _ _ _ _ o k r u))

pub add_triple-given-requires-clause-given_bound : goal.add_triple-given-requires-clause-given_bound
add_triple-given-requires-clause-given_bound c =
    let (o, k, r, u) = c.requires in
    let e = (c.pop-k.ensures (k ∷ r) u.ring).0 in
    let f = followed c.args.s1.now c.follow-p.ensures e in
    let g = followed c.args.s0.now c.follow-q.ensures f in
    let h = followed c.args.s0.now c.follow-s.ensures g in
    let d = unlike c.if-p-k.false f e in
    let b : get_or c.args.labels.now (at c.args.s1.now k) 0 ≡ 0 = rw (c.to_index-i.ensures, f) at c.if-label-ne0.false in
    let m = unlike c.if-q-p.false g f in
    let black = u.mapped.maps.black_in in
    let pe = partner-edge _ _ _ _ _ _ _ _ o k r u in
    let qe = black _ pe in
    let se = black _ qe in
    let room = fork-room _ _ _ _ _ _ _ _ o k r u d b m in
    let n = u.mapped.size in
    let l = u.labels_long in
    let y = u.order_long in
    rw (f, g, h) (omega arith, omega arith, omega arith, omega arith)

pub add_triple-given-requires-clause-given_in_bounds : goal.add_triple-given-requires-clause-given_in_bounds
add_triple-given-requires-clause-given_in_bounds c =
    let (o, k, r, u) = c.requires in
    let e = (c.pop-k.ensures (k ∷ r) u.ring).0 in
    let f = followed c.args.s1.now c.follow-p.ensures e in
    let g = followed c.args.s0.now c.follow-q.ensures f in
    let h = followed c.args.s0.now c.follow-s.ensures g in
    let d = unlike c.if-p-k.false f e in
    let b : get_or c.args.labels.now (at c.args.s1.now k) 0 ≡ 0 = rw (c.to_index-i.ensures, f) at c.if-label-ne0.false in
    let m = unlike c.if-q-p.false g f in
    let black = u.mapped.maps.black_in in
    let pe = partner-edge _ _ _ _ _ _ _ _ o k r u in
    let qe = black _ pe in
    let se = black _ qe in
    let room = fork-room _ _ _ _ _ _ _ _ o k r u d b m in
    let n = u.mapped.size in
    let l = u.labels_long in
    let y = u.order_long in
    rw (f, g, h) (omega arith, omega arith, omega arith, omega arith)

pub add_triple-given-requires-clause-by_index : goal.add_triple-given-requires-clause-by_index
add_triple-given-requires-clause-by_index c =
    let (o, k, r, u) = c.requires in
    let e = (c.pop-k.ensures (k ∷ r) u.ring).0 in
    let f = followed c.args.s1.now c.follow-p.ensures e in
    let g = followed c.args.s0.now c.follow-q.ensures f in
    let h = followed c.args.s0.now c.follow-s.ensures g in
    let d = unlike c.if-p-k.false f e in
    let b : get_or c.args.labels.now (at c.args.s1.now k) 0 ≡ 0 = rw (c.to_index-i.ensures, f) at c.if-label-ne0.false in
    let m = unlike c.if-q-p.false g f in
    let w = new c.follow-q.result c.follow-s.result r g h (fork-new _ _ _ _ _ _ _ _ o k r u d b m) in
    (r, (c.pop-k.ensures (k ∷ r) u.ring).1, w.0, w.1)

-- at most 1,024 edges were pending
pub overflow_add-result : goal.overflow_add-result
overflow_add-result c =
    let (o, k, r, u) = c.requires in
    let t = u.height_is in
    let i = ring-few _ _ (k ∷ r) u.ring in
    omega arith

pub returns : goal.returns
returns c =
    λ o k r u.
    let e = (c.pop-k.ensures (k ∷ r) u.ring).0 in
    let f = followed c.args.s1.now c.follow-p.ensures e in
    let g = followed c.args.s0.now c.follow-q.ensures f in
    let h = followed c.args.s0.now c.follow-s.ensures g in
    let d = unlike c.if-p-k.false f e in
    let b : get_or c.args.labels.now (at c.args.s1.now k) 0 ≡ 0 = rw (c.to_index-i.ensures, f) at c.if-label-ne0.false in
    let m = unlike c.if-q-p.false g f in
    let w = new c.follow-q.result c.follow-s.result r g h (fork-new _ _ _ _ _ _ _ _ o k r u d b m) in
    did-F _ _ _ _ _ _ _ _ o k r u _ _ _ _ _ (search rules) (search rules) d b m
    (rw (f, g, h) at (c.add_triple-given.ensures.held o u.holds))
    (rw (g, h) at (c.add_triple-given.ensures.pushed r (c.pop-k.ensures (k ∷ r) u.ring).1 w.0 w.1))
