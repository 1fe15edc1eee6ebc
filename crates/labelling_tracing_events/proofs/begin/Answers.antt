-- `begin` meets its contract: the root is pushed, and the rest of its vertex as in F, where its black edge is another.
use mathlib.Core.Path.{◌≡◌, sym, ap, ◌∙◌, subst}
use mathlib.Core.Logic.{◌≢◌}
use mathlib.Core.List.{List, [], ◌∷◌}
use Prim.Native.Nat.{ℕ}
use Rattle.lists.specs.Lists.{at, Has}
use Rattle.labelling_tracing_events.proofs.Stamps.{below-stamped}
use Rattle.labelling_tracing_events.proofs.Underway.{root-new, did-U, did-T}
use Rattle.labelling_tracing_events.proofs.begin.Goals as goal

-- the third edge of the root's vertex
third : (s : List ℕ) (r : ℕ) {q t : ℕ} → q ≡ at s r → t ≡ at s q → t ≡ at s (at s r)
third s r e f = f ∙ ap (at s) e

moved : (s : List ℕ) (r : ℕ) {q : ℕ} → q ≡ at s r → q ≢ r → at s r ≢ r
moved s r e n i = n (e ∙ i)

-- two edges that are not pending
new : (q s : ℕ) {x y : ℕ} (r : List ℕ) → q ≡ x → s ≡ y → (¬ Has x r) × (¬ Has y (x ∷ r)) → (¬ Has q r) × (¬ Has s (q ∷ r))
new q s {x} {y} r e f w = subst (λ (a : ℕ). (¬ Has a r) × (¬ Has s (a ∷ r))) (sym e) (subst (λ (a : ℕ). (¬ Has x r) × (¬ Has a (x ∷ r))) (sym f) w)

pub returns-then-q-root : goal.returns-then-q-root
returns-then-q-root c =
    λ s1 m. did-U m _ c.requires.by_index.1 (below-stamped c.requires.below) _ _ _ (sym c.follow-q.ensures ∙ c.if-q-root.true) c.stamp_edge.ensures (c.push.ensures [] c.requires.ring (λ h. h))

pub add_triple-requires-clause-by_index : goal.add_triple-requires-clause-by_index
add_triple-requires-clause-by_index c =
    let (s1, m) = c.requires.by_index.0 in
    let s = c.args.s0.now in
    let t = third s c.args.root c.follow-q.ensures c.follow-s.ensures in
    let n = moved s c.args.root c.follow-q.ensures c.if-q-root.false in
    let w = new c.follow-q.result c.follow-s.result (c.args.root ∷ []) c.follow-q.ensures t (root-new m _ c.requires.by_index.1 (below-stamped c.requires.below) n) in
    (c.args.root ∷ [], c.push.ensures [] c.requires.ring (λ h. h), w.0, w.1)

pub returns : goal.returns
returns c =
    λ s1 m.
    let s = c.args.s0.now in
    let t = third s c.args.root c.follow-q.ensures c.follow-s.ensures in
    let n = moved s c.args.root c.follow-q.ensures c.if-q-root.false in
    let b = below-stamped c.requires.below in
    let w = new c.follow-q.result c.follow-s.result (c.args.root ∷ []) c.follow-q.ensures t (root-new m _ c.requires.by_index.1 b n) in
    did-T m _ c.requires.by_index.1 b _ _ _ n
    (rw (c.follow-q.ensures, t) at c.add_triple.ensures.stamped)
    (rw (c.follow-q.ensures, t) at (c.add_triple.ensures.pushed (c.args.root ∷ []) (c.push.ensures [] c.requires.ring (λ h. h)) w.0 w.1))
