-- `begin` meets its contract: the root is pushed, and the rest of its vertex as in F, where its black edge is another.
use borrow.Author.Rules.{rules}
use mathlib.Core.Path.{◌≡◌, sym, ap, ◌∙◌, subst}
use mathlib.Core.Logic.{◌≢◌}
use mathlib.Core.List.{List, [], ◌∷◌}
use Prim.Native.Nat.{ℕ}
use Rattle.lists.specs.Lists.{at, Has}
use Rattle.labelling_events.proofs.Underway.{root-new, did-U, did-T}
use Rattle.labelling_events.proofs.begin.Goals as goal

pub returns-then-q-root : goal.returns-then-q-root
returns-then-q-root c =
    λ s1 a.
    did-U _ s1 _ a _ _ _ _ _ (search rules) (search rules) (sym c.follow-q.ensures ∙ c.if-q-root.true) (c.give_label-given.ensures.held [] c.requires.labels_held.0)
    (c.push.ensures [] c.requires.labels_held.1 (λ h. h))

-- two edges that are not pending
new : (q s : ℕ) {x y : ℕ} (r : List ℕ) → q ≡ x → s ≡ y → (¬ Has x r) × (¬ Has y (x ∷ r)) → (¬ Has q r) × (¬ Has s (q ∷ r))
new q s {x} {y} r e f w = subst (λ (a : ℕ). (¬ Has a r) × (¬ Has s (a ∷ r))) (sym e) (subst (λ (a : ℕ). (¬ Has x r) × (¬ Has a (x ∷ r))) (sym f) w)

-- the third edge of the root's vertex
third : (s : List ℕ) (r : ℕ) {q t : ℕ} → q ≡ at s r → t ≡ at s q → t ≡ at s (at s r)
third s r e f = f ∙ ap (at s) e

moved : (s : List ℕ) (r : ℕ) {q : ℕ} → q ≡ at s r → q ≢ r → at s r ≢ r
moved s r e n i = n (e ∙ i)

pub add_triple-given-requires-clause-by_index : goal.add_triple-given-requires-clause-by_index
add_triple-given-requires-clause-by_index c =
    let (s1, a) = c.requires.by_index in
    let s = c.args.s0.now in
    let t = third s c.args.root c.follow-q.ensures c.follow-s.ensures in
    let w = new c.follow-q.result c.follow-s.result (c.args.root ∷ []) c.follow-q.ensures t (root-new _ s1 _ a (moved s c.args.root c.follow-q.ensures c.if-q-root.false)) in
    (c.args.root ∷ [], c.push.ensures [] c.requires.labels_held.1 (λ h. h), w.0, w.1)

pub returns : goal.returns
returns c =
    λ s1 a.
    let s = c.args.s0.now in
    let t = third s c.args.root c.follow-q.ensures c.follow-s.ensures in
    let m = moved s c.args.root c.follow-q.ensures c.if-q-root.false in
    let w = new c.follow-q.result c.follow-s.result (c.args.root ∷ []) c.follow-q.ensures t (root-new _ s1 _ a m) in
    did-T _ s1 _ a _ _ _ _ _ (search rules) (search rules) m
    (rw (c.follow-q.ensures, t) at (c.add_triple-given.ensures.held [] c.requires.labels_held.0))
    (rw (c.follow-q.ensures, t) at (c.add_triple-given.ensures.pushed (c.args.root ∷ []) (c.push.ensures [] c.requires.labels_held.1 (λ h. h)) w.0 w.1))
