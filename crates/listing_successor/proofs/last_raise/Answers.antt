-- The items before i lead to the state, and no item from i on can be raised; so the first item on the way back that can be raised is the last of
-- the word.
use Rattle.std.proofs.Common.{arith, rules, ◌≡◌, ℕ, suc, ◌+◌, ◌-◌, ◌≤◌, ◌<◌, List, length}
use Rattle.words.specs.Shape.{Fits}
use Rattle.listing_successor.proofs.Backwards.{Back, back_start, back_read, back-small, back-item, back_more, back-raise}
use Rattle.listing_successor.proofs.last_raise.Goals as goal

-- the invariant at the place of the item that a turn looks at
back-at : (items : List ℕ) (i h f : ℕ) → 0 < i → ((H F : ℕ) → Fits H F items → H + F ≤ 50 → Back H F items i h f)
    → (H F : ℕ) → Fits H F items → H + F ≤ 50 → Back H F items (suc (i - 1)) h f
back-at items i h f l b H F a s = let e : suc (i - 1) ≡ i = omega arith in rw e (b H F a s)

pub loop-i-init : goal.loop-i-init
loop-i-init c = (search rules, λ H F a s. back_start H F _ a)

pub state_before-l-requires : goal.state_before-l-requires
state_before-l-requires c =
    let p = c.requires in
    let inside : c.loop-i.i - 1 < length c.args.items.now = omega arith in
    (search rules, (_, _, back_read p.0 p.1 _ p.3 _ _ _ inside (back-at _ _ _ _ c.loop-i-test.true c.loop-i.invariant.1 p.0 p.1 p.2 p.3)))

pub least_above-e-requires : goal.least_above-e-requires
least_above-e-requires c =
    let p = c.requires in
    let inside : c.loop-i.i - 1 < length c.args.items.now = omega arith in
    let back = back-at _ _ _ _ c.loop-i-test.true c.loop-i.invariant.1 p.0 p.1 p.2 p.3 in
    (back-small p.0 p.1 _ p.3 _ _ _ inside back _ c.state_before-l.ensures, back-item p.0 p.1 _ p.3 _ _ _ inside back)

pub state_after_item-t-requires : goal.state_after_item-t-requires
state_after_item-t-requires c =
    let p = c.requires in
    let inside : c.loop-i.i - 1 < length c.args.items.now = omega arith in
    let back = back-at _ _ _ _ c.loop-i-test.true c.loop-i.invariant.1 p.0 p.1 p.2 p.3 in
    back-small p.0 p.1 _ p.3 _ _ _ inside back _ c.state_before-l.ensures

pub returns-then-e-gt0 : goal.returns-then-e-gt0
returns-then-e-gt0 c =
    let inside : c.loop-i.i - 1 < length c.args.items.now = omega arith in
    λ H F a s. back-raise H F _ s _ _ _ inside (back-at _ _ _ _ c.loop-i-test.true c.loop-i.invariant.1 H F a s) _ c.state_before-l.ensures _ c.least_above-e.ensures _ c.state_after_item-t.ensures (λ z. omega arith)

pub loop-i-preserved : goal.loop-i-preserved
loop-i-preserved c =
    let p = c.requires in
    let inside : c.loop-i.i - 1 < length c.args.items.now = omega arith in (
      back-small p.0 p.1 _ p.3 _ _ _ inside (back-at _ _ _ _ c.loop-i-test.true c.loop-i.invariant.1 p.0 p.1 p.2 p.3) _ c.state_before-l.ensures,
      λ H F a s. back_more H F _ s _ _ _ inside (back-at _ _ _ _ c.loop-i-test.true c.loop-i.invariant.1 H F a s) _ c.state_before-l.ensures _ c.least_above-e.ensures (omega arith),
    )
