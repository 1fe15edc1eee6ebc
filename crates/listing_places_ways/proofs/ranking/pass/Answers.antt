-- `pass` answers the block of an item: the law of the item's event.
use mathlib.Core.Path.{◌≡◌}
use mathlib.Core.List.{List, ◌∷◌}
use Prim.Native.Nat.{ℕ, suc, ◌-◌}
use native.Mathlib.Omega.{arith}
use Rattle.words.specs.Shape.{Fits}
use Rattle.words_spelling_events.proofs.Lists.{jump-item}
use Rattle.listing_places_ways.proofs.Passing.{height-some, passed-W, passed-F, passed-B, sum-B, item-J, from-J}
use Rattle.listing_places_ways.proofs.ranking.pass.Goals as goal

popped : (height f x : ℕ) (w : List ℕ) → Fits height f (x ∷ w) → height ≡ suc (height - 1)
popped height f x w a = let i = height-some height f x w a in omega arith

pub overflow_add-result-in-2 : goal.overflow_add-result-in-2
overflow_add-result-in-2 c =
    let (w, a) = c.requires.by_index in
    omega (arith, c.ways-in-2.ensures.inside (omega arith), c.ways_f.ensures, sum-B _ _ _ w (popped _ _ _ w a) c.requires.free_bound (rw c.in-2.is at a))

pub returns-in-0 : goal.returns-in-0
returns-in-0 c = λ w a. rw c.in-0.is (passed-W _ _ _ w (popped _ _ _ w a) c.requires.free_bound (rw c.in-0.is at a))

pub returns-in-1 : goal.returns-in-1
returns-in-1 c = λ w a. rw (c.in-1.is, c.ways.ensures.inside (omega arith)) (passed-F _ _ _ w (popped _ _ _ w a) c.requires.free_bound (rw c.in-1.is at a))

pub returns-in-2 : goal.returns-in-2
returns-in-2 c = λ w a. rw (c.in-2.is, c.ways-in-2.ensures.inside (omega arith), c.ways_f.ensures) (passed-B _ _ _ w (popped _ _ _ w a) c.requires.free_bound (rw c.in-2.is at a))

pub returns-in_default : goal.returns-in_default
returns-in_default c =
    λ w a.
    let i = popped c.args.height c.args.free c.args.item w a in
    let q = jump-item c.args.item c.to_index.result (λ e. omega arith) (λ e. omega arith) (λ e. omega arith) c.to_index.ensures in
    from-J _ _ _ _ _ w i q _ _ _ (c.join_block.ensures w (item-J _ _ _ _ _ w i q a))
