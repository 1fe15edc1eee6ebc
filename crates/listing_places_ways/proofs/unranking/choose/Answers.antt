-- `choose` finds the event in whose block the place falls, by the laws `found-W`, .. of the four kinds of block.
use mathlib.Core.Path.{◌≡◌, refl}
use Prim.Native.Nat.{ℕ, suc, ◌-◌, ◌≤◌}
use native.Mathlib.Omega.{arith}
use Rattle.listing_places_ways.proofs.Choices.{found-W, found-F, found-B, jump-within, found-J}
use Rattle.listing_places_ways.proofs.unranking.choose.Goals as goal

popped : (height : ℕ) → 1 ≤ height → height ≡ suc (height - 1)
popped height l = omega arith

pub returns-then-place-by_w : goal.returns-then-place-by_w
returns-then-place-by_w c = found-W _ _ _ _ _ _ _ (popped _ c.requires.0) c.requires.1 c.requires.2 (c.ways-by_w.ensures.inside (omega arith)) refl refl c.if-place-by_w.true

pub overflow_sub-result : goal.overflow_sub-result
overflow_sub-result c =
    (found-F _ _ _ _ _ _ _ (popped _ c.requires.0) c.requires.1 c.requires.2 (c.ways-by_w.ensures.inside (omega arith)) c.ways_f-by_f.ensures refl c.if-place-by_w.false c.if-past_w-by_f.true).0

pub returns-then-past_w-by_f : goal.returns-then-past_w-by_f
returns-then-past_w-by_f c =
    (found-F _ _ _ _ _ _ _ (popped _ c.requires.0) c.requires.1 c.requires.2 (c.ways-by_w.ensures.inside (omega arith)) c.ways_f-by_f.ensures refl c.if-place-by_w.false c.if-past_w-by_f.true).1

pub overflow_sub-result-then-past_f-by_b : goal.overflow_sub-result-then-past_f-by_b
overflow_sub-result-then-past_f-by_b c =
    (found-B _ _ _ _ _ _ _ (popped _ c.requires.0) c.requires.1 c.requires.2 (c.ways-by_w.ensures.inside (omega arith)) c.ways_f-by_f.ensures c.ways_b-by_b.ensures c.if-place-by_w.false c.if-past_w-by_f.false c.if-past_f-by_b.true).0

pub returns-then-past_f-by_b : goal.returns-then-past_f-by_b
returns-then-past_f-by_b c =
    (found-B _ _ _ _ _ _ _ (popped _ c.requires.0) c.requires.1 c.requires.2 (c.ways-by_w.ensures.inside (omega arith)) c.ways_f-by_f.ensures c.ways_b-by_b.ensures c.if-place-by_w.false c.if-past_w-by_f.false c.if-past_f-by_b.true).1

pub choose_join-requires : goal.choose_join-requires
choose_join-requires c =
    (omega arith, jump-within _ _ _ _ _ _ _ (popped _ c.requires.0) c.requires.1 c.requires.2 (c.ways-by_w.ensures.inside (omega arith)) c.ways_f-by_f.ensures c.ways_b-by_b.ensures c.if-place-by_w.false c.if-past_w-by_f.false c.if-past_f-by_b.false)

pub returns : goal.returns
returns c =
    let j = c.choose_join.ensures in
    rw (j.0, j.1, j.2, j.3) (found-J _ _ _ _ _ _ _ (popped _ c.requires.0) c.requires.1 c.requires.2 (c.ways-by_w.ensures.inside (omega arith)) c.ways_f-by_f.ensures c.ways_b-by_b.ensures c.if-place-by_w.false c.if-past_w-by_f.false c.if-past_f-by_b.false)
