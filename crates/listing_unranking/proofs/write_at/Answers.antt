-- `write_at` tells by the place whether the word begins with U or with T.
use native.Mathlib.Omega.{arith}
use Rattle.listing_places.proofs.Places.{T-some}
use Rattle.listing_unranking.proofs.Drawing.{rooted-U, rooted-T}
use Rattle.listing_unranking.proofs.write_at.Goals as goal

pub write_from-requires : goal.write_from-requires
write_from-requires c = (_, _, rooted-U c.args.n c.args.p _ _ _ c.requires.0 c.requires.1 c.requires.2 (rw (c.ways-single.ensures.inside (omega arith)) at c.if-place-single.true))

pub returns-then-place-single : goal.returns-then-place-single
returns-then-place-single c = c.write_from.ensures _ _ (rooted-U c.args.n c.args.p _ _ _ c.requires.0 c.requires.1 c.requires.2 (rw (c.ways-single.ensures.inside (omega arith)) at c.if-place-single.true))

pub write_from-requires-2 : goal.write_from-requires-2
write_from-requires-2 c = (c.args.n, c.args.p, rw (c.ways-single.ensures.inside (omega arith)) (rooted-T c.args.n c.args.p _ _ _ c.requires.0 c.requires.1 c.requires.2 (rw (c.ways-single.ensures.inside (omega arith)) at c.if-place-single.false)))

pub returns : goal.returns
returns c = c.write_from-2.ensures c.args.n c.args.p (rw (c.ways-single.ensures.inside (omega arith)) (rooted-T c.args.n c.args.p _ _ _ c.requires.0 c.requires.1 c.requires.2 (rw (c.ways-single.ensures.inside (omega arith)) at c.if-place-single.false)))

pub overflow_sub-size-2 : goal.overflow_sub-size-2
overflow_sub-size-2 c = (T-some c.args.n c.args.p c.requires.0 c.requires.1 (rw (c.ways-single.ensures.inside (omega arith)) at c.if-place-single.false)).0
