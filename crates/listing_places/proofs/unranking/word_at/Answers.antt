-- `word_at` writes the word at a position: its first item, U or T, then the way to go on at the place that is left.
use native.Mathlib.Omega.{arith}
use Rattle.listing.specs.Position.{word_at}
use Rattle.listing_places.proofs.Places.{begun-U, T-some, begun-T}
use Rattle.listing_places.proofs.unranking.word_at.Goals as goal

pub unrank-requires : goal.unrank-requires
unrank-requires c = (_, c.args.word.now, begun-U c.args.size c.args.p c.args.word.now c.requires.0 c.requires.1.0 c.requires.2 (rw (c.ways-single.ensures.inside (omega arith)) at c.if-place-single.true))

pub returns-then-place-single : goal.returns-then-place-single
returns-then-place-single c =
    c.unrank.ensures _ _ (begun-U c.args.size c.args.p c.args.word.now c.requires.0 c.requires.1.0 c.requires.2 (rw (c.ways-single.ensures.inside (omega arith)) at c.if-place-single.true))

pub overflow_sub-n-2 : goal.overflow_sub-n-2
overflow_sub-n-2 c = (T-some c.args.size c.args.p c.requires.0 c.requires.1 (rw (c.ways-single.ensures.inside (omega arith)) at c.if-place-single.false)).0

pub unrank-requires-2 : goal.unrank-requires-2
unrank-requires-2 c =
    let e = c.ways-single.ensures.inside (omega arith) in
    (word_at c.args.size c.args.p, c.args.word.now, rw e (begun-T c.args.size c.args.p c.args.word.now c.requires.0 c.requires.1 c.requires.2 (rw e at c.if-place-single.false)))

pub returns : goal.returns
returns c =
    let e = c.ways-single.ensures.inside (omega arith) in
    c.unrank-2.ensures (word_at c.args.size c.args.p) c.args.word.now (rw e (begun-T c.args.size c.args.p c.args.word.now c.requires.0 c.requires.1 c.requires.2 (rw e at c.if-place-single.false)))
