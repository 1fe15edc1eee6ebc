-- `unrank` writes the items one by one. The loop's invariant: the word, the lent list and what is left to write are as `Unranking` says.
use mathlib.Core.Path.{◌∙◌}
use native.Mathlib.Omega.{arith}
use lib.ListN.{length-set}
use Rattle.listing_places_ways.proofs.Choices.{unranking-room, unranking-more, unranking-end}
use Rattle.listing_places_ways.proofs.unranking.unrank.Goals as goal

pub choose-choice-requires : goal.choose-choice-requires
choose-choice-requires c = let (W, a, U) = c.requires in let N = c.loop-h.invariant.1 W a U in (c.loop-h-test.true, N.region, N.within)

pub offset_bounds-word-i : goal.offset_bounds-word-i
offset_bounds-word-i c = let (W, a, U) = c.requires in let i = unranking-room _ _ _ _ _ _ _ (c.loop-h.invariant.1 W a U) c.loop-h-test.true in omega (arith, i, c.loop-h.invariant.0)

pub bounds-word-i : goal.bounds-word-i
bounds-word-i c = let (W, a, U) = c.requires in unranking-room _ _ _ _ _ _ _ (c.loop-h.invariant.1 W a U) c.loop-h-test.true

pub overflow_add-i : goal.overflow_add-i
overflow_add-i c = let (W, a, U) = c.requires in let i = unranking-room _ _ _ _ _ _ _ (c.loop-h.invariant.1 W a U) c.loop-h-test.true in omega (arith, i, c.loop-h.invariant.0)

pub loop-h-preserved : goal.loop-h-preserved
loop-h-preserved c = (length-set c.loop-h.word c.loop-h.i c.choose-choice.result.item ∙ c.loop-h.invariant.0, λ W a U. unranking-more _ _ _ _ _ _ _ (c.loop-h.invariant.1 W a U) _ _ _ _ c.loop-h-test.true c.choose-choice.ensures)

pub returns : goal.returns
returns c = λ W a U. unranking-end _ _ _ _ _ _ _ (c.loop-h.invariant.1 W a U) (omega arith)
