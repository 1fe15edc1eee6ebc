-- `events` writes the whole diagram. The loop's invariant: from where it started, the items from the index on finish the same diagram.
use mathlib.Core.Path.{◌∙◌}
use lib.ListN.{drop_of_length-le}
use Rattle.words_spelling_events.proofs.Lists.{next-item}
use Rattle.words_spelling.proofs.Laws.{midway_end}
use Rattle.words_spelling.proofs.events.Goals as goal

pub loop-item-preserved : goal.loop-item-preserved
loop-item-preserved c = (
  c.event-counts.auto.s0 ∙ c.loop-item.invariant.0,
  c.event-counts.auto.s1 ∙ c.loop-item.invariant.1,
  λ D S a0 a1 M.
      let (T, N) = c.loop-item.invariant.2 D S a0 a1 M in
      (_, c.event-counts.ensures D T _ a0 a1 (rw (next-item c.args.word.now c.loop-item.item-index c.loop-item-test.true) at N)),
)

pub returns : goal.returns
returns c = λ D S a0 a1 M. midway_end _ _ _ _ _ _ _ _ _ (rw (drop_of_length-le c.args.word.now c.loop-item-test.false) at (c.loop-item.invariant.2 D S a0 a1 M).1)
