-- `add_events` adds the items up to the word's end. The loop's invariant: the items before place i are spelled.
use lib.ListN.{take}
use Rattle.words_respelling.specs.SpelledSoFar.{SpelledSoFar}
use Rattle.words_respelling.proofs.add_events.Given as goal

abbrev pub invariant-loop-i : goal.invariant-loop-i
invariant-loop-i l = SpelledSoFar (take l.i l.word) l.stack l.popped l.s0 l.s1 l.marks.used l.marks.height
