-- `none_before` meets its contract. The loop's invariant: no word of the rootings below x comes before own.
use Rattle.diagrams_entries.proofs.Answers.{Passed}
use Rattle.words.specs.Order.{Before}
use Rattle.labelling.specs.Labelling.{word_of}
use Rattle.labelling_rootings.proofs.Tried.{Tried}
use Rattle.labelling_rootings.proofs.none_before.Given as goal

abbrev pub invariant-loop-x : goal.invariant-loop-x
invariant-loop-x l = Tried l.s0 l.n l.next l.prev l.initial.stamps l.stamps l.x × Passed (λ y. ¬ Before (word_of l.s0 l.s1 y) l.own) l.n l.x
