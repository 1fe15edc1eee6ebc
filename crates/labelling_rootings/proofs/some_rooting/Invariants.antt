-- `some_rooting` meets its contract. The loop's invariant: no word of the rootings below x is own.
use mathlib.Core.Logic.{◌≢◌}
use Rattle.diagrams_entries.proofs.Answers.{Passed}
use Rattle.labelling.specs.Labelling.{word_of}
use Rattle.labelling_rootings.proofs.Tried.{Tried}
use Rattle.labelling_rootings.proofs.some_rooting.Given as goal

abbrev pub invariant-loop-x : goal.invariant-loop-x
invariant-loop-x l = Tried l.s0 l.n l.next l.prev l.initial.stamps l.stamps l.x × Passed (λ y. word_of l.s0 l.s1 y ≢ l.own) l.n l.x
