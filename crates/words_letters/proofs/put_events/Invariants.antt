-- The letters of the events written one after another: what is left to write is those of the events to come (`Rest`).
use Rattle.words_letters.proofs.Lettering.{Rest}
use Rattle.words_letters.proofs.put_events.Given as goal

abbrev pub invariant-loop-x : goal.invariant-loop-x
invariant-loop-x l = Rest l.initial.out l.place l.items l.out l.next l.x-index
