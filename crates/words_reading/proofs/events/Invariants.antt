-- The loop over the items: after i of them the word's answer is what the rest gives from the state held.
use mathlib.Core.Path.{◌≡◌}
use lib.ListN.{drop}
use Rattle.words_reading_events.specs.State.{State, read_on, ReadingHeld}
use Rattle.words_reading.proofs.events.Given as goal

abbrev pub invariant-loop-item : goal.invariant-loop-item
invariant-loop-item l =
    (t : State) → ReadingHeld l.initial.next l.initial.prev l.initial.x0 l.initial.x1 l.initial.counts.used l.initial.counts.height t
    → (st : State) × ReadingHeld l.next l.prev l.x0 l.x1 l.counts.used l.counts.height st × (read_on l.rest t ≡ read_on (drop l.item-index l.rest) st)
