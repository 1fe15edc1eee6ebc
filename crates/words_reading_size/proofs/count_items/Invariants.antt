-- The loop over the items: after those before the index the word's answer is what the rest gives from a state with the counts.
use mathlib.Core.Path.{◌≡◌}
use lib.ListN.{drop}
use Rattle.words_reading_events.specs.State.{State, read_on}
use Rattle.words_reading_size.specs.Counting.{Counts}
use Rattle.words_reading_size.proofs.count_items.Given as goal

abbrev pub invariant-loop-item : goal.invariant-loop-item
invariant-loop-item l =
    (t : State) → Counts l.initial.counts.used l.initial.counts.height t
    → (st : State) × Counts l.counts.used l.counts.height st × (read_on l.rest t ≡ read_on (drop l.item-index l.rest) st)
