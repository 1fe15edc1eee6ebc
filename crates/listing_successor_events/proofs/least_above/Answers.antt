-- `least_above` meets its contract: its tests are those of the definition, in the same order.
use mathlib.Core.Path.{◌∙◌, sym}
use Rattle.listing_successor_events.specs.Events.{least_above}
use Rattle.listing_successor_events.proofs.least_above.Goals as goal

pub returns-then-allowed_above : goal.returns-then-allowed_above
unfolding least_above
returns-then-allowed_above c = rw (sym c.allowed_above.ensures ∙ c.if-allowed_above.true)

pub returns-then-allowed_above-2 : goal.returns-then-allowed_above-2
unfolding least_above
returns-then-allowed_above-2 c = rw (sym c.allowed_above.ensures ∙ c.if-allowed_above.false, sym c.allowed_above-2.ensures ∙ c.if-allowed_above-2.true)

pub returns-then-can_end_after : goal.returns-then-can_end_after
unfolding least_above
returns-then-can_end_after c = rw (sym c.allowed_above.ensures ∙ c.if-allowed_above.false, sym c.allowed_above-2.ensures ∙ c.if-allowed_above-2.false, ← c.join_above-j.ensures, sym c.can_end_after.ensures ∙ c.if-can_end_after.true)

pub returns : goal.returns
unfolding least_above
returns c = rw (sym c.allowed_above.ensures ∙ c.if-allowed_above.false, sym c.allowed_above-2.ensures ∙ c.if-allowed_above-2.false, ← c.join_above-j.ensures, sym c.can_end_after.ensures ∙ c.if-can_end_after.false)
