-- `least_event` meets its contract: W, or else the least event above W.
use mathlib.Core.Path.{◌∙◌, sym}
use Rattle.listing_successor_events.specs.Events.{least_event}
use Rattle.listing_successor_events.proofs.least_event.Goals as goal

pub returns-then-can_end_after : goal.returns-then-can_end_after
unfolding least_event
returns-then-can_end_after c = rw (sym c.can_end_after.ensures ∙ c.if-can_end_after.true)

pub returns : goal.returns
unfolding least_event
returns c = rw (sym c.can_end_after.ensures ∙ c.if-can_end_after.false) c.least_above.ensures
