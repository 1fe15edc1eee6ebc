-- `can_end_after` meets its contract: the state after the item, tested.
use mathlib.Core.Path.{◌∙◌, ap}
use Rattle.listing_successor_states.specs.declared.StackState.{StackState}
use Rattle.listing_successor_events.specs.Events.{can_end, can_end_after}
use Rattle.listing_successor_events.proofs.can_end_after.Goals as goal

pub returns : goal.returns
unfolding can_end_after
returns c = c.can_end.ensures ∙ ap (λ (l : StackState). can_end l.height l.free) c.state_after_item-l.ensures
