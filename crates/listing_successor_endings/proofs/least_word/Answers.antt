-- `least_word` meets its contract: `append_event` from nothing, at the state after the first item.
use mathlib.Core.Path.{refl}
use mathlib.Core.List.{◌∷◌, []}
use Rattle.listing_successor_endings.specs.Endings.{least_ending}
use Rattle.listing_successor_endings.proofs.Padding.{shared-word-is}
use Rattle.listing_successor_states.proofs.States.{start_small}
use Rattle.listing_successor_endings.proofs.Endings.{rooted-room}
use Rattle.listing_successor_endings.proofs.least_word.Goals as goal

pub append_event-length-requires : goal.append_event-length-requires
append_event-length-requires c =
    let p = c.requires in
    let a = c.args in
    rw c.state_after_first-l.ensures ([], refl, refl, rooted-room a.n a.root p.0 p.1, p.1, start_small a.n a.root p.0)

pub returns : goal.returns
returns c =
    let l = c.state_after_first-l.result in
    rw (← c.state_after_first-l.ensures) (shared-word-is 0 (c.args.root ∷ least_ending l.height l.free) _ _ (c.append_event-length.ensures [] refl refl))
