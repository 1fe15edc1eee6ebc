-- The labelling of a diagram in lent arrays that tell only which edges are labelled: those whose stamp is the labelling's number t. The
-- arrays are sp (stamps, by edge), and nx and pv (the links of the pending ring, which holds edges). o are the labelled edges, the last
-- labelled first, and st the pending ones, the top first.
--
--   Below n sp t                            the stamps of the edges 1..n are below t: none is labelled yet
--   Stamped n sp t o                        the edges of 1..n with the stamp t are those of o, and no stamp is above t
--   Underway s0 s1 sp t nx pv given o st    the labelling of the maps s0, s1 stands at o and st, and the arrays hold it
--   EventDone s0 s1 sp t nx pv v e          the arrays hold what the event v left; e is its item and the number of labels given
use Rattle.std.specs.Prelude.{◌≡◌, ◌↔◌, List, ℕ, ◌≤◌, ◌<◌, length, get_or}
use Rattle.lists.specs.Lists.{at, Has}
use Rattle.lists.specs.Ranges.{OneTo}
use Rattle.diagrams.specs.Check.{Mapped}
use Rattle.pending_ring.specs.Ring.{Ring}
use Rattle.labelling.specs.Labelling.{Event, LabellingInvariant}
use Rattle.labelling_tracing_events.specs.declared.EventItem.{EventItem}

pub record Below (n : ℕ) (sp : List ℕ) (t : ℕ) : Type 0 where
  pub long : n < length sp
  pub low : (x : ℕ) → OneTo n x → get_or sp x 0 < t

pub record Stamped (n : ℕ) (sp : List ℕ) (t : ℕ) (o : List ℕ) : Type 0 where
  pub long : n < length sp
  pub most : (x : ℕ) → OneTo n x → get_or sp x 0 ≤ t
  pub labelled : (x : ℕ) → OneTo n x → (get_or sp x 0 ≡ t) ↔ Has x o

pub record Underway (s0 s1 sp : List ℕ) (t : ℕ) (nx pv : List ℕ) (given : ℕ) (o st : List ℕ) : Type 0 where
  pub mapped : Mapped s0 s1
  pub along : LabellingInvariant (length s0) (at s0) (at s1) o st
  pub stamped : Stamped (length s0) sp t o
  pub given_is : given ≡ length o
  pub ring : Ring nx pv st

pub record EventDone (s0 s1 sp : List ℕ) (t : ℕ) (nx pv : List ℕ) (v : Event) (e : EventItem) : Type 0 where
  pub item_is : e.item ≡ v.item
  pub leaves : Underway s0 s1 sp t nx pv e.given v.marked v.stack
