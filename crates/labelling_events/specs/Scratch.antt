-- The labelling of a diagram in lent arrays: what the contracts say of the arrays, in terms of the labelling's own lists, the labelled
-- edges o, the last labelled first, and the pending edges st, the top first. The arrays are la (labels, by edge), od (order, the edge of
-- each label), and nx and pv (the links of the pending ring, which holds edges).
--
--   Underway s0 s1 la od nx pv given height o st   the labelling of the diagram s0, s1 stands at o and st, and the arrays hold it; height
--                                                  is how many edges are pending
--   first_event_of s0 root                           the labelling's first event
--   EventDone s0 s1 la od nx pv v e                the arrays hold what the event v left; e is its item, the number of labels given and
--                                                  that of edges pending
--   WordWritten s0 s1 root la od a b m given       a whole labelling: its word, of length m, is written into the list a, now b, and the
--                                                  labels given are held, one for each edge that is reached from the root
-- and from labelling_arrays: LabelsHeld.
use Rattle.std.specs.Prelude.{◌≡◌, List, ◌++◌, ℕ, suc, ◌≤◌, ◌<◌, eqb, length, drop}
use Rattle.lists.specs.Lists.{at}
use Rattle.diagrams.specs.Check.{Mapped}
use Rattle.pending_ring.specs.Ring.{Ring}
use Rattle.labelling.specs.Labelling.{Event, LabellingInvariant, first_event, labels, word_of}
pub use Rattle.labelling_arrays.specs.Labels.{LabelsHeld}
use Rattle.labelling_events.specs.declared.EventItem.{EventItem}

-- the lists are maps; that every edge is reached from the root is not asked
pub record Underway (s0 s1 la od nx pv : List ℕ) (given height : ℕ) (o st : List ℕ) : Type 0 where
  pub mapped : Mapped s0 s1
  pub labels_long : length s0 < length la
  pub order_long : length s0 < length od
  pub along : LabellingInvariant (length s0) (at s0) (at s1) o st
  pub holds : LabelsHeld la od given o
  pub ring : Ring nx pv st
  pub height_is : height ≡ length st

-- the first event of the black list s0 from the root
abbrev pub first_event_of : List ℕ → ℕ → Event
first_event_of s0 root = first_event (eqb (at s0 root) root) root (at s0 root) (at s0 (at s0 root))

pub record EventDone (s0 s1 la od nx pv : List ℕ) (v : Event) (e : EventItem) : Type 0 where
  pub item_is : e.item ≡ v.item
  pub leaves : Underway s0 s1 la od nx pv e.given e.height v.marked v.stack

-- the word stands before what the list held
pub record WordWritten (s0 s1 : List ℕ) (root : ℕ) (la od a b : List ℕ) (m given : ℕ) : Type 0 where
  pub length_is : m ≡ length (word_of s0 s1 root)
  pub few : m ≤ suc (length s0)
  pub word_is : b ≡ word_of s0 s1 root ++ drop m a
  pub held : LabelsHeld la od given (labels s0 s1 root)
