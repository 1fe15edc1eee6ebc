-- The labelling of a rooted diagram (document 01, "Labelling and words"; document 000, section 2), over its black map f and white map g.
-- Labels are given from 1 upward. `marked` is the list of the labelled edges, the last labelled first, so an edge's label is its
-- place counted from the end; the stack holds the pending edges, its top first.
--
--   event f g marked k r                 the event of the popped edge k, with r the rest of the stack: its item, and what is marked and
--                                        pending after it
--   LabellingInvariant n f g marked st   what holds at each point along the labelling of a diagram of size n
--   events f g m marked st               the events from a stack on, at most m of them: what is marked in the end, and the items
--   label n f g r                        the whole labelling of a diagram of size n from the root r: its marked edges and its word
--   label_of marked x                     the label of edge x; 0 where it has none
--   edge_of marked j                      the edge of label j
--   relabel marked f                     the map f seen through the labels
--   word_of, characteristic               the word of a rooted diagram given as lists, and the diagram relabelled: its characteristic labelling
use Rattle.std.specs.Prelude.{Bool, true, false, cond, List, [], ◌∷◌, ℕ, zero, suc, eqb, length}
use Rattle.lists.specs.Lists.{at, tabulate, Has, Distinct, has, find, remove_at}
use Rattle.lists.specs.Ranges.{OneTo}
use Rattle.words.specs.Word.{Pair}

pub record Event : Type 0 where
  pub item : ℕ
  pub marked : List ℕ
  pub stack : List ℕ

-- by three tests: is the partner p the popped edge itself, is p labelled, does f fix p; then p and its next two edges q and s, and p's place d in r
abbrev pub event_by : Bool → Bool → Bool → ℕ → ℕ → ℕ → ℕ → List ℕ → List ℕ → Event
-- W
event_by true old fix p q s d o r = record { item = 0; marked = o; stack = r }
-- Jd
event_by false true fix p q s d o r = record { item = suc (suc (suc d)); marked = o; stack = remove_at d r }
-- B
event_by false false true p q s d o r = record { item = 2; marked = p ∷ o; stack = r }
-- F
event_by false false false p q s d o r = record { item = 1; marked = s ∷ q ∷ p ∷ o; stack = s ∷ q ∷ r }

unfoldable pub event : (f g : ℕ → ℕ) → List ℕ → ℕ → List ℕ → Event
event f g o k r = let p = g k in event_by (eqb p k) (has p o) (eqb (f p) p) p (f p) (f (f p)) (find p r) o r

-- the marked edges, no two the same, are edges of the diagram, whole black vertices at a time; the pending ones, no two the same, are marked;
-- and the partner of an edge that is marked and no longer pending is such an edge too
pub record LabellingInvariant (n : ℕ) (f g : ℕ → ℕ) (marked st : List ℕ) : Type 0 where
  pub edges : (x : ℕ) → Has x marked → OneTo n x
  pub distinct : Distinct marked
  pub pending : (x : ℕ) → Has x st → Has x marked
  pub stacked : Distinct st
  pub closed : (x : ℕ) → Has x marked → Has (f x) marked
  pub settled : (x : ℕ) → Has x marked → ¬ Has x st → Has (g x) marked × (¬ Has (g x) st)

pub record Labelled : Type 0 where
  pub marked : List ℕ
  pub word : List ℕ

-- the item x before the others
abbrev pub with_item : ℕ → Labelled → Labelled
with_item x q = record { marked = q.marked; word = x ∷ q.word }

unfoldable pub events : (f g : ℕ → ℕ) → ℕ → List ℕ → List ℕ → Labelled
events f g zero o st = record { marked = o; word = [] }
events f g (suc m) o [] = record { marked = o; word = [] }
events f g (suc m) o (k ∷ r) = let v = event f g o k r in with_item v.item (events f g m v.marked v.stack)

-- the first event, by whether f fixes the root: U, or T with the root p and its next two edges q and s
abbrev pub first_event : Bool → ℕ → ℕ → ℕ → Event
first_event true p q s = record { item = 0; marked = p ∷ []; stack = p ∷ [] }
first_event false p q s = record { item = 1; marked = s ∷ q ∷ p ∷ []; stack = s ∷ q ∷ p ∷ [] }

unfoldable pub label : (n : ℕ) (f g : ℕ → ℕ) → ℕ → Labelled
label n f g r = let v = first_event (eqb (f r) r) r (f r) (f (f r)) in with_item v.item (events f g n v.marked v.stack)

abbrev pub label_of : List ℕ → ℕ → ℕ
label_of [] x = 0
label_of (y ∷ l) x = cond (eqb x y) (suc (length l)) (label_of l x)

abbrev pub edge_of : List ℕ → ℕ → ℕ
edge_of [] j = 0
edge_of (y ∷ l) j = cond (eqb j (suc (length l))) y (edge_of l j)

unfoldable pub relabel : List ℕ → (ℕ → ℕ) → ℕ → ℕ
relabel o f j = label_of o (f (edge_of o j))

-- of the diagram given as the lists s0, s1 and a root
unfoldable pub labels : List ℕ → List ℕ → ℕ → List ℕ
labels s0 s1 root = (label (length s0) (at s0) (at s1) root).marked

-- the code of the rooted map: equal exactly for isomorphic rooted diagrams
unfoldable pub word_of : List ℕ → List ℕ → ℕ → List ℕ
word_of s0 s1 root = (label (length s0) (at s0) (at s1) root).word

-- the field's term is the canonical labelling of a rooted map: the labels do not depend on how the edges were numbered
unfoldable pub characteristic : List ℕ → List ℕ → ℕ → Pair
characteristic s0 s1 root =
    let o = labels s0 s1 root in
    record { black = tabulate (relabel o (at s0)) (length s0); white = tabulate (relabel o (at s1)) (length s0) }
