-- The loop over the events: the labelling stands behind the items written so far, and the arrays hold it.
use mathlib.Core.Path.{◌≡◌, refl, sym, ◌∙◌}
use mathlib.Core.Logic.{◌≢◌, inl}
use mathlib.Core.List.{List, [], ◌∷◌, ◌++◌}
use Prim.Native.Nat.{ℕ, suc, ◌+◌, ◌≤◌, ◌<◌}
use native.Mathlib.Omega.{arith}
use lib.ListN.{length, get_or, set, drop, length-append}
use lib.Seq.{drop-set-lt}
use Rattle.lists.specs.Lists.{at, Has}
use Rattle.lists.specs.Ranges.{OneTo}
use Rattle.lists.proofs.Copies.{written-more, written-length}
use Rattle.diagrams.specs.Check.{RootedMaps}
use Rattle.pending_ring.specs.Ring.{Ring}
use Rattle.pending_ring.proofs.Laws.{ring-top}
use Rattle.labelling.specs.Labelling.{event, label, edge_of, labels, word_of}
use Rattle.labelling.proofs.Standing.{Standing, standing-begin, standing-room, standing-event, standing-end}
use Rattle.labelling.proofs.Labels.{edge_in}
use Rattle.labelling.proofs.Reached.{labels-done}
use Rattle.labelling_code.specs.Scratch.{Underway, first_event_of, EventDone, WordWritten}
use Rattle.labelling_events.specs.declared.EventItem.{EventItem}

-- the labelling from the root stands behind the items w, and the arrays hold it; t edges are pending
pub record Sofar (s0 s1 : List ℕ) (root : ℕ) (la od nx pv : List ℕ) (c t : ℕ) (w : List ℕ) : Type 0 where
  pub marked : List ℕ
  pub stack : List ℕ
  pub underway : Underway s0 s1 la od nx pv c t marked stack
  pub standing : Standing (length s0) (at s0) (at s1) root w marked stack

pub sofar-begin : (s0 s1 : List ℕ) (root : ℕ) (la od nx pv : List ℕ) (e : EventItem) → EventDone s0 s1 la od nx pv (first_event_of s0 root) e → Sofar s0 s1 root la od nx pv e.given e.height (e.item ∷ [])
sofar-begin s0 s1 root la od nx pv e d = record { marked = _; stack = _; underway = d.leaves; standing = rw d.item_is (standing-begin (length s0) (at s0) (at s1) root) }

-- ---- from one event to the next

module _ (s0 s1 : List ℕ) (root : ℕ) (la od nx pv : List ℕ) (c t : ℕ) (w : List ℕ) (S : Sofar s0 s1 root la od nx pv c t w) where
  -- the sentinel's link tells whether an edge is pending
  pub sofar-pending : get_or nx 0 0 ≢ 0 → (k : ℕ) × (r : List ℕ) × (S.stack ≡ k ∷ r)
  sofar-pending n = go S.stack (ring-top nx pv S.stack S.underway.ring)
    where
      go : (st : List ℕ) → get_or nx 0 0 ≡ get_or st 0 0 → (k : ℕ) × (r : List ℕ) × (st ≡ k ∷ r)
      go [] e = absurd (n e)
      go (k ∷ r) e = (k, r, refl)

  pub sofar-empty : get_or nx 0 0 ≡ 0 → S.stack ≡ []
  sofar-empty z = go S.stack (ring-top nx pv S.stack S.underway.ring) S.underway.ring.once.0
    where
      go : (st : List ℕ) → get_or nx 0 0 ≡ get_or st 0 0 → ¬ Has 0 st → st ≡ []
      go [] e m = refl
      go (k ∷ r) e m = absurd (m (inl (sym z ∙ e)))

  pub sofar-room : (k : ℕ) (r : List ℕ) → S.stack ≡ k ∷ r → length w ≤ length s0
  sofar-room k r q = let u = rw q at S.underway in standing-room u.mapped.maps u.along (rw q at S.standing)

  pub sofar-event : (k : ℕ) (r : List ℕ) → S.stack ≡ k ∷ r → (la' od' nx' pv' : List ℕ) (e : EventItem) → EventDone s0 s1 la' od' nx' pv' (event (at s0) (at s1) S.marked k r) e
      → Sofar s0 s1 root la' od' nx' pv' e.given e.height (w ++ (e.item ∷ []))
  sofar-event k r q la' od' nx' pv' e d =
      let u = rw q at S.underway in
      record { marked = _; stack = _; underway = d.leaves; standing = rw d.item_is (standing-event u.mapped.maps u.along (rw q at S.standing)) }

  pub sofar-end : S.stack ≡ [] → (word_of s0 s1 root ≡ w) × (labels s0 s1 root ≡ S.marked)
  unfolding word_of labels
  sofar-end e = standing-end (rw e at S.standing)

-- every label is an edge's
module _ (s0 s1 : List ℕ) (root : ℕ) (m : RootedMaps s0 s1 root) where
  pub labels-edges : (j : ℕ) → OneTo (length (labels s0 s1 root)) j → OneTo (length s0) (edge_of (labels s0 s1 root) j)
  labels-edges j e = (labels-done s0 s1 root m).inv.edges _ (edge_in (labels s0 s1 root) j e)

-- ---- the items in a list: its first m places, before what it held

pub record Filled (s0 s1 : List ℕ) (root : ℕ) (la od nx pv : List ℕ) (c t : ℕ) (w a b : List ℕ) (m : ℕ) : Type 0 where
  pub sofar : Sofar s0 s1 root la od nx pv c t w
  pub counted : length w ≡ m
  pub written : b ≡ w ++ drop m a

-- the first item stands in the list already when the loop begins
pub filled-begin : (s0 s1 : List ℕ) (root : ℕ) (la od nx pv : List ℕ) (e : EventItem) (a : List ℕ) → 0 < length a → EventDone s0 s1 la od nx pv (first_event_of s0 root) e
    → Filled s0 s1 root la od nx pv e.given e.height (e.item ∷ []) (set a 0 e.item) (set a 0 e.item) 1
filled-begin s0 s1 root la od nx pv e a h d = record { sofar = sofar-begin s0 s1 root la od nx pv e d; counted = refl; written = go a h }
  where
    go : (a : List ℕ) → 0 < length a → set a 0 e.item ≡ e.item ∷ drop 1 (set a 0 e.item)
    go [] h = absurd (omega arith)
    go (x ∷ a) h = refl

module _ (s0 s1 : List ℕ) (root : ℕ) (la od nx pv : List ℕ) (c t : ℕ) (w a b : List ℕ) (m : ℕ) (F : Filled s0 s1 root la od nx pv c t w a b m) where
  pub filled-few : m ≤ suc (length s0)
  filled-few = let i = F.sofar.standing.moves in let j = F.counted in omega arith

  pub filled-length : length s0 < length a → length b ≡ length a
  filled-length h = rw F.written (written-length a w m F.counted (let i = filled-few in omega arith))

  -- while an edge is pending: the event's state, and room for its item
  pub filled-event : get_or nx 0 0 ≢ 0 → (o : List ℕ) × (k : ℕ) × (r : List ℕ) × Underway s0 s1 la od nx pv c t o (k ∷ r)
  filled-event n = let (k, r, q) = sofar-pending s0 s1 root la od nx pv c t w F.sofar n in (F.sofar.marked, k, r, rw q at F.sofar.underway)

  pub filled-room : get_or nx 0 0 ≢ 0 → m ≤ length s0
  filled-room n =
      let (k, r, q) = sofar-pending s0 s1 root la od nx pv c t w F.sofar n in
      let i = sofar-room s0 s1 root la od nx pv c t w F.sofar k r q in
      let j = F.counted in
      omega arith

  pub filled_more : get_or nx 0 0 ≢ 0 → length s0 < length a → (la' od' nx' pv' : List ℕ) (e : EventItem)
      → ((o : List ℕ) (k : ℕ) (r : List ℕ) → Underway s0 s1 la od nx pv c t o (k ∷ r) → EventDone s0 s1 la' od' nx' pv' (event (at s0) (at s1) o k r) e)
      → Filled s0 s1 root la' od' nx' pv' e.given e.height (w ++ (e.item ∷ [])) a (set b m e.item) (m + 1)
  filled_more n h la' od' nx' pv' e d =
      let (k, r, q) = sofar-pending s0 s1 root la od nx pv c t w F.sofar n in
      let i = filled-room n in
      record {
        sofar = sofar-event s0 s1 root la od nx pv c t w F.sofar k r q la' od' nx' pv' e (d F.sofar.marked k r (rw q at F.sofar.underway));
        counted = simp length-append (let j = F.counted in omega arith);
        written = rw F.written (written-more a w m e.item F.counted (omega arith));
      }

  filled-empty : get_or nx 0 0 ≡ 0 → F.sofar.stack ≡ []
  filled-empty z = sofar-empty s0 s1 root la od nx pv c t w F.sofar z

  pub filled-end : get_or nx 0 0 ≡ 0 → WordWritten s0 s1 root la od a b m c
  filled-end z = record {
    length_is = rw end.0 (sym F.counted);
    few = filled-few;
    word_is = rw end.0 F.written;
    held = rw end.1 F.sofar.underway.holds;
  }
    where
      end : (word_of s0 s1 root ≡ w) × (labels s0 s1 root ≡ F.sofar.marked)
      end = sofar-end s0 s1 root la od nx pv c t w F.sofar (filled-empty z)

  pub filled-none-pending : get_or nx 0 0 ≡ 0 → Ring nx pv []
  filled-none-pending z = rw (filled-empty z) at F.sofar.underway.ring

-- the list that the loop found had the first item already
pub wrote-first : (s0 s1 : List ℕ) (root : ℕ) (la od a b : List ℕ) (v m given : ℕ) → WordWritten s0 s1 root la od (set a 0 v) b m given → WordWritten s0 s1 root la od a b m given
unfolding word_of label
wrote-first s0 s1 root la od a b v m given w = record {
  length_is = w.length_is;
  few = w.few;
  word_is = rw (drop-set-lt m a 0 v (let e = w.length_is in omega arith)) at w.word_is;
  held = w.held;
}
