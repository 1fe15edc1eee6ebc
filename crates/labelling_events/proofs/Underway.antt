-- What the code of an event needs and leaves, from a labelling under way: the events are distinguished as in the definition of `event`.
use mathlib.Core.Path.{◌≡◌, refl, sym, ◌∙◌}
use mathlib.Core.Logic.{◌≢◌, inl, inr}
use mathlib.Core.List.{List, [], ◌∷◌}
use Prim.Native.Nat.{ℕ, suc, ◌+◌, ◌-◌, ◌≤◌, ◌<◌}
use native.Mathlib.Omega.{arith}
use lib.ListN.{length, get_or}
use Rattle.lists.specs.Lists.{at, Has, find, remove_at}
use Rattle.lists.specs.Ranges.{OneTo}
use Rattle.lists.proofs.Lists.{find-lt, length-remove_at}
use Rattle.lists.proofs.Tests.{eqb_same, eqb-ne}
use Rattle.diagrams.specs.Diagram.{Maps}
use Rattle.diagrams.specs.Check.{RootedMaps}
use Rattle.pending_ring.specs.Ring.{Ring}
use Rattle.labelling.specs.Labelling.{Event, event, LabellingInvariant}
use Rattle.labelling.proofs.Along.{View, is-W, is-J, is-B, is-F, view, next, size}
use Rattle.labelling.proofs.Labels.{inv-U, inv-T}
use Rattle.labelling.proofs.Moves.{move-W, move-J, move-B, move-F}
use Rattle.labelling_events.specs.Scratch.{LabelsHeld, Underway, first_event_of, EventDone}
use Rattle.labelling_arrays.proofs.Arrays.{lab-none, lab-zero}

-- ---- the event of the popped edge k

module _ (s0 s1 la od nx pv : List ℕ) (c t : ℕ) (o : List ℕ) (k : ℕ) (r : List ℕ) (u : Underway s0 s1 la od nx pv c t o (k ∷ r)) where
  abbrev p : ℕ
  p = at s1 k

  maps : Maps (length s0) (at s0) (at s1)
  maps = u.mapped.maps

  pub popped-edge : OneTo (length s0) k
  popped-edge = u.along.edges k (u.along.pending k (inl refl))

  pub partner-edge : OneTo (length s0) p
  partner-edge = maps.white_in k popped-edge

  pub partner-small : p < length la
  partner-small = let i = partner-edge in let j = u.labels_long in omega arith

  invariant-after-event : LabellingInvariant (length s0) (at s0) (at s1) (event (at s0) (at s1) o k r).marked (event (at s0) (at s1) o k r).stack
  invariant-after-event = next (length s0) (at s0) (at s1) maps o k r u.along

  -- a partner with a label is pending
  pub partner-pending : p ≢ k → get_or la p 0 ≢ 0 → Has p r
  partner-pending a b = go (view (length s0) (at s0) (at s1) maps o k r u.along)
    where
      go : View (at s0) (at s1) o k r → Has p r
      go (is-W e q) = absurd (a e)
      go (is-J d h q) = h
      go (is-B d m e q) = absurd (b (u.holds.label_at p ∙ lab-none o p m))
      go (is-F d m e q) = absurd (b (u.holds.label_at p ∙ lab-none o p m))

  fresh : get_or la p 0 ≡ 0 → ¬ Has p o
  fresh b = lab-zero o p (sym (u.holds.label_at p) ∙ b)

  did : (v : Event) (la' od' nx' pv' : List ℕ) (x c' t' : ℕ) → event (at s0) (at s1) o k r ≡ v → length la' ≡ length la → length od' ≡ length od → x ≡ v.item → LabelsHeld la' od' c' v.marked → Ring nx' pv' v.stack → t' ≡ length v.stack
      → EventDone s0 s1 la' od' nx' pv' (event (at s0) (at s1) o k r) (record { item = x; given = c'; height = t' })
  did v la' od' nx' pv' x c' t' e l m i h q g = record {
    item_is = rw e i;
    leaves = record { mapped = u.mapped; labels_long = rw l u.labels_long; order_long = rw m u.order_long; along = invariant-after-event; holds = rw e h; ring = rw e q; height_is = rw e g };
  }

  pub did-W : (nx' pv' : List ℕ) → p ≡ k → Ring nx' pv' r → EventDone s0 s1 la od nx' pv' (event (at s0) (at s1) o k r) (record { item = 0; given = c; height = t - 1 })
  did-W nx' pv' a q = did _ la od nx' pv' 0 c (t - 1) (move-W (at s0) (at s1) o k r p refl a) refl refl refl u.holds q (let g = u.height_is in omega arith)

  pub did-J : (nx' pv' : List ℕ) (x : ℕ) → p ≢ k → get_or la p 0 ≢ 0 → x ≡ suc (suc (suc (find p r))) → Ring nx' pv' (remove_at (find p r) r)
      → EventDone s0 s1 la od nx' pv' (event (at s0) (at s1) o k r) (record { item = x; given = c; height = t - 1 - 1 })
  did-J nx' pv' x a b e q = did _ la od nx' pv' x c (t - 1 - 1) (move-J (at s0) (at s1) o k r p refl a (u.along.pending p (inr (partner-pending a b)))) refl refl e u.holds q (let g = u.height_is in let l = length-remove_at (find p r) r (find-lt p r (partner-pending a b)) in omega arith)

  -- B: one label is left
  event-B : p ≢ k → get_or la p 0 ≡ 0 → at s0 p ≡ p → event (at s0) (at s1) o k r ≡ record { item = 2; marked = p ∷ o; stack = r }
  event-B a b e = move-B (at s0) (at s1) o k r p refl a (fresh b) e

  pub event-B-room : p ≢ k → get_or la p 0 ≡ 0 → at s0 p ≡ p → c < length s0
  event-B-room a b e =
      let i = size (length s0) (at s0) (at s1) maps _ _ (rw (event-B a b e) at invariant-after-event) in
      let l = u.holds.given_is in
      omega arith

  pub did-B : (la' od' nx' pv' : List ℕ) (c' : ℕ) → length la' ≡ length la → length od' ≡ length od → p ≢ k → get_or la p 0 ≡ 0 → at s0 p ≡ p → LabelsHeld la' od' c' (p ∷ o) → Ring nx' pv' r
      → EventDone s0 s1 la' od' nx' pv' (event (at s0) (at s1) o k r) (record { item = 2; given = c'; height = t - 1 })
  did-B la' od' nx' pv' c' l m a b e h q = did _ la' od' nx' pv' 2 c' (t - 1) (event-B a b e) l m refl h q (let g = u.height_is in omega arith)

  -- F: three labels are left, and the next two edges round the vertex are not pending
  fork : p ≢ k → get_or la p 0 ≡ 0 → at s0 p ≢ p
      → event (at s0) (at s1) o k r ≡ record { item = 1; marked = at s0 (at s0 p) ∷ at s0 p ∷ p ∷ o; stack = at s0 (at s0 p) ∷ at s0 p ∷ r }
  fork a b e = move-F (at s0) (at s1) o k r p refl a (fresh b) e

  forked : p ≢ k → get_or la p 0 ≡ 0 → at s0 p ≢ p → LabellingInvariant (length s0) (at s0) (at s1) (at s0 (at s0 p) ∷ at s0 p ∷ p ∷ o) (at s0 (at s0 p) ∷ at s0 p ∷ r)
  forked a b e = rw (fork a b e) at invariant-after-event

  pub fork-room : p ≢ k → get_or la p 0 ≡ 0 → at s0 p ≢ p → c + 3 ≤ length s0
  fork-room a b e =
      let i = size (length s0) (at s0) (at s1) maps _ _ (forked a b e) in
      let l = u.holds.given_is in
      omega arith

  pub fork-new : p ≢ k → get_or la p 0 ≡ 0 → at s0 p ≢ p → (¬ Has (at s0 p) r) × (¬ Has (at s0 (at s0 p)) (at s0 p ∷ r))
  fork-new a b e = ((forked a b e).stacked.1.0, (forked a b e).stacked.0)

  pub did-F : (la' od' nx' pv' : List ℕ) (c' : ℕ) → length la' ≡ length la → length od' ≡ length od → p ≢ k → get_or la p 0 ≡ 0 → at s0 p ≢ p → LabelsHeld la' od' c' (at s0 (at s0 p) ∷ at s0 p ∷ p ∷ o) → Ring nx' pv' (at s0 (at s0 p) ∷ at s0 p ∷ r)
      → EventDone s0 s1 la' od' nx' pv' (event (at s0) (at s1) o k r) (record { item = 1; given = c'; height = t - 1 + 2 })
  did-F la' od' nx' pv' c' l m a b e h q = did _ la' od' nx' pv' 1 c' (t - 1 + 2) (fork a b e) l m refl h q (let g = u.height_is in omega arith)

-- ---- the first event

module _ (s0 s1 : List ℕ) (r : ℕ) (a : RootedMaps s0 s1 r) where
  root-maps : Maps (length s0) (at s0) (at s1)
  root-maps = a.mapped.maps

  start : (v : Event) (la od nx pv : List ℕ) (x c t : ℕ) → first_event_of s0 r ≡ v → LabellingInvariant (length s0) (at s0) (at s1) v.marked v.stack
      → length s0 < length la → length s0 < length od → x ≡ v.item → LabelsHeld la od c v.marked → Ring nx pv v.stack → t ≡ length v.stack
      → EventDone s0 s1 la od nx pv (first_event_of s0 r) (record { item = x; given = c; height = t })
  start v la od nx pv x c t e i l m j h q g = record { item_is = rw e j; leaves = record { mapped = a.mapped; labels_long = l; order_long = m; along = rw e i; holds = rw e h; ring = rw e q; height_is = rw e g } }

  pub did-U : (la od nx pv : List ℕ) (c : ℕ) → length s0 < length la → length s0 < length od → at s0 r ≡ r → LabelsHeld la od c (r ∷ []) → Ring nx pv (r ∷ [])
      → EventDone s0 s1 la od nx pv (first_event_of s0 r) (record { item = 0; given = c; height = 1 })
  did-U la od nx pv c l m e h q = start (record { item = 0; marked = r ∷ []; stack = r ∷ [] }) la od nx pv 0 c 1 (rw (e, eqb_same r)) (inv-U (length s0) (at s0) (at s1) root-maps r a.root_in e) l m refl h q refl

  begun : at s0 r ≢ r → LabellingInvariant (length s0) (at s0) (at s1) (at s0 (at s0 r) ∷ at s0 r ∷ r ∷ []) (at s0 (at s0 r) ∷ at s0 r ∷ r ∷ [])
  begun e = inv-T (length s0) (at s0) (at s1) root-maps r a.root_in e

  pub root-new : at s0 r ≢ r → (¬ Has (at s0 r) (r ∷ [])) × (¬ Has (at s0 (at s0 r)) (at s0 r ∷ r ∷ []))
  root-new e = ((begun e).stacked.1.0, (begun e).stacked.0)

  -- the root's vertex has three edges
  pub root-room : at s0 r ≢ r → 3 ≤ length s0
  root-room e = size (length s0) (at s0) (at s1) root-maps _ _ (begun e)

  pub did-T : (la od nx pv : List ℕ) (c : ℕ) → length s0 < length la → length s0 < length od → at s0 r ≢ r → LabelsHeld la od c (at s0 (at s0 r) ∷ at s0 r ∷ r ∷ []) → Ring nx pv (at s0 (at s0 r) ∷ at s0 r ∷ r ∷ [])
      → EventDone s0 s1 la od nx pv (first_event_of s0 r) (record { item = 1; given = c; height = 3 })
  did-T la od nx pv c l m e h q = start (record { item = 1; marked = at s0 (at s0 r) ∷ at s0 r ∷ r ∷ []; stack = at s0 (at s0 r) ∷ at s0 r ∷ r ∷ [] }) la od nx pv 1 c 3 (rw (eqb-ne (at s0 r) r e)) (begun e) l m refl h q refl
