-- What the code of an event needs and leaves, from a labelling under way: the events are distinguished as in the definition of `event`.
use mathlib.Core.Path.{◌≡◌, refl}
use mathlib.Core.Logic.{◌≢◌, inl, inr}
use mathlib.Core.List.{List, [], ◌∷◌}
use Prim.Native.Nat.{ℕ, suc, ◌+◌, ◌≤◌, ◌<◌}
use native.Mathlib.Omega.{arith}
use lib.ListN.{length, get_or, set}
use Rattle.lists.specs.Lists.{at, Has, find, remove_at}
use Rattle.lists.specs.Ranges.{OneTo}
use Rattle.lists.proofs.Tests.{eqb_same, eqb-ne}
use Rattle.diagrams.specs.Check.{Mapped}
use Rattle.pending_ring.specs.Ring.{Ring}
use Rattle.labelling.specs.Labelling.{Event, event, LabellingInvariant}
use Rattle.labelling.proofs.Along.{View, is-W, is-J, is-B, is-F, view, next, size}
use Rattle.labelling.proofs.Labels.{inv-U, inv-T}
use Rattle.labelling.proofs.Moves.{move-W, move-J, move-B, move-F}
use Rattle.labelling_events.specs.Scratch.{first_event_of}
use Rattle.labelling_tracing_events.specs.Stamps.{Stamped, Underway, EventDone}
use Rattle.labelling_tracing_events.proofs.Stamps.{stamped-more}

-- an edge has a place in the ring and in the stamps
pub edge-small : {s0 s1 : List ℕ} → Mapped s0 s1 → (x : ℕ) → OneTo (length s0) x → OneTo 1024 x
edge-small m x e = let i = m.size in omega arith

pub edge-stamp : {n t : ℕ} {sp o : List ℕ} → Stamped n sp t o → (x : ℕ) → OneTo n x → x < length sp
edge-stamp s x e = let i = s.long in omega arith

-- the three edges round a black vertex stamped
pub stamped-three : {s0 s1 sp o : List ℕ} {t : ℕ} (m : Mapped s0 s1) (p : ℕ) → OneTo (length s0) p → Stamped (length s0) sp t o
    → Stamped (length s0) (set (set (set sp p t) (at s0 p) t) (at s0 (at s0 p)) t) t (at s0 (at s0 p) ∷ at s0 p ∷ p ∷ o)
stamped-three {s0} m p e s =
    let q = m.maps.black_in p e in
    stamped-more (at s0 (at s0 p)) (m.maps.black_in (at s0 p) q) (stamped-more (at s0 p) q (stamped-more p e s))

-- ---- the event of the popped edge k

module _ {s0 s1 sp : List ℕ} {t : ℕ} {nx pv : List ℕ} {c : ℕ} {o : List ℕ} {k : ℕ} {r : List ℕ} (u : Underway s0 s1 sp t nx pv c o (k ∷ r)) where
  abbrev p : ℕ
  p = at s1 k

  pub popped-edge : OneTo (length s0) k
  popped-edge = u.along.edges k (u.along.pending k (inl refl))

  pub partner-edge : OneTo (length s0) p
  partner-edge = u.mapped.maps.white_in k popped-edge

  invariant-after-event : LabellingInvariant (length s0) (at s0) (at s1) (event (at s0) (at s1) o k r).marked (event (at s0) (at s1) o k r).stack
  invariant-after-event = next (length s0) (at s0) (at s1) u.mapped.maps o k r u.along

  fresh : get_or sp p 0 ≢ t → ¬ Has p o
  fresh b h = b ((u.stamped.labelled p partner-edge).1 h)

  -- a labelled partner is pending
  pub partner-pending : p ≢ k → get_or sp p 0 ≡ t → Has p r
  partner-pending a b = go (view (length s0) (at s0) (at s1) u.mapped.maps o k r u.along)
    where
      go : View (at s0) (at s1) o k r → Has p r
      go (is-W e q) = absurd (a e)
      go (is-J d h q) = h
      go (is-B d m e q) = absurd (m ((u.stamped.labelled p partner-edge).0 b))
      go (is-F d m e q) = absurd (m ((u.stamped.labelled p partner-edge).0 b))

  did : (v : Event) (sp' nx' pv' : List ℕ) (x c' : ℕ) → event (at s0) (at s1) o k r ≡ v → x ≡ v.item → Stamped (length s0) sp' t v.marked → c' ≡ length v.marked → Ring nx' pv' v.stack
      → EventDone s0 s1 sp' t nx' pv' (event (at s0) (at s1) o k r) (record { item = x; given = c' })
  did v sp' nx' pv' x c' e i h g q = record { item_is = rw e i; leaves = record { mapped = u.mapped; along = invariant-after-event; stamped = rw e h; given_is = rw e g; ring = rw e q } }

  pub did-W : (nx' pv' : List ℕ) → p ≡ k → Ring nx' pv' r → EventDone s0 s1 sp t nx' pv' (event (at s0) (at s1) o k r) (record { item = 0; given = c })
  did-W nx' pv' a q = did _ sp nx' pv' 0 c (move-W (at s0) (at s1) o k r p refl a) refl u.stamped u.given_is q

  pub did-J : (nx' pv' : List ℕ) (x : ℕ) → p ≢ k → get_or sp p 0 ≡ t → x ≡ suc (suc (suc (find p r))) → Ring nx' pv' (remove_at (find p r) r)
      → EventDone s0 s1 sp t nx' pv' (event (at s0) (at s1) o k r) (record { item = x; given = c })
  did-J nx' pv' x a b e q = did _ sp nx' pv' x c (move-J (at s0) (at s1) o k r p refl a (u.along.pending p (inr (partner-pending a b)))) e u.stamped u.given_is q

  -- B: one label is left
  event-B : p ≢ k → get_or sp p 0 ≢ t → at s0 p ≡ p → event (at s0) (at s1) o k r ≡ record { item = 2; marked = p ∷ o; stack = r }
  event-B a b e = move-B (at s0) (at s1) o k r p refl a (fresh b) e

  pub event-B-room : p ≢ k → get_or sp p 0 ≢ t → at s0 p ≡ p → c < 1024
  event-B-room a b e =
      let i = size (length s0) (at s0) (at s1) u.mapped.maps _ _ (rw (event-B a b e) at invariant-after-event) in
      let j = u.mapped.size in
      let l = u.given_is in
      omega arith

  pub did-B : (sp' nx' pv' : List ℕ) → p ≢ k → get_or sp p 0 ≢ t → at s0 p ≡ p → sp' ≡ set sp p t → Ring nx' pv' r
      → EventDone s0 s1 sp' t nx' pv' (event (at s0) (at s1) o k r) (record { item = 2; given = c + 1 })
  did-B sp' nx' pv' a b e h q = did _ sp' nx' pv' 2 (c + 1) (event-B a b e) refl (rw h (stamped-more p partner-edge u.stamped)) (let g = u.given_is in omega arith) q

  -- F: three labels are left, and the next two edges round the vertex are not pending
  fork : p ≢ k → get_or sp p 0 ≢ t → at s0 p ≢ p
      → event (at s0) (at s1) o k r ≡ record { item = 1; marked = at s0 (at s0 p) ∷ at s0 p ∷ p ∷ o; stack = at s0 (at s0 p) ∷ at s0 p ∷ r }
  fork a b e = move-F (at s0) (at s1) o k r p refl a (fresh b) e

  forked : p ≢ k → get_or sp p 0 ≢ t → at s0 p ≢ p → LabellingInvariant (length s0) (at s0) (at s1) (at s0 (at s0 p) ∷ at s0 p ∷ p ∷ o) (at s0 (at s0 p) ∷ at s0 p ∷ r)
  forked a b e = rw (fork a b e) at invariant-after-event

  pub fork-room : p ≢ k → get_or sp p 0 ≢ t → at s0 p ≢ p → c + 3 ≤ 1024
  fork-room a b e =
      let i = size (length s0) (at s0) (at s1) u.mapped.maps _ _ (forked a b e) in
      let j = u.mapped.size in
      let l = u.given_is in
      omega arith

  pub fork-new : p ≢ k → get_or sp p 0 ≢ t → at s0 p ≢ p → (¬ Has (at s0 p) r) × (¬ Has (at s0 (at s0 p)) (at s0 p ∷ r))
  fork-new a b e = ((forked a b e).stacked.1.0, (forked a b e).stacked.0)

  pub did-F : (sp' nx' pv' : List ℕ) → p ≢ k → get_or sp p 0 ≢ t → at s0 p ≢ p → sp' ≡ set (set (set sp p t) (at s0 p) t) (at s0 (at s0 p)) t → Ring nx' pv' (at s0 (at s0 p) ∷ at s0 p ∷ r)
      → EventDone s0 s1 sp' t nx' pv' (event (at s0) (at s1) o k r) (record { item = 1; given = c + 3 })
  did-F sp' nx' pv' a b e h q = did _ sp' nx' pv' 1 (c + 3) (fork a b e) refl (rw h (stamped-three u.mapped p partner-edge u.stamped)) (let g = u.given_is in omega arith) q

-- ---- the first event

module _ {s0 s1 : List ℕ} (m : Mapped s0 s1) (r : ℕ) (i : OneTo (length s0) r) {sp : List ℕ} {t : ℕ} (b : Stamped (length s0) sp t []) where
  start : (v : Event) (sp' nx pv : List ℕ) (x c : ℕ) → first_event_of s0 r ≡ v → LabellingInvariant (length s0) (at s0) (at s1) v.marked v.stack
      → x ≡ v.item → Stamped (length s0) sp' t v.marked → c ≡ length v.marked → Ring nx pv v.stack → EventDone s0 s1 sp' t nx pv (first_event_of s0 r) (record { item = x; given = c })
  start v sp' nx pv x c e l j h g q = record { item_is = rw e j; leaves = record { mapped = m; along = rw e l; stamped = rw e h; given_is = rw e g; ring = rw e q } }

  pub did-U : (sp' nx pv : List ℕ) → at s0 r ≡ r → sp' ≡ set sp r t → Ring nx pv (r ∷ []) → EventDone s0 s1 sp' t nx pv (first_event_of s0 r) (record { item = 0; given = 1 })
  did-U sp' nx pv e h q = start (record { item = 0; marked = r ∷ []; stack = r ∷ [] }) sp' nx pv 0 1 (rw (e, eqb_same r)) (inv-U (length s0) (at s0) (at s1) m.maps r i e) refl (rw h (stamped-more r i b)) refl q

  begun : at s0 r ≢ r → LabellingInvariant (length s0) (at s0) (at s1) (at s0 (at s0 r) ∷ at s0 r ∷ r ∷ []) (at s0 (at s0 r) ∷ at s0 r ∷ r ∷ [])
  begun e = inv-T (length s0) (at s0) (at s1) m.maps r i e

  pub root-new : at s0 r ≢ r → (¬ Has (at s0 r) (r ∷ [])) × (¬ Has (at s0 (at s0 r)) (at s0 r ∷ r ∷ []))
  root-new e = ((begun e).stacked.1.0, (begun e).stacked.0)

  pub did-T : (sp' nx pv : List ℕ) → at s0 r ≢ r → sp' ≡ set (set (set sp r t) (at s0 r) t) (at s0 (at s0 r)) t → Ring nx pv (at s0 (at s0 r) ∷ at s0 r ∷ r ∷ [])
      → EventDone s0 s1 sp' t nx pv (first_event_of s0 r) (record { item = 1; given = 3 })
  did-T sp' nx pv e h q = start (record { item = 1; marked = at s0 (at s0 r) ∷ at s0 r ∷ r ∷ []; stack = at s0 (at s0 r) ∷ at s0 r ∷ r ∷ [] }) sp' nx pv 1 3 (rw (eqb-ne (at s0 r) r e)) (begun e) refl (rw h (stamped-three m r i b)) refl q
