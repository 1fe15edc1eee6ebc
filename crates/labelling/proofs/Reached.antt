-- The labelling gives a label to exactly the edges that are reached from the root: each edge gets one exactly if the diagram is connected.
-- So the number of labels given decides whether check accepts.
use mathlib.Core.Path.{◌≡◌, refl}
use mathlib.Core.Logic.{◌≢◌, ◌⊎◌, inl, inr, ◌↔◌}
use mathlib.Core.List.{List, [], ◌∷◌}
use Prim.Native.Nat.{ℕ, zero, suc, ◌≤◌, ◌<◌}
use native.Mathlib.Omega.{arith}
use lib.ListN.{length}
use Rattle.lists.specs.Lists.{at, Has}
use Rattle.lists.specs.Ranges.{OneTo}
use Rattle.lists.proofs.Lists.{has?}
use Rattle.lists.proofs.Ranges.{edges_few}
use Rattle.lists.proofs.Tests.{same?}
use Rattle.diagrams.specs.Diagram.{Reached, here, black, white, Maps}
use Rattle.diagrams.specs.Check.{Connected, Accepts, Refuses, RootedMaps}
use Rattle.diagrams.proofs.Checks.{maps-accepted, maps-refused}
use Rattle.diagrams.proofs.Diagrams.{edge-one, reached-trans, reached-back}
use Rattle.labelling.specs.Labelling.{event, LabellingInvariant, events, label, labels}
use Rattle.labelling.proofs.Along.{View, is-W, is-J, is-B, is-F, view, next, size}
use Rattle.labelling.proofs.Labels.{Done, done, whole, inv-U, inv-T}
use Rattle.labelling.proofs.Moves.{label-U, label-T}

-- ---- every labelled edge is reached from the root

-- the edges of o are reached from r
abbrev Reaches : (f g : ℕ → ℕ) → ℕ → List ℕ → Type 0
Reaches f g r o = (x : ℕ) → Has x o → Reached f g r x

module _ (n : ℕ) (f g : ℕ → ℕ) (D : Maps n f g) (r : ℕ) where
  -- round the black vertex of an edge that is reached
  round : (p : ℕ) (o : List ℕ) → Reached f g r p → Reaches f g r o → Reaches f g r (f (f p) ∷ f p ∷ p ∷ o)
  round p o q R x (inl i) = rw i (black (black q))
  round p o q R x (inr (inl i)) = rw i (black q)
  round p o q R x (inr (inr (inl i))) = rw i q
  round p o q R x (inr (inr (inr h))) = R x h

  single : (p : ℕ) (o : List ℕ) → Reached f g r p → Reaches f g r o → Reaches f g r (p ∷ o)
  single p o q R x (inl i) = rw i q
  single p o q R x (inr h) = R x h

  event-reaches : (o : List ℕ) (k : ℕ) (st : List ℕ) → LabellingInvariant n f g o (k ∷ st) → Reaches f g r o → Reaches f g r (event f g o k st).marked
  event-reaches o k st I R = go (view n f g D o k st I)
    where
      partner : Reached f g r (g k)
      partner = white (R k (I.pending k (inl refl)))

      go : View f g o k st → Reaches f g r (event f g o k st).marked
      go (is-W e q) = rw q R
      go (is-J a h q) = rw q R
      go (is-B a u e q) = rw q (single (g k) o partner R)
      go (is-F a u e q) = rw q (round (g k) o partner R)

  events-reach : (m : ℕ) (o st : List ℕ) → LabellingInvariant n f g o st → Reaches f g r o → Reaches f g r (events f g m o st).marked
  unfolding events
  events-reach zero o st I R = R
  events-reach (suc m) o [] I R = R
  events-reach (suc m) o (k ∷ st) I R = events-reach m (event f g o k st).marked (event f g o k st).stack (next n f g D o k st I) (event-reaches o k st I R)

  label-reaches : OneTo n r → Reaches f g r (label n f g r).marked
  label-reaches e = go (same? (f r) r)
    where
      go : (f r ≡ r) ⊎ (f r ≢ r) → Reaches f g r (label n f g r).marked
      go (inl q) = rw (label-U n f g r q) (events-reach n (r ∷ []) (r ∷ []) (inv-U n f g D r e q) (single r [] here (λ x h. absurd h)))
      go (inr q) = rw (label-T n f g r q) (events-reach n (f (f r) ∷ f r ∷ r ∷ []) (f (f r) ∷ f r ∷ r ∷ []) (inv-T n f g D r e q) (round r [] here (λ x h. absurd h)))

-- ---- as many labels as edges

-- n different edges of 1..n are all of them
all_of : (n : ℕ) (f g : ℕ → ℕ) (o : List ℕ) → LabellingInvariant n f g o [] → length o ≡ n → (x : ℕ) → OneTo n x → Has x o
all_of n f g o I l x e = go (has? x o)
  where
    inside : (y : ℕ) → Has y (x ∷ o) → OneTo n y
    inside y (inl q) = rw q e
    inside y (inr h) = I.edges y h

    go : Has x o ⊎ (¬ Has x o) → Has x o
    go (inl h) = h
    go (inr m) = let i = edges_few n (x ∷ o) (m, I.distinct) inside in absurd (omega arith)

module _ (s0 s1 : List ℕ) (root : ℕ) (m : RootedMaps s0 s1 root) where
  pub labels-done : Done (length s0) (at s0) (at s1) root (labels s0 s1 root)
  unfolding labels
  labels-done = done (length s0) (at s0) (at s1) m.mapped.maps root m.root_in

  pub labels-most : length (labels s0 s1 root) ≤ length s0
  labels-most = size (length s0) (at s0) (at s1) m.mapped.maps (labels s0 s1 root) [] labels-done.inv

  labels-reached : Reaches (at s0) (at s1) root (labels s0 s1 root)
  unfolding labels
  labels-reached = label-reaches (length s0) (at s0) (at s1) m.mapped.maps root m.root_in

  -- a path from the root to edge 1, walked back, goes on to every edge
  pub labels-connected : (length (labels s0 s1 root) ≡ length s0) ↔ Connected s0 s1
  labels-connected = (to, λ c. whole (length s0) (at s0) (at s1) record { maps = m.mapped.maps; connected = c } root m.root_in (labels s0 s1 root) labels-done)
    where
      reached : length (labels s0 s1 root) ≡ length s0 → (x : ℕ) → OneTo (length s0) x → Reached (at s0) (at s1) root x
      reached l x e = labels-reached x (all_of (length s0) (at s0) (at s1) (labels s0 s1 root) labels-done.inv l x e)

      to : length (labels s0 s1 root) ≡ length s0 → Connected s0 s1
      to l x e = reached-trans (reached-back m.mapped.maps m.root_in (reached l 1 (edge-one m.mapped.maps))) (reached l x e)

  pub some-unlabelled : {given : ℕ} → given ≡ length (labels s0 s1 root) → given < length s0 → Refuses s0 s1 root 8
  some-unlabelled g l = maps-refused s0 s1 root m (λ c. let e = labels-connected.1 c in omega arith)

  pub all-labelled : {given : ℕ} → given ≡ length (labels s0 s1 root) → length s0 ≤ given → Accepts s0 s1 root
  all-labelled g l = let i = labels-most in maps-accepted s0 s1 root m (labels-connected.0 (omega arith))
