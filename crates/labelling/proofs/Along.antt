-- What holds along the labelling: marked and pending edges, and that the events come to an end.
use mathlib.Core.Path.{◌≡◌, refl, sym, ap, ◌∙◌, subst}
use mathlib.Core.Logic.{◌≢◌, ◌⊎◌, inl, inr, ⊎_elim}
use mathlib.Core.List.{List, [], ◌∷◌}
use Prim.Native.Nat.{ℕ, zero, suc, ◌+◌, ◌≤◌}
use native.Mathlib.Omega.{arith}
use lib.ListN.{length, get_or}
use Rattle.lists.specs.Lists.{Has, find, remove_at}
use Rattle.lists.specs.Ranges.{OneTo}
use Rattle.lists.proofs.Lists.{has?, find-lt, get_or-find, remove_at-has, remove_at-not, remove_at-other, distinct-remove_at, length-remove_at}
use Rattle.lists.proofs.Ranges.{edges_few}
use Rattle.lists.proofs.Tests.{same?}
use Rattle.diagrams.specs.Diagram.{Maps}
use Rattle.labelling.specs.Labelling.{event, LabellingInvariant, events}
use Rattle.labelling.proofs.Moves.{move-W, move-J, move-B, move-F}

-- the four events, with what distinguishes them, and the move
pub data View (f g : ℕ → ℕ) (o : List ℕ) (k : ℕ) (r : List ℕ) : Type 0 where
  is-W : g k ≡ k → event f g o k r ≡ record { item = 0; marked = o; stack = r } → View f g o k r
  is-J : g k ≢ k → Has (g k) r → event f g o k r ≡ record { item = suc (suc (suc (find (g k) r))); marked = o; stack = remove_at (find (g k) r) r } → View f g o k r
  is-B : g k ≢ k → ¬ Has (g k) o → f (g k) ≡ g k → event f g o k r ≡ record { item = 2; marked = g k ∷ o; stack = r } → View f g o k r
  is-F : g k ≢ k → ¬ Has (g k) o → f (g k) ≢ g k
      → event f g o k r ≡ record { item = 1; marked = f (f (g k)) ∷ f (g k) ∷ g k ∷ o; stack = f (f (g k)) ∷ f (g k) ∷ r } → View f g o k r

module _ (n : ℕ) (f g : ℕ → ℕ) (D : Maps n f g) where
  module _ (o : List ℕ) (k : ℕ) (r : List ℕ) (I : LabellingInvariant n f g o (k ∷ r)) where
    k-o : Has k o
    k-o = I.pending k (inl refl)

    k-r : ¬ Has k r
    k-r = I.stacked.0

    back : g (g k) ≡ k
    back = D.twice k (I.edges k k-o)

    -- a labelled partner is pending
    partner : g k ≢ k → Has (g k) o → Has (g k) r
    partner a h = go (has? (g k) r)
      where
        go : Has (g k) r ⊎ (¬ Has (g k) r) → Has (g k) r
        go (inl i) = i
        go (inr m) = absurd ((I.settled (g k) h (⊎_elim a m)).1 (inl back))

    pub view : View f g o k r
    view = go (same? (g k) k) (has? (g k) o) (same? (f (g k)) (g k))
      where
        go : (g k ≡ k) ⊎ (g k ≢ k) → Has (g k) o ⊎ (¬ Has (g k) o) → (f (g k) ≡ g k) ⊎ (f (g k) ≢ g k) → View f g o k r
        go (inl e) h q = is-W e (move-W f g o k r (g k) refl e)
        go (inr a) (inl h) q = is-J a (partner a h) (move-J f g o k r (g k) refl a h)
        go (inr a) (inr m) (inl e) = is-B a m e (move-B f g o k r (g k) refl a m e)
        go (inr a) (inr m) (inr b) = is-F a m b (move-F f g o k r (g k) refl a m b)

    k-settled : (x : ℕ) → Has x o → x ≢ k → ¬ Has x r → Has (g x) o × (¬ Has (g x) (k ∷ r))
    k-settled x h a m = I.settled x h (⊎_elim a m)

    inv-W : g k ≡ k → LabellingInvariant n f g o r
    inv-W e = record { edges = I.edges; distinct = I.distinct; pending = λ x h. I.pending x (inr h); stacked = I.stacked.1; closed = I.closed; settled = λ x h m. go x h m (same? x k) }
      where
        go : (x : ℕ) → Has x o → ¬ Has x r → (x ≡ k) ⊎ (x ≢ k) → Has (g x) o × (¬ Has (g x) r)
        go x h m (inl q) = rw (q, e) (k-o, k-r)
        go x h m (inr a) = let s = k-settled x h a m in (s.0, λ i. s.1 (inr i))

    inv-J : g k ≢ k → Has (g k) r → LabellingInvariant n f g o (remove_at (find (g k) r) r)
    inv-J b i = record { edges = I.edges; distinct = I.distinct; pending = λ x h. I.pending x (inr (remove_at-has d r x h)); stacked = distinct-remove_at d r I.stacked.1; closed = I.closed; settled = λ x h m. go x h m (same? x k) (same? x (g k)) }
      where
        d : ℕ
        d = find (g k) r

        there : get_or r d 0 ≡ g k
        there = get_or-find (g k) r i

        out : ¬ Has (g k) (remove_at d r)
        out = rw there at (remove_at-not d r I.stacked.1 (find-lt (g k) r i))

        go : (x : ℕ) → Has x o → ¬ Has x (remove_at d r) → (x ≡ k) ⊎ (x ≢ k) → (x ≡ g k) ⊎ (x ≢ g k) → Has (g x) o × (¬ Has (g x) (remove_at d r))
        go x h m (inl q) c = rw q (I.pending (g k) (inr i), out)
        go x h m (inr a) (inl q) = rw (q, back) (k-o, λ j. k-r (remove_at-has d r k j))
        go x h m (inr a) (inr c) = let s = k-settled x h a (λ j. m (remove_at-other d r x j (rw there c))) in (s.0, λ j. s.1 (inr (remove_at-has d r (g x) j)))

    inv-B : g k ≢ k → ¬ Has (g k) o → f (g k) ≡ g k → LabellingInvariant n f g (g k ∷ o) r
    inv-B b u e = record { edges = ed; distinct = (u, I.distinct); pending = λ x h. inr (I.pending x (inr h)); stacked = I.stacked.1; closed = cl; settled = se }
      where
        ed : (x : ℕ) → Has x (g k ∷ o) → OneTo n x
        ed x (inl q) = rw q (D.white_in k (I.edges k k-o))
        ed x (inr h) = I.edges x h

        cl : (x : ℕ) → Has x (g k ∷ o) → Has (f x) (g k ∷ o)
        cl x (inl q) = rw q (inl e)
        cl x (inr h) = inr (I.closed x h)

        go : (x : ℕ) → Has x o → ¬ Has x r → (x ≡ k) ⊎ (x ≢ k) → Has (g x) (g k ∷ o) × (¬ Has (g x) r)
        go x h m (inl q) = rw q (inl refl, λ j. u (I.pending (g k) (inr j)))
        go x h m (inr a) = let s = k-settled x h a m in (inr s.0, λ j. s.1 (inr j))

        se : (x : ℕ) → Has x (g k ∷ o) → ¬ Has x r → Has (g x) (g k ∷ o) × (¬ Has (g x) r)
        se x (inl q) m = subst (λ (y : ℕ). Has (g y) (g k ∷ o) × (¬ Has (g y) r)) (sym q) (subst (λ (y : ℕ). Has y (g k ∷ o) × (¬ Has y r)) (sym back) (inr k-o, k-r))
        se x (inr h) m = go x h m (same? x k)

    inv-F : g k ≢ k → ¬ Has (g k) o → f (g k) ≢ g k → LabellingInvariant n f g (f (f (g k)) ∷ f (g k) ∷ g k ∷ o) (f (f (g k)) ∷ f (g k) ∷ r)
    inv-F b u e = record {
      edges = ed;
      distinct = (⊎_elim s-q (⊎_elim s-p s-out), (⊎_elim e q-out, (u, I.distinct)));
      pending = pe;
      stacked = (⊎_elim s-q (λ h. s-out (I.pending (f (f p)) (inr h))), (λ h. q-out (I.pending (f p) (inr h)), I.stacked.1));
      closed = cl;
      settled = se;
    }
      where
        p : ℕ
        p = g k

        p-edge : OneTo n (g k)
        p-edge = D.white_in k (I.edges k k-o)

        round : f (f (f p)) ≡ p
        round = D.thrice (g k) p-edge

        ed : (x : ℕ) → Has x (f (f p) ∷ f p ∷ p ∷ o) → OneTo n x
        ed x (inl q) = rw q (D.black_in (f p) (D.black_in p p-edge))
        ed x (inr (inl q)) = rw q (D.black_in p p-edge)
        ed x (inr (inr (inl q))) = rw q p-edge
        ed x (inr (inr (inr h))) = I.edges x h

        cl : (x : ℕ) → Has x (f (f p) ∷ f p ∷ p ∷ o) → Has (f x) (f (f p) ∷ f p ∷ p ∷ o)
        cl x (inl q) = rw q (inr (inr (inl round)))
        cl x (inr (inl q)) = rw q (inl refl)
        cl x (inr (inr (inl q))) = rw q (inr (inl refl))
        cl x (inr (inr (inr h))) = inr (inr (inr (I.closed x h)))

        q-out : ¬ Has (f p) o
        q-out h = u (rw round at (I.closed (f (f p)) (I.closed (f p) h)))

        s-out : ¬ Has (f (f p)) o
        s-out h = u (rw round at (I.closed (f (f p)) h))

        s-q : f (f p) ≢ f p
        s-q h = e (sym (sym round ∙ ap f h ∙ h))

        s-p : f (f p) ≢ p
        s-p h = e (sym (sym round ∙ ap f h))

        pe : (x : ℕ) → Has x (f (f p) ∷ f p ∷ r) → Has x (f (f p) ∷ f p ∷ p ∷ o)
        pe x (inl q) = inl q
        pe x (inr (inl q)) = inr (inl q)
        pe x (inr (inr h)) = inr (inr (inr (I.pending x (inr h))))

        -- an edge of o that is not pending below is not pending now
        old : (y : ℕ) → Has y o → ¬ Has y r → ¬ Has y (f (f p) ∷ f p ∷ r)
        old y h m (inl q) = s-out (rw q at h)
        old y h m (inr (inl q)) = q-out (rw q at h)
        old y h m (inr (inr i)) = m i

        go : (x : ℕ) → Has x o → ¬ Has x r → (x ≡ k) ⊎ (x ≢ k) → Has (g x) (f (f p) ∷ f p ∷ p ∷ o) × (¬ Has (g x) (f (f p) ∷ f p ∷ r))
        go x h m (inl q) = subst (λ (y : ℕ). Has (g y) (f (f p) ∷ f p ∷ p ∷ o) × (¬ Has (g y) (f (f p) ∷ f p ∷ r))) (sym q) (inr (inr (inl refl)), ⊎_elim (λ i. s-p (sym i)) (⊎_elim (λ i. e (sym i)) (λ j. u (I.pending (g k) (inr j)))))
        go x h m (inr a) = let t = k-settled x h a m in (inr (inr (inr t.0)), old (g x) t.0 (λ j. t.1 (inr j)))

        se : (x : ℕ) → Has x (f (f p) ∷ f p ∷ p ∷ o) → ¬ Has x (f (f p) ∷ f p ∷ r) → Has (g x) (f (f p) ∷ f p ∷ p ∷ o) × (¬ Has (g x) (f (f p) ∷ f p ∷ r))
        se x (inl q) m = absurd (m (inl q))
        se x (inr (inl q)) m = absurd (m (inr (inl q)))
        se x (inr (inr (inl q))) m = subst (λ (y : ℕ). Has (g y) (f (f p) ∷ f p ∷ p ∷ o) × (¬ Has (g y) (f (f p) ∷ f p ∷ r))) (sym q) (subst (λ (y : ℕ). Has y (f (f p) ∷ f p ∷ p ∷ o) × (¬ Has y (f (f p) ∷ f p ∷ r))) (sym back) (inr (inr (inr k-o)), old k k-o k-r))
        se x (inr (inr (inr h))) m = go x h (λ i. m (inr (inr i))) (same? x k)

    pub next : LabellingInvariant n f g (event f g o k r).marked (event f g o k r).stack
    next = go view
      where
        go : View f g o k r → LabellingInvariant n f g (event f g o k r).marked (event f g o k r).stack
        go (is-W e q) = rw q (inv-W e)
        go (is-J a h q) = rw q (inv-J a h)
        go (is-B a u e q) = rw q (inv-B a u e)
        go (is-F a u e q) = rw q (inv-F a u e)

    -- the pending edges and the edges still free fall
    pub falls : suc (length (event f g o k r).stack + length o) ≤ length (k ∷ r) + length (event f g o k r).marked
    falls = go view
      where
        go : View f g o k r → suc (length (event f g o k r).stack + length o) ≤ suc (length r) + length (event f g o k r).marked
        go (is-W e q) = rw q (omega arith)
        go (is-J a h q) = rw q (let i = length-remove_at (find (g k) r) r (find-lt (g k) r h) in omega arith)
        go (is-B a u e q) = rw q (omega arith)
        go (is-F a u e q) = rw q (omega arith)

  pub size : (o st : List ℕ) → LabellingInvariant n f g o st → length o ≤ n
  size o st I = edges_few n o I.distinct I.edges

  pub finish : (m : ℕ) (o st : List ℕ) → LabellingInvariant n f g o st → length st + n ≤ m + length o → LabellingInvariant n f g (events f g m o st).marked []
  unfolding events
  finish zero o [] I h = I
  finish zero o (k ∷ r) I h = let i = size o (k ∷ r) I in absurd (omega arith)
  finish (suc m) o [] I h = I
  finish (suc m) o (k ∷ r) I h = let i = falls o k r I in finish m (event f g o k r).marked (event f g o k r).stack (next o k r I) (omega arith)
