-- The labels in the end: each edge has one of 1..n, and the relabelled diagram is a diagram isomorphic to the given one.
use mathlib.Core.Path.{◌≡◌, refl, sym, ap, ◌∙◌, subst}
use mathlib.Core.Logic.{◌≢◌, ◌⊎◌, inl, inr, ⊎_elim}
use mathlib.Core.Bool.{Bool, true, false}
use mathlib.Core.List.{List, [], ◌∷◌, ◌++◌, map, append_assoc}
use Prim.Native.Nat.{ℕ, zero, suc, ◌≤◌}
use native.Mathlib.Omega.{arith}
use lib.Dec.{eqb}
use lib.ListN.{length}
use Rattle.lists.specs.Lists.{Has, Distinct, has, find}
use Rattle.lists.specs.Ranges.{OneTo, down}
use Rattle.lists.proofs.Lists.{pigeons}
use Rattle.lists.proofs.Ranges.{down-has, distinct-down, length-down}
use Rattle.lists.proofs.Tests.{eqb_same, eqb-ne, same?}
use Rattle.diagrams.specs.Diagram.{Reached, Maps, Diagram, here, black, white}
use Rattle.diagrams.specs.Isomorphism.{Isomorphism}
use Rattle.diagrams.proofs.Diagrams.{reached-from-any}
use Rattle.diagrams.proofs.Isomorphisms.{diagram-carried}
use Rattle.labelling.specs.Labelling.{event_by, event, LabellingInvariant, events, label, label_of, edge_of, relabel}
use Rattle.labelling.proofs.Along.{size, finish}
use Rattle.labelling.proofs.Carried.{label-φ}
use Rattle.labelling.proofs.Moves.{label-U, label-T}

-- ---- what is labelled stays labelled

pub record Extends (o o' : List ℕ) : Type 0 where
  pub more : List ℕ
  pub is : o' ≡ more ++ o

event_by-extends : (w old fix : Bool) (p q s d : ℕ) (o r : List ℕ) → Extends o (event_by w old fix p q s d o r).marked
event_by-extends true old fix p q s d o r = record { more = []; is = refl }
event_by-extends false true fix p q s d o r = record { more = []; is = refl }
event_by-extends false false true p q s d o r = record { more = p ∷ []; is = refl }
event_by-extends false false false p q s d o r = record { more = s ∷ q ∷ p ∷ []; is = refl }

move-extends : (f g : ℕ → ℕ) (o : List ℕ) (k : ℕ) (r : List ℕ) → Extends o (event f g o k r).marked
unfolding event
move-extends f g o k r = event_by-extends (eqb (g k) k) (has (g k) o) (eqb (f (g k)) (g k)) (g k) (f (g k)) (f (f (g k))) (find (g k) r) o r

pub run-extends : (f g : ℕ → ℕ) (m : ℕ) (o st : List ℕ) → Extends o (events f g m o st).marked
unfolding events
run-extends f g zero o st = record { more = []; is = refl }
run-extends f g (suc m) o [] = record { more = []; is = refl }
run-extends f g (suc m) o (k ∷ r) = go (move-extends f g o k r) (run-extends f g m (event f g o k r).marked (event f g o k r).stack)
  where
    go : {o o' z : List ℕ} → Extends o o' → Extends o' z → Extends o z
    go {o} {o'} {z} a b = record { more = b.more ++ a.more; is = b.is ∙ rw (a.is, append_assoc) }

has-append : (x : ℕ) (e o : List ℕ) → Has x o → Has x (e ++ o)
has-append x [] o h = h
has-append x (y ∷ e) o h = inr (has-append x e o h)

lab-append : (x : ℕ) (e o : List ℕ) → Has x o → Distinct (e ++ o) → label_of (e ++ o) x ≡ label_of o x
lab-append x [] o h a = refl
lab-append x (y ∷ e) o h a = rw (eqb-ne x y (λ q. a.0 (rw q at (has-append x e o h)))) (lab-append x e o h a.1)

-- ---- labels and edges

pub lab-in : (o : List ℕ) (x : ℕ) → Has x o → OneTo (length o) (label_of o x)
lab-in [] x h = absurd h
lab-in (y ∷ o) x h = go (same? x y) h (lab-in o x)
  where
    go : (x ≡ y) ⊎ (x ≢ y) → Has x (y ∷ o) → (Has x o → OneTo (length o) (label_of o x)) → OneTo (suc (length o)) (label_of (y ∷ o) x)
    go (inl e) h k = rw (e, eqb_same y) (omega arith)
    go (inr n) (inl e) k = absurd (n e)
    go (inr n) (inr h) k = rw (eqb-ne x y n) (let i = k h in omega arith)

pub edge_in : (o : List ℕ) (j : ℕ) → OneTo (length o) j → Has (edge_of o j) o
edge_in [] j h = absurd (omega arith)
edge_in (y ∷ o) j h = go (same? j (suc (length o))) (edge_in o j)
  where
    go : (j ≡ suc (length o)) ⊎ (j ≢ suc (length o)) → (OneTo (length o) j → Has (edge_of o j) o) → Has (edge_of (y ∷ o) j) (y ∷ o)
    go (inl e) k = rw (e, eqb_same (suc (length o))) (inl refl)
    go (inr n) k =
        let e : edge_of (y ∷ o) j ≡ edge_of o j = rw (eqb-ne j (suc (length o)) n) in
        subst (λ (x : ℕ). Has x (y ∷ o)) (sym e) (inr (k (omega arith)))

edge-lab : (o : List ℕ) (x : ℕ) → Has x o → edge_of o (label_of o x) ≡ x
edge-lab [] x h = absurd h
edge-lab (y ∷ o) x h = go (same? x y) h (edge-lab o x)
  where
    go : (x ≡ y) ⊎ (x ≢ y) → Has x (y ∷ o) → (Has x o → edge_of o (label_of o x) ≡ x) → edge_of (y ∷ o) (label_of (y ∷ o) x) ≡ x
    go (inl e) h k = rw (e, eqb_same y, eqb_same (suc (length o)))
    go (inr n) (inl e) k = absurd (n e)
    go (inr n) (inr h) k = rw (eqb-ne x y n, eqb-ne (label_of o x) (suc (length o)) (λ q. let i = lab-in o x h in omega arith)) (k h)

lab-edge : (o : List ℕ) (j : ℕ) → Distinct o → OneTo (length o) j → label_of o (edge_of o j) ≡ j
lab-edge [] j a h = absurd (omega arith)
lab-edge (y ∷ o) j a h = go (same? j (suc (length o))) (lab-edge o j a.1)
  where
    go : (j ≡ suc (length o)) ⊎ (j ≢ suc (length o)) → (OneTo (length o) j → label_of o (edge_of o j) ≡ j) → label_of (y ∷ o) (edge_of (y ∷ o) j) ≡ j
    go (inl e) k = rw (e, eqb_same (suc (length o)), eqb_same y)
    go (inr n) k =
        let i : OneTo (length o) j = omega arith in
        rw (eqb-ne j (suc (length o)) n, eqb-ne (edge_of o j) y (λ q. a.0 (rw q at (edge_in o j i)))) (k i)

map_same : (f g : ℕ → ℕ) (l : List ℕ) → ((x : ℕ) → Has x l → f x ≡ g x) → map f l ≡ map g l
map_same f g [] k = refl
map_same f g (x ∷ l) k = rw (k x (inl refl), map_same f g l (λ y h. k y (inr h)))

-- the labels of the labelled edges, the last first
lab-down : (o : List ℕ) → Distinct o → map (label_of o) o ≡ down (length o)
lab-down [] a = refl
lab-down (y ∷ o) a = rw (eqb_same y, map_same (label_of (y ∷ o)) (label_of o) o (λ x h. rw (eqb-ne x y (λ q. a.0 (rw q at h)))), lab-down o a.1)

-- ---- the end of the labelling

-- what the labelled edges are in the end
pub record Done (n : ℕ) (f g : ℕ → ℕ) (r : ℕ) (M : List ℕ) : Type 0 where
  pub inv : LabellingInvariant n f g M []
  pub root : Has r M
  pub root_lab : label_of M r ≡ 1

module _ (n : ℕ) (f g : ℕ → ℕ) (D : Maps n f g) where
  -- a closed set that has r has every edge reached from r
  reach-has : (M : List ℕ) (r x : ℕ) → Has r M → ((y : ℕ) → Has y M → Has (f y) M) → ((y : ℕ) → Has y M → Has (g y) M) → Reached f g r x → Has x M
  reach-has M r x h b w here = h
  reach-has M r x h b w (black {x = y} q) = b y (reach-has M r y h b w q)
  reach-has M r x h b w (white {x = y} q) = w y (reach-has M r y h b w q)

  module _ (r : ℕ) (e : OneTo n r) where
    pub inv-U : f r ≡ r → LabellingInvariant n f g (r ∷ []) (r ∷ [])
    inv-U q = record { edges = ed; distinct = (λ h. h, tt); pending = λ x h. h; stacked = (λ h. h, tt); closed = cl; settled = λ x h m. absurd (m h) }
      where
        ed : (x : ℕ) → Has x (r ∷ []) → OneTo n x
        ed x (inl i) = rw i e
        ed x (inr h) = absurd h

        cl : (x : ℕ) → Has x (r ∷ []) → Has (f x) (r ∷ [])
        cl x (inl i) = rw i (inl q)
        cl x (inr h) = absurd h

    pub inv-T : f r ≢ r → LabellingInvariant n f g (f (f r) ∷ f r ∷ r ∷ []) (f (f r) ∷ f r ∷ r ∷ [])
    inv-T q = record { edges = ed; distinct = apt; pending = λ x h. h; stacked = apt; closed = cl; settled = λ x h m. absurd (m h) }
      where
        round : f (f (f r)) ≡ r
        round = D.thrice r e

        apt : Distinct (f (f r) ∷ f r ∷ r ∷ [])
        apt = (⊎_elim (λ h. q (sym (sym round ∙ ap f h ∙ h))) (⊎_elim (λ h. q (sym (sym round ∙ ap f h))) (λ h. h)), (⊎_elim q (λ h. h), (λ h. h, tt)))

        ed : (x : ℕ) → Has x (f (f r) ∷ f r ∷ r ∷ []) → OneTo n x
        ed x (inl i) = rw i (D.black_in (f r) (D.black_in r e))
        ed x (inr (inl i)) = rw i (D.black_in r e)
        ed x (inr (inr (inl i))) = rw i e
        ed x (inr (inr (inr h))) = absurd h

        cl : (x : ℕ) → Has x (f (f r) ∷ f r ∷ r ∷ []) → Has (f x) (f (f r) ∷ f r ∷ r ∷ [])
        cl x (inl i) = rw i (inr (inr (inl round)))
        cl x (inr (inl i)) = rw i (inl refl)
        cl x (inr (inr (inl i))) = rw i (inr (inl refl))
        cl x (inr (inr (inr h))) = absurd h

    ended : (o : List ℕ) → LabellingInvariant n f g o o → length o ≤ 3 → Has r o → label_of o r ≡ 1 → Done n f g r (events f g n o o).marked
    ended o I l h q = record { inv = J; root = rw x.is (has-append r x.more o h); root_lab = rw x.is (lab-append r x.more o h (rw x.is at J.distinct) ∙ q) }
      where
        x : Extends o (events f g n o o).marked
        x = run-extends f g n o o

        J : LabellingInvariant n f g (events f g n o o).marked []
        J = finish n f g D n o o I (omega arith)

    pub done : Done n f g r (label n f g r).marked
    done = go (same? (f r) r)
      where
        go : (f r ≡ r) ⊎ (f r ≢ r) → Done n f g r (label n f g r).marked
        go (inl q) = rw (label-U n f g r q) (ended (r ∷ []) (inv-U q) (omega arith) (inl refl) (rw eqb_same))
        go (inr q) = rw (label-T n f g r q) (ended (f (f r) ∷ f r ∷ r ∷ []) (inv-T q) (omega arith) (inr (inr (inl refl))) (lab-append r (f (f r) ∷ f r ∷ []) (r ∷ []) (inl refl) (inv-T q).distinct ∙ rw eqb_same))

module _ (n : ℕ) (f g : ℕ → ℕ) (D : Diagram n f g) where
  module _ (r : ℕ) (e : OneTo n r) where
    module _ (M : List ℕ) (d : Done n f g r M) where
      pub all_in : (x : ℕ) → OneTo n x → Has x M
      all_in x i = reach-has n f g D.maps M r x d.root d.inv.closed (λ y h. (d.inv.settled y h (λ z. z)).0) (reached-from-any D r x e i)

      pub whole : length M ≡ n
      whole =
          let a = size n f g D.maps M [] d.inv in
          let b = rw length-down at (pigeons (down n) M (distinct-down n) (λ x h. all_in x (down-has n x h))) in
          omega arith

      pub lab-n : (x : ℕ) → OneTo n x → OneTo n (label_of M x)
      lab-n x i = rw whole at (lab-in M x (all_in x i))

      pub edge-n : (j : ℕ) → OneTo n j → OneTo n (edge_of M j)
      edge-n j i = d.inv.edges (edge_of M j) (edge_in M j (rw whole i))

      pub edge-lab-n : (x : ℕ) → OneTo n x → edge_of M (label_of M x) ≡ x
      edge-lab-n x i = edge-lab M x (all_in x i)

      pub lab-edge-n : (j : ℕ) → OneTo n j → label_of M (edge_of M j) ≡ j
      lab-edge-n j i = lab-edge M j d.inv.distinct (rw whole i)

      pub through : (h : ℕ → ℕ) (x : ℕ) → OneTo n x → relabel M h (label_of M x) ≡ label_of M (h x)
      unfolding relabel
      through h x i = rw (edge-lab-n x i)

      pub carries : Isomorphism n f g (relabel M f) (relabel M g) (label_of M)
      carries = record { into = lab-n; onto = λ y i. (edge_of M y, edge-n y i, lab-edge-n y i); one_one = λ x y a b q. sym (edge-lab-n x a) ∙ ap (edge_of M) q ∙ edge-lab-n y b; blacks = λ x a. sym (through f x a); whites = λ x a. sym (through g x a) }

      pub relabelled : Diagram n (relabel M f) (relabel M g)
      relabelled = diagram-carried D carries

    -- the relabelled diagram's own labelling from 1: the same word, and each edge is its label
    pub canonical : let M = (label n f g r).marked in label n (relabel M f) (relabel M g) 1 ≡ record { marked = down n; word = (label n f g r).word }
    canonical = rw ((done n f g D.maps r e).root_lab, lab-down (label n f g r).marked (done n f g D.maps r e).inv.distinct, whole (label n f g r).marked (done n f g D.maps r e)) at
        (label-φ n f g _ _ (label_of (label n f g r).marked) D.maps (carries (label n f g r).marked (done n f g D.maps r e)) r e)
