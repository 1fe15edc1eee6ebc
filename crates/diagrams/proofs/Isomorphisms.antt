-- Laws of isomorphisms: what is left to show of a map of the edges, the three laws of an equivalence with roots and without,
-- and that a diagram carried over by an isomorphism is a diagram.
use mathlib.Core.Path.{◌≡◌, refl, sym, ap, ◌∙◌}
use mathlib.Core.Logic.{◌≢◌, ◌⊎◌, inl, inr}
use mathlib.Core.Bool.{cond}
use Prim.Native.Nat.{ℕ, zero, suc}
use native.Mathlib.Omega.{arith}
use lib.Dec.{eqb}
use Rattle.lists.specs.Ranges.{OneTo}
use Rattle.lists.proofs.Tests.{eqb-eq, eqb-ne, same?}
use Rattle.lists.proofs.Ranges.{onto}
use Rattle.diagrams.specs.Diagram.{Reached, here, black, white, Maps, Diagram}
use Rattle.diagrams.specs.Isomorphism.{Isomorphism, IsomorphicMaps, RootedIsomorphicMaps}
use Rattle.diagrams.proofs.Diagrams.{edge-one, reached-edge, reached-from-any}

-- a one-to-one map of the edges into the edges is onto
pub isomorphism : {n : ℕ} {f g f' g' φ : ℕ → ℕ}
    → ((x : ℕ) → OneTo n x → OneTo n (φ x))
    → ((x y : ℕ) → OneTo n x → OneTo n y → φ x ≡ φ y → x ≡ y)
    → ((x : ℕ) → OneTo n x → φ (f x) ≡ f' (φ x))
    → ((x : ℕ) → OneTo n x → φ (g x) ≡ g' (φ x))
    → Isomorphism n f g f' g' φ
isomorphism {n} {φ} into one_one blacks whites = record { into = into; one_one = one_one; onto = onto n φ into one_one; blacks = blacks; whites = whites }

pub isomorphism-refl : {n : ℕ} {f g : ℕ → ℕ} → Isomorphism n f g f g (λ x. x)
isomorphism-refl = isomorphism (λ x e. e) (λ x y i j e. e) (λ x e. refl) (λ x e. refl)

pub isomorphism-trans : {n : ℕ} {f g f' g' f'' g'' φ ψ : ℕ → ℕ} → Isomorphism n f g f' g' φ → Isomorphism n f' g' f'' g'' ψ → Isomorphism n f g f'' g'' (λ x. ψ (φ x))
isomorphism-trans {φ} {ψ} a b =
    isomorphism
    (λ x e. b.into (φ x) (a.into x e))
    (λ x y i j e. a.one_one x y i j (b.one_one (φ x) (φ y) (a.into x i) (a.into y j) e))
    (λ x e. ap ψ (a.blacks x e) ∙ b.blacks (φ x) (a.into x e))
    (λ x e. ap ψ (a.whites x e) ∙ b.whites (φ x) (a.into x e))

-- ---- the way back

-- the largest of 1..n that φ carries to y; 0 where there is none
pub source : ℕ → (ℕ → ℕ) → ℕ → ℕ
source zero φ y = 0
source (suc n) φ y = cond (eqb (φ (suc n)) y) (suc n) (source n φ y)

source-found : (n : ℕ) (φ : ℕ → ℕ) (x : ℕ) → OneTo n x → OneTo n (source n φ (φ x)) × (φ (source n φ (φ x)) ≡ φ x)
unfolding source
source-found zero φ x e = absurd (omega arith)
source-found (suc n) φ x e = go (same? (φ (suc n)) (φ x)) (source-found n φ x)
  where
    go : (φ (suc n) ≡ φ x) ⊎ (φ (suc n) ≢ φ x)
        → (OneTo n x → OneTo n (source n φ (φ x)) × (φ (source n φ (φ x)) ≡ φ x))
        → OneTo (suc n) (source (suc n) φ (φ x)) × (φ (source (suc n) φ (φ x)) ≡ φ x)
    go (inl q) k = rw (eqb-eq (φ (suc n)) (φ x) q) (omega arith, q)
    go (inr q) k = let r = k (before_last (same? x (suc n)) q) in rw (eqb-ne (φ (suc n)) (φ x) q) (let i = r.0 in omega arith, r.1)
      where
        before_last : (x ≡ suc n) ⊎ (x ≢ suc n) → φ (suc n) ≢ φ x → OneTo n x
        before_last (inl s) q = absurd (q (rw s refl))
        before_last (inr s) q = omega arith

module _ {n : ℕ} {f g f' g' φ : ℕ → ℕ} (a : Isomorphism n f g f' g' φ) where
  -- the source is the inverse on the edges
  pub source-over : (y : ℕ) → OneTo n y → OneTo n (source n φ y) × (φ (source n φ y) ≡ y)
  source-over y e = let x = a.onto y e in rw x.2 at (source-found n φ x.0 x.1)

  pub source_of : (x : ℕ) → OneTo n x → source n φ (φ x) ≡ x
  source_of x e = let s = source-found n φ x e in a.one_one (source n φ (φ x)) x s.0 e s.1

  -- what φ carries over, its inverse carries back
  carried-back : (h h' : ℕ → ℕ) → ((x : ℕ) → OneTo n x → OneTo n (h x)) → ((x : ℕ) → OneTo n x → φ (h x) ≡ h' (φ x)) → (y : ℕ) → OneTo n y → source n φ (h' y) ≡ h (source n φ y)
  carried-back h h' stays carries y e =
      let s = source-over y e in
      let q : h' y ≡ φ (h (source n φ y)) = sym (carries (source n φ y) s.0 ∙ ap h' s.1) in
      rw q (source_of (h (source n φ y)) (stays (source n φ y) s.0))

  pub isomorphism-sym : Maps n f g → Isomorphism n f' g' f g (source n φ)
  isomorphism-sym m =
      isomorphism
      (λ y e. (source-over y e).0)
      (λ x y i j e. sym (source-over x i).1 ∙ ap φ e ∙ (source-over y j).1)
      (carried-back f f' m.black_in a.blacks)
      (carried-back g g' m.white_in a.whites)

-- ---- isomorphic without roots

pub isomorphic-refl : {n : ℕ} {f g : ℕ → ℕ} → IsomorphicMaps n f g n f g
isomorphic-refl = record { sizes = refl; by = λ x. x; is = isomorphism-refl }

pub isomorphic-sym : {n n' : ℕ} {f g f' g' : ℕ → ℕ} → Maps n f g → IsomorphicMaps n f g n' f' g' → IsomorphicMaps n' f' g' n f g
isomorphic-sym {n} m a = record { sizes = sym a.sizes; by = source n a.by; is = rw (← a.sizes) (isomorphism-sym a.is m) }

pub isomorphic-trans : {n n' n'' : ℕ} {f g f' g' f'' g'' : ℕ → ℕ} → IsomorphicMaps n f g n' f' g' → IsomorphicMaps n' f' g' n'' f'' g'' → IsomorphicMaps n f g n'' f'' g''
isomorphic-trans a b = record { sizes = a.sizes ∙ b.sizes; by = λ x. b.by (a.by x); is = isomorphism-trans a.is (rw (← a.sizes) at b.is) }

-- ---- isomorphic with roots

pub root-isomorphic-refl : {n : ℕ} {f g : ℕ → ℕ} {r : ℕ} → RootedIsomorphicMaps n f g r n f g r
root-isomorphic-refl = record { sizes = refl; by = λ x. x; is = isomorphism-refl; roots = refl }

pub root-isomorphic-sym : {n n' : ℕ} {f g f' g' : ℕ → ℕ} {r r' : ℕ} → Maps n f g → OneTo n r → RootedIsomorphicMaps n f g r n' f' g' r' → RootedIsomorphicMaps n' f' g' r' n f g r
root-isomorphic-sym {n} {r} m e a = record {
  sizes = sym a.sizes;
  by = source n a.by;
  is = rw (← a.sizes) (isomorphism-sym a.is m);
  roots = rw (← a.roots) (source_of a.is r e);
}

pub root-isomorphic-trans : {n n' n'' : ℕ} {f g f' g' f'' g'' : ℕ → ℕ} {r r' r'' : ℕ} → RootedIsomorphicMaps n f g r n' f' g' r' → RootedIsomorphicMaps n' f' g' r' n'' f'' g'' r'' → RootedIsomorphicMaps n f g r n'' f'' g'' r''
root-isomorphic-trans a b = record {
  sizes = a.sizes ∙ b.sizes;
  by = λ x. b.by (a.by x);
  is = isomorphism-trans a.is (rw (← a.sizes) at b.is);
  roots = ap b.by a.roots ∙ b.roots;
}

pub root-isomorphic-isomorphic : {n n' : ℕ} {f g f' g' : ℕ → ℕ} {r r' : ℕ} → RootedIsomorphicMaps n f g r n' f' g' r' → IsomorphicMaps n f g n' f' g'
root-isomorphic-isomorphic a = record { sizes = a.sizes; by = a.by; is = a.is }

-- ---- a diagram carried over

pub reached-carried : {n : ℕ} {f g f' g' φ : ℕ → ℕ} → Maps n f g → Isomorphism n f g f' g' φ → {r x : ℕ} → OneTo n r → Reached f g r x → Reached f' g' (φ r) (φ x)
reached-carried m a e here = here
reached-carried m a e (black {x = y} p) = rw (a.blacks y (reached-edge m e p)) (black (reached-carried m a e p))
reached-carried m a e (white {x = y} p) = rw (a.whites y (reached-edge m e p)) (white (reached-carried m a e p))

module _ {n : ℕ} {f g f' g' φ : ℕ → ℕ} (m : Maps n f g) (a : Isomorphism n f g f' g' φ) where
  -- what holds of every image holds of every edge
  of-images : (P : ℕ → Type 0) → ((x : ℕ) → OneTo n x → P (φ x)) → (y : ℕ) → OneTo n y → P y
  of-images P k y e = let x = a.onto y e in rw x.2 at (k x.0 x.1)

  pub maps-carried : Maps n f' g'
  maps-carried = record {
    some_edge = m.some_edge;
    black_in = of-images (λ y. OneTo n (f' y)) (λ x e. rw (← a.blacks x e) (a.into (f x) (m.black_in x e)));
    white_in = of-images (λ y. OneTo n (g' y)) (λ x e. rw (← a.whites x e) (a.into (g x) (m.white_in x e)));
    thrice = of-images (λ y. f' (f' (f' y)) ≡ y) (λ x e. rw (← a.blacks x e, ← a.blacks (f x) (m.black_in x e), ← a.blacks (f (f x)) (m.black_in (f x) (m.black_in x e)), m.thrice x e));
    twice = of-images (λ y. g' (g' y) ≡ y) (λ x e. rw (← a.whites x e, ← a.whites (g x) (m.white_in x e), m.twice x e));
  }

pub diagram-carried : {n : ℕ} {f g f' g' φ : ℕ → ℕ} → Diagram n f g → Isomorphism n f g f' g' φ → Diagram n f' g'
diagram-carried {n} {f} {g} {f'} {g'} {φ} d a = record { maps = maps-carried d.maps a; connected = joined (a.onto 1 (edge-one d.maps)) }
  where
    joined : (r : ℕ) × OneTo n r × (φ r ≡ 1) → (y : ℕ) → OneTo n y → Reached f' g' 1 y
    joined r = of-images d.maps a (λ y. Reached f' g' 1 y) (λ x e. rw r.2 at (reached-carried d.maps a r.1 (reached-from-any d r.0 x r.1 e)))
