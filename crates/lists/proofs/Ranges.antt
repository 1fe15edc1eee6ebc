-- Laws of the numbers 1 to n, and of consecutive numbers.
use mathlib.Core.Path.{◌≡◌, refl, sym, ap}
use mathlib.Core.Logic.{◌≢◌, ◌⊎◌, inl, inr}
use mathlib.Core.Bool.{Bool, true, false, cond}
use mathlib.Core.List.{List, [], ◌∷◌, map}
use Prim.Native.Nat.{ℕ, zero, suc, ◌+◌, ◌≤◌, ◌<◌}
use native.Mathlib.Omega.{arith}
use lib.ListN.{length}
use Rattle.lists.specs.Lists.{Has, Distinct}
use Rattle.lists.specs.Ranges.{OneTo, every, card, sum, down, stretch}
use Rattle.lists.proofs.Tests.{same?, both_true}
use Rattle.lists.proofs.Lists.{has?, pigeons}

-- ---- n, .., 2, 1

pub has-down : (n x : ℕ) → OneTo n x → Has x (down n)
has-down zero x e = absurd (omega arith)
has-down (suc n) x e = go (same? x (suc n)) (has-down n x)
  where
    go : (x ≡ suc n) ⊎ (x ≢ suc n) → (OneTo n x → Has x (down n)) → Has x (down (suc n))
    go (inl p) k = inl p
    go (inr q) k = inr (k (omega arith))

pub down-has : (n x : ℕ) → Has x (down n) → OneTo n x
down-has zero x h = absurd h
down-has (suc n) x (inl e) = omega arith
down-has (suc n) x (inr h) = let i = down-has n x h in omega arith

pub distinct-down : (n : ℕ) → Distinct (down n)
distinct-down zero = tt
distinct-down (suc n) = (λ h. let i = down-has n (suc n) h in omega arith, distinct-down n)

pub length-down : (n : ℕ) → length (down n) ≡ n
length-down zero = refl
length-down (suc n) = ap suc (length-down n)

-- the values of t at 1..n
pub has-values : (n : ℕ) (t : ℕ → ℕ) (x : ℕ) → OneTo n x → Has (t x) (map t (down n))
has-values zero t x e = absurd (omega arith)
has-values (suc n) t x e = go (same? x (suc n)) (has-values n t x)
  where
    go : (x ≡ suc n) ⊎ (x ≢ suc n) → (OneTo n x → Has (t x) (map t (down n))) → Has (t x) (map t (down (suc n)))
    go (inl p) k = inl (ap t p)
    go (inr q) k = inr (k (omega arith))

pub values-has : (n : ℕ) (t : ℕ → ℕ) (d : ℕ) → Has d (map t (down n)) → (x : ℕ) × OneTo n x × (d ≡ t x)
values-has zero t d h = absurd h
values-has (suc n) t d (inl e) = (suc n, omega arith, e)
values-has (suc n) t d (inr h) = let r = values-has n t d h in let i = r.1 in (r.0, omega arith, r.2)

-- a list of edges without repeats has at most n
pub edges_few : (n : ℕ) (l : List ℕ) → Distinct l → ((x : ℕ) → Has x l → OneTo n x) → length l ≤ n
edges_few n l a e = rw length-down at (pigeons l (down n) a (λ x h. has-down n x (e x h)))

-- ---- a test at each of 1..n

pub every_true : (n : ℕ) (t : ℕ → Bool) → every n t ≡ true → (x : ℕ) → OneTo n x → t x ≡ true
every_true zero t e x i = absurd (omega arith)
every_true (suc n) t e x i = go (same? x (suc n)) (every_true n t (both_true (t (suc n)) (every n t) e).1 x)
  where
    go : (x ≡ suc n) ⊎ (x ≢ suc n) → (OneTo n x → t x ≡ true) → t x ≡ true
    go (inl q) k = rw q (both_true (t (suc n)) (every n t) e).0
    go (inr q) k = k (omega arith)

pub true-every : (n : ℕ) (t : ℕ → Bool) → ((x : ℕ) → OneTo n x → t x ≡ true) → every n t ≡ true
true-every zero t k = refl
true-every (suc n) t k = rw (k (suc n) (omega arith)) (true-every n t (λ x i. k x (omega arith)))

pub card-most : (n : ℕ) (t : ℕ → Bool) → card n t ≤ n
card-most zero t = omega arith
card-most (suc n) t = go (t (suc n)) (card-most n t)
  where
    go : (b : Bool) → card n t ≤ n → cond b 1 0 + card n t ≤ suc n
    go true h = omega arith
    go false h = omega arith

-- ---- sums

pub sum-zero : (m : ℕ) (s : ℕ → ℕ) → ((j : ℕ) → OneTo m j → s j ≡ 0) → sum m s ≡ 0
sum-zero zero s e = refl
sum-zero (suc m) s e = let x = sum-zero m s (λ j i. e j (omega arith)) in let y = e (suc m) (omega arith) in omega arith

pub sum-add : (n : ℕ) (t u : ℕ → ℕ) → sum n (λ x. t x + u x) ≡ sum n t + sum n u
sum-add zero t u = refl
sum-add (suc n) t u = let h = sum-add n t u in omega arith

pub sum-le : (n : ℕ) (t u : ℕ → ℕ) → ((x : ℕ) → OneTo n x → t x ≤ u x) → sum n t ≤ sum n u
sum-le zero t u h = omega arith
sum-le (suc n) t u h = let i = h (suc n) (omega arith) in let j = sum-le n t u (λ x e. h x (omega arith)) in omega arith

-- ---- a map of 1..n into itself that is one-to-one is onto

image : (ℕ → ℕ) → ℕ → List ℕ
image φ zero = []
image φ (suc n) = φ (suc n) ∷ image φ n

image-length : (φ : ℕ → ℕ) (n : ℕ) → length (image φ n) ≡ n
unfolding image
image-length φ zero = refl
image-length φ (suc n) = ap suc (image-length φ n)

image-from : (φ : ℕ → ℕ) (n y : ℕ) → Has y (image φ n) → (x : ℕ) × OneTo n x × (φ x ≡ y)
unfolding image
image-from φ zero y h = absurd h
image-from φ (suc n) y (inl e) = (suc n, omega arith, sym e)
image-from φ (suc n) y (inr h) = let q = image-from φ n y h in let i = q.1 in (q.0, omega arith, q.2)

image-distinct : (φ : ℕ → ℕ) (n m : ℕ) → m ≤ n → ((x y : ℕ) → OneTo n x → OneTo n y → φ x ≡ φ y → x ≡ y) → Distinct (image φ m)
unfolding image
image-distinct φ n zero l inj = tt
image-distinct φ n (suc m) l inj = (no, image-distinct φ n m (omega arith) inj)
  where
    no : ¬ Has (φ (suc m)) (image φ m)
    no h =
        let q = image-from φ m (φ (suc m)) h in
        let i = q.1 in
        let e = inj q.0 (suc m) (omega arith) (omega arith) q.2 in
        omega arith

pub onto : (n : ℕ) (φ : ℕ → ℕ) → ((x : ℕ) → OneTo n x → OneTo n (φ x)) → ((x y : ℕ) → OneTo n x → OneTo n y → φ x ≡ φ y → x ≡ y)
    → (y : ℕ) → OneTo n y → (x : ℕ) × OneTo n x × (φ x ≡ y)
onto n φ into inj y e = go (has? y (image φ n))
  where
    go : Has y (image φ n) ⊎ (¬ Has y (image φ n)) → (x : ℕ) × OneTo n x × (φ x ≡ y)
    go (inl h) = image-from φ n y h
    go (inr h) =
        let z = pigeons (y ∷ image φ n) (down n) (h, image-distinct φ n n (omega arith) inj) sub in
        let a = image-length φ n in
        let b = length-down n in
        absurd (omega arith)
      where
        sub : (x : ℕ) → Has x (y ∷ image φ n) → Has x (down n)
        sub x (inl q) = has-down n x (rw q e)
        sub x (inr m) = let q = image-from φ n x m in rw (← q.2) (has-down n (φ q.0) (into q.0 q.1))

-- ---- p, p + 1, ..

pub has-stretch : (p m x : ℕ) → p ≤ x → x < p + m → Has x (stretch p m)
has-stretch p zero x l u = absurd (omega arith)
has-stretch p (suc m) x l u = go (same? x p) (has-stretch (suc p) m x)
  where
    go : (x ≡ p) ⊎ (x ≢ p) → (suc p ≤ x → x < suc p + m → Has x (stretch (suc p) m)) → Has x (stretch p (suc m))
    go (inl e) k = inl e
    go (inr e) k = inr (k (omega arith) (omega arith))

pub stretch-has : (p m x : ℕ) → Has x (stretch p m) → (p ≤ x) × (x < p + m)
stretch-has p zero x h = absurd h
stretch-has p (suc m) x (inl e) = omega arith
stretch-has p (suc m) x (inr h) = let i = stretch-has (suc p) m x h in omega arith
