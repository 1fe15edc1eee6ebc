-- The least common multiple is one, the only one, and divides every other common multiple; of two lists one after another it is found
-- from that of the one.
use mathlib.Core.Path.{◌≡◌, refl, sym, ◌∙◌}
use mathlib.Core.Logic.{◌≢◌, ◌⊎◌, inl, inr}
use mathlib.Core.Bool.{true, false, true≢false}
use mathlib.Core.List.{List, [], ◌∷◌}
use Prim.Native.Nat.{ℕ, ◌+◌, ◌%◌, ◌≤◌, ◌<◌, ◌∣◌}
use native.Mathlib.Nat.{mod-lt, mul-pos, dvd-mul_right, dvd-mul_left_of_dvd, dvd_trans, dvd-mod_iff, dvd_of_mod-eq-zero, mod-eq-zero_of_dvd}
use native.Mathlib.Omega.{arith}
use lib.Dec.{eqb}
use Rattle.lists.specs.Lists.{Has}
use Rattle.lists.specs.Ranges.{first_passing}
use Rattle.lists.proofs.Tests.{same?, lt?, eqb-eq, eqb-true, both_true}
use Rattle.lists.proofs.Searches.{First, seek-first}
use Rattle.invariants_multiples.specs.Multiples.{CommonMultiple, LeastCommonMultiple, all_divide, product, least_common_multiple}

-- every number of l is positive
abbrev pub Positive : List ℕ → Type 0
Positive l = (d : ℕ) → Has d l → 1 ≤ d

-- ---- the test

all-divide : (l : List ℕ) (m : ℕ) → all_divide l m ≡ true → CommonMultiple l m
all-divide [] m e d h = absurd h
all-divide (c ∷ l) m e d (inl q) = rw q (dvd_of_mod-eq-zero c (eqb-true _ _ (both_true (eqb (m % c) 0) (all_divide l m) e).0))
all-divide (c ∷ l) m e d (inr h) = all-divide l m (both_true (eqb (m % c) 0) (all_divide l m) e).1 d h

divide-all : (l : List ℕ) (m : ℕ) → CommonMultiple l m → all_divide l m ≡ true
divide-all [] m h = refl
divide-all (c ∷ l) m h = rw (eqb-eq (m % c) 0 (mod-eq-zero_of_dvd c (h c (inl refl)))) (divide-all l m (λ d i. h d (inr i)))

-- ---- the product

pub product-multiple : (l : List ℕ) → CommonMultiple l (product l)
product-multiple [] d h = absurd h
product-multiple (c ∷ l) d (inl q) = rw q (dvd-mul_right c (product l))
product-multiple (c ∷ l) d (inr h) = dvd-mul_left_of_dvd d (product-multiple l d h) c

pub product-positive : (l : List ℕ) → Positive l → 1 ≤ product l
product-positive [] p = omega arith
product-positive (c ∷ l) p = mul-pos (p c (inl refl)) (product-positive l (λ d h. p d (inr h)))

-- ---- the least common multiple

pub lcm-is : (l : List ℕ) → Positive l → LeastCommonMultiple l (least_common_multiple l)
unfolding least_common_multiple
lcm-is l p = go (seek-first (product l) (all_divide l) 1)
  where
    found : (m : ℕ) → First (product l) (all_divide l) 1 m → LeastCommonMultiple l m
    found m f = record { positive = f.low; multiple = all-divide l m f.hit; least = λ k i h. below k i h (lt? k m) }
      where
        below : (k : ℕ) → 1 ≤ k → CommonMultiple l k → (k < m) ⊎ (m ≤ k) → m ≤ k
        below k i h (inl j) = absurd (true≢false (sym (divide-all l k h) ∙ f.before k i j))
        below k i h (inr j) = j

    go : First (product l) (all_divide l) 1 (first_passing (product l) (all_divide l) 1) ⊎ ((j : ℕ) → 1 ≤ j → j < 1 + product l → all_divide l j ≡ false)
        → LeastCommonMultiple l (first_passing (product l) (all_divide l) 1)
    go (inl f) = found _ f
    go (inr none) = absurd (true≢false (sym (divide-all l (product l) (product-multiple l)) ∙ none (product l) (product-positive l p) (omega arith)))

pub lcm-only : {l : List ℕ} {m k : ℕ} → LeastCommonMultiple l m → LeastCommonMultiple l k → m ≡ k
lcm-only {l} {m} {k} a b =
    let x = a.least k b.positive b.multiple in
    let y = b.least m a.positive a.multiple in
    omega arith

-- the rest of a common multiple is a common multiple, and is below the least
pub lcm-divides : {l : List ℕ} {m : ℕ} → LeastCommonMultiple l m → (k : ℕ) → CommonMultiple l k → m ∣ k
lcm-divides {l} {m} a k h = dvd_of_mod-eq-zero m (go (same? (k % m) 0))
  where
    go : (k % m ≡ 0) ⊎ (k % m ≢ 0) → k % m ≡ 0
    go (inl z) = z
    go (inr z) =
        let small = mod-lt k a.positive in
        let large = a.least (k % m) (omega arith) (λ d i. (dvd-mod_iff d {m = k} {n = m} (a.multiple d i)).1 (h d i)) in
        absurd (omega arith)

-- a number more: the least common multiple of it and of the list's
pub lcm-more : {l : List ℕ} {m r : ℕ} (c : ℕ) → LeastCommonMultiple l m → LeastCommonMultiple (c ∷ m ∷ []) r → LeastCommonMultiple (c ∷ l) r
lcm-more {l} {m} {r} c a b = record { positive = b.positive; multiple = all; least = λ k i h. b.least k i (both k h) }
  where
    all : CommonMultiple (c ∷ l) r
    all d (inl q) = b.multiple d (inl q)
    all d (inr h) = dvd_trans d (a.multiple d h) (b.multiple m (inr (inl refl)))

    both : (k : ℕ) → CommonMultiple (c ∷ l) k → CommonMultiple (c ∷ m ∷ []) k
    both k h d (inl q) = h d (inl q)
    both k h d (inr (inl q)) = rw q (lcm-divides a k (λ e i. h e (inr i)))
    both k h d (inr (inr n)) = absurd n

-- a number that stands in the list changes nothing
pub lcm-again : {l : List ℕ} {m c : ℕ} → LeastCommonMultiple l m → Has c l → LeastCommonMultiple (c ∷ l) m
lcm-again {l} {m} {c} a h = record { positive = a.positive; multiple = all; least = λ k i j. a.least k i (λ d e. j d (inr e)) }
  where
    all : CommonMultiple (c ∷ l) m
    all d (inl q) = rw q (a.multiple c h)
    all d (inr e) = a.multiple d e
