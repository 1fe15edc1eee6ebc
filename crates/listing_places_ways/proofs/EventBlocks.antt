-- The blocks of the ways to go on, by their first event: how long they are, and in which of several equal blocks a place falls.
use mathlib.Core.Path.{◌≡◌, refl}
use mathlib.Core.Logic.{◌⊎◌, inl, inr}
use mathlib.Core.List.{List, ◌∷◌}
use Prim.Native.Nat.{ℕ, zero, suc, ◌+◌, ◌*◌, ◌-◌, ◌/◌, ◌%◌, ◌≤◌, ◌<◌}
use native.Mathlib.Nat.{not-suc-le-zero, zero-mul, mul-zero, suc-mul, div-eq_of_lt, div-lt_iff_lt-mul, div-eq-sub-div, mod-eq_of_lt, mod-eq-sub-mod}
use native.Mathlib.Omega.{arith}
use Rattle.lists.proofs.Tests.{lt-true, lt-false, lt?}
use Rattle.listing.specs.Listing.{ways}
use Rattle.listing.specs.Ranking.{join_block, ways_f, ways_b}

pub ways_f-few : (h f : ℕ) → f < 3 → ways_f h f ≡ 0
unfolding ways_f
ways_f-few h zero l = refl
ways_f-few h (suc zero) l = refl
ways_f-few h (suc (suc zero)) l = refl
ways_f-few h (suc (suc (suc f))) l = absurd (omega arith)

pub ways_f-more : (h f : ℕ) → 3 ≤ f → ways_f h f ≡ ways (h + 2) (f - 3)
unfolding ways_f
ways_f-more h zero l = absurd (omega arith)
ways_f-more h (suc zero) l = absurd (omega arith)
ways_f-more h (suc (suc zero)) l = absurd (omega arith)
ways_f-more h (suc (suc (suc f))) l =
    let a : h + 2 ≡ suc (suc h) = omega arith in
    let b : suc (suc (suc f)) - 3 ≡ f = omega arith in
    rw (a, b)

pub ways_b-few : (h f : ℕ) → f < 1 → ways_b h f ≡ 0
unfolding ways_b
ways_b-few h zero l = refl
ways_b-few h (suc f) l = absurd (omega arith)

pub ways_b-more : (h f : ℕ) → 1 ≤ f → ways_b h f ≡ ways h (f - 1)
unfolding ways_b
ways_b-more h zero l = absurd (omega arith)
ways_b-more h (suc f) l = let b : suc f - 1 ≡ f = omega arith in rw b

-- a place in the block of F, of B
pub ways_f-some : (h f i : ℕ) → i < ways_f h f → 3 ≤ f
ways_f-some h f i l = go (lt? f 3)
  where
    go : (f < 3) ⊎ (3 ≤ f) → 3 ≤ f
    go (inl s) = let z = ways_f-few h f s in absurd (omega arith)
    go (inr s) = s

pub ways_b-some : (h f i : ℕ) → i < ways_b h f → 1 ≤ f
ways_b-some h f i l = go (lt? f 1)
  where
    go : (f < 1) ⊎ (1 ≤ f) → 1 ≤ f
    go (inl s) = let z = ways_b-few h f s in absurd (omega arith)
    go (inr s) = s

-- ---- a place among j blocks of n words

pub block-some : (j n i : ℕ) → i < j * n → 0 < n
block-some j zero i l = absurd (not-suc-le-zero (rw mul-zero at l))
block-some j (suc n) i l = omega arith

pub block-place : (j n i : ℕ) → i < j * n → i / n < j
block-place j n i l = (div-lt_iff_lt-mul (block-some j n i l)).1 l

pub jump-divides : (x j n i : ℕ) (k : ℕ → List ℕ) → i < j * n → join_block x j n i k ≡ (x + i / n) ∷ k (i % n)
jump-divides x zero n i k l = absurd (not-suc-le-zero (rw zero-mul at l))
jump-divides x (suc j) n i k l = go (lt? i n) (jump-divides (suc x) j n (i - n) k)
  where
    go : (i < n) ⊎ (n ≤ i) → (i - n < j * n → join_block (suc x) j n (i - n) k ≡ (suc x + (i - n) / n) ∷ k ((i - n) % n)) → join_block x (suc j) n i k ≡ (x + i / n) ∷ k (i % n)
    go (inl h) r = let e : x ≡ x + 0 = omega arith in rw (lt-true i n h, div-eq_of_lt h, mod-eq_of_lt h, ← e)
    go (inr h) r =
        let s = rw suc-mul at l in
        let e : x + ((i - n) / n + 1) ≡ suc x + (i - n) / n = omega arith in
        rw (lt-false i n h, div-eq-sub-div (block-some (suc j) n i l) h, mod-eq-sub-mod h, e) (r (omega arith))
