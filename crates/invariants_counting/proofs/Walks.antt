-- The steps of a walk round one cycle. On the way, k edges of the cycle are marked and the walk stands at the next one, x;
-- it comes back to its start after as many steps as the period says, and then the whole cycle is marked.
use mathlib.Core.Path.{◌≡◌, refl, sym, ap, ◌∙◌}
use mathlib.Core.Logic.{◌≢◌, ◌⊎◌, inl, inr}
use mathlib.Core.List.{List}
use Prim.Native.Nat.{ℕ, suc, ◌+◌, ◌-◌, ◌≤◌, ◌<◌}
use native.Mathlib.Omega.{arith}
use native.Mathlib.Numerals.{add-one}
use lib.ListN.{length, get_or, set}
use Rattle.lists.specs.Lists.{at, put}
use Rattle.lists.specs.Ranges.{OneTo}
use Rattle.lists.proofs.Tests.{same?}
use Rattle.lists.proofs.Lists.{length-put, at-put-same, at-put-other, at_place, put-place}
use Rattle.diagrams.specs.Check.{Mapped}
use Rattle.invariants_cycles.specs.Cycles.{Permutation, cusp_map, iterate, SameCycle, period}
use Rattle.invariants_cycles.proofs.Cycles.{after-in, Period, period_is, period-most, after-period}
use Rattle.invariants_counting.specs.Marks.{MarkedExactly, CycleMarked}

-- ---- one step along a cycle

module _ {s0 s1 : List ℕ} (m : Mapped s0 s1) (x : ℕ) (e : OneTo (length s0) x) where
  -- the white partner, as the code reads it
  pub partner-in : OneTo (length s0) (get_or s1 (x - 1) 0)
  partner-in = rw (at_place s1 x e.0) (m.maps.white_in x e)

  pub onward-is : get_or s0 (get_or s1 (x - 1) 0 - 1) 0 ≡ cusp_map (at s0) (at s1) x
  onward-is = at_place s0 _ partner-in.0 ∙ ap (at s0) (at_place s1 x e.0)

-- ---- marks

pub marked-as : {n : ℕ} {seen : List ℕ} {R S : ℕ → Type 0} → MarkedExactly n seen R → ((x : ℕ) → OneTo n x → R x → S x) → ((x : ℕ) → OneTo n x → S x → R x) → MarkedExactly n seen S
marked-as m to from = record { long = m.long; mark = λ x e. (λ q. to x e ((m.mark x e).0 q), λ q. (m.mark x e).1 (from x e q)) }

marked-put : {n : ℕ} {seen : List ℕ} {R : ℕ → Type 0} (a : ℕ) → OneTo n a → n ≤ 1024 → MarkedExactly n seen R → MarkedExactly n (put seen a 1) (λ x. R x ⊎ (x ≡ a))
marked-put {n} {seen} {R} a e l m = record { long = length-put seen a 1 ∙ m.long; mark = λ x i. (to x i (same? x a), from x i (same? x a)) }
  where
    new : at (put seen a 1) a ≡ 1
    new = at-put-same seen a 1 (let h = m.long in omega arith)

    to : (x : ℕ) → OneTo n x → (x ≡ a) ⊎ (x ≢ a) → at (put seen a 1) x ≡ 1 → R x ⊎ (x ≡ a)
    to x i (inl s) q = inr s
    to x i (inr s) q = inl ((m.mark x i).0 (sym (at-put-other seen a 1 x s) ∙ q))

    from : (x : ℕ) → OneTo n x → (x ≡ a) ⊎ (x ≢ a) → R x ⊎ (x ≡ a) → at (put seen a 1) x ≡ 1
    from x i (inl s) q = rw s new
    from x i (inr s) (inl r) = at-put-other seen a 1 x s ∙ (m.mark x i).1 r
    from x i (inr s) (inr r) = absurd (s r)

-- ---- the walk

-- y is one of the first k edges of the cycle, from i on
abbrev Passed : (ℕ → ℕ) → ℕ → ℕ → ℕ → Type 0
Passed φ i k y = (j : ℕ) × (j < k) × (iterate φ j i ≡ y)

pub record Walking (n : ℕ) (φ : ℕ → ℕ) (i : ℕ) (old seen : List ℕ) (x k : ℕ) : Type 0 where
  pub few : k < period n φ i
  pub place : x ≡ iterate φ k i
  pub marks : MarkedExactly n seen (λ y. (at old y ≡ 1) ⊎ Passed φ i k y)

module _ {n : ℕ} {φ : ℕ → ℕ} (p : Permutation n φ) (l : n ≤ 1024) (i : ℕ) (e : OneTo n i) where
  round : Period φ i (period n φ i)
  round = period_is p i e

  pub walk_start : (old : List ℕ) → length old ≡ 1024 → Walking n φ i old old i 0
  walk_start old o = record { few = round.some; place = refl; marks = record { long = o; mark = λ y d. (inl, from y) } }
    where
      from : (y : ℕ) → (at old y ≡ 1) ⊎ Passed φ i 0 y → at old y ≡ 1
      from y (inl q) = q
      from y (inr q) = let h = q.1 in absurd (omega arith)

  module _ {old seen : List ℕ} {x k : ℕ} (w : Walking n φ i old seen x k) where
    pub walk-in : OneTo n x
    walk-in = rw w.place (after-in p k i e)

    pub walk-few : k < n
    walk-few = let h = w.few in let m = period-most p i e in omega arith

    -- x has its mark too
    walk-marks : MarkedExactly n (set seen (x - 1) 1) (λ y. (at old y ≡ 1) ⊎ Passed φ i (suc k) y)
    walk-marks = rw (put-place seen x 1 walk-in.0) (marked-as (marked-put x walk-in l w.marks) (λ y d. to y) (λ y d. from y))
      where
        to : (y : ℕ) → ((at old y ≡ 1) ⊎ Passed φ i k y) ⊎ (y ≡ x) → (at old y ≡ 1) ⊎ Passed φ i (suc k) y
        to y (inl (inl q)) = inl q
        to y (inl (inr q)) = let h = q.1 in inr (q.0, omega arith, q.2)
        to y (inr q) = inr (k, omega arith, sym w.place ∙ sym q)

        from : (y : ℕ) → (at old y ≡ 1) ⊎ Passed φ i (suc k) y → ((at old y ≡ 1) ⊎ Passed φ i k y) ⊎ (y ≡ x)
        from y (inl q) = inl (inl q)
        from y (inr q) = go (same? q.0 k)
          where
            go : (q.0 ≡ k) ⊎ (q.0 ≢ k) → ((at old y ≡ 1) ⊎ Passed φ i k y) ⊎ (y ≡ x)
            go (inl z) = inr (sym q.2 ∙ ap (λ j. iterate φ j i) z ∙ sym w.place)
            go (inr z) = let h = q.1 in inl (inr (q.0, omega arith, q.2))

    -- the step has led to y
    module _ (y : ℕ) (s : y ≡ φ x) where
      reached : y ≡ iterate φ (suc k) i
      reached = s ∙ ap φ w.place

      pub walk-next : y ≢ i → Walking n φ i old (set seen (x - 1) 1) y (k + 1)
      walk-next m = rw (add-one k) (record { few = let h = w.few in let z = not_yet in omega arith; place = reached; marks = walk-marks })
        where
          not_yet : suc k ≢ period n φ i
          not_yet q = m (reached ∙ ap (λ j. iterate φ j i) q ∙ round.back)

      pub walk_end : y ≡ i → (k + 1 ≡ period n φ i) × CycleMarked n φ i old (set seen (x - 1) 1)
      walk_end m = (add-one k ∙ full, marked-as walk-marks (λ z d. to z) (λ z d. from z))
        where
          back : iterate φ (suc k) i ≡ i
          back = sym reached ∙ m

          full : suc k ≡ period n φ i
          full = go (same? (suc k) (period n φ i))
            where
              go : (suc k ≡ period n φ i) ⊎ (suc k ≢ period n φ i) → suc k ≡ period n φ i
              go (inl q) = q
              go (inr q) = let h = w.few in absurd (round.first (suc k) (omega arith) (omega arith) back)

          to : (z : ℕ) → (at old z ≡ 1) ⊎ Passed φ i (suc k) z → (at old z ≡ 1) ⊎ SameCycle φ i z
          to z (inl q) = inl q
          to z (inr q) = inr (q.0, q.2)

          from : (z : ℕ) → (at old z ≡ 1) ⊎ SameCycle φ i z → (at old z ≡ 1) ⊎ Passed φ i (suc k) z
          from z (inl q) = inl q
          from z (inr q) = let r = after-period p i e q.0 in inr (go r (same? r.0 (suc k)))
            where
              go : (r : (j : ℕ) × OneTo (period n φ i) j × (iterate φ q.0 i ≡ iterate φ j i)) → (r.0 ≡ suc k) ⊎ (r.0 ≢ suc k) → Passed φ i (suc k) z
              go r (inl u) = (0, omega arith, sym back ∙ ap (λ j. iterate φ j i) (sym u) ∙ sym r.2 ∙ q.1)
              go r (inr u) = let h = r.1 in let f = full in (r.0, omega arith, sym r.2 ∙ q.1)
