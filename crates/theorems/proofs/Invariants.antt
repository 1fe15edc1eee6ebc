-- The invariants of a diagram, from the laws of cycles.
use mathlib.Core.Path.{◌≡◌, refl, sym, ap, ◌∙◌}
use mathlib.Core.Logic.{◌≢◌, ◌⊎◌, inl, inr, ⊎_elim, ◌↔◌}
use mathlib.Core.Bool.{Bool, true, false, true≢false, cond}
use mathlib.Core.List.{List, [], ◌∷◌}
use Prim.Native.Nat.{ℕ, zero, suc, ◌+◌, ◌≤◌, ◌<◌}
use native.Mathlib.Omega.{arith}
use lib.Dec.{eqb}
use lib.ListN.{length}
use Rattle.std.specs.Prelude.{Result, Ok, Err}
use Rattle.lists.specs.Lists.{at, Has, Distinct}
use Rattle.lists.specs.Ranges.{OneTo, card}
use Rattle.lists.proofs.Tests.{same?, lt?, eqb-eq, eqb-true}
use Rattle.lists.proofs.Ranges.{has-values, values-has}
use Rattle.diagrams.specs.Check.{Accepts}
use Rattle.diagrams.specs.Isomorphism.{Isomorphic}
use Rattle.diagrams.proofs.Checks.{accepts-diagram, refuses-most, not-both}
use Rattle.invariants_multiples.specs.Multiples.{least_common_multiple}
use Rattle.invariants_cycles.specs.Cycles as spec
use Rattle.invariants_cycles.specs.Cycles.{Permutation, SameCycle, least_of_cycle, period, cycles, cycle_lengths, fixed_points, cusp_map}
use Rattle.invariants_cycles.proofs.Cycles as laws
use Rattle.invariants_cycles.proofs.Levels as levels
use Rattle.invariants_cycles.proofs.LevelBound.{level_bound}
use Rattle.invariants_cycles.proofs.Orders.{level_order}
use Rattle.invariants_cycles.proofs.InvariantsIsomorphic.{invariants-isomorphic}
use Rattle.invariants.specs.declared.Numbers.{Numbers}
use Rattle.refusals.specs.declared.Refusal.{Refusal}
use Rattle.refusals.specs.Numbers.{number, refusal_number}
use Rattle.invariants.specs.Promises.{Invariants, Outgrown, InvariantsPromise}
use Rattle.invariants.proofs.SmallLevels.{small-level}
use Rattle.invariants.proofs.Differences.{t_of}
use Rattle.theorems.specs.Listing.{ExactlyOne}
use Rattle.theorems.proofs.Determined.Diagrams.{invariants_once}
use Rattle.theorems.specs.Invariants.{Counts, LeastReturn, Lowest, Level, Over64Bits, CyclesHold, Means, InvariantsHold}

-- ---- how many pass a test

-- what passes a test is counted by `card`
pub counted : (n : ℕ) (t : ℕ → Bool) (P : ℕ → Type 0) → ((x : ℕ) → OneTo n x → (t x ≡ true) ↔ P x) → Counts n P (card n t)
counted zero t P k = record { those = []; once = tt; exactly = λ x. (λ h. absurd h, λ h. (let i = h.0 in absurd (omega arith))); number = refl }
counted (suc n) t P k = go (t (suc n)) refl (counted n t P (λ x e. k x (omega arith)))
  where
    go : (b : Bool) → t (suc n) ≡ b → Counts n P (card n t) → Counts (suc n) P (cond b 1 0 + card n t)
    go true e C = record {
      those = suc n ∷ C.those;
      once = (λ h. (let i = ((C.exactly (suc n)).0 h).0 in absurd (omega arith)), C.once);
      exactly = λ x. (to x, λ h. from x h.0 h.1 (same? x (suc n)));
      number = (let l = C.number in omega arith);
    }
      where
        to : (x : ℕ) → (x ≡ suc n) ⊎ Has x C.those → OneTo (suc n) x × P x
        to x (inl q) = rw q (omega arith, (k (suc n) (omega arith)).0 e)
        to x (inr h) = let q = (C.exactly x).0 h in let i = q.0 in (omega arith, q.1)

        from : (x : ℕ) → OneTo (suc n) x → P x → (x ≡ suc n) ⊎ (x ≢ suc n) → (x ≡ suc n) ⊎ Has x C.those
        from x i p (inl q) = inl q
        from x i p (inr q) = inr ((C.exactly x).1 (omega arith, p))
    go false e C = record {
      those = C.those;
      once = C.once;
      exactly = λ x. (λ h. (let q = (C.exactly x).0 h in let i = q.0 in (omega arith, q.1)), λ h. from x h.0 h.1 (same? x (suc n)));
      number = (let l = C.number in omega arith);
    }
      where
        from : (x : ℕ) → OneTo (suc n) x → P x → (x ≡ suc n) ⊎ (x ≢ suc n) → Has x C.those
        from x i p (inl q) = absurd (true≢false (sym ((k x i).1 p) ∙ ap t q ∙ e))
        from x i p (inr q) = (C.exactly x).1 (omega arith, p)

-- ---- the cycles of a permutation

least-return : {φ : ℕ → ℕ} {x l : ℕ} → laws.Period φ x l → LeastReturn φ x l
least-return {φ} {x} {l} P = record { some = P.some; back = P.back; least = λ k i e. go k i e (lt? k l) }
  where
    go : (k : ℕ) → 1 ≤ k → spec.iterate φ k x ≡ x → (k < l) ⊎ (l ≤ k) → l ≤ k
    go k i e (inl h) = absurd (P.first k i h e)
    go k i e (inr h) = h

level_only : {n : ℕ} {φ : ℕ → ℕ} {m k : ℕ} → Level n φ m → Level n φ k → m ≡ k
level_only {n} {φ} {m} {k} L K =
    let p = L.positive in
    let q = K.positive in
    let a = L.least k (omega arith) K.divided in
    let b = K.least m (omega arith) L.divided in
    omega arith

module _ {n : ℕ} {φ : ℕ → ℕ} (p : Permutation n φ) where
  one_lowest : (x : ℕ) → OneTo n x → ExactlyOne n (λ y. SameCycle φ x y × Lowest φ y)
  one_lowest x e = (y, inside, (there, low), only)
    where
      y : ℕ
      y = laws.lowest φ x n

      there : SameCycle φ x y
      there = laws.lowest-same φ x n

      inside : OneTo n y
      inside = laws.same_in p x y e there

      low : Lowest φ y
      low = laws.least-below p y inside (laws.lowest-least p x e)

      only : (z : ℕ) → OneTo n z → SameCycle φ x z × Lowest φ z → z ≡ y
      only z i s =
          let a = s.1 y (laws.same-trans φ z x y (laws.same-sym p x z e s.0) there) in
          let b = low z (laws.same-trans φ y x z (laws.same-sym p x y e there) s.0) in
          omega arith

  cycles_are : Counts n (Lowest φ) (cycles n φ)
  unfolding cycles
  cycles_are = counted n (least_of_cycle n φ) (Lowest φ) (λ x e. (laws.least-below p x e, laws.below-least p x e))

  -- what is the length of an edge's cycle is its period
  return-period : (x l : ℕ) → OneTo n x → LeastReturn φ x l → l ≡ period n φ x
  return-period x l e R =
      let P = laws.period_is p x e in
      let a = R.least (period n φ x) P.some P.back in
      let b = (least-return P).least l R.some R.back in
      omega arith

  level_is : Level n φ (least_common_multiple (cycle_lengths n φ))
  level_is =
      let L = levels.level_is p in
      record {
        positive = L.positive;
        divided = λ x l e R. rw (return-period x l e R) (L.multiple (period n φ x) (has-values n (period n φ) x e));
        least = λ k i h. L.least k i (λ d j. (let r = values-has n (period n φ) d j in rw r.2 (h r.0 _ r.1 (least-return (laws.period_is p r.0 r.1)))));
      }

  cycles_of : CyclesHold n φ
  cycles_of = record {
    period_is = λ x e. least-return (laws.period_is p x e);
    both_ways = λ x y e s. laws.same-sym p x y e s;
    one_lowest = one_lowest;
    lowest_is = λ x e. (laws.least-below p x e, laws.below-least p x e);
    cycles_are = cycles_are;
    level_is = level_is;
    level_only = λ m k. level_only;
    level_order = level_order p;
    level_bound = level_bound p;
  }

-- ---- the numbers of the operation

fixes-are : (n : ℕ) (g : ℕ → ℕ) → Counts n (λ i. g i ≡ i) (fixed_points n g)
unfolding fixed_points
fixes-are n g = counted n (λ i. eqb (g i) i) (λ i. g i ≡ i) (λ x e. (eqb-true (g x) x, eqb-eq (g x) x))

permutes : (s0 s1 : List ℕ) (root : ℕ) → Accepts s0 s1 root → Permutation (length s0) (cusp_map (at s0) (at s1))
permutes s0 s1 root A = laws.around-perm (accepts-diagram s0 s1 root A).maps

measured : (s0 s1 : List ℕ) (root : ℕ) (x : Numbers) → InvariantsPromise s0 s1 root (Ok x) → Means (length s0) (at s0) (at s1) x
measured s0 s1 root x (A, _, I) = record {
  e2_is = rw I.e2_is (fixes-are n (at s1));
  e3_is = rw I.e3_is (fixes-are n (at s0));
  c_is = rw I.c_is C.cycles_are;
  t_is = I.t_is ∙ sym (t_of n (at s0) (at s1) x.e2 x.e3 x.c I.e2_is I.e3_is I.c_is);
  level_is = rw I.level_is C.level_is;
}
  where
    n : ℕ
    n = length s0

    φ : ℕ → ℕ
    φ = cusp_map (at s0) (at s1)

    C : CyclesHold n φ
    C = cycles_of (permutes s0 s1 root A)

isomorphic_same : (s0 s1 : List ℕ) (r : ℕ) → Accepts s0 s1 r → (t0 t1 : List ℕ) → Isomorphic s0 s1 t0 t1 → (x : Numbers) → Invariants s0 s1 x → Invariants t0 t1 x
isomorphic_same s0 s1 r A t0 t1 i x I =
    let S = invariants-isomorphic (accepts-diagram s0 s1 r A).maps i in
    record {
      e2_is = I.e2_is ∙ S.e2_same;
      e3_is = I.e3_is ∙ S.e3_same;
      c_is = I.c_is ∙ S.c_same;
      t_is = I.t_is ∙ S.t_same;
      level_is = I.level_is ∙ S.level_same;
    }

-- ---- the refusal of the level

outgrown : (s0 s1 : List ℕ) (root : ℕ) (a : Result Numbers Refusal) → InvariantsPromise s0 s1 root a
    → (refusal_number a ≡ 62) ↔ (Accepts s0 s1 root × ((m : ℕ) × Level (length s0) (cusp_map (at s0) (at s1)) m × Over64Bits m))
outgrown s0 s1 root (Ok x) (A, few, I) = (λ e. absurd (omega arith), λ h. absurd (few (rw (level_only (level_is (permutes s0 s1 root A)) h.1.1) h.1.2)))
outgrown s0 s1 root (Err r) (inl R) = (λ e. (let i = refuses-most s0 s1 root (number r) R in absurd (omega arith)), λ h. absurd (not-both s0 s1 root (number r) h.0 R))
outgrown s0 s1 root (Err r) (inr (e, A, O)) = (λ _. (A, (_, level_is (permutes s0 s1 root A), O)), λ _. e)

known-otherwise : (s0 s1 : List ℕ) (root : ℕ) (a : Result Numbers Refusal) → InvariantsPromise s0 s1 root a → (Accepts s0 s1 root → ¬ Outgrown s0 s1) → refusal_number a ≢ 62
known-otherwise s0 s1 root (Ok x) P few e = omega arith
known-otherwise s0 s1 root (Err r) (inl R) few e = let i = refuses-most s0 s1 root (number r) R in omega arith
known-otherwise s0 s1 root (Err r) (inr (_, A, O)) few e = few A O

-- ---- isomorphic diagrams

-- what is promised of the one is promised of the other
carried : (s0 s1 : List ℕ) (r : ℕ) → Accepts s0 s1 r → (a : Result Numbers Refusal) → InvariantsPromise s0 s1 r a
    → (t0 t1 : List ℕ) (q : ℕ) → Accepts t0 t1 q → Isomorphic s0 s1 t0 t1 → InvariantsPromise t0 t1 q a
carried s0 s1 r A (Ok x) P t0 t1 q B i =
    (B, λ far. P.1 (rw (invariants-isomorphic (accepts-diagram s0 s1 r A).maps i).level_same far), isomorphic_same s0 s1 r A t0 t1 i x P.2)
carried s0 s1 r A (Err refusal) (inl R) t0 t1 q B i = absurd (not-both s0 s1 r (number refusal) A R)
carried s0 s1 r A (Err refusal) (inr O) t0 t1 q B i = inr (O.0, B, rw (← (invariants-isomorphic (accepts-diagram s0 s1 r A).maps i).level_same) O.2)

isomorphic_measured : (s0 s1 : List ℕ) (r : ℕ) → Accepts s0 s1 r → (a : Result Numbers Refusal) → InvariantsPromise s0 s1 r a
    → (t0 t1 : List ℕ) (q : ℕ) → Accepts t0 t1 q → (b : Result Numbers Refusal) → InvariantsPromise t0 t1 q b → Isomorphic s0 s1 t0 t1 → a ≡ b
isomorphic_measured s0 s1 r A a P t0 t1 q B b Q i = invariants_once t0 t1 q a b (carried s0 s1 r A a P t0 t1 q B i) Q

pub invariants-hold : InvariantsHold
invariants-hold = record { permutes = permutes; cycles_of = λ n φ p. cycles_of p; measured = measured; outgrown = outgrown; small_known = λ s0 s1 root a P s. known-otherwise s0 s1 root a P (λ A. small-level A s); isomorphic_same = isomorphic_same; isomorphic_measured = isomorphic_measured }
