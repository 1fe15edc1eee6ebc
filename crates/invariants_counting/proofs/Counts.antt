-- The steps of the loop over all edges. An edge without a mark is the least of its cycle, so a cycle is counted at its least edge
-- and nowhere else; an edge with a mark lies on a cycle that was walked, whose length the level so far is a multiple of.
use mathlib.Core.Path.{◌≡◌, refl, sym, ap, ◌∙◌}
use mathlib.Core.Logic.{◌≢◌, ◌⊎◌, inl, inr}
use mathlib.Core.Bool.{true}
use mathlib.Core.List.{List, map, ◌∷◌, []}
use Prim.Native.Nat.{ℕ, zero, suc, ◌+◌, ◌≤◌, ◌<◌}
use native.Mathlib.Omega.{arith}
use native.Mathlib.Numerals.{add-one}
use lib.ListN.{get_or, replicate, length-replicate, get_or-replicate}
use Rattle.lists.specs.Lists.{at}
use Rattle.lists.specs.Ranges.{OneTo, card, down}
use Rattle.lists.proofs.Tests.{same?, lt?}
use Rattle.lists.proofs.Ranges.{card-most, has-values}
use Rattle.invariants_multiples.specs.Multiples.{LeastCommonMultiple, least_common_multiple, Held, HeldMultiple}
use Rattle.invariants_multiples.proofs.Multiples.{lcm-is, lcm-only, lcm-more, lcm-again}
use Rattle.invariants_multiples.proofs.Divisors.{two-positive}
use Rattle.invariants_multiples.proofs.Holding.{held_one}
use Rattle.invariants_cycles.specs.Cycles.{Permutation, SameCycle, least_of_cycle, cycles, period, cycle_lengths}
use Rattle.invariants_cycles.proofs.Cycles.{same-trans, same-sym, same_in, not_least, below-least}
use Rattle.invariants_cycles.proofs.Carried.{period-same}
use Rattle.invariants_cycles.proofs.Levels.{lengths-positive, lengths-level}
use Rattle.invariants_counting.specs.Marks.{MarkedExactly, CycleMarked}
use Rattle.invariants_counting.proofs.Walks.{marked-as}

-- x lies on the cycle of one of the edges 1..i
abbrev Met : (ℕ → ℕ) → ℕ → ℕ → Type 0
Met φ i x = (y : ℕ) × OneTo i y × SameCycle φ y x

-- with the edges 1..i done
pub record Counted (n : ℕ) (φ : ℕ → ℕ) (seen : List ℕ) (count level i : ℕ) : Type 0 where
  pub far : i ≤ n
  pub counted : count ≡ card i (least_of_cycle n φ)
  pub levelled : Held (least_common_multiple (map (period n φ) (down i))) level
  pub marks : MarkedExactly n seen (Met φ i)

pub count-start : (n : ℕ) (φ : ℕ → ℕ) → n ≤ 1024 → Counted n φ (replicate 1024 0) 0 1 0
unfolding least_common_multiple
count-start n φ l = record { far = omega arith; counted = refl; levelled = held_one; marks = record { long = length-replicate {A = ℕ} 1024 0; mark = λ x e. (λ q. absurd (unmarked x e q), λ r. let h = r.1 in absurd (omega arith)) } }
  where
    unmarked : (x : ℕ) → OneTo n x → at (replicate 1024 0) x ≡ 1 → ⊥
    unmarked zero e q = omega arith
    unmarked (suc x) e q = let z = sym (get_or-replicate {A = ℕ} 1024 x 0 0 (omega arith)) ∙ q in omega arith

module _ {n : ℕ} {φ : ℕ → ℕ} {seen : List ℕ} {count level i : ℕ} (k : Counted n φ seen count level i) where
  pub count-few : count ≤ i
  count-few = let h = k.counted in let m = card-most i (least_of_cycle n φ) in omega arith

  pub count-end : n ≤ i → (count ≡ cycles n φ) × Held (least_common_multiple (cycle_lengths n φ)) level
  unfolding cycles
  count-end l = let h = k.far in let e : i ≡ n = omega arith in (k.counted ∙ ap (λ m. card m (least_of_cycle n φ)) e, rw e at k.levelled)

  module _ (p : Permutation n φ) (more : i < n) where
    -- the least common multiple of the lengths so far, and with the next one
    so_far : LeastCommonMultiple (map (period n φ) (down i)) (least_common_multiple (map (period n φ) (down i)))
    so_far = lengths-level p i k.far

    with-next : LeastCommonMultiple (map (period n φ) (down (suc i))) (least_common_multiple (map (period n φ) (down (suc i))))
    with-next = lengths-level p (suc i) more

    met-more : (x : ℕ) → Met φ i x → Met φ (suc i) x
    met-more x r = let h = r.1 in (r.0, omega arith, r.2)

    -- the next edge has a mark: its cycle was walked before
    pub count-skip : get_or seen i 0 ≡ 1 → Counted n φ seen count level (i + 1)
    count-skip mark = rw (add-one i) record { far = more; counted = same_count; levelled = rw (← same-level) k.levelled; marks = marked-as k.marks (λ x d. met-more x) (λ x d. from x) }
      where
        met : Met φ i (suc i)
        met = (k.marks.mark (suc i) (omega arith)).0 mark

        met-in : OneTo n met.0
        met-in = let h = met.1 in omega arith

        same_count : count ≡ card (suc i) (least_of_cycle n φ)
        same_count =
            let h = k.counted in
            rw (not_least p (suc i) (omega arith) met.0 (same-sym p met.0 (suc i) met-in met.2) (let b = met.1 in omega arith)) (omega arith)

        same-level : least_common_multiple (map (period n φ) (down i)) ≡ least_common_multiple (map (period n φ) (down (suc i)))
        same-level =
            lcm-only
            (lcm-again so_far (rw (period-same p met.0 (suc i) met-in met.2) at (has-values i (period n φ) met.0 met.1)))
            with-next

        from : (x : ℕ) → Met φ (suc i) x → Met φ i x
        from x r = go (same? r.0 (suc i))
          where
            go : (r.0 ≡ suc i) ⊎ (r.0 ≢ suc i) → Met φ i x
            go (inl z) = (met.0, met.1, same-trans φ met.0 (suc i) x met.2 (rw z at r.2))
            go (inr z) = let h = r.1 in (r.0, omega arith, r.2)

    -- the next edge has no mark: it is the least of its cycle, which is walked now
    pub count-new : get_or seen i 0 ≢ 1 → (new : List ℕ) → CycleMarked n φ (i + 1) seen new → (l r : ℕ) → l ≡ period n φ (i + 1)
        → HeldMultiple level l r → Counted n φ new (count + 1) r (i + 1)
    count-new unmarked new w l r q grows = rw (add-one i) record { far = more; counted = more-count; levelled = rw more-level at (grows _ k.levelled); marks = marked-as (rw (add-one i) at w) (λ x d. to x d) (λ x d. from x d) }
      where
        first : least_of_cycle n φ (suc i) ≡ true
        first = below-least p (suc i) (omega arith) (λ y s. go y s (lt? y (suc i)))
          where
            go : (y : ℕ) → SameCycle φ (suc i) y → (y < suc i) ⊎ (suc i ≤ y) → suc i ≤ y
            go y s (inr h) = h
            go y s (inl h) =
                let d = same_in p (suc i) y (omega arith) s in
                absurd (unmarked ((k.marks.mark (suc i) (omega arith)).1 (y, omega arith, same-sym p (suc i) y (omega arith) s)))

        more-count : count + 1 ≡ card (suc i) (least_of_cycle n φ)
        more-count = let h = k.counted in rw first (omega arith)

        length_is : l ≡ period n φ (suc i)
        length_is = q ∙ ap (period n φ) (add-one i)

        more-level : least_common_multiple (l ∷ least_common_multiple (map (period n φ) (down i)) ∷ []) ≡ least_common_multiple (map (period n φ) (down (suc i)))
        more-level =
            rw length_is
            (lcm-only
            (lcm-more (period n φ (suc i)) so_far (lcm-is _ (two-positive (lengths-positive p (suc i) more _ (inl refl)) so_far.positive)))
            with-next)

        to : (x : ℕ) → OneTo n x → (at seen x ≡ 1) ⊎ SameCycle φ (suc i) x → Met φ (suc i) x
        to x d (inl r) = met-more x ((k.marks.mark x d).0 r)
        to x d (inr r) = (suc i, omega arith, r)

        from : (x : ℕ) → OneTo n x → Met φ (suc i) x → (at seen x ≡ 1) ⊎ SameCycle φ (suc i) x
        from x d r = go (same? r.0 (suc i))
          where
            go : (r.0 ≡ suc i) ⊎ (r.0 ≢ suc i) → (at seen x ≡ 1) ⊎ SameCycle φ (suc i) x
            go (inl z) = inr (rw z at r.2)
            go (inr z) = let h = r.1 in inl ((k.marks.mark x d).1 (r.0, omega arith, r.2))
