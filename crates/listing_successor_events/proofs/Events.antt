-- `least_above` and `least_event` find the least event that leads to an end: F, B and the first J are tried in order, and no J leads on where
-- the first does not.
use mathlib.Core.Path.{◌≡◌, refl, sym, ◌∙◌}
use mathlib.Core.Logic.{◌≢◌, ◌⊎◌, inl, inr}
use mathlib.Core.Bool.{Bool, true, false, true≢false, cond}
use Prim.Native.Nat.{ℕ, zero, suc, ◌≤◌, ◌<◌}
use native.Mathlib.Omega.{arith}
use lib.Dec.{ltb}
use Rattle.lists.proofs.Tests.{lt?, lt-true, lt-false, same?}
use Rattle.listing_successor_events.specs.Events.{can_end, can_end_after, join_above, least_above, least_event}

-- e is the least number above x, from k on, that passes the test t; 0 where there is none
pub record Seeks (t : ℕ → Bool) (x k e : ℕ) : Type 0 where
  pub none : e ≡ 0 → (y : ℕ) → x < y → k ≤ y → t y ≡ false
  pub some : e ≢ 0 → (x < e) × (k ≤ e) × (t e ≡ true)
  pub least : (y : ℕ) → x < y → k ≤ y → y < e → t y ≡ false

seeks-more : (t : ℕ → Bool) (x k e : ℕ) → 1 ≤ k → Seeks t x (suc k) e → Seeks t x k (cond (cond (ltb x k) (t k) false) k e)
seeks-more t x k e l s = go (lt? x k) (t k) refl
  where
    old : (x < k → t k ≡ false) → Seeks t x k e
    old n = record { none = λ z y a b. at y a b (λ c. s.none z y a c); some = λ z. let i = s.some z in (i.0, omega arith, i.2); least = λ y a b c. at y a b (λ d. s.least y a d c) }
      where
        at : (y : ℕ) → x < y → k ≤ y → (suc k ≤ y → t y ≡ false) → t y ≡ false
        at y a b c = by (same? k y)
          where
            by : (k ≡ y) ⊎ (k ≢ y) → t y ≡ false
            by (inl q) = rw q at (n (rw q a))
            by (inr q) = c (omega arith)

    go : (x < k) ⊎ (k ≤ x) → (b : Bool) → t k ≡ b → Seeks t x k (cond (cond (ltb x k) (t k) false) k e)
    go (inl a) true q = rw (lt-true x k a, q) record { none = λ z. absurd (omega arith); some = λ z. (a, omega arith, q); least = λ y b c d. absurd (omega arith) }
    go (inl a) false q = rw (lt-true x k a, q) (old (λ b. q))
    go (inr a) b q = rw (lt-false x k a) (old (λ c. absurd (omega arith)))

-- where a J leads to no end, no longer one does
jump-none : (h f j y : ℕ) → 3 ≤ j → j ≤ y → can_end_after h f j ≡ false → can_end_after h f y ≡ false
unfolding can_end_after
jump-none zero f j y a b e = refl
jump-none (suc h) f zero y a b e = absurd (omega arith)
jump-none (suc h) f (suc zero) y a b e = absurd (omega arith)
jump-none (suc h) f (suc (suc zero)) y a b e = absurd (omega arith)
jump-none (suc h) f (suc (suc (suc d))) zero a b e = absurd (omega arith)
jump-none (suc h) f (suc (suc (suc d))) (suc zero) a b e = absurd (omega arith)
jump-none (suc h) f (suc (suc (suc d))) (suc (suc zero)) a b e = absurd (omega arith)
jump-none (suc h) f (suc (suc (suc d))) (suc (suc (suc c))) a b e = go (lt? c h)
  where
    go : (c < h) ⊎ (h ≤ c) → can_end_after (suc h) f (suc (suc (suc c))) ≡ false
    go (inl l) = rw (lt-true c h l) (rw (lt-true d h (omega arith)) at e)
    go (inr l) = rw (lt-false c h l)

jump-is : (x : ℕ) → (3 ≤ join_above x) × (x < join_above x) × ((y : ℕ) → x < y → 3 ≤ y → join_above x ≤ y)
jump-is x = go (lt? x 3)
  where
    go : (x < 3) ⊎ (3 ≤ x) → (3 ≤ join_above x) × (x < join_above x) × ((y : ℕ) → x < y → 3 ≤ y → join_above x ≤ y)
    go (inl l) = rw (lt-true x 3 l) (omega arith, omega arith, λ y a b. omega arith)
    go (inr l) = rw (lt-false x 3 l) (omega arith, omega arith, λ y a b. omega arith)

seeks-jump : (h f x : ℕ) → Seeks (can_end_after h f) x 3 (cond (can_end_after h f (join_above x)) (join_above x) 0)
seeks-jump h f x = go (can_end_after h f (join_above x)) refl
  where
    j : (3 ≤ join_above x) × (x < join_above x) × ((y : ℕ) → x < y → 3 ≤ y → join_above x ≤ y)
    j = jump-is x

    go : (b : Bool) → can_end_after h f (join_above x) ≡ b → Seeks (can_end_after h f) x 3 (cond b (join_above x) 0)
    go true e = record { none = λ z. absurd (omega (arith, j.0)); some = λ z. (j.1, j.0, e); least = λ y a b c. let i = j.2 y a b in absurd (omega arith) }
    go false e = record { none = λ z y a b. jump-none h f (join_above x) y j.0 (j.2 y a b) e; some = λ z. absurd (z refl); least = λ y a b c. absurd (omega arith) }

pub above-least : (h f x : ℕ) → Seeks (can_end_after h f) x 1 (least_above h f x)
unfolding least_above
above-least h f x = seeks-more (can_end_after h f) x 1 _ (omega arith) (seeks-more (can_end_after h f) x 2 _ (omega arith) (seeks-jump h f x))

-- some event leads to an end, where there is one
some-leads : (h f : ℕ) → can_end (suc h) f ≡ true → ((e : ℕ) × (can_end_after (suc h) f e ≡ true))
unfolding can_end_after
some-leads zero zero q = (0, refl)
some-leads zero (suc zero) q = (2, refl)
some-leads zero (suc (suc zero)) q = absurd (true≢false (sym q))
some-leads zero (suc (suc (suc f))) q = (1, refl)
some-leads (suc zero) zero q = (0, refl)
some-leads (suc zero) (suc zero) q = (0, refl)
some-leads (suc zero) (suc (suc zero)) q = (2, refl)
some-leads (suc zero) (suc (suc (suc f))) q = (0, refl)
some-leads (suc (suc h)) f q = (0, refl)

-- the least that does
pub record Leads (h f e : ℕ) : Type 0 where
  pub ok : can_end_after h f e ≡ true
  pub least : (y : ℕ) → y < e → can_end_after h f y ≡ false

pub lead-least : (h f : ℕ) → can_end (suc h) f ≡ true → Leads (suc h) f (least_event (suc h) f)
unfolding least_event
lead-least h f q = go (can_end_after (suc h) f 0) refl
  where
    s : Seeks (can_end_after (suc h) f) 0 1 (least_above (suc h) f 0)
    s = above-least (suc h) f 0

    k : (e : ℕ) × (can_end_after (suc h) f e ≡ true)
    k = some-leads h f q

    go : (b : Bool) → can_end_after (suc h) f 0 ≡ b → Leads (suc h) f (cond b 0 (least_above (suc h) f 0))
    go true e = record { ok = e; least = λ y l. absurd (omega arith) }
    go false e = record { ok = (s.some up).2; least = λ y l. below y l }
      where
        none : least_above (suc h) f 0 ≡ 0 → (y : ℕ) → can_end_after (suc h) f y ≡ false
        none z zero = e
        none z (suc y) = s.none z (suc y) (omega arith) (omega arith)

        up : least_above (suc h) f 0 ≢ 0
        up z = true≢false (sym k.1 ∙ none z k.0)

        below : (y : ℕ) → y < least_above (suc h) f 0 → can_end_after (suc h) f y ≡ false
        below zero l = e
        below (suc y) l = s.least (suc y) (omega arith) (omega arith) l
