-- `can_end` tells whether anything fits from a state on.
use mathlib.Core.Path.{◌≡◌, sym}
use mathlib.Core.Bool.{Bool, true, false, true≢false, cond}
use mathlib.Core.List.{List, [], ◌∷◌}
use Prim.Native.Nat.{ℕ, zero, suc, ◌+◌, ◌<◌}
use native.Mathlib.Nat.{not-suc-le-zero}
use native.Mathlib.Omega.{arith}
use lib.Dec.{ltb}
use Rattle.words.specs.Shape.{pre, Fits}
use Rattle.listing.proofs.Completions.{pre-le}
use Rattle.listing_successor_states.specs.States.{stack_state, dead_end, state_after_item}
use Rattle.listing_successor_events.specs.Events.{can_end, can_end_after}

-- from a dead end nothing fits
pub dead : (h f : ℕ) → can_end h f ≡ false → (w : List ℕ) → ¬ Fits h f w
dead zero zero e w a = true≢false e
dead zero (suc f) e [] a = a
dead zero (suc f) e (x ∷ w) a = a
dead (suc zero) zero e w a = true≢false e
dead (suc zero) (suc zero) e w a = true≢false e
dead (suc zero) (suc (suc zero)) e [] a = a
dead (suc zero) (suc (suc zero)) e (zero ∷ []) a = a
dead (suc zero) (suc (suc zero)) e (zero ∷ x ∷ w) a = a
dead (suc zero) (suc (suc zero)) e (suc zero ∷ w) a = a
dead (suc zero) (suc (suc zero)) e (suc (suc zero) ∷ []) a = a
dead (suc zero) (suc (suc zero)) e (suc (suc zero) ∷ x ∷ w) a = a
dead (suc zero) (suc (suc zero)) e (suc (suc (suc d)) ∷ w) a = not-suc-le-zero a.0
dead (suc zero) (suc (suc (suc f))) e w a = true≢false e
dead (suc (suc h)) f e w a = true≢false e

-- an item uses up a pending or a free label
pub leads-less : (h f x : ℕ) → can_end_after h f x ≡ true → (state_after_item h f x).height + (state_after_item h f x).free < h + f
unfolding can_end_after
leads-less zero f x e = absurd (true≢false (sym e))
leads-less (suc h) f zero e = omega arith
leads-less (suc h) zero (suc zero) e = absurd (true≢false (sym e))
leads-less (suc h) (suc zero) (suc zero) e = absurd (true≢false (sym e))
leads-less (suc h) (suc (suc zero)) (suc zero) e = absurd (true≢false (sym e))
leads-less (suc h) (suc (suc (suc f))) (suc zero) e = omega arith
leads-less (suc h) zero (suc (suc zero)) e = absurd (true≢false (sym e))
leads-less (suc h) (suc f) (suc (suc zero)) e = omega arith
leads-less (suc h) f (suc (suc (suc d))) e = go (ltb d h) e
  where
    go : (b : Bool) → can_end (cond b (stack_state (pre h) f) dead_end).height (cond b (stack_state (pre h) f) dead_end).free ≡ true → (cond b (stack_state (pre h) f) dead_end).height + (cond b (stack_state (pre h) f) dead_end).free < suc h + f
    go true e = let i = pre-le h in omega arith
    go false e = absurd (true≢false (sym e))
