-- The clauses of `can_end` in the code's own terms: by tests instead of successors.
use mathlib.Core.Path.{◌≡◌, refl}
use mathlib.Core.Logic.{◌≢◌}
use mathlib.Core.Bool.{true, not}
use Prim.Native.Nat.{ℕ, zero, suc}
use native.Mathlib.Omega.{arith}
use lib.Dec.{eqb}
use Rattle.lists.proofs.Tests.{eqb-ne}
use Rattle.listing_successor_events.specs.Events.{can_end}

pub ends-0 : (h f : ℕ) → h ≡ 0 → eqb f 0 ≡ can_end h f
ends-0 h zero e = rw e
ends-0 h (suc f) e = rw e (eqb-ne (suc f) 0 (λ z. omega arith))

pub ends-1 : (h f : ℕ) → h ≡ 1 → not (eqb f 2) ≡ can_end h f
ends-1 h zero e = rw e
ends-1 h (suc zero) e = rw e
ends-1 h (suc (suc zero)) e = rw e
ends-1 h (suc (suc (suc f))) e = rw (e, eqb-ne (suc (suc (suc f))) 2 (λ z. omega arith))

pub ends_more : (h f : ℕ) → h ≢ 0 → h ≢ 1 → true ≡ can_end h f
ends_more zero f a b = absurd (a refl)
ends_more (suc zero) f a b = absurd (b refl)
ends_more (suc (suc h)) f a b = refl
