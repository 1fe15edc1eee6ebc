-- The clauses of `state_after_item` and `state_after_first` in the code's own terms: by tests and differences instead of successors.
use mathlib.Core.Path.{◌≡◌, refl}
use mathlib.Core.Logic.{◌≢◌}
use Prim.Native.Nat.{ℕ, zero, suc, ◌+◌, ◌-◌, ◌≤◌, ◌<◌}
use native.Mathlib.Omega.{arith}
use Rattle.lists.proofs.Tests.{lt-true, lt-false}
use Rattle.listing_successor_states.specs.States.{stack_state, dead_end, state_after_item, state_after_first}

pub state-same : (h h' f f' : ℕ) → h ≡ h' → f ≡ f' → stack_state h f ≡ stack_state h' f'
state-same h h' f f' p q = rw (p, q)

pub after-W : (h f x : ℕ) → h ≢ 0 → x ≡ 0 → stack_state (h - 1) f ≡ state_after_item h f x
after-W zero f x n e = absurd (n refl)
after-W (suc h) f x n e = rw e (state-same (suc h - 1) h f f (omega arith) refl)

pub after-F : (h f x : ℕ) → h ≢ 0 → x ≡ 1 → 3 ≤ f → stack_state (h + 1) (f - 3) ≡ state_after_item h f x
after-F zero f x n e l = absurd (n refl)
after-F (suc h) zero x n e l = absurd (omega arith)
after-F (suc h) (suc zero) x n e l = absurd (omega arith)
after-F (suc h) (suc (suc zero)) x n e l = absurd (omega arith)
after-F (suc h) (suc (suc (suc f))) x n e l = rw e (state-same (suc h + 1) (suc (suc h)) (suc (suc (suc f)) - 3) f (omega arith) (omega arith))

pub after-F-none : (h f x : ℕ) → h ≢ 0 → x ≡ 1 → f < 3 → dead_end ≡ state_after_item h f x
after-F-none zero f x n e l = absurd (n refl)
after-F-none (suc h) zero x n e l = rw e
after-F-none (suc h) (suc zero) x n e l = rw e
after-F-none (suc h) (suc (suc zero)) x n e l = rw e
after-F-none (suc h) (suc (suc (suc f))) x n e l = absurd (omega arith)

pub after-B : (h f x : ℕ) → h ≢ 0 → x ≡ 2 → f ≢ 0 → stack_state (h - 1) (f - 1) ≡ state_after_item h f x
after-B zero f x n e m = absurd (n refl)
after-B (suc h) zero x n e m = absurd (m refl)
after-B (suc h) (suc f) x n e m = rw e (state-same (suc h - 1) h (suc f - 1) f (omega arith) (omega arith))

pub after-B-none : (h f x : ℕ) → h ≢ 0 → x ≡ 2 → f ≡ 0 → dead_end ≡ state_after_item h f x
after-B-none zero f x n e z = absurd (n refl)
after-B-none (suc h) f x n e z = rw (e, z)

module _ (f : ℕ) where
  pub after-J : (h x : ℕ) → x ≢ 0 → x ≢ 1 → x ≢ 2 → x - 3 < h - 1 → stack_state (h - 2) f ≡ state_after_item h f x
  after-J h zero a b c l = absurd (a refl)
  after-J h (suc zero) a b c l = absurd (b refl)
  after-J h (suc (suc zero)) a b c l = absurd (c refl)
  after-J zero (suc (suc (suc d))) a b c l = absurd (omega arith)
  after-J (suc zero) (suc (suc (suc d))) a b c l = absurd (omega arith)
  after-J (suc (suc h)) (suc (suc (suc d))) a b c l = rw (lt-true d (suc h) (omega arith)) (state-same (suc (suc h) - 2) h f f (omega arith) refl)

  pub after-J-none : (h x : ℕ) → x ≢ 0 → x ≢ 1 → x ≢ 2 → h - 1 ≤ x - 3 → dead_end ≡ state_after_item h f x
  after-J-none h zero a b c l = absurd (a refl)
  after-J-none h (suc zero) a b c l = absurd (b refl)
  after-J-none h (suc (suc zero)) a b c l = absurd (c refl)
  after-J-none zero (suc (suc (suc d))) a b c l = refl
  after-J-none (suc h) (suc (suc (suc d))) a b c l = rw (lt-false d h (omega arith))

pub start-U : (n x : ℕ) → x ≡ 0 → n ≢ 0 → stack_state 1 (n - 1) ≡ state_after_first n x
start-U zero x e m = absurd (m refl)
start-U (suc n) x e m = rw e (state-same 1 1 (suc n - 1) n refl (omega arith))

pub start-T : (n x : ℕ) → x ≡ 1 → 3 ≤ n → stack_state 3 (n - 3) ≡ state_after_first n x
start-T zero x e l = absurd (omega arith)
start-T (suc zero) x e l = absurd (omega arith)
start-T (suc (suc zero)) x e l = absurd (omega arith)
start-T (suc (suc (suc n))) x e l = rw e (state-same 3 3 (suc (suc (suc n)) - 3) n refl (omega arith))

pub start-T-none : (n x : ℕ) → x ≡ 1 → n < 3 → dead_end ≡ state_after_first n x
start-T-none zero x e l = rw e
start-T-none (suc zero) x e l = rw e
start-T-none (suc (suc zero)) x e l = rw e
start-T-none (suc (suc (suc n))) x e l = absurd (omega arith)

pub start_none : (n x : ℕ) → x ≢ 0 → x ≢ 1 → dead_end ≡ state_after_first n x
start_none n zero a b = absurd (a refl)
start_none n (suc zero) a b = absurd (b refl)
start_none n (suc (suc x)) a b = refl
