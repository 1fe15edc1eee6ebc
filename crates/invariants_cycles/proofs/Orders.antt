-- The level is the order of the permutation: an edge comes back after k steps exactly if its cycle's length divides k, so all of them do
-- exactly if the level divides k.
use mathlib.Core.Path.{◌≡◌, sym, ap, ◌∙◌}
use mathlib.Core.Logic.{◌≢◌, ◌⊎◌, inl, inr, ◌↔◌}
use Prim.Native.Nat.{ℕ, zero, suc, ◌*◌, ◌/◌, ◌%◌, ◌∣◌}
use native.Mathlib.Nat.{add_comm, suc-mul, mod-lt, div-add-mod', dvd_trans, dvd_of_mod-eq-zero, div-mul_cancel}
use native.Mathlib.Omega.{arith}
use Rattle.lists.specs.Ranges.{OneTo}
use Rattle.lists.proofs.Tests.{same?}
use Rattle.lists.proofs.Ranges.{has-values, values-has}
use Rattle.invariants_multiples.specs.Multiples.{least_common_multiple}
use Rattle.invariants_multiples.proofs.Multiples.{lcm-divides}
use Rattle.invariants_cycles.specs.Cycles.{Permutation, iterate, period, cycle_lengths}
use Rattle.invariants_cycles.proofs.Cycles.{after-add, Period, period_is}
use Rattle.invariants_cycles.proofs.Levels.{level_is}

-- after l steps back, and so after any multiple of l
many-rounds : (φ : ℕ → ℕ) (x l : ℕ) → iterate φ l x ≡ x → (k : ℕ) → iterate φ (k * l) x ≡ x
many-rounds φ x l b zero = ap (λ i. iterate φ i x) (none l)
  where
    none : (l : ℕ) → 0 * l ≡ 0
    none l = omega arith
many-rounds φ x l b (suc k) = ap (λ i. iterate φ i x) (suc-mul k l) ∙ after-add φ (k * l) l x ∙ ap (iterate φ (k * l)) b ∙ many-rounds φ x l b k

module _ {n : ℕ} {φ : ℕ → ℕ} (p : Permutation n φ) where
  module _ (x : ℕ) (e : OneTo n x) (k : ℕ) where
    abbrev l : ℕ
    l = period n φ x

    once-round : Period φ x l
    once-round = period_is p x e

    pub divides-returns : l ∣ k → iterate φ k x ≡ x
    divides-returns d = rw (div-mul_cancel l d) at (many-rounds φ x l once-round.back (k / l))

    -- the rest of the steps leads back too, and is less than a round
    pub returns-divides : iterate φ k x ≡ x → l ∣ k
    returns-divides b = dvd_of_mod-eq-zero l (go (same? (k % l) 0))
      where
        rest : iterate φ (k % l) x ≡ x
        rest =
            sym (ap (iterate φ (k % l)) (many-rounds φ x l once-round.back (k / l)))
            ∙ sym (after-add φ (k % l) (k / l * l) x)
            ∙ ap (λ i. iterate φ i x) (add_comm (k % l) (k / l * l) ∙ div-add-mod' k l)
            ∙ b

        go : (k % l ≡ 0) ⊎ (k % l ≢ 0) → k % l ≡ 0
        go (inl z) = z
        go (inr z) = absurd (once-round.first (k % l) (omega arith) (mod-lt k once-round.some) rest)

  pub level_order : (k : ℕ) → (least_common_multiple (cycle_lengths n φ) ∣ k) ↔ ((x : ℕ) → OneTo n x → iterate φ k x ≡ x)
  level_order k = (to, from)
    where
      to : least_common_multiple (cycle_lengths n φ) ∣ k → (x : ℕ) → OneTo n x → iterate φ k x ≡ x
      to d x e = divides-returns x e k (dvd_trans (period n φ x) ((level_is p).multiple (period n φ x) (has-values n (period n φ) x e)) d)

      from : ((x : ℕ) → OneTo n x → iterate φ k x ≡ x) → least_common_multiple (cycle_lengths n φ) ∣ k
      from b = lcm-divides (level_is p) k (λ d h. (let r = values-has n (period n φ) d h in rw r.2 (returns-divides r.0 r.1 k (b r.0 r.1))))
