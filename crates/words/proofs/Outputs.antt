-- Output lists: which are long enough, and which stay as they were. The laws of lists that are written to are those of `lists`.
use mathlib.Core.Path.{refl}
use mathlib.Core.Logic.{inl, inr, ⊎_elim}
use mathlib.Core.List.{List}
use Prim.Native.Nat.{ℕ, suc, ◌≤◌, ◌<◌}
use native.Mathlib.Omega.{arith}
use lib.ListN.{length}
use Rattle.words.specs.Outputs.{Short, Untouched}
pub use Rattle.lists.proofs.Overwriting.{over-length, over-one, from-0, from-none, from-length, from_one, from_last, from-from, from-part}

-- ---- lists that are long enough, and lists that stay

pub not_short : (n : ℕ) (a0 a1 aw : List ℕ) → n ≤ length a0 → n ≤ length a1 → n < length aw → ¬ Short n a0 a1 aw
not_short n a0 a1 aw h i j = ⊎_elim (λ l. omega arith) (⊎_elim (λ l. omega arith) (λ l. omega arith))

pub long_enough : (n : ℕ) (a0 a1 aw : List ℕ) → ¬ Short n a0 a1 aw → (n ≤ length a0) × (n ≤ length a1) × (suc n ≤ length aw)
long_enough n a0 a1 aw k = (by n (length a0) (λ l. k (inl l)), by n (length a1) (λ l. k (inr (inl l))), by (suc n) (length aw) (λ l. k (inr (inr l))))
  where
    by : (m l : ℕ) → ¬ (l < m) → m ≤ l
    by m l k = omega arith

pub untouched : (a0 a1 aw : List ℕ) → Untouched a0 a1 aw a0 a1 aw
untouched a0 a1 aw = record { s0_same = refl; s1_same = refl; word_same = refl }
