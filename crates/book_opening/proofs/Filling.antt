-- The first i places hold first positions, the others 0: so it is when the loop starts, after each of its turns, and of the whole list.
use mathlib.Core.Path.{◌≡◌, refl, sym, ◌∙◌}
use mathlib.Core.Logic.{◌≢◌, ◌⊎◌, inl, inr}
use mathlib.Core.Bool.{cond}
use mathlib.Core.List.{List}
use Prim.Native.Nat.{ℕ, zero, suc, pred, ◌+◌, ◌≤◌, ◌<◌}
use native.Mathlib.Numerals.{add-one}
use native.Mathlib.Omega.{arith}
use lib.Dec.{leb}
use lib.ListN.{length, get_or, set, replicate, length-set}
use lib.Seq.{ext_get_or, get_or-set_same, get_or-set_other}
use Rattle.lists.specs.Lists.{tabulate}
use Rattle.lists.proofs.Tests.{le-true, le-false, same?, lt?}
use Rattle.lists.proofs.Lists.{length-listed, at_listed}
use Rattle.listing.specs.Listing.{count}
use Rattle.book.specs.Shares.{first, last}

-- the first i places hold first positions, the others 0
pub record Filled (total k : ℕ) (next : List ℕ) (i : ℕ) : Type 0 where
  pub long : length next ≡ 32
  pub filled : (n : ℕ) → total ≡ count n → (x : ℕ) → x < i → get_or next x 0 ≡ suc (last n k x)
  pub empty : (x : ℕ) → i ≤ x → get_or next x 0 ≡ 0

zeros : (m x : ℕ) → get_or {A = ℕ} (replicate m 0) x 0 ≡ 0
zeros zero x = refl
zeros (suc m) zero = refl
zeros (suc m) (suc x) = zeros m x

pub start : (total k : ℕ) → Filled total k (replicate 32 0) 0
start total k = record { long = refl; filled = λ n e x h. absurd (omega arith); empty = λ x h. zeros 32 x }

pub further : (total k : ℕ) (next : List ℕ) (i r : ℕ) → i < 32 → ((n : ℕ) → total ≡ count n → r ≡ last n k i) → Filled total k next i → Filled total k (set next i (r + 1)) (i + 1)
further total k next i r l e F = record {
  long = length-set next i (r + 1) ∙ F.long;
  filled = λ n q x h. at_x n q x h (same? x i);
  empty = λ x h. (get_or-set_other next i x (r + 1) 0 (λ z. omega arith) ∙ F.empty x (omega arith));
}
  where
    at_x : (n : ℕ) → total ≡ count n → (x : ℕ) → x < i + 1 → (x ≡ i) ⊎ (x ≢ i) → get_or (set next i (r + 1)) x 0 ≡ suc (last n k x)
    at_x n q x h (inl z) = rw (z, get_or-set_same next i (r + 1) 0 (rw F.long l), e n q, add-one)
    at_x n q x h (inr z) = get_or-set_other next i x (r + 1) 0 z ∙ F.filled n q x (omega arith)

pub whole : (total k : ℕ) (next : List ℕ) (i n : ℕ) → total ≡ count n → k ≤ i → i ≤ k → Filled total k next i → next ≡ tabulate (λ j. cond (leb j k) (first n k j) 0) 32
unfolding first
whole total k next i n e l u F = ext_get_or 0 next (tabulate f 32) (F.long ∙ sym (length-listed f 32)) (λ x h. at_x x (lt? x k) ∙ sym (at_listed f 32 (suc x) (let z = F.long in omega arith)))
  where
    f : ℕ → ℕ
    f j = cond (leb j k) (suc (last n k (pred j))) 0

    at_x : (x : ℕ) → (x < k) ⊎ (k ≤ x) → get_or next x 0 ≡ f (suc x)
    at_x x (inl h) = let d : pred (suc x) ≡ x = omega arith in rw (le-true (suc x) k h, d) (F.filled n e x (omega arith))
    at_x x (inr h) = rw (le-false (suc x) k (omega arith)) (F.empty x (omega arith))
