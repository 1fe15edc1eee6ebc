-- Entries of a list that move down by one, one after another.
use mathlib.Core.Path.{◌≡◌, refl, ◌∙◌}
use mathlib.Core.Logic.{◌≢◌, ◌⊎◌, inl, inr}
use mathlib.Core.List.{List}
use Prim.Native.Nat.{ℕ, suc, ◌+◌, ◌≤◌, ◌<◌}
use native.Mathlib.Numerals.{add-one}
use native.Mathlib.Omega.{arith}
use lib.ListN.{length, get_or, set, length-set}
use lib.Seq.{get_or-set_same, get_or-set_other}
use Rattle.lists.proofs.Tests.{same?}
use Rattle.words_spelling_stores.specs.Stores.{Shifted}

-- the loop that moves entries down: those before the place i are moved
pub record Sliding (p q : List ℕ) (place i : ℕ) : Type 0 where
  pub closed : Shifted p q place i
  pub ahead : (j : ℕ) → i ≤ j → get_or q j 0 ≡ get_or p j 0

pub sliding-none : (p : List ℕ) (place : ℕ) → Sliding p p place place
sliding-none p place = record { closed = record { long = refl; below = λ j l. refl; moved = λ j l m. absurd (omega arith) }; ahead = λ j l. refl }

pub sliding-more : (p q : List ℕ) (place i : ℕ) → place ≤ i → i < length p → Sliding p q place i → Sliding p (set q i (get_or q (i + 1) 0)) place (i + 1)
sliding-more p q place i l m s = record {
  closed = record {
    long = length-set q i _ ∙ s.closed.long;
    below = λ j h. get_or-set_other q i j _ 0 (λ e. omega arith) ∙ s.closed.below j h;
    moved = λ j h g. go j h g (same? j i);
  };
  ahead = λ j h. get_or-set_other q i j _ 0 (λ e. omega arith) ∙ s.ahead j (omega arith);
}
  where
    go : (j : ℕ) → place ≤ j → j < i + 1 → (j ≡ i) ⊎ (j ≢ i) → get_or (set q i (get_or q (i + 1) 0)) j 0 ≡ get_or p (suc j) 0
    go j h g (inl e) = rw (e, get_or-set_same q i (get_or q (i + 1) 0) 0 (rw s.closed.long m), add-one) (s.ahead (suc i) (omega arith))
    go j h g (inr n) = get_or-set_other q i j _ 0 n ∙ s.closed.moved j h (omega arith)
