-- n events are enough: with more allowed the labelling is the same.
use mathlib.Core.Path.{◌≡◌, refl, ap}
use mathlib.Core.Logic.{◌≢◌, ◌⊎◌, inl, inr}
use mathlib.Core.List.{List, [], ◌∷◌}
use Prim.Native.Nat.{ℕ, zero, suc, ◌+◌, ◌≤◌}
use native.Mathlib.Omega.{arith}
use lib.ListN.{length}
use Rattle.lists.specs.Ranges.{OneTo}
use Rattle.lists.proofs.Tests.{same?}
use Rattle.diagrams.specs.Diagram.{Maps}
use Rattle.labelling.specs.Labelling.{event, LabellingInvariant, with_item, events, label}
use Rattle.labelling.proofs.Along.{next, falls, size}
use Rattle.labelling.proofs.Labels.{inv-U, inv-T}
use Rattle.labelling.proofs.Moves.{label-U, label-T}

module _ (n : ℕ) (f g : ℕ → ℕ) (D : Maps n f g) where
  run_more : (m m' : ℕ) (o st : List ℕ) → LabellingInvariant n f g o st → length st + n ≤ m + length o → m ≤ m' → events f g m' o st ≡ events f g m o st
  unfolding events
  run_more zero zero o st I h l = refl
  run_more zero (suc m') o [] I h l = refl
  run_more zero (suc m') o (k ∷ r) I h l = let i = size n f g D o (k ∷ r) I in absurd (omega arith)
  run_more (suc m) zero o st I h l = absurd (omega arith)
  run_more (suc m) (suc m') o [] I h l = refl
  run_more (suc m) (suc m') o (k ∷ r) I h l =
      let i = falls n f g D o k r I in
      ap (with_item (event f g o k r).item) (run_more m m' (event f g o k r).marked (event f g o k r).stack (next n f g D o k r I) (omega arith) (omega arith))

  pub label-ends : (r : ℕ) → OneTo n r → (m : ℕ) → n ≤ m → label m f g r ≡ label n f g r
  label-ends r e m l = go (same? (f r) r)
    where
      go : (f r ≡ r) ⊎ (f r ≢ r) → label m f g r ≡ label n f g r
      go (inl q) = rw (label-U m f g r q, label-U n f g r q, run_more n m (r ∷ []) (r ∷ []) (inv-U n f g D r e q) (omega arith) l)
      go (inr q) = rw (label-T m f g r q, label-T n f g r q, run_more n m (f (f r) ∷ f r ∷ r ∷ []) (f (f r) ∷ f r ∷ r ∷ []) (inv-T n f g D r e q) (omega arith) l)
