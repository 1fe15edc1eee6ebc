-- Laws of the label arrays: giving the next label, and seeing a list through the labels.
use mathlib.Core.Path.{◌≡◌, refl, ◌∙◌}
use mathlib.Core.Logic.{◌≢◌, ◌⊎◌, inl, inr}
use mathlib.Core.List.{List, [], ◌∷◌, ◌++◌}
use Prim.Native.Nat.{ℕ, suc, ◌+◌, ◌≤◌, ◌<◌}
use native.Mathlib.Omega.{arith}
use native.Mathlib.Numerals.{add-one}
use lib.ListN.{length, get_or, set, drop, replicate}
use lib.Seq.{get_or-set_same, get_or-set_other}
use Rattle.lists.specs.Lists.{at, tabulate, Has}
use Rattle.lists.specs.Ranges.{OneTo}
use Rattle.lists.proofs.Tests.{same?, eqb_same, eqb-ne}
use Rattle.lists.proofs.Lists.{length-listed, at-zeros}
use Rattle.lists.proofs.Copies.{written-more, written-length}
use Rattle.labelling.specs.Labelling.{label_of, edge_of, relabel}
use Rattle.labelling.proofs.Labels.{lab-in}
use Rattle.labelling_arrays.specs.Labels.{LabelsHeld}

-- ---- 0 is no label

pub lab-none : (o : List ℕ) (x : ℕ) → ¬ Has x o → label_of o x ≡ 0
lab-none [] x n = refl
lab-none (y ∷ o) x n = rw (eqb-ne x y (λ e. n (inl e))) (lab-none o x (λ h. n (inr h)))

pub lab-zero : (o : List ℕ) (x : ℕ) → label_of o x ≡ 0 → ¬ Has x o
lab-zero o x e h = let i = lab-in o x h in omega arith

-- ---- arrays of zeros

pub zeros-unlabelled : (m : ℕ) → LabelsHeld (replicate m 0) (replicate m 0) 0 []
zeros-unlabelled m = record { given_is = refl; label_at = λ x. at-zeros m (suc x); edge_listed = λ j e. absurd (omega arith) }

-- ---- giving the next label

pub holds-give : (la od : List ℕ) (c x : ℕ) (o : List ℕ) → suc c < length od → x < length la → LabelsHeld la od c o → LabelsHeld (set la x (c + 1)) (set od (c + 1) x) (c + 1) (x ∷ o)
holds-give la od c x o hc hx h = record {
  given_is = top;
  label_at = λ y. label y (same? y x);
  edge_listed = λ j e. edge_at j e (same? j (suc (length o)));
}
  where
    top : c + 1 ≡ suc (length o)
    top = let e = h.given_is in omega arith

    label : (y : ℕ) → (y ≡ x) ⊎ (y ≢ x) → get_or (set la x (c + 1)) y 0 ≡ label_of (x ∷ o) y
    label y (inl e) = rw (e, eqb_same x) (get_or-set_same la x (c + 1) 0 hx ∙ top)
    label y (inr n) = rw (eqb-ne y x n) (get_or-set_other la x y (c + 1) 0 n ∙ h.label_at y)

    edge_at : (j : ℕ) → OneTo (suc (length o)) j → (j ≡ suc (length o)) ⊎ (j ≢ suc (length o)) → get_or (set od (c + 1) x) j 0 ≡ edge_of (x ∷ o) j
    edge_at j e (inl q) = rw (q, eqb_same (suc (length o)), ← top) (get_or-set_same od (c + 1) x 0 (omega arith))
    edge_at j e (inr n) = rw (eqb-ne j (suc (length o)) n) (get_or-set_other od (c + 1) j x 0 (λ q. n (q ∙ top)) ∙ h.edge_listed j (omega arith))

-- ---- a list through the labels

pub seen : (s la od o : List ℕ) (j : ℕ) → LabelsHeld la od (length s) o → j < length s → get_or la (at s (get_or od (j + 1) 0)) 0 ≡ relabel o (at s) (suc j)
unfolding relabel
seen s la od o j h i = rw (add-one, h.edge_listed (suc j) (let l = h.given_is in omega arith)) (h.label_at (at s (edge_of o (suc j))))

pub listed_more : (f : ℕ → ℕ) (t : List ℕ) (j : ℕ) → j < length t → set (tabulate f j ++ drop j t) j (f (suc j)) ≡ tabulate f (j + 1) ++ drop (j + 1) t
listed_more f t j h = written-more t (tabulate f j) j (f (suc j)) (length-listed f j) h ∙ rw add-one

pub listed-length : (f : ℕ → ℕ) (t : List ℕ) (j : ℕ) → j ≤ length t → length (tabulate f j ++ drop j t) ≡ length t
listed-length f t j h = written-length t (tabulate f j) j (length-listed f j) h
