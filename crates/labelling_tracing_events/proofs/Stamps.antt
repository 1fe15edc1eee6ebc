-- Laws of the stamps: an edge gets the labelling's number, and the next labelling has a greater one.
use mathlib.Core.Path.{◌≡◌}
use mathlib.Core.Logic.{◌≢◌, ◌⊎◌, ◌↔◌, inl, inr}
use mathlib.Core.List.{List, [], ◌∷◌}
use Prim.Native.Nat.{ℕ, suc, ◌+◌, ◌≤◌, ◌<◌}
use native.Mathlib.Omega.{arith}
use lib.ListN.{get_or, set, replicate, length-set, length-replicate}
use lib.Seq.{get_or-set_same, get_or-set_other}
use Rattle.lists.specs.Lists.{Has}
use Rattle.lists.specs.Ranges.{OneTo}
use Rattle.lists.proofs.Lists.{at-zeros}
use Rattle.lists.proofs.Tests.{same?}
use Rattle.labelling_tracing_events.specs.Stamps.{Below, Stamped}

pub below-stamped : {n t : ℕ} {sp : List ℕ} → Below n sp t → Stamped n sp t []
below-stamped b = record {
  long = b.long;
  most = λ x e. (let i = b.low x e in omega arith);
  labelled = λ x e. (λ q. (let i = b.low x e in absurd (omega arith)), λ h. absurd h);
}

pub stamped-below : {n t : ℕ} {sp o : List ℕ} → Stamped n sp t o → Below n sp (t + 1)
stamped-below s = record { long = s.long; low = λ x e. (let i = s.most x e in omega arith) }

pub below_more : {n t u : ℕ} {sp : List ℕ} → t ≤ u → Below n sp t → Below n sp u
below_more l b = record { long = b.long; low = λ x e. (let i = b.low x e in omega arith) }

pub stamped-more : {n t : ℕ} {sp o : List ℕ} (x : ℕ) → OneTo n x → Stamped n sp t o → Stamped n (set sp x t) t (x ∷ o)
stamped-more {n} {t} {sp} {o} x i s = record {
  long = simp length-set s.long;
  most = λ y e. most y e (same? y x);
  labelled = λ y e. labelled y e (same? y x);
}
  where
    at_x : get_or (set sp x t) x 0 ≡ t
    at_x = get_or-set_same sp x t 0 (let l = s.long in omega arith)

    most : (y : ℕ) → OneTo n y → (y ≡ x) ⊎ (y ≢ x) → get_or (set sp x t) y 0 ≤ t
    most y e (inl q) = let a = at_x in rw q (omega arith)
    most y e (inr d) = rw (get_or-set_other sp x y t 0 d) (s.most y e)

    labelled : (y : ℕ) → OneTo n y → (y ≡ x) ⊎ (y ≢ x) → (get_or (set sp x t) y 0 ≡ t) ↔ Has y (x ∷ o)
    labelled y e (inl q) = (λ a. inl q, λ h. rw q at_x)
    labelled y e (inr d) = rw (get_or-set_other sp x y t 0 d) (λ a. inr ((s.labelled y e).0 a), back)
      where
        back : Has y (x ∷ o) → get_or sp y 0 ≡ t
        back (inl q) = absurd (d q)
        back (inr h) = (s.labelled y e).1 h

-- stamps that are all 0
pub zeros-below : {n t : ℕ} (k : ℕ) → n < k → 0 < t → Below n (replicate k 0) t
zeros-below k l h = record { long = let e = length-replicate {A = ℕ} k 0 in omega arith; low = λ x e. (let z = at-zeros k (suc x) in omega arith) }
