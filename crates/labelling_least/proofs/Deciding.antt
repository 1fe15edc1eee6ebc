-- Two lists that agree on their first items stand to each other as what follows these; and where the next items differ, these decide.
use mathlib.Core.Path.{◌≡◌, refl, sym, ◌∙◌}
use mathlib.Core.Logic.{◌≢◌, ◌⊎◌, inl, inr}
use mathlib.Core.List.{List, [], ◌∷◌, ◌++◌, append-nil}
use Prim.Native.Nat.{ℕ, ◌≤◌, ◌<◌}
use native.Mathlib.Omega.{arith}
use lib.Dec.{ltb}
use lib.ListN.{length, get_or, take, drop, take-append-drop, length-drop, drop_of_length-le}
use lib.Seq.{drop-cons}
use Rattle.lists.proofs.Tests.{lt-true, lt-false, lt?, eqb_same, eqb-ne}
use Rattle.words.specs.Order.{precedes}

precedes-shared : (u v w : List ℕ) → precedes (u ++ v) (u ++ w) ≡ precedes v w
precedes-shared [] v w = refl
precedes-shared (x ∷ u) v w = rw (lt-false x x (omega arith), eqb_same x) (precedes-shared u v w)

precedes-first : (x : ℕ) (v w : List ℕ) → (w ≡ []) ⊎ (get_or w 0 0 ≢ x) → precedes (x ∷ v) w ≡ precedes (x ∷ []) w
precedes-first x v [] d = refl
precedes-first x v (y ∷ w) (inl e) = let z : ◌≡◌ {A = ℕ} 0 1 = cc in absurd (omega arith)
precedes-first x v (y ∷ w) (inr n) = rw (eqb-ne x y (λ e. n (sym e)))

precedes-none : (w : List ℕ) → precedes [] w ≡ ltb 0 (length w)
precedes-none [] = refl
precedes-none (y ∷ w) = sym (lt-true 0 (length (y ∷ w)) (omega arith))

module _ (own : List ℕ) (i : ℕ) where
  -- a list that goes on with x, which own has not there
  pub decided-by-item : (x : ℕ) (v : List ℕ) → (length own ≤ i) ⊎ (get_or own i 0 ≢ x) → precedes (x ∷ []) (drop i own) ≡ precedes (take i own ++ (x ∷ v)) own
  decided-by-item x v d =
      sym (precedes-first x v (drop i own) (next (lt? i (length own)) d)) ∙ sym (precedes-shared (take i own) (x ∷ v) (drop i own)) ∙ rw take-append-drop
    where
      next : (i < length own) ⊎ (length own ≤ i) → (length own ≤ i) ⊎ (get_or own i 0 ≢ x) → (drop i own ≡ []) ⊎ (get_or (drop i own) 0 0 ≢ x)
      next (inl l) (inl k) = absurd (omega arith)
      next (inl l) (inr n) = inr (rw (drop-cons own i 0 l) n)
      next (inr l) e = inl (drop_of_length-le own l)

  -- a list that has ended
  pub decided-by-end : ltb i (length own) ≡ precedes (take i own) own
  decided-by-end = ends ∙ sym (precedes-none (drop i own)) ∙ sym (precedes-shared (take i own) [] (drop i own)) ∙ rw (append-nil, take-append-drop)
    where
      ends : ltb i (length own) ≡ ltb 0 (length (drop i own))
      ends = go (lt? i (length own))
        where
          go : (i < length own) ⊎ (length own ≤ i) → ltb i (length own) ≡ ltb 0 (length (drop i own))
          go (inl l) = rw (lt-true i (length own) l, lt-true 0 (length (drop i own)) (simp length-drop (omega arith)))
          go (inr l) = rw (lt-false i (length own) l, lt-false 0 (length (drop i own)) (simp length-drop (omega arith)))
