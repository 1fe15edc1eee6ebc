-- What a move of the labelling machine is, event by event.
use mathlib.Core.Path.{◌≡◌}
use mathlib.Core.Logic.{◌≢◌}
use mathlib.Core.List.{List, [], ◌∷◌}
use Prim.Native.Nat.{ℕ, suc}
use Rattle.lists.specs.Lists.{Has, find, remove_at}
use Rattle.lists.proofs.Lists.{has-true, has-false}
use Rattle.lists.proofs.Tests.{eqb_same, eqb-ne}
use Rattle.labelling.specs.Labelling.{event, with_item, events, label}

module _ (f g : ℕ → ℕ) (o : List ℕ) (k : ℕ) (r : List ℕ) (p : ℕ) (e : g k ≡ p) where
  pub move-W : p ≡ k → event f g o k r ≡ record { item = 0; marked = o; stack = r }
  unfolding event
  move-W q = rw (e, q, eqb_same k)

  pub move-J : p ≢ k → Has p o → event f g o k r ≡ record { item = suc (suc (suc (find p r))); marked = o; stack = remove_at (find p r) r }
  unfolding event
  move-J n h = rw (e, eqb-ne p k n, has-true p o h)

  pub move-B : p ≢ k → ¬ Has p o → f p ≡ p → event f g o k r ≡ record { item = 2; marked = p ∷ o; stack = r }
  unfolding event
  move-B n h q = rw (e, eqb-ne p k n, has-false p o h, q, eqb_same p)

  pub move-F : p ≢ k → ¬ Has p o → f p ≢ p → event f g o k r ≡ record { item = 1; marked = f (f p) ∷ f p ∷ p ∷ o; stack = f (f p) ∷ f p ∷ r }
  unfolding event
  move-F n h q = rw (e, eqb-ne p k n, has-false p o h, eqb-ne (f p) p q)

module _ (n : ℕ) (f g : ℕ → ℕ) (r : ℕ) where
  pub label-U : f r ≡ r → label n f g r ≡ with_item 0 (events f g n (r ∷ []) (r ∷ []))
  unfolding label
  label-U e = rw (e, eqb_same r)

  pub label-T : f r ≢ r → label n f g r ≡ with_item 1 (events f g n (f (f r) ∷ f r ∷ r ∷ []) (f (f r) ∷ f r ∷ r ∷ []))
  unfolding label
  label-T e = rw (eqb-ne (f r) r e)
