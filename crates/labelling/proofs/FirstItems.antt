-- The first item of a rooting's word: 0, the event U, where the black list fixes the root, and 1, the event T, where it moves it. So the
-- words of the fixed edges come before those of the moved ones.
use mathlib.Core.Path.{◌≡◌, ap}
use mathlib.Core.Logic.{◌≢◌, inl}
use mathlib.Core.List.{List, ◌∷◌}
use Prim.Native.Nat.{ℕ}
use native.Mathlib.Omega.{arith}
use lib.ListN.{length}
use Rattle.lists.specs.Lists.{at}
use Rattle.words.specs.Order.{Before}
use Rattle.words.proofs.Order.{before-antisym}
use Rattle.labelling.specs.Labelling.{Labelled, word_of}
use Rattle.labelling.proofs.Moves.{label-U, label-T}

module _ (s0 s1 : List ℕ) (x : ℕ) where
  pub first-U : at s0 x ≡ x → (v : List ℕ) × (word_of s0 s1 x ≡ 0 ∷ v)
  unfolding word_of
  first-U e = (_, ap (λ (q : Labelled). q.word) (label-U (length s0) (at s0) (at s1) x e))

  pub first-T : at s0 x ≢ x → (v : List ℕ) × (word_of s0 s1 x ≡ 1 ∷ v)
  unfolding word_of
  first-T e = (_, ap (λ (q : Labelled). q.word) (label-T (length s0) (at s0) (at s1) x e))

module _ (s0 s1 : List ℕ) (x y : ℕ) where
  pub fixed-before-moved : at s0 x ≡ x → at s0 y ≢ y → Before (word_of s0 s1 x) (word_of s0 s1 y)
  fixed-before-moved e n = rw ((first-U s0 s1 x e).1, (first-T s0 s1 y n).1) (inl (omega arith))

  -- a moved edge's word does not come before a fixed root's
  pub moved-not-before : at s0 x ≡ x → at s0 y ≢ y → ¬ Before (word_of s0 s1 y) (word_of s0 s1 x)
  moved-not-before e n = before-antisym (word_of s0 s1 x) (word_of s0 s1 y) (fixed-before-moved e n)
