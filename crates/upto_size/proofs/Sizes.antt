-- The size that a word can have is the number of labels that it gives; so one test decides for all sizes.
use mathlib.Core.Path.{◌≡◌}
use mathlib.Core.List.{List, [], ◌∷◌}
use Prim.Native.Nat.{ℕ, zero, suc, ◌≤◌, ◌<◌}
use native.Mathlib.Omega.{arith}
use Rattle.words.specs.Shape.{Word}
use Rattle.upto_words.specs.Within.{labels_of}
use Rattle.upto_words.proofs.Within.{labels-word}
use Rattle.upto_size.specs.Sizes.{SizePromise}

no-word-0 : (w : List ℕ) → ¬ Word 0 w
no-word-0 [] a = a
no-word-0 (zero ∷ w) a = a
no-word-0 (suc zero ∷ w) a = a
no-word-0 (suc (suc x) ∷ w) a = a

module _ (n : ℕ) (w : List ℕ) (size : ℕ) where
  pub size_is : size ≤ n → Word size w → SizePromise n w size
  size_is l a = record { sized = λ z. ((omega arith, l), a); none = λ z. absurd (no-word-0 w (rw z at a)) }

  module _ (e : size ≡ labels_of w) where
    pub size_above : n < size → SizePromise n w 0
    size_above l = record { sized = λ z. absurd (omega arith); none = λ z m k a. let q = labels-word m w a in let i = k.1 in absurd (omega arith) }

    pub size_none : ¬ Word size w → SizePromise n w 0
    size_none b = record { sized = λ z. absurd (omega arith); none = λ z m k a. b (rw (e, labels-word m w a) a) }
