-- Words within a bound are the words of the sizes up to it; a word's items tell its size, and the bound holds its length.
use mathlib.Core.Path.{◌≡◌, refl}
use mathlib.Core.Logic.{◌↔◌}
use mathlib.Core.List.{List, [], ◌∷◌}
use Prim.Native.Nat.{ℕ, zero, suc, ◌+◌, ◌≤◌}
use native.Mathlib.Omega.{arith}
use lib.ListN.{length}
use Rattle.lists.specs.Ranges.{OneTo}
use Rattle.words.specs.Shape.{pre, less1, less3, Fits, Word}
use Rattle.listing.proofs.Completions.{pre-le}
use Rattle.upto_words.specs.Within.{FitsWithin, WordWithin, items_labels, labels_of}

-- ---- labels taken and put back: what holds of the labels that an item leaves
module _ (P : ℕ → Type 0) where
  pub less1-taken : (f : ℕ) → less1 f ⊥ P → ((g : ℕ) × (f ≡ suc g) × P g)
  less1-taken zero a = absurd a
  less1-taken (suc g) a = (g, refl, a)

  pub less3-taken : (f : ℕ) → less3 f ⊥ P → ((g : ℕ) × (f ≡ suc (suc (suc g))) × P g)
  less3-taken zero a = absurd a
  less3-taken (suc zero) a = absurd a
  less3-taken (suc (suc zero)) a = absurd a
  less3-taken (suc (suc (suc g))) a = (g, refl, a)

  pub less1-there : (f : ℕ) → 1 ≤ f → ((g : ℕ) → f ≡ suc g → P g) → less1 f ⊥ P
  less1-there zero l k = absurd (omega arith)
  less1-there (suc g) l k = k g refl

  pub less3-there : (f : ℕ) → 3 ≤ f → ((g : ℕ) → f ≡ suc (suc (suc g)) → P g) → less3 f ⊥ P
  less3-there zero l k = absurd (omega arith)
  less3-there (suc zero) l k = absurd (omega arith)
  less3-there (suc (suc zero)) l k = absurd (omega arith)
  less3-there (suc (suc (suc g))) l k = k g refl

-- ---- to fit within f labels is to fit with some number of them
exactly : (w : List ℕ) (h f : ℕ) → FitsWithin h f w → ((g : ℕ) × (g ≤ f) × Fits h g w)
exactly [] zero f a = (0, omega arith, tt)
exactly [] (suc h) f a = absurd a
exactly (x ∷ w) zero f a = absurd a
exactly (zero ∷ w) (suc h) f a = exactly w h f a
exactly (suc zero ∷ w) (suc h) f a = let (g, e, b) = less3-taken _ f a in let (m, l, c) = exactly w (suc (suc h)) g b in (suc (suc (suc m)), omega arith, c)
exactly (suc (suc zero) ∷ w) (suc h) f a = let (g, e, b) = less1-taken _ f a in let (m, l, c) = exactly w h g b in (suc m, omega arith, c)
exactly (suc (suc (suc d)) ∷ w) (suc h) f a = let (m, l, c) = exactly w (pre h) f a.1 in (m, l, (a.0, c))

within : (w : List ℕ) (h f m : ℕ) → m ≤ f → Fits h m w → FitsWithin h f w
within [] zero f m l a = tt
within [] (suc h) f m l a = absurd a
within (x ∷ w) zero f m l a = absurd a
within (zero ∷ w) (suc h) f m l a = within w h f m l a
within (suc zero ∷ w) (suc h) f m l a = let (k, e, b) = less3-taken _ m a in less3-there _ f (omega arith) (λ g q. within w (suc (suc h)) g k (omega arith) b)
within (suc (suc zero) ∷ w) (suc h) f m l a = let (k, e, b) = less1-taken _ m a in less1-there _ f (omega arith) (λ g q. within w h g k (omega arith) b)
within (suc (suc (suc d)) ∷ w) (suc h) f m l a = (a.0, within w (pre h) f m l a.1)

pub fits-within : (w : List ℕ) (h f : ℕ) → FitsWithin h f w ↔ ((g : ℕ) × (g ≤ f) × Fits h g w)
fits-within w h f = (exactly w h f, λ s. within w h f s.0 s.1 s.2)

word-exactly : (n : ℕ) (w : List ℕ) → WordWithin n w → ((m : ℕ) × OneTo n m × Word m w)
word-exactly n [] a = absurd a
word-exactly n (zero ∷ w) a = let (g, e, b) = less1-taken _ n a in let (m, l, c) = exactly w 1 g b in (suc m, (omega arith, omega arith), c)
word-exactly n (suc zero ∷ w) a = let (g, e, b) = less3-taken _ n a in let (m, l, c) = exactly w 3 g b in (suc (suc (suc m)), (omega arith, omega arith), c)
word-exactly n (suc (suc x) ∷ w) a = absurd a

word_of : (n m : ℕ) (w : List ℕ) → m ≤ n → Word m w → WordWithin n w
word_of n m [] l a = absurd a
word_of n m (zero ∷ w) l a = let (k, e, b) = less1-taken _ m a in less1-there _ n (omega arith) (λ g q. within w 1 g k (omega arith) b)
word_of n m (suc zero ∷ w) l a = let (k, e, b) = less3-taken _ m a in less3-there _ n (omega arith) (λ g q. within w 3 g k (omega arith) b)
word_of n m (suc (suc x) ∷ w) l a = absurd a

pub within_word : (n : ℕ) (w : List ℕ) → WordWithin n w ↔ ((m : ℕ) × OneTo n m × Word m w)
within_word n w = (word-exactly n w, λ s. word_of n s.0 w s.1.1 s.2)

-- ---- the labels that the items give are those that a word uses up
pub labels-fit : (w : List ℕ) (h f : ℕ) → Fits h f w → items_labels w ≡ f
labels-fit [] zero zero a = refl
labels-fit [] zero (suc f) a = absurd a
labels-fit [] (suc h) f a = absurd a
labels-fit (x ∷ w) zero f a = absurd a
labels-fit (zero ∷ w) (suc h) f a = let i = labels-fit w h f a in omega arith
labels-fit (suc zero ∷ w) (suc h) f a = let (g, e, b) = less3-taken _ f a in let i = labels-fit w (suc (suc h)) g b in omega arith
labels-fit (suc (suc zero) ∷ w) (suc h) f a = let (g, e, b) = less1-taken _ f a in let i = labels-fit w h g b in omega arith
labels-fit (suc (suc (suc d)) ∷ w) (suc h) f a = let i = labels-fit w (pre h) f a.1 in omega arith

pub labels-word : (n : ℕ) (w : List ℕ) → Word n w → labels_of w ≡ n
labels-word n [] a = absurd a
labels-word n (zero ∷ w) a = let (g, e, b) = less1-taken _ n a in let i = labels-fit w 1 g b in omega arith
labels-word n (suc zero ∷ w) a = let (g, e, b) = less3-taken _ n a in let i = labels-fit w 3 g b in omega arith
labels-word n (suc (suc x) ∷ w) a = absurd a

-- ---- an item takes off a pending label or uses up a free one
pub within-length : (w : List ℕ) (h f : ℕ) → FitsWithin h f w → length w ≤ h + f
within-length [] h f a = omega arith
within-length (x ∷ w) zero f a = absurd a
within-length (zero ∷ w) (suc h) f a = let i = within-length w h f a in omega arith
within-length (suc zero ∷ w) (suc h) f a = let (g, e, b) = less3-taken _ f a in let i = within-length w (suc (suc h)) g b in omega arith
within-length (suc (suc zero) ∷ w) (suc h) f a = let (g, e, b) = less1-taken _ f a in let i = within-length w h g b in omega arith
within-length (suc (suc (suc d)) ∷ w) (suc h) f a = let i = within-length w (pre h) f a.1 in let j = pre-le h in omega arith

pub word-within-length : (n : ℕ) (w : List ℕ) → WordWithin n w → length w ≤ suc n
word-within-length n [] a = absurd a
word-within-length n (zero ∷ w) a = let (g, e, b) = less1-taken _ n a in let i = within-length w 1 g b in omega arith
word-within-length n (suc zero ∷ w) a = let (g, e, b) = less3-taken _ n a in let i = within-length w 3 g b in omega arith
word-within-length n (suc (suc x) ∷ w) a = absurd a
