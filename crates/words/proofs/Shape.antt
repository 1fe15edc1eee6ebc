-- A word spells a diagram of n edges exactly if its heights and labels say so (`Word`), and then it has at most n + 1 items.
use mathlib.Core.Path.{◌≡◌, refl, ap, ◌∙◌}
use mathlib.Core.Option.{some}
use mathlib.Core.List.{List, [], ◌∷◌, ◌++◌}
use Prim.Native.Nat.{ℕ, zero, suc, ◌+◌, ◌≤◌}
use native.Mathlib.Omega.{arith}
use lib.Dec.{ltb}
use lib.ListN.{length, get_or}
use Rattle.lists.specs.Lists.{put, remove_at}
use Rattle.lists.proofs.Lists.{length-remove_at, length-3, length-1}
use Rattle.lists.proofs.Tests.{lt-true, ltb-true}
use Rattle.words.specs.Shape.{less1, less3, Fits, Word}
use Rattle.words.specs.Word.{Pair, spells, spell, Spells}
use Rattle.words.proofs.Growing.{none≢some, cond-some}

-- a word that spells, as far as the numbers of pending and free labels tell
pub grows : (w st s0 s1 : List ℕ) (D : Pair) → spells w st s0 s1 ≡ some D → length s0 ≤ length D.black
unfolding spells
grows [] [] s0 s1 D e = rw b (omega arith)
  where
    b : D.black ≡ s0
    b = cc
grows [] (k ∷ r) s0 s1 D e = absurd (none≢some D e)
grows (x ∷ w) [] s0 s1 D e = absurd (none≢some D e)
grows (zero ∷ w) (k ∷ r) s0 s1 D e = grows w r s0 s1 D e
grows (suc zero ∷ w) (k ∷ r) s0 s1 D e = let i = rw length-3 at (grows w _ _ _ D e) in omega arith
grows (suc (suc zero) ∷ w) (k ∷ r) s0 s1 D e = let i = rw length-1 at (grows w _ _ _ D e) in omega arith
grows (suc (suc (suc d)) ∷ w) (k ∷ r) s0 s1 D e = grows w (remove_at d r) s0 (put (put s1 k (get_or r d 0)) (get_or r d 0) k) D (cond-some (ltb d (length r)) (spells w (remove_at d r) s0 (put (put s1 k (get_or r d 0)) (get_or r d 0) k)) D e).1

fits : (w st s0 s1 : List ℕ) (D : Pair) (f : ℕ) → spells w st s0 s1 ≡ some D → length D.black ≡ length s0 + f → Fits (length st) f w
unfolding spells
fits [] [] s0 s1 D zero e n = tt
fits [] [] s0 s1 D (suc f) e n = let b : D.black ≡ s0 = cc in let i = ap length b in omega arith
fits [] (k ∷ r) s0 s1 D f e n = absurd (none≢some D e)
fits (x ∷ w) [] s0 s1 D f e n = absurd (none≢some D e)
fits (zero ∷ w) (k ∷ r) s0 s1 D f e n = fits w r s0 s1 D f e n
fits (suc zero ∷ w) (k ∷ r) s0 s1 D f e n = go f n (rw length-3 at (grows w _ _ _ D e)) (λ g q. fits w _ _ _ D g e (rw length-3 q))
  where
    go : (f : ℕ) → length D.black ≡ length s0 + f → suc (suc (suc (length s0))) ≤ length D.black → ((g : ℕ) → length D.black ≡ suc (suc (suc (length s0))) + g → Fits (suc (suc (length r))) g w)
        → less3 f ⊥ (λ g. Fits (suc (suc (length r))) g w)
    go zero n i k = omega arith
    go (suc zero) n i k = omega arith
    go (suc (suc zero)) n i k = omega arith
    go (suc (suc (suc f))) n i k = k f (omega arith)
fits (suc (suc zero) ∷ w) (k ∷ r) s0 s1 D f e n = go f n (rw length-1 at (grows w _ _ _ D e)) (λ g q. fits w _ _ _ D g e (rw length-1 q))
  where
    go : (f : ℕ) → length D.black ≡ length s0 + f → suc (length s0) ≤ length D.black → ((g : ℕ) → length D.black ≡ suc (length s0) + g → Fits (length r) g w) → less1 f ⊥ (λ g. Fits (length r) g w)
    go zero n i k = omega arith
    go (suc f) n i k = k f (omega arith)
fits (suc (suc (suc d)) ∷ w) (k ∷ r) s0 s1 D f e n =
    let q = cond-some (ltb d (length r)) (spells w (remove_at d r) s0 (put (put s1 k (get_or r d 0)) (get_or r d 0) k)) D e in
    let l = ltb-true d (length r) q.0 in
    let z = length-remove_at d r l in
    rw (← z) (omega arith, fits w (remove_at d r) s0 _ D f q.1 n)

-- and back
pub record Spelt (w st s0 s1 : List ℕ) (n : ℕ) : Type 0 where
  pub pair : Pair
  pub spelt : spells w st s0 s1 ≡ some pair
  pub sized : length pair.black ≡ n

accepted : (w st s0 s1 : List ℕ) (f : ℕ) → Fits (length st) f w → Spelt w st s0 s1 (length s0 + f)
unfolding spells
accepted [] [] s0 s1 zero a = record { pair = record { black = s0; white = s1 }; spelt = refl; sized = omega arith }
accepted [] [] s0 s1 (suc f) a = absurd a
accepted [] (k ∷ r) s0 s1 f a = absurd a
accepted (x ∷ w) [] s0 s1 f a = absurd a
accepted (zero ∷ w) (k ∷ r) s0 s1 f a = let b = accepted w r s0 s1 f a in record { pair = b.pair; spelt = b.spelt; sized = b.sized }
accepted (suc zero ∷ w) (k ∷ r) s0 s1 f a = go f a (λ g i. accepted w _ _ _ g i)
  where
    c : ℕ
    c = suc (length s0)

    go : (f : ℕ) → less3 f ⊥ (λ g. Fits (suc (suc (length r))) g w)
        → ((g : ℕ) → Fits (suc (suc (length r))) g w → Spelt w (suc (suc c) ∷ suc c ∷ r) (s0 ++ (suc c ∷ suc (suc c) ∷ c ∷ [])) (put s1 k c ++ (k ∷ suc c ∷ suc (suc c) ∷ [])) (length (s0 ++ (suc c ∷ suc (suc c) ∷ c ∷ [])) + g))
        → Spelt (1 ∷ w) (k ∷ r) s0 s1 (length s0 + f)
    go zero a k = absurd a
    go (suc zero) a k = absurd a
    go (suc (suc zero)) a k = absurd a
    go (suc (suc (suc f))) a k = let b = k f a in record { pair = b.pair; spelt = b.spelt; sized = b.sized ∙ rw length-3 (omega arith) }
accepted (suc (suc zero) ∷ w) (k ∷ r) s0 s1 f a = go f a (λ g i. accepted w _ _ _ g i)
  where
    c : ℕ
    c = suc (length s0)

    go : (f : ℕ) → less1 f ⊥ (λ g. Fits (length r) g w) → ((g : ℕ) → Fits (length r) g w → Spelt w r (s0 ++ (c ∷ [])) (put s1 k c ++ (k ∷ [])) (length (s0 ++ (c ∷ [])) + g)) → Spelt (2 ∷ w) (k ∷ r) s0 s1 (length s0 + f)
    go zero a k = absurd a
    go (suc f) a k = let b = k f a in record { pair = b.pair; spelt = b.spelt; sized = b.sized ∙ rw length-1 (omega arith) }
accepted (suc (suc (suc d)) ∷ w) (k ∷ r) s0 s1 f a =
    let z = length-remove_at d r a.0 in
    let b = accepted w (remove_at d r) s0 (put (put s1 k (get_or r d 0)) (get_or r d 0) k) f (rw (← z) at a.1) in
    record { pair = b.pair; spelt = rw (lt-true d (length r) a.0) b.spelt; sized = b.sized }

pub word-spells : (n : ℕ) (w : List ℕ) → Word n w → Spells n w
unfolding spell
word-spells n [] a = absurd a
word-spells zero (zero ∷ w) a = absurd a
word-spells (suc f) (zero ∷ w) a = let b = accepted w (1 ∷ []) (1 ∷ []) (1 ∷ []) f a in record { pair = b.pair; spelt = b.spelt; sized = b.sized ∙ omega arith }
word-spells zero (suc zero ∷ w) a = absurd a
word-spells (suc zero) (suc zero ∷ w) a = absurd a
word-spells (suc (suc zero)) (suc zero ∷ w) a = absurd a
word-spells (suc (suc (suc f))) (suc zero ∷ w) a = let b = accepted w (3 ∷ 2 ∷ 1 ∷ []) (2 ∷ 3 ∷ 1 ∷ []) (1 ∷ 2 ∷ 3 ∷ []) f a in record { pair = b.pair; spelt = b.spelt; sized = b.sized ∙ omega arith }
word-spells n (suc (suc x) ∷ w) a = absurd a

pub spells-word : (n : ℕ) (w : List ℕ) → Spells n w → Word n w
unfolding spell
spells-word n [] s = none≢some s.pair s.spelt
spells-word zero (zero ∷ w) s = let i = grows w _ _ _ s.pair s.spelt in let j = s.sized in omega arith
spells-word (suc f) (zero ∷ w) s = let j = s.sized in fits w (1 ∷ []) (1 ∷ []) (1 ∷ []) s.pair f s.spelt (omega arith)
spells-word zero (suc zero ∷ w) s = let i = grows w _ _ _ s.pair s.spelt in let j = s.sized in omega arith
spells-word (suc zero) (suc zero ∷ w) s = let i = grows w _ _ _ s.pair s.spelt in let j = s.sized in omega arith
spells-word (suc (suc zero)) (suc zero ∷ w) s = let i = grows w _ _ _ s.pair s.spelt in let j = s.sized in omega arith
spells-word (suc (suc (suc f))) (suc zero ∷ w) s = let j = s.sized in fits w (3 ∷ 2 ∷ 1 ∷ []) (2 ∷ 3 ∷ 1 ∷ []) (1 ∷ 2 ∷ 3 ∷ []) s.pair f s.spelt (omega arith)
spells-word n (suc (suc x) ∷ w) s = none≢some s.pair s.spelt

-- no word of a diagram of n edges is longer than n + 1
fits-length : (w : List ℕ) (h f : ℕ) → Fits h f w → length w ≤ h + f
fits-length [] h f a = omega arith
fits-length (x ∷ w) zero f a = absurd a
fits-length (zero ∷ w) (suc h) f a = let i = fits-length w h f a in omega arith
fits-length (suc zero ∷ w) (suc h) zero a = absurd a
fits-length (suc zero ∷ w) (suc h) (suc zero) a = absurd a
fits-length (suc zero ∷ w) (suc h) (suc (suc zero)) a = absurd a
fits-length (suc zero ∷ w) (suc h) (suc (suc (suc f))) a = let i = fits-length w (suc (suc h)) f a in omega arith
fits-length (suc (suc zero) ∷ w) (suc h) zero a = absurd a
fits-length (suc (suc zero) ∷ w) (suc h) (suc f) a = let i = fits-length w h f a in omega arith
fits-length (suc (suc (suc d)) ∷ w) (suc zero) f a = let i = a.0 in absurd (omega arith)
fits-length (suc (suc (suc d)) ∷ w) (suc (suc h)) f a = let i = fits-length w h f a.1 in omega arith

pub word_length : (n : ℕ) (w : List ℕ) → Word n w → length w ≤ suc n
word_length n [] a = absurd a
word_length zero (zero ∷ w) a = absurd a
word_length (suc f) (zero ∷ w) a = let i = fits-length w 1 f a in omega arith
word_length zero (suc zero ∷ w) a = absurd a
word_length (suc zero) (suc zero ∷ w) a = absurd a
word_length (suc (suc zero)) (suc zero ∷ w) a = absurd a
word_length (suc (suc (suc f))) (suc zero ∷ w) a = let i = fits-length w 3 f a in omega arith
word_length n (suc (suc x) ∷ w) a = absurd a
