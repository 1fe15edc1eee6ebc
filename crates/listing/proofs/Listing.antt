-- The listing of a size holds exactly its words, in strictly increasing dictionary order, and its length is the count by the table's rule.
use mathlib.Core.Path.{◌≡◌, ◌∙◌}
use mathlib.Core.List.Memᴰ
use mathlib.Core.List.{List, [], ◌∷◌, append-nil, Memᴰ}
use Prim.Native.Nat.{ℕ, zero, suc, ◌+◌}
use native.Mathlib.Omega.{arith}
use lib.ListN.{length, length-append}
use Rattle.lists.specs.Lists.{All}
use Rattle.lists.proofs.Lists.{all_append}
use Rattle.words.specs.Shape.{less1, less3, Word}
use Rattle.listing.specs.Listing.{prefix_each, completions, listing, ways_in, ways, Sorted}
use Rattle.listing.proofs.Completions.{all-each, completions-fit, mem-each, complete, from_each, sorted-each, sorted-less1, sorted-less3, sorted, length-each, length-less1, length-less3, length-completions, less1-same, less3-same, ways-by}

u-part : (n : ℕ) → All (λ w. Word n (0 ∷ w)) (less1 n [] (λ f. completions n 1 f))
u-part zero = tt
u-part (suc f) = completions-fit (suc f) 1 f

t-part : (n : ℕ) → All (λ w. Word n (1 ∷ w)) (less3 n [] (λ f. completions n 3 f))
t-part zero = tt
t-part (suc zero) = tt
t-part (suc (suc zero)) = tt
t-part (suc (suc (suc f))) = completions-fit (suc (suc (suc f))) 3 f

pub listing-words : (n : ℕ) → All (Word n) (listing n)
unfolding listing
listing-words n = all_append (Word n) (prefix_each 0 (less1 n [] (λ f. completions n 1 f))) (prefix_each 1 (less3 n [] (λ f. completions n 3 f))) (all-each (Word n) 0 (less1 n [] (λ f. completions n 1 f)) (u-part n)) (all-each (Word n) 1 (less3 n [] (λ f. completions n 3 f)) (t-part n))

pub listing-complete : (n : ℕ) (w : List ℕ) → Word n w → Memᴰ w (listing n)
unfolding listing
listing-complete n [] a = absurd a
listing-complete zero (zero ∷ w) a = absurd a
listing-complete (suc f) (zero ∷ w) a = Memᴰ.append_left _ (mem-each 0 (complete (suc f) 1 f w (omega arith) a))
listing-complete zero (suc zero ∷ w) a = absurd a
listing-complete (suc zero) (suc zero ∷ w) a = absurd a
listing-complete (suc (suc zero)) (suc zero ∷ w) a = absurd a
listing-complete (suc (suc (suc f))) (suc zero ∷ w) a = Memᴰ.append_right (prefix_each 0 (completions (suc (suc (suc f))) 1 (suc (suc f)))) (mem-each 1 (complete (suc (suc (suc f))) 3 f w (omega arith) a))
listing-complete n (suc (suc x) ∷ w) a = absurd a

pub listing-sorted : (n : ℕ) → Sorted (listing n)
unfolding listing
listing-sorted n = sorted-each 0 us (prefix_each 1 ts) (sorted-less1 n (λ f. completions n 1 f) (λ f. sorted n 1 f)) (rw append-nil at (sorted-each 1 ts [] (sorted-less3 n (λ f. completions n 3 f) (λ f. sorted n 3 f)) tt tt)) (from_each 1 1 ts (omega arith))
  where
    us : List (List ℕ)
    us = less1 n [] (λ f. completions n 1 f)

    ts : List (List ℕ)
    ts = less3 n [] (λ f. completions n 3 f)

pub length-listing : (n : ℕ) → length (listing n) ≡ less1 n 0 (λ f. ways_in n 1 f) + less3 n 0 (λ f. ways_in n 3 f)
unfolding listing
length-listing n = simp (length-append, length-each, length-less1 n (λ f. completions n 1 f) (λ f. ways_in n 1 f) (λ f. length-completions n 1 f), length-less3 n (λ f. completions n 3 f) (λ f. ways_in n 3 f) (λ f. length-completions n 3 f))

-- the same by the numbers of ways
pub counted : (n : ℕ) → length (listing n) ≡ less1 n 0 (λ f. ways 1 f) + less3 n 0 (λ f. ways 3 f)
counted n = length-listing n ∙ both _ _ _ _ (less1-same n 0 _ _ (λ g q. ways-by n 1 g (omega arith))) (less3-same n 0 _ _ (λ g q. ways-by n 3 g (omega arith)))
  where
    both : (a a' b b' : ℕ) → a ≡ a' → b ≡ b' → a + b ≡ a' + b'
    both a a' b b' p q = cc
