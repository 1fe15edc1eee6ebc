-- The walk agrees with the run: the numbers it writes are the words at positions 1, 2, .., count n, one after another. What stands up to a position
-- is a beginning of the listing.
use mathlib.Core.Path.{◌≡◌, refl, sym, ap, ◌∙◌}
use mathlib.Core.List.{List, [], ◌∷◌, ◌++◌}
use Prim.Native.Nat.{ℕ, zero, suc, ◌≤◌}
use native.Mathlib.Omega.{arith}
use lib.ListN.{length, take}
use lib.Seq.{take-suc, take_all}
use Rattle.listing.specs.Listing.{listing, count}
use Rattle.listing.specs.Position.{word_at}
use Rattle.listing_plain_walk.specs.Promises.{concatenated}

-- the words at positions 1, 2, .., p of size n
abbrev pub words_to : ℕ → ℕ → List (List ℕ)
words_to n zero = []
words_to n (suc p) = words_to n p ++ (word_at n (suc p) ∷ [])

words-to-take : (n p : ℕ) → p ≤ length (listing n) → words_to n p ≡ take p (listing n)
unfolding word_at
words-to-take n zero l = refl
words-to-take n (suc p) l = rw (words-to-take n p (omega arith)) (sym (take-suc (listing n) p [] l))

pub walk-agrees : (n : ℕ) → concatenated (listing n) ≡ concatenated (words_to n (count n))
unfolding count
walk-agrees n = ap concatenated (sym (words-to-take n (length (listing n)) (omega arith) ∙ take_all (length (listing n)) (listing n) (omega arith)))
