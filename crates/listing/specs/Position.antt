-- Positions (document 01): the place of a word in dictionary order among the words of its size, from 1. In the field's terms the position
-- is the rank of the word, and the word at a position comes of unranking.
--
--   word_at n p      the word at position p of size n; [] where there is none
--   place w ws      how many words of the list ws stand before the first w
--   position n w    the position of the word w
use Rattle.std.specs.Prelude.{cond, ℕ, zero, suc, List, [], ◌∷◌, get_or}
use Rattle.words.specs.Order.{same}
use Rattle.listing.specs.Listing.{listing}

abbrev pub nth : List (List ℕ) → ℕ → List ℕ
nth ws zero = []
nth ws (suc i) = get_or ws i []

unfoldable pub word_at : ℕ → ℕ → List ℕ
word_at n p = nth (listing n) p

abbrev pub place : List ℕ → List (List ℕ) → ℕ
place w [] = 0
place w (v ∷ ws) = cond (same w v) 0 (suc (place w ws))

unfoldable pub position : ℕ → List ℕ → ℕ
position n w = suc (place w (listing n))
