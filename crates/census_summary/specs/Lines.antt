-- The lines of the summary (census_definition, Census) in the pieces that are put one after another.
--
--   line_pieces s n     the line of size n, and the text s behind it
--   lines_pieces s k    those of the sizes 1 to k
use Rattle.std.specs.Prelude.{List, [], ◌∷◌, ◌++◌, ℕ, zero, suc}
use Rattle.words_decimals.specs.Decimals.{decimal}
use Rattle.listing.specs.Listing.{count}
use Rattle.census_definition.specs.Census.{kept_count}

unfoldable pub line_pieces : List ℕ → ℕ → List (List ℕ)
line_pieces s n = decimal n ∷ (32 ∷ []) ∷ decimal (count n) ∷ (32 ∷ []) ∷ decimal (kept_count n) ∷ s ∷ []

unfoldable pub lines_pieces : List ℕ → ℕ → List (List ℕ)
lines_pieces s zero = []
lines_pieces s (suc k) = lines_pieces s k ++ line_pieces s (suc k)
