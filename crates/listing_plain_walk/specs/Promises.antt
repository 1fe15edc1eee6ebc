-- What the plain walk, a backtracking enumeration, promises: 35 for a size outside 1..9; 9 for a list of fewer than 1,024 numbers;
-- otherwise all words of the size one after another, in the order of the listing, and how many numbers that is.
--
--   concatenated ws    the words ws one after another
use Rattle.std.specs.Prelude.{◌≡◌, ◌⊎◌, List, [], ◌∷◌, ◌++◌, ℕ, ◌<◌, length, Result, Ok, Err}
use Rattle.lists.specs.Ranges.{OneTo}
use Rattle.words.specs.Outputs.{overwrite}
use Rattle.listing.specs.Listing.{listing}
use Rattle.refusals.specs.declared.Refusal.{Refusal}
use Rattle.refusals.specs.Numbers.{number}
use Rattle.listing_plain_walk.specs.Answers.{walk_count}

abbrev pub concatenated : List (List ℕ) → List ℕ
concatenated [] = []
concatenated (w ∷ ws) = w ++ concatenated ws

abbrev pub PlainWalkPromise : ℕ → List ℕ → List ℕ → Result ℕ Refusal → Type 0
PlainWalkPromise n a b (Ok m) = OneTo 9 n × (1023 < length a) × (walk_count (Ok m) 0 ≡ length (concatenated (listing n))) × (b ≡ overwrite (concatenated (listing n)) a)
PlainWalkPromise n a b (Err e) =
    (((number e ≡ 35) × (¬ OneTo 9 n)) ⊎ ((number e ≡ 9) × OneTo 9 n × (length a < 1024))) × (b ≡ a)
