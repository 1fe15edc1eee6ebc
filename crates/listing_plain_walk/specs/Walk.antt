-- What the two routines of the plain walk ask and do. Only the height of the stack and the number of labels left count (Shape in crate words).
--
--   concatenated_behind p ws    the words ws one after another, each behind p
--   WalkRoom ..                what a routine asks
--   WalkAdded ..               what a routine leaves
-- and from listing_plain_walk_events: all_completions, completions_after, LeadsTo.
use Rattle.std.specs.Prelude.{◌≡◌, List, [], ◌∷◌, ◌++◌, ℕ, ◌+◌, ◌*◌, ◌≤◌, length, take}
use Rattle.lists.specs.Overwriting.{overwrite_from}
unfoldable pub use Rattle.listing_plain_walk_events.specs.Events.{all_completions, completions_after}
pub use Rattle.listing_plain_walk_events.specs.Events.{LeadsTo}

unfoldable pub concatenated_behind : List ℕ → List (List ℕ) → List ℕ
concatenated_behind p [] = []
concatenated_behind p (w ∷ ws) = (p ++ w) ++ concatenated_behind p ws

-- A routine asks for places in the word for the items to come, and for room in the list, from place i on, for what it writes.
pub record WalkRoom (out : List ℕ) (i : ℕ) (word : List ℕ) (len h f : ℕ) : Type 0 where
  pub places : len + (2 * h + f) ≤ length word
  pub short : length word ≤ 16
  pub room : i + length (concatenated_behind (take len word) (all_completions h f)) ≤ length out

-- It leaves, from place i up to place j, the ways to go on behind the first len items of the word; and these items.
pub record WalkAdded (out : List ℕ) (i : ℕ) (word : List ℕ) (len h f : ℕ) (out' word' : List ℕ) (j : ℕ) : Type 0 where
  pub up_to : j ≡ i + length (concatenated_behind (take len word) (all_completions h f))
  pub written : out' ≡ overwrite_from i (concatenated_behind (take len word) (all_completions h f)) out
  pub word_same : take len word' ≡ take len word
