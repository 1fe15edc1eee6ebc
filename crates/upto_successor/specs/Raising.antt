-- Which item of a word is raised to give the word that follows in the single list.
--
--   RaisesWithin h f w ..    raising an item of w gives what follows w: at a place, to an event, after which that many labels are pending; event 0
--                            where w is the last. The place, the event and those labels take no more room than the labels at hand
use Rattle.std.specs.Prelude.{◌≡◌, ◌≢◌, List, [], ◌∷◌, ◌++◌, ℕ, ◌+◌, ◌≤◌, ◌<◌, length, take, replicate}
use Rattle.upto_words.specs.Successor.{next_within, next_shared}

pub record RaisesWithin (h f : ℕ) (w : List ℕ) (place event pending : ℕ) : Type 0 where
  pub none : event ≡ 0 → next_within h f w ≡ []
  pub some : event ≢ 0 → next_within h f w ≡ take place w ++ (event ∷ replicate pending 0)
  pub shared : next_shared h f w ≡ place
  pub within : event ≢ 0 → place < length w
  pub room : event ≢ 0 → place + 1 + pending ≤ h + f
