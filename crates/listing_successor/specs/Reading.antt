-- What the steps of a search promise one another: how a word is read backwards, and which of its items is raised.
--
--   ReadsTo h f x h' f'    the item x, read at height h with f labels free, leads to the state h', f', from which the word ends
--   Raises h f w ..        raising an item of w gives what follows w: at a place, to an event, which leads to a state; event 0 where w is the last
use Rattle.std.specs.Prelude.{◌≡◌, ◌≢◌, true, List, [], ◌∷◌, ◌++◌, ℕ, ◌+◌, ◌≤◌, ◌<◌, length, take}
use Rattle.listing_successor.specs.Successor.{stack_state, state_after_item, can_end, least_ending, next_ending}

pub record ReadsTo (h f x h' f' : ℕ) : Type 0 where
  pub leads_to : state_after_item h f x ≡ stack_state h' f'
  pub ended : can_end h' f' ≡ true

pub record Raises (h f : ℕ) (w : List ℕ) (place event h' f' : ℕ) : Type 0 where
  pub none : event ≡ 0 → next_ending h f w ≡ []
  pub some : event ≢ 0 → next_ending h f w ≡ take place w ++ (event ∷ least_ending h' f')
  pub within : event ≢ 0 → place < length w
  pub ended : event ≢ 0 → can_end h' f' ≡ true
  pub small : h' + f' ≤ 50
