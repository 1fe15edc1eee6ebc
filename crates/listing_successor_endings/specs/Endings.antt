-- The least way to end a word from a state, and a word as the code holds it.
--
--   least_ending h f             the least way to end, where there is one
--   padded_word w                a word in the first places of 51, with zeros after it
--   shared_word k w              the same with its length, and with how many items the word before it begins with too
use Rattle.std.specs.Prelude.{List, [], ◌∷◌, ◌++◌, ℕ, zero, suc, ◌+◌, ◌-◌, length, replicate}
use Rattle.listing_successor_states.specs.States.{state_after_item}
use Rattle.listing_successor_events.specs.Events.{least_event}
use Rattle.listing_successor_endings.specs.declared.Next.{Next}

-- m bounds its length; h + f is enough
unfoldable pub least_ending_in : ℕ → ℕ → ℕ → List ℕ
least_ending_in zero h f = []
least_ending_in (suc m) zero f = []
least_ending_in (suc m) (suc h) f = let l = state_after_item (suc h) f (least_event (suc h) f) in least_event (suc h) f ∷ least_ending_in m l.height l.free

unfoldable pub least_ending : ℕ → ℕ → List ℕ
least_ending h f = least_ending_in (h + f) h f

abbrev pub padded_word : List ℕ → List ℕ
padded_word w = w ++ replicate (51 - length w) 0

abbrev pub shared_word : ℕ → List ℕ → Next
shared_word k w = record { shared = k; length = length w; items = padded_word w }
