-- The word that follows a word in dictionary order among the words of its size (document 01, "Run" and the last of "Traps of this
-- trade"), found from the stack's height and the labels left alone. The states, the events that lead to an end and the least endings are
-- passed on from `listing_successor_states`, `listing_successor_events` and `listing_successor_endings`.
--
--   next_ending h f w            the way to end that follows w; [] where w is the last
--   first_word n                 the first word of size n
--   successor n w               the word that follows w among the words of size n: the first after [], and [] after the last
--   word_as_held w                  a word in the first places of 51, with zeros after it, and its length
-- That these do what they say is `completions-some`, `completions-none`, `next-at` and `following-at` of proofs/Places.antt.
use Rattle.std.specs.Prelude.{cond, List, [], ◌∷◌, ℕ, zero, suc, length}
use Rattle.words.specs.Shape.{less3}
use Rattle.listing_successor_states.specs.declared.StackState.{StackState}
use Rattle.listing_successor.specs.declared.Held.{Held}
pub use Rattle.listing_successor_states.specs.States.{stack_state, dead_end, state_after_item, state_after_first}
pub use Rattle.listing_successor_events.specs.Events.{can_end, join_above, allowed_above}
unfoldable pub use Rattle.listing_successor_events.specs.Events.{can_end_after, least_above, least_event}
pub use Rattle.listing_successor_endings.specs.Endings.{padded_word, shared_word}
unfoldable pub use Rattle.listing_successor_endings.specs.Endings.{least_ending}

-- the event e and the least way to end after it; [] where e is 0
abbrev pub raised_to : ℕ → StackState → List ℕ
raised_to zero l = []
raised_to (suc e) l = suc e ∷ least_ending l.height l.free

-- what follows x and more: x and what follows that, where there is such; else r
abbrev pub keep_or : ℕ → List ℕ → List ℕ → List ℕ
keep_or x [] r = r
keep_or x (y ∷ v) r = x ∷ y ∷ v

unfoldable pub next_ending : ℕ → ℕ → List ℕ → List ℕ
next_ending h f [] = []
next_ending h f (x ∷ w) = let l = state_after_item h f x in keep_or x (next_ending l.height l.free w) (raised_to (least_above h f x) (state_after_item h f (least_above h f x)))

unfoldable pub first_word : ℕ → List ℕ
first_word n =
    let u = state_after_first n 0 in
    let t = state_after_first n 1 in
    cond (can_end u.height u.free) (0 ∷ least_ending u.height u.free) (1 ∷ least_ending t.height t.free)

-- T follows U as a first item, where three labels can be had
abbrev pub first_above : ℕ → ℕ → ℕ
first_above n zero = less3 n 0 (λ g. 1)
first_above n (suc x) = 0

-- the least word whose first item is above x; [] where there is none
abbrev pub root_raised : ℕ → ℕ → List ℕ
root_raised n x = raised_to (first_above n x) (state_after_first n (first_above n x))

unfoldable pub successor : ℕ → List ℕ → List ℕ
successor n [] = first_word n
successor n (x ∷ w) = let l = state_after_first n x in keep_or x (next_ending l.height l.free w) (root_raised n x)

abbrev pub word_as_held : List ℕ → Held
word_as_held w = record { length = length w; items = padded_word w }
