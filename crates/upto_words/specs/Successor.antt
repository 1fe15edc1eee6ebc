-- The word that follows a word in the single list (request U1), found from the stack's height and the labels left alone. Every beginning can be
-- ended there, by W for each pending label, and that is the least way to end it.
--
--   above h f x              the least event above x that can be read where, the top being popped, h labels are pending and f are free; 0 where there is none
--   ended_by_w e l             the event e, and then W for each label that is pending after it; [] where e is 0
--   next_within h f w         the way to go on that follows w, at height h with at most f labels; [] where w is the last
--   next_shared h f w         how many items w and that way to go on both begin with: the place of the item that is raised; 0 where w is the last
--   following n w            the word that follows w in the single list of bound n: the first after [], and [] after the last
--   following_shared n w      how many items w and that word both begin with
-- That they do what they say is proofs/Follows.antt.
use Rattle.std.specs.Prelude.{cond, List, [], ◌∷◌, ℕ, zero, suc, ltb, replicate}
use Rattle.words.specs.Shape.{pre, less1, less3}
use Rattle.listing_successor_states.specs.declared.StackState.{StackState}
use Rattle.listing_successor_states.specs.States.{state_after_item, state_after_first}
use Rattle.listing_successor.specs.Successor.{keep_or, first_above}

abbrev pub above : ℕ → ℕ → ℕ → ℕ
-- after W: F where three labels are free, else B where one is, else J0 where another label is pending
above h f zero = less3 f (less1 f (less1 h 0 (λ g. 3)) (λ g. 2)) (λ g. 1)
-- after F: B, since a label was free for F
above h f (suc zero) = 2
above h f (suc (suc zero)) = less1 h 0 (λ g. 3)
above h f (suc (suc (suc d))) = cond (ltb (suc d) h) (suc (suc (suc (suc d)))) 0

abbrev pub ended_by_w : ℕ → StackState → List ℕ
ended_by_w zero l = []
ended_by_w (suc e) l = suc e ∷ replicate l.height 0

-- the place counted from one item earlier, where there is a way to go on to count it in
abbrev pub place_after : List ℕ → ℕ → ℕ
place_after [] k = 0
place_after (y ∷ v) k = suc k

unfoldable pub next_within : ℕ → ℕ → List ℕ → List ℕ
next_within h f [] = []
next_within h f (x ∷ w) =
    let l = state_after_item h f x in
    keep_or x (next_within l.height l.free w) (ended_by_w (above (pre h) f x) (state_after_item h f (above (pre h) f x)))

unfoldable pub next_shared : ℕ → ℕ → List ℕ → ℕ
next_shared h f [] = 0
next_shared h f (x ∷ w) =
    let l = state_after_item h f x in
    place_after (next_within l.height l.free w) (next_shared l.height l.free w)

unfoldable pub following : ℕ → List ℕ → List ℕ
following n [] = 0 ∷ 0 ∷ []
following n (x ∷ w) =
    let l = state_after_first n x in
    keep_or x (next_within l.height l.free w) (ended_by_w (first_above n x) (state_after_first n (first_above n x)))

unfoldable pub following_shared : ℕ → List ℕ → ℕ
following_shared n [] = 0
following_shared n (x ∷ w) =
    let l = state_after_first n x in
    place_after (next_within l.height l.free w) (next_shared l.height l.free w)
