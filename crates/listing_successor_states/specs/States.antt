-- The states of a word that is read: the stack's height and the labels left, and nothing else.
--
--   StackState                  (declared by the code) how many labels are pending and how many are still free
--   dead_end                     a state that nothing ends: a label is free, and none is pending to reach it from
--   state_after_item h f x        the state after the item x, read at height h with f labels free; the dead end where x cannot be read there
--   state_after_first n x         the state after the first item x of a word of n edges; the dead end where there is none
use Rattle.std.specs.Prelude.{cond, ℕ, zero, suc, ltb}
use Rattle.words.specs.Shape.{pre, less1, less3}
use Rattle.listing_successor_states.specs.declared.StackState.{StackState}

abbrev pub stack_state : ℕ → ℕ → StackState
stack_state h f = record { height = h; free = f }

abbrev pub dead_end : StackState
dead_end = stack_state 0 1

abbrev pub state_after_item : ℕ → ℕ → ℕ → StackState
state_after_item zero f x = dead_end
state_after_item (suc h) f zero = stack_state h f
state_after_item (suc h) f (suc zero) = less3 f dead_end (λ g. stack_state (suc (suc h)) g)
state_after_item (suc h) f (suc (suc zero)) = less1 f dead_end (λ g. stack_state h g)
state_after_item (suc h) f (suc (suc (suc d))) = cond (ltb d h) (stack_state (pre h) f) dead_end

abbrev pub state_after_first : ℕ → ℕ → StackState
state_after_first n zero = less1 n dead_end (λ g. stack_state 1 g)
state_after_first n (suc zero) = less3 n dead_end (λ g. stack_state 3 g)
state_after_first n (suc (suc x)) = dead_end
