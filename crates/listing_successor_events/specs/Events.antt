-- Which events lead on from a state to the end of a word.
--
--   can_end h f                  some items empty a stack of height h just as they use up f labels
--   can_end_after h f x           the item x can be read there, and some items end the word after it
--   least_above h f x            the least event above x that leads to an end; 0 where there is none
--   least_event h f              the least event of all that leads to an end
use Rattle.std.specs.Prelude.{Bool, true, false, cond, ℕ, zero, suc, ◌+◌, ltb}
use Rattle.listing_successor_states.specs.States.{state_after_item}

-- apart from an emptied stack, one pending label with two labels left is the only dead end
abbrev pub can_end : ℕ → ℕ → Bool
can_end zero zero = true
can_end zero (suc f) = false
can_end (suc zero) zero = true
can_end (suc zero) (suc zero) = true
can_end (suc zero) (suc (suc zero)) = false
can_end (suc zero) (suc (suc (suc f))) = true
can_end (suc (suc h)) f = true

unfoldable pub can_end_after : ℕ → ℕ → ℕ → Bool
can_end_after h f x = let l = state_after_item h f x in can_end l.height l.free

-- F or B where it lies above x, else the first J above x: all J lead to the same state
abbrev pub join_above : ℕ → ℕ
join_above x = cond (ltb x 3) 3 (x + 1)

abbrev pub allowed_above : ℕ → ℕ → ℕ → ℕ → Bool
allowed_above h f x e = cond (ltb x e) (can_end_after h f e) false

unfoldable pub least_above : ℕ → ℕ → ℕ → ℕ
least_above h f x = cond (allowed_above h f x 1) 1 (cond (allowed_above h f x 2) 2 (cond (can_end_after h f (join_above x)) (join_above x) 0))

unfoldable pub least_event : ℕ → ℕ → ℕ
least_event h f = cond (can_end_after h f 0) 0 (least_above h f 0)
