-- The pending edges as a doubly linked ring with the sentinel 0: two arrays of 1,025 links.
-- The stack of pending labels, its top first, is an ordinary list; the arrays hold it.
--
--   Linked nx pv a s b   the links lead from a through the list s to b, and back
--   Ring nx pv s         the arrays hold the stack s: linked from the sentinel round to the sentinel, labels 1 to 1,024, none twice
use Rattle.std.specs.Prelude.{◌≡◌, List, [], ◌∷◌, ℕ, ◌<◌, length, get_or}
use Rattle.lists.specs.Lists.{All, Distinct}

abbrev pub Linked : List ℕ → List ℕ → ℕ → List ℕ → ℕ → Type 0
Linked nx pv a [] b = (get_or nx a 0 ≡ b) × (get_or pv b 0 ≡ a)
Linked nx pv a (x ∷ s) b = ((get_or nx a 0 ≡ x) × (get_or pv x 0 ≡ a)) × Linked nx pv x s b

-- that no label is the sentinel is part of `once`
pub record Ring (nx pv s : List ℕ) : Type 0 where
  pub next_long : length nx ≡ 1025
  pub prev_long : length pv ≡ 1025
  pub small : All (λ x. x < 1025) s
  pub once : Distinct (0 ∷ s)
  pub links : Linked nx pv 0 s 0
