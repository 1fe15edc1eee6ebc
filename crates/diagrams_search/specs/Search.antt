-- How check tests that a diagram is connected: the edges reached from edge 1 stand in a list, in the order in which they were
-- reached, and each has its mark.
--
--   added x l                 l with x at its end, unless x stands in l already
--   Search marks list count   the first count places of list hold the edges reached so far, each once; a reached edge's mark is 1,
--                             every other is 0; there is a mark for each edge, and on the list room for one more than all of them
use Rattle.std.specs.Prelude.{◌≡◌, cond, List, [], ◌∷◌, ◌++◌, ℕ, ◌≤◌, ◌<◌, length, take}
use Rattle.lists.specs.Lists.{at, Has, has, Distinct}
use Rattle.lists.specs.Ranges.{OneTo}

abbrev pub added : ℕ → List ℕ → List ℕ
added x l = cond (has x l) l (l ++ (x ∷ []))

pub record Search (marks list : List ℕ) (count : ℕ) : Type 0 where
  pub room : length marks < length list
  pub count_fits : count ≤ length marks
  pub edges : (x : ℕ) → Has x (take count list) → OneTo (length marks) x
  pub distinct : Distinct (take count list)
  pub reached : (x : ℕ) → Has x (take count list) → at marks x ≡ 1
  pub other : (x : ℕ) → ¬ Has x (take count list) → at marks x ≡ 0
