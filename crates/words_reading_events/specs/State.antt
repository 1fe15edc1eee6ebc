-- How the code of read word holds the state of `items` in its arrays. Only the contracts of the functions below read word cite this.
--
--   State                    the pending labels, the top first, and the two lists of the labels given so far
--   after_u, after_t           the states after the first item: U, T
--   read_on w t               what the items w give from the state t
--   ReadingHeld ..           the arrays hold the state: the ring its stack, the first places of x0 and x1 its lists
--   ReadingAfter q w r ..    where reading stands after the answer r: q, the answer to the whole word, is that refusal, or else
--                            it is what the items w, which are still to be read, give from a state that the arrays hold
--   three_black x u           the array x with three labels more after the first u, on a black vertex
--   three_white x k u         the same of the white partners: the first of the three is that of k, the others are their own for now
use Rattle.std.specs.Prelude.{◌≡◌, List, [], ◌∷◌, ℕ, ◌+◌, ◌≤◌, length, set, take, Result, Ok, Err}
use Rattle.lists.specs.Lists.{All, put}
use Rattle.pending_ring.specs.Ring.{Ring}
use Rattle.refusals.specs.declared.Refusal.{Refusal}
use Rattle.refusals.specs.Numbers.{number}
use Rattle.words_reading_events.specs.Items.{Read, refused, items}
use Rattle.words_reading_events.specs.declared.LabelCounts.{LabelCounts}

pub record State : Type 0 where
  pub stack : List ℕ
  pub black : List ℕ
  pub white : List ℕ

abbrev pub after_u : State
after_u = record { stack = 1 ∷ []; black = 1 ∷ []; white = 1 ∷ [] }

abbrev pub after_t : State
after_t = record { stack = 3 ∷ 2 ∷ 1 ∷ []; black = 2 ∷ 3 ∷ 1 ∷ []; white = 1 ∷ 2 ∷ 3 ∷ [] }

abbrev pub read_on : List ℕ → State → Read
read_on w t = items w t.stack t.black t.white

pub record ReadingHeld (nx pv x0 x1 : List ℕ) (used height : ℕ) (t : State) : Type 0 where
  pub ring : Ring nx pv t.stack
  -- a pending label is one of those given
  pub given : All (λ l. l ≤ used) t.stack
  pub room : used ≤ 1024
  pub high : height ≡ length t.stack
  pub black_long : length x0 ≡ 1024
  pub white_long : length x1 ≡ 1024
  pub blacks : t.black ≡ take used x0
  pub whites : t.white ≡ take used x1

abbrev pub ReadingAfter : Read → List ℕ → Result LabelCounts Refusal → List ℕ → List ℕ → List ℕ → List ℕ → Type 0
ReadingAfter q w (Ok m) nx pv x0 x1 = (t : State) × ReadingHeld nx pv x0 x1 m.used m.height t × (q ≡ read_on w t)
ReadingAfter q w (Err e) nx pv x0 x1 = q ≡ refused (number e)

abbrev pub three_black : List ℕ → ℕ → List ℕ
three_black x u = set (set (set x u (u + 2)) (u + 1) (u + 3)) (u + 2) (u + 1)

abbrev pub three_white : List ℕ → ℕ → ℕ → List ℕ
three_white x k u = set (set (put (put x k (u + 1)) (u + 1) k) (u + 1) (u + 2)) (u + 2) (u + 3)
