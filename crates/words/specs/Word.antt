-- Words and the diagram that a word spells. A word is a list of numbers: first U = 0 or T = 1,
-- then the events W = 0, F = 1, B = 2 and Jd = 3 + d. In the field's terms a diagram with its root is a rooted map, and its word the
-- canonical word, or code, of that map.
--
--   Pair                          a diagram as its two lists, black (s0) and white (s1); its root is edge 1
--   spells items pending s0 s1    what the items spell from here on: `pending` is the stack of pending labels, its top first;
--                                 s0 and s1 are the lists of the labels given so far, so the next free label is one more than
--                                 their length. A pending label stands in s1 as its own partner until an event joins it to another.
--   spell w                       the diagram that the word w spells; none where it spells none
--   Spells n w                    w spells a diagram of n edges
use Rattle.std.specs.Prelude.{◌≡◌, cond, List, [], ◌∷◌, ◌++◌, ℕ, zero, suc, ltb, length, get_or}
use Rattle.std.proofs.Math.Option.{Option, none, some}
use Rattle.lists.specs.Lists.{put, remove_at}

pub record Pair : Type 0 where
  pub black : List ℕ
  pub white : List ℕ

unfoldable pub spells : List ℕ → List ℕ → List ℕ → List ℕ → Option Pair
-- the items end: a diagram exactly if nothing is pending
spells [] [] s0 s1 = some record { black = s0; white = s1 }
spells [] (k ∷ r) s0 s1 = none
spells (x ∷ w) [] s0 s1 = none
-- W: k is its own white partner
spells (zero ∷ w) (k ∷ r) s0 s1 = spells w r s0 s1
-- F: k's partner is the next free label c, on a black vertex c, c + 1, c + 2; the last two are pushed
spells (suc zero ∷ w) (k ∷ r) s0 s1 =
    let c = suc (length s0) in
    spells w (suc (suc c) ∷ suc c ∷ r) (s0 ++ (suc c ∷ suc (suc c) ∷ c ∷ [])) (put s1 k c ++ (k ∷ suc c ∷ suc (suc c) ∷ []))
-- B: k's partner is the next free label c, alone on its black vertex
spells (suc (suc zero) ∷ w) (k ∷ r) s0 s1 =
    let c = suc (length s0) in
    spells w r (s0 ++ (c ∷ [])) (put s1 k c ++ (k ∷ []))
-- Jd: k's partner is the pending label d places below the top, k being popped already; it is taken out of the stack
spells (suc (suc (suc d)) ∷ w) (k ∷ r) s0 s1 =
    let p = get_or r d 0 in
    let q = spells w (remove_at d r) s0 (put (put s1 k p) p k) in
    cond (ltb d (length r)) q none

unfoldable pub spell : List ℕ → Option Pair
spell [] = none
-- U: the root is alone on its black vertex
spell (zero ∷ w) = spells w (1 ∷ []) (1 ∷ []) (1 ∷ [])
-- T: the root's black vertex is 1, 2, 3
spell (suc zero ∷ w) = spells w (3 ∷ 2 ∷ 1 ∷ []) (2 ∷ 3 ∷ 1 ∷ []) (1 ∷ 2 ∷ 3 ∷ [])
spell (suc (suc x) ∷ w) = none

pub record Spells (n : ℕ) (w : List ℕ) : Type 0 where
  pub pair : Pair
  pub spelt : spell w ≡ some pair
  pub sized : length pair.black ≡ n
