-- Words that stand in the first places of a list of items while the scratch lists hold their diagrams (`SpelledSoFar`).
--
--   PartDrawn n v items i ..        the first i items of v, a word of n edges, stand in `items` and are drawn
--   EventNext n v items i e ..      they are, and the item e comes next
--   EndsLeast v i e h f             after its item e at i, read at height h with f labels free, v ends in the least way
--   Drawn n v length items ..       the whole of v stands in `items`, and is drawn where it is not empty
--   WordHeld n w ..                 w is empty, or is a word of n edges that is drawn
--   TakenBack n w place e ..        the events of w are taken back to the last item that can be raised, at `place` to e; e is 0 where only the first can
use Rattle.std.specs.Prelude.{◌≡◌, ◌≢◌, ◌⊎◌, List, [], ◌∷◌, ◌++◌, ℕ, suc, ◌-◌, ◌≤◌, ◌<◌, length, get_or, take, drop}
use Rattle.words.specs.Shape.{Word}
use Rattle.words_respelling.specs.SpelledSoFar.{ScratchLengths, SpelledSoFar}
use Rattle.listing_successor.specs.Successor.{state_after_item, least_ending, root_raised, successor}

pub record PartDrawn (n : ℕ) (v items : List ℕ) (i : ℕ) (stack popped s0 s1 : List ℕ) (used height : ℕ) : Type 0 where
  pub small : n ≤ 50
  pub word : Word n v
  pub started : 1 ≤ i
  pub within : i ≤ length v
  pub long : length items ≡ 51
  pub begun : take i items ≡ take i v
  pub spelled : SpelledSoFar (take i v) stack popped s0 s1 used height

pub record EventNext (n : ℕ) (v items : List ℕ) (i e : ℕ) (stack popped s0 s1 : List ℕ) (used height : ℕ) : Type 0 where
  pub part : PartDrawn n v items i stack popped s0 s1 used height
  pub more : i < length v
  pub event_is : e ≡ get_or v i 0

abbrev pub EndsLeast : List ℕ → ℕ → ℕ → ℕ → ℕ → Type 0
EndsLeast v i e h f = let l = state_after_item h f e in drop (suc i) v ≡ least_ending l.height l.free

pub record Drawn (n : ℕ) (v : List ℕ) (len : ℕ) (items stack popped s0 s1 : List ℕ) : Type 0 where
  pub long : length items ≡ 51
  pub length_is : len ≡ length v
  pub items_are : take len items ≡ v
  pub spelled : v ≢ [] → SpelledSoFar v stack popped s0 s1 n 0

pub record WordHeld (n : ℕ) (w stack popped s0 s1 : List ℕ) : Type 0 where
  pub long : ScratchLengths stack popped s0 s1
  pub held : (w ≡ []) ⊎ (Word n w × SpelledSoFar w stack popped s0 s1 n 0)

pub record TakenBack (n : ℕ) (w : List ℕ) (place e : ℕ) (stack popped s0 s1 : List ℕ) (used height : ℕ) : Type 0 where
  pub long : ScratchLengths stack popped s0 s1
  pub none : e ≡ 0 → successor n w ≡ root_raised n (get_or w 0 0)
  pub started : e ≢ 0 → 1 ≤ place
  pub within : e ≢ 0 → place < length w
  pub some : e ≢ 0 → let l = state_after_item height (n - used) e in successor n w ≡ take place w ++ (e ∷ least_ending l.height l.free)
  pub spelled : e ≢ 0 → SpelledSoFar (take place w) stack popped s0 s1 used height
