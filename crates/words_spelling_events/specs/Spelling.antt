-- A diagram while its word is written out: what the lent lists and the stack of pending labels hold between two events.
-- Lists named a are as they were lent, lists named b as they are now.
--
--   StackHeld stack pending          the array holds the stack of pending labels, its bottom at place 0
--   SpellingRoom D a0 a1             the diagram D is of a listed size, and the lists have places enough for it
--   SpellingHeld pending s0 s1 ..    the stack holds the pending labels, and the lists begin with s0 and s1, those of the labels given so far
--   SpellingState D w S ..           the lists and the stack hold the state S, and the items w finish the diagram D from it
use Rattle.std.specs.Prelude.{◌≡◌, List, [], ◌∷◌, ℕ, ◌≤◌, length, get_or}
use Rattle.std.proofs.Math.Option.{some}
use Rattle.lists.specs.Lists.{All}
use Rattle.lists.specs.Ranges.{OneTo}
use Rattle.words.specs.Word.{Pair, spells}
use Rattle.words.specs.Outputs.{overwrite}
use Rattle.words_spelling_events.specs.States.{State}

abbrev pub StackHeld : List ℕ → List ℕ → Type 0
StackHeld stack [] = Unit {0}
StackHeld stack (k ∷ r) = (get_or stack (length r) 0 ≡ k) × StackHeld stack r

pub record SpellingRoom (D : Pair) (a0 a1 : List ℕ) : Type 0 where
  pub small : length D.black ≤ 50
  pub room0 : length D.black ≤ length a0
  pub room1 : length D.black ≤ length a1

pub record SpellingHeld (pending s0 s1 a0 a1 stack b0 b1 : List ℕ) (used : ℕ) : Type 0 where
  pub long : length stack ≡ 64
  pub stacked : StackHeld stack pending
  pub used_is : used ≡ length s0
  pub even : length s1 ≡ used
  pub within : All (OneTo used) pending
  pub low : length pending ≤ used
  pub s0_is : b0 ≡ overwrite s0 a0
  pub s1_is : b1 ≡ overwrite s1 a1

pub record SpellingState (D : Pair) (w : List ℕ) (S : State) (a0 a1 stack b0 b1 : List ℕ) (used height : ℕ) : Type 0 where
  pub goes : spells w S.pending S.black S.white ≡ some D
  pub holds : SpellingHeld S.pending S.black S.white a0 a1 stack b0 b1 used
  pub height_is : height ≡ length S.pending
  pub room : SpellingRoom D a0 a1
