-- A diagram spelled as far as a beginning of its word, so that events can be added at the word's end and taken back there.
--
--   ListedWord w            w spells a diagram of a listed size, at most 50 edges
--   ScratchLengths ..       the four scratch lists have 64 places each
--   BeginningOf p rest D    the items `rest` finish the beginning p to a word of D, which is of a listed size
--   SpelledSoFar p ..       the scratch lists hold the state after the beginning p of a word: the stack its pending labels, `used` labels are given and
--                           `height` of them pending, s0 and s1 begin with its lists, and `popped` has at each item's place the label it popped
--   JoinUndone ..           Jd taken back, the stack p and the list s becoming q and t: k is parted from its partner, which stands d places below the top again
use Rattle.std.specs.Prelude.{◌≡◌, List, ◌++◌, ℕ, ◌+◌, ◌-◌, ◌≤◌, ◌<◌, length, get_or, set, take}
use Rattle.std.proofs.Math.Option.{some}
use Rattle.lists.specs.Lists.{at, put}
use Rattle.words.specs.Word.{Pair, spell, Spells}
use Rattle.words_spelling_stores.specs.Stores.{Shifted}
use Rattle.words_spelling_events.specs.Spelling.{SpellingHeld}
use Rattle.words_spelling_events.specs.States.{top_label, state_of}

abbrev pub ListedWord : List ℕ → Type 0
ListedWord w = (n : ℕ) × (n ≤ 50) × Spells n w

pub record ScratchLengths (stack popped s0 s1 : List ℕ) : Type 0 where
  pub stack_long : length stack ≡ 64
  pub popped_long : length popped ≡ 64
  pub s0_long : length s0 ≡ 64
  pub s1_long : length s1 ≡ 64

pub record BeginningOf (p rest : List ℕ) (D : Pair) : Type 0 where
  pub some_item : 1 ≤ length p
  pub spelt : spell (p ++ rest) ≡ some D
  pub small : length D.black ≤ 50

pub record SpelledSoFar (p stack popped s0 s1 : List ℕ) (used height : ℕ) : Type 0 where
  pub rest : List ℕ
  pub diagram : Pair
  pub begins : BeginningOf p rest diagram
  pub long : ScratchLengths stack popped s0 s1
  pub holds : SpellingHeld (state_of p).pending (state_of p).black (state_of p).white s0 s1 stack s0 s1 used
  pub height_is : height ≡ length (state_of p).pending
  pub noted : (i : ℕ) → 1 ≤ i → i < length p → get_or popped i 0 ≡ top_label (state_of (take i p))

pub record JoinUndone (p q s t : List ℕ) (k d height : ℕ) : Type 0 where
  pub raised : List ℕ
  pub shifted : Shifted raised p (height - d) height
  pub back_in : get_or raised (height - d) 0 ≡ at s k
  pub on_top : q ≡ set raised (height + 1) k
  pub parted : t ≡ put (put s (at s k) (at s k)) k k
