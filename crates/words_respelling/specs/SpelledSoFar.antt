-- What it takes to add an event to a spelling. The spelling of a beginning stands in `words_respelling_undo`, SpelledSoFar, and is passed on here.
--
--   EventDue w place item ..    w is a word of a listed size, spelled as far as `place`, where `item` stands
use Rattle.std.specs.Prelude.{◌≡◌, List, ℕ, ◌≤◌, ◌<◌, length, get_or, take}
pub use Rattle.words_respelling_undo.specs.SpelledSoFar.{ListedWord, ScratchLengths, BeginningOf, SpelledSoFar}

pub record EventDue (w : List ℕ) (place item : ℕ) (stack popped s0 s1 : List ℕ) (used height : ℕ) : Type 0 where
  pub started : 1 ≤ place
  pub within : place < length w
  pub listed : ListedWord w
  pub item_is : item ≡ get_or w place 0
  pub spelled : SpelledSoFar (take place w) stack popped s0 s1 used height
