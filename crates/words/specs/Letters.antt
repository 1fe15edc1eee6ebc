-- Words as ASCII bytes, in their event letters. The letters of events are
-- passed on from `words_letters`, numbers in decimal from `words_decimals`.
--
--   letters w                 U or T, then for each item W, F, B or J with d in decimal; a first item above 1 has no letter
--   starts_with_root w          w has no item, or a first item that is 0 or 1
--   letters_answer w n         the answer of `letters` on room for n bytes: FirstItem where the first item is not 0 or 1, then ListShort where
--                             the room is short, otherwise the number of letters
--   LettersAfter r w d e      the room d before is e after the answer r: the letters and then the rest of d, or d where it refuses
--   LettersPromise w d r e    the promise of `letters`: that answer, and that room
use Rattle.std.specs.Prelude.{◌≡◌, Bool, true, cond, List, [], ◌∷◌, ◌++◌, ℕ, zero, suc, leb, ltb, length, drop, Result, Ok, Err}
use Rattle.refusals.specs.declared.Refusal.{Refusal}
use Rattle.refusals.specs.declared.Refusal.TheVariants.{ListShort, FirstItem}
pub use Rattle.words_decimals.specs.Decimals.{BytesWritten, BytesPut}
unfoldable pub use Rattle.words_decimals.specs.Decimals.{digits, decimal}
pub use Rattle.words_letters.specs.EventLetters.{event_letters}
unfoldable pub use Rattle.words_letters.specs.EventLetters.{events_letters}

-- U, T
abbrev pub first_letter : ℕ → List ℕ
first_letter zero = 85 ∷ []
first_letter (suc zero) = 84 ∷ []
first_letter (suc (suc x)) = []

unfoldable pub letters : List ℕ → List ℕ
letters [] = []
letters (x ∷ w) = first_letter x ++ events_letters w

abbrev pub starts_with_root : List ℕ → Bool
starts_with_root [] = true
starts_with_root (x ∷ w) = ltb x 2

abbrev pub letters_answer : List ℕ → ℕ → Result ℕ Refusal
letters_answer w n = cond (starts_with_root w) (cond (leb (length (letters w)) n) (Ok (length (letters w))) (Err ListShort)) (Err FirstItem)

abbrev pub LettersAfter : Result ℕ Refusal → List ℕ → List ℕ → List ℕ → Type 0
LettersAfter (Ok n) w d e = e ≡ letters w ++ drop n d
LettersAfter (Err k) w d e = e ≡ d

pub record LettersPromise (w d : List ℕ) (r : Result ℕ Refusal) (e : List ℕ) : Type 0 where
  pub answer : r ≡ letters_answer w (length d)
  pub room : LettersAfter r w d e
