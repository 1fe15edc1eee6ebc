-- The answers of `letters` from what its tests say.
use mathlib.Core.Path.{◌≡◌, refl, sym, ap, ◌∙◌}
use mathlib.Core.Logic.{◌≢◌}
use mathlib.Core.List.{List, [], ◌∷◌}
use Prim.Native.Nat.{ℕ, zero, suc, ◌-◌, ◌≤◌, ◌<◌}
use native.Mathlib.Omega.{arith}
use lib.ListN.{length, get_or, set, take, drop}
use Rattle.lists.proofs.Tests.{lt-true, lt-false, le-true, le-false}
use Rattle.lists.proofs.Lists.{rest-is}
use Rattle.words.specs.Outputs.{overwrite_from}
use Rattle.words.specs.Letters.{BytesWritten, first_letter, events_letters, letters, LettersPromise}
use Rattle.std.specs.Prelude.{Result, Ok, Err}
use Rattle.refusals.specs.declared.Refusal.{Refusal}
use Rattle.refusals.specs.declared.Refusal.TheVariants.{ListShort, FirstItem}
use Rattle.words_decimals.proofs.Writing.{wrote-byte, wrote_then}

letters_length : (x : ℕ) (w : List ℕ) → x < 2 → length (letters (x ∷ w)) ≡ suc (length (events_letters w))
unfolding letters
letters_length zero w h = refl
letters_length (suc zero) w h = refl
letters_length (suc (suc x)) w h = absurd (omega arith)

pub lettering-none : (w d : List ℕ) → length w ≡ 0 → LettersPromise w d (Ok 0) d
unfolding letters
lettering-none [] d h = record { answer = rw (le-true 0 (length d) (omega arith)); room = refl }
lettering-none (x ∷ w) d h = absurd (omega arith)

pub lettering-first : (w d : List ℕ) → 1 < get_or w 0 0 → LettersPromise w d (Err FirstItem) d
lettering-first [] d h = absurd (omega arith)
lettering-first (x ∷ w) d h = record { answer = rw (lt-false x 2 h); room = refl }

pub lettering-short : (x : ℕ) (w d : List ℕ) → x < 2 → length d ≤ length (events_letters w) → LettersPromise (x ∷ w) d (Err ListShort) d
lettering-short x w d h s = record { answer = rw (lt-true x 2 h, le-false (length (letters (x ∷ w))) (length d) (omega (arith, letters_length x w h))); room = refl }

pub lettering-whole : (x b : ℕ) (w d : List ℕ) (n : ℕ) (e : List ℕ) → x < 2 → first_letter x ≡ b ∷ [] → length (events_letters w) < length d
    → BytesWritten (set d 0 b) 1 (events_letters w) n e → LettersPromise (x ∷ w) d (Ok n) e
unfolding letters overwrite_from
lettering-whole x b w d n e h f s a = record {
  answer = rw (lt-true x 2 h, le-true (length (letters (x ∷ w))) (length d) (omega (arith, l))) (ap Ok (size ∙ sym l));
  room = rw (f, all.next) all.bytes;
}
  where
    l : length (letters (x ∷ w)) ≡ suc (length (events_letters w))
    l = letters_length x w h

    all : BytesWritten d 0 (b ∷ events_letters w) n e
    all = wrote_then d 0 (b ∷ []) (events_letters w) 1 (set d 0 b) n e (omega arith) (wrote-byte d 0 b (omega arith)) a

    size : n ≡ suc (length (events_letters w))
    size = omega (arith, all.next)

-- a word is its first item and the part after it
pub lettering-split : (w d : List ℕ) (r : Result ℕ Refusal) (e : List ℕ) → length w ≢ 0 → LettersPromise (get_or w 0 0 ∷ take (length w - 1) (drop 1 w)) d r e → LettersPromise w d r e
lettering-split [] d r e h l = absurd (h refl)
lettering-split (x ∷ w) d r e h l = rw (rest-is x w) at l
