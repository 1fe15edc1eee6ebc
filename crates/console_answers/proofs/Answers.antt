-- Laws of the text of an answer: the cases of a byte, and the bytes one after another.
use mathlib.Core.Path.{◌≡◌, refl, sym, ap, ◌∙◌}
use mathlib.Core.Logic.{◌≢◌, ◌⊎◌, inl, inr}
use mathlib.Core.Bool.{Bool, true, false, true≢false, cond}
use mathlib.Core.List.{List, [], ◌∷◌, ◌++◌}
use Prim.Native.Nat.{ℕ, suc, ◌+◌, ◌-◌, ◌*◌, ◌≤◌, ◌<◌}
use native.Mathlib.Numerals.{add-one}
use native.Mathlib.Omega.{arith}
use lib.Dec.{eqb, leb, ltb}
use lib.IntN.{ℤ}
use lib.ListN.{length, get_or, take, drop, drop_of_length-le}
use lib.Seq.{drop-cons}
use Rattle.lists.proofs.Tests.{lt?, lt-true, lt-false, leb-true, eqb-eq, eqb-ne}
use Rattle.words.specs.Letters.{decimal}
use Rattle.text_printing.specs.Printing.{Output, put, put_all, signed_pieces, list_pieces}
use Rattle.text_printing.proofs.Printing.{put-all-append}
use Rattle.console_replies.specs.declared.Reply.{Reply}
use Rattle.console_answers.specs.Answers.{Lists, lists, is_within, letters_pieces, bytes_pieces, long_list, number_pieces, field_pieces, answer_pieces}

-- ---- a range of bytes

pub within-below : (a z b : ℕ) → b < a → false ≡ is_within a z b
unfolding is_within
within-below a z b h = rw (lt-true b a h)

pub within-from : (a z b : ℕ) → a ≤ b → leb b z ≡ is_within a z b
unfolding is_within
within-from a z b h = rw (lt-false b a h)

pub within_both : (a z b : ℕ) → is_within a z b ≡ true → (a ≤ b) × (b ≤ z)
within_both a z b e = go (lt? b a)
  where
    go : (b < a) ⊎ (a ≤ b) → (a ≤ b) × (b ≤ z)
    go (inl h) = absurd (true≢false (sym (within-below a z b h ∙ e)))
    go (inr h) = (h, leb-true b z (within-from a z b h ∙ e))

-- ---- lists

pub part-first : (n : ℕ) (s : List ℕ) → take (n - 0) s ≡ take n s
part-first n s = ap (λ (k : ℕ). take k s) (none n)
  where
    none : (n : ℕ) → n - 0 ≡ n
    none n = omega arith

pub fourth : (k : ℕ) (s t u v : List ℕ) → k < 4 → 3 ≤ k → v ≡ get_or (s ∷ t ∷ u ∷ v ∷ []) k []
fourth k s t u v h l = let e : k ≡ 3 = omega arith in rw e

-- ---- pieces

pub letters-none : (s : List ℕ) (o : Output) → length s ≡ 0 → put_all (letters_pieces s) o ≡ put (45 ∷ []) o
unfolding put_all letters_pieces
letters-none [] o h = refl
letters-none (x ∷ s) o h = absurd (omega arith)

pub letters-some : (s : List ℕ) (o : Output) → length s ≢ 0 → put_all (letters_pieces s) o ≡ put s o
unfolding put_all letters_pieces
letters-some [] o h = absurd (h refl)
letters-some (x ∷ s) o h = refl

pub long-part : (k : ℕ) (l : List ℕ) → take ((4 + 32 * k) + 32 - (4 + 32 * k)) (drop (4 + 32 * k) l) ≡ long_list k l
unfolding long_list
long-part k l = ap (λ (n : ℕ). take n (drop (4 + 32 * k) l)) (so-many (4 + 32 * k))
  where
    so-many : (s : ℕ) → (s + 32) - s ≡ 32
    so-many s = omega arith

-- ---- what is put of a byte, by its cases

module _ (b : ℕ) (s : List ℕ) (o r : Output) where
  pub put-as-numbers : b ≡ 52 → r ≡ put_all (list_pieces s) o → r ≡ put_all (bytes_pieces b s) o
  unfolding bytes_pieces
  put-as-numbers e p = rw (eqb-eq b 52 e) p

  pub put-as-letters : b ≢ 52 → r ≡ put_all (letters_pieces s) o → r ≡ put_all (bytes_pieces b s) o
  unfolding bytes_pieces
  put-as-letters n p = rw (eqb-ne b 52 n) p

module _ (x : Reply) (b : ℕ) (o r : Output) where
  pub put-long : is_within 54 56 b ≡ true → (l : List ℕ) → l ≡ long_list (b - 54) x.numbers → r ≡ put_all (list_pieces l) o → r ≡ put_all (number_pieces x b) o
  unfolding number_pieces
  put-long e l q p = rw e (p ∙ ap (λ (l : List ℕ). put_all (list_pieces l) o) q)

  pub put-decimal : is_within 54 56 b ≡ false → is_within 65 90 b ≡ true → r ≡ put (decimal (get_or x.numbers (b - 65) 0)) o → r ≡ put_all (number_pieces x b) o
  unfolding number_pieces put_all
  put-decimal n e p = rw (n, e) p

  pub put-sign : is_within 54 56 b ≡ false → is_within 65 90 b ≡ false → b ≡ 43 → (z : ℤ) → z ≡ x.signed → r ≡ put_all (signed_pieces z) o → r ≡ put_all (number_pieces x b) o
  unfolding number_pieces
  put-sign n m e z q p = rw (n, m, eqb-eq b 43 e) (p ∙ ap (λ (z : ℤ). put_all (signed_pieces z) o) q)

  pub put-itself : is_within 54 56 b ≡ false → is_within 65 90 b ≡ false → b ≢ 43 → r ≡ put (b ∷ []) o → r ≡ put_all (number_pieces x b) o
  unfolding number_pieces put_all
  put-itself n m k p = rw (n, m, eqb-ne b 43 k) p

module _ (x : Reply) (ls : Lists) (b : ℕ) (o r : Output) where
  pub put_entries : is_within 48 51 b ≡ true → (l m : List ℕ) → m ≡ get_or ls.numbers (b - 48) [] → l ≡ take (get_or x.lengths (b - 48) 0) m
      → r ≡ put_all (list_pieces l) o → r ≡ put_all (field_pieces x ls b) o
  unfolding field_pieces
  put_entries e l m q t p = rw e (p ∙ ap (λ (l : List ℕ). put_all (list_pieces l) o) (t ∙ ap (take (get_or x.lengths (b - 48) 0)) q))

  pub put-list-of-bytes : is_within 48 51 b ≡ false → is_within 52 53 b ≡ true → (l : List ℕ) → l ≡ take (get_or x.lengths 4 0) ls.bytes
      → r ≡ put_all (bytes_pieces b l) o → r ≡ put_all (field_pieces x ls b) o
  unfolding field_pieces
  put-list-of-bytes n e l q p = rw (n, e) (p ∙ ap (λ (l : List ℕ). put_all (bytes_pieces b l) o) q)

  pub put-first-numbers : is_within 48 51 b ≡ false → is_within 52 53 b ≡ false → b ≡ 57 → (l : List ℕ) → l ≡ take (get_or x.lengths 1 0) x.numbers
      → r ≡ put_all (list_pieces l) o → r ≡ put_all (field_pieces x ls b) o
  unfolding field_pieces
  put-first-numbers n m e l q p = rw (n, m, eqb-eq b 57 e) (p ∙ ap (λ (l : List ℕ). put_all (list_pieces l) o) q)

  pub put_other : is_within 48 51 b ≡ false → is_within 52 53 b ≡ false → b ≢ 57 → r ≡ put_all (number_pieces x b) o → r ≡ put_all (field_pieces x ls b) o
  unfolding field_pieces
  put_other n m k p = rw (n, m, eqb-ne b 57 k) p

-- ---- the bytes one after another

module _ (r : Reply) (ls : Lists) where
  pub answer-more : (s : List ℕ) (k : ℕ) (o : Output) → k < length s
      → put_all (answer_pieces r ls (drop (k + 1) s)) (put_all (field_pieces r ls (get_or s k 0)) o) ≡ put_all (answer_pieces r ls (drop k s)) o
  unfolding answer_pieces
  answer-more s k o h = rw add-one (sym (rw (drop-cons s k 0 h) (put-all-append (field_pieces r ls (get_or s k 0)) (answer_pieces r ls (drop (suc k) s)) o)))

  pub answer-past : (s : List ℕ) (k : ℕ) (o : Output) → length s ≤ k → put_all (answer_pieces r ls (drop k s)) o ≡ o
  unfolding put_all answer_pieces
  answer-past s k o h = rw (drop_of_length-le s h)
