-- What `letters` answers on the part of a buffer from a place on, as a piece that is put there.
use mathlib.Core.Path.{◌≡◌, refl, sym, ap, ◌∙◌}
use mathlib.Core.Logic.{◌⊎◌, inl, inr}
use mathlib.Core.Bool.{Bool, true, false, true≢false, cond}
use mathlib.Core.List.{List, [], ◌∷◌}
use Prim.Native.Nat.{ℕ, ◌+◌, ◌-◌, ◌≤◌, ◌<◌}
use native.Mathlib.Omega.{arith}
use borrow.Rule.Slice.PartMut.{mid_of, put_mid}
use lib.Dec.{leb}
use lib.ListN.{length, drop, length-drop}
use lib.Seq.{take_all}
use Rattle.lists.proofs.Tests.{leb-true, lt?, le-true}
use Rattle.words.specs.Letters.{letters, starts_with_root, LettersAfter, LettersPromise}
use Rattle.std.specs.Prelude.{Result, Ok, Err}
use Rattle.refusals.specs.declared.Refusal.{Refusal}
use Rattle.refusals.specs.declared.Refusal.TheVariants.{ListShort, FirstItem}
use Rattle.words.proofs.Outputs.{from-none, from-part}
use Rattle.text_printing.specs.Printing.{output, put, put_all, word_pieces}
use Rattle.text_printing.proofs.Printing.{put-fits, put-short}

-- the place after the answer
abbrev pub place_after : ℕ → Result ℕ Refusal → ℕ
place_after i (Ok n) = i + n
place_after i (Err k) = i

leb-false : (a b : ℕ) → leb a b ≡ false → b < a
leb-false a b e = go (lt? b a)
  where
    go : (b < a) ⊎ (a ≤ b) → b < a
    go (inl h) = h
    go (inr h) = absurd (true≢false (sym (le-true a b h) ∙ e))

module _ (d : List ℕ) (i : ℕ) (within : i ≤ length d) where
  abbrev mid : List ℕ
  mid = mid_of i (length d - i) d

  mid-length : length mid ≡ length d - i
  mid-length = ap length (take_all (length d - i) (drop i d) (omega (arith, length-drop i d))) ∙ length-drop i d

  -- the part as it was
  mid_back : (b : List ℕ) → b ≡ mid → put_mid i (length d - i) d b ≡ d
  mid_back b e = from-part i [] d b (omega arith) e ∙ from-none i d

  module _ (w b : List ℕ) where
    refused : (k : Refusal) (r : Result ℕ Refusal) → r ≡ Err k → LettersAfter r w mid b → output (put_mid i (length d - i) d b) (place_after i r) ≡ output d i
    refused k r e a = rw e (ap (λ (x : List ℕ). output x i) (mid_back b (rw e at a)))

    written : (r : Result ℕ Refusal) → r ≡ Ok (length (letters w)) → i + length (letters w) ≤ length d → LettersAfter r w mid b
        → output (put_mid i (length d - i) d b) (place_after i r) ≡ put (letters w) (output d i)
    written r e h a = rw e (ap (λ (x : List ℕ). output x (i + length (letters w))) (from-part i (letters w) d b h (rw e at a))) ∙ sym (put-fits (letters w) (output d i) h)

    word-put : (r : Result ℕ Refusal) → LettersPromise w mid r b → output (put_mid i (length d - i) d b) (place_after i r) ≡ put_all (word_pieces w) (output d i)
    unfolding put_all word_pieces
    word-put r p = go (starts_with_root w) refl (leb (length (letters w)) (length mid)) refl
      where
        go : (s : Bool) → starts_with_root w ≡ s → (f : Bool) → leb (length (letters w)) (length mid) ≡ f
            → output (put_mid i (length d - i) d b) (place_after i r) ≡ put_all (word_pieces w) (output d i)
        go false e f g = rw e (refused FirstItem r (p.answer ∙ rw e) p.room)
        go true e true g = rw e (written r (p.answer ∙ rw (e, g)) (omega (arith, leb-true (length (letters w)) (length mid) g, mid-length)) p.room)
        go true e false g = rw e (refused ListShort r (p.answer ∙ rw (e, g)) p.room ∙ sym (put-short (letters w) (output d i) (omega (arith, leb-false (length (letters w)) (length mid) g, mid-length))))

    -- by the answer
    pub put-letters : (r : Result ℕ Refusal) (n : ℕ) → r ≡ Ok n → LettersPromise w mid r b → output (put_mid i (length d - i) d b) (i + n) ≡ put_all (word_pieces w) (output d i)
    put-letters r n e p = rw e at (word-put r p)

    pub put-none : (r : Result ℕ Refusal) (k : Refusal) → r ≡ Err k → LettersPromise w mid r b → output (put_mid i (length d - i) d b) i ≡ put_all (word_pieces w) (output d i)
    put-none r k e p = rw e at (word-put r p)

-- a place beyond the buffer
pub word-beyond : (d : List ℕ) (i : ℕ) (w : List ℕ) → length d < i → output d i ≡ put_all (word_pieces w) (output d i)
unfolding put_all word_pieces
word-beyond d i w h = go (starts_with_root w)
  where
    go : (s : Bool) → output d i ≡ put_all (cond s (letters w ∷ []) []) (output d i)
    go true = sym (put-short (letters w) (output d i) (omega arith))
    go false = refl
