-- `successor` goes from the word at a position to the word at the next, and `next_ending` likewise among the ways to go on. The lists are sorted
-- and hold exactly the words in question, so that what follows in dictionary order stands at the next place.
use mathlib.Core.Path.{◌≡◌, refl, sym}
use mathlib.Core.Bool.{true, false}
use mathlib.Core.Logic.{◌≢◌, ◌⊎◌, inl, inr}
use mathlib.Core.List.Memᴰ
use mathlib.Core.List.{List, [], ◌∷◌, Memᴰ}
use Prim.Native.Nat.{ℕ, zero, suc, ◌+◌, ◌≤◌, ◌<◌}
use native.Mathlib.Omega.{arith}
use lib.ListN.{length, get_or, get_or-eq_default}
use Rattle.lists.specs.Lists.{All}
use Rattle.lists.proofs.Tests.{lt?, same?}
use Rattle.lists.proofs.Lists.{all-at}
use Rattle.words.specs.Order.{Before}
use Rattle.words.specs.Shape.{Fits, Word}
use Rattle.words.proofs.Order.{before-irrefl, before-antisym}
use Rattle.listing.specs.Listing.{completions, listing, count, Sorted}
use Rattle.listing.specs.Position.{word_at}
use Rattle.listing.proofs.Completions.{completions-fit, complete, sorted}
use Rattle.listing.proofs.Listing.{listing-words, listing-complete, listing-sorted}
use Rattle.listing.proofs.Positions.{sorted-at, at-word}
use Rattle.listing_successor.specs.Successor.{can_end, least_ending, next_ending, first_word, successor}
use Rattle.listing_successor_events.proofs.Ends.{dead}
use Rattle.listing_successor_endings.proofs.Endings.{ending-least}
use Rattle.listing_successor.proofs.Follows.{Follows, cons-not, ways-follow, words-follow, first-follows, first-not}

-- ---- places of a list of words

-- v is in ws, at the place that the record names
pub record OccursIn (v : List ℕ) (ws : List (List ℕ)) : Type 0 where
  pub place : ℕ
  pub within : place < length ws
  pub is : get_or ws place [] ≡ v

occurs-in : (v : List ℕ) (ws : List (List ℕ)) → Memᴰ v ws → OccursIn v ws
occurs-in v [] m = absurd (Memᴰ.not-nil m)
occurs-in v (w ∷ ws) m = go (Memᴰ.cases_cons m) (occurs-in v ws)
  where
    go : (v ≡ w) ⊎ Memᴰ v ws → (Memᴰ v ws → OccursIn v ws) → OccursIn v (w ∷ ws)
    go (inl e) k = record { place = 0; within = omega arith; is = sym e }
    go (inr n) k = let s = k n in record { place = suc s.place; within = let i = s.within in omega arith; is = s.is }

-- in a sorted list that holds all of P and nothing else, what follows the word at a place stands at the next place
next_place : (P : List ℕ → Type 0) (ws : List (List ℕ)) → Sorted ws → ((i : ℕ) → i < length ws → P (get_or ws i [])) → ((v : List ℕ) → P v → OccursIn v ws)
    → (i : ℕ) (v : List ℕ) → i < length ws → Follows P (get_or ws i []) v → v ≡ get_or ws (suc i) []
next_place P ws s members complete i v l F = go v F (lt? (suc i) (length ws))
  where
    -- what comes after the word at i stands beyond i
    beyond : (j : ℕ) → j < length ws → Before (get_or ws i []) (get_or ws j []) → i < j
    beyond j k b = by (lt? i j)
      where
        by : (i < j) ⊎ (j ≤ i) → i < j
        by (inl a) = a
        by (inr a) = by-same (same? i j)
          where
            by-same : (i ≡ j) ⊎ (i ≢ j) → i < j
            by-same (inl e) = absurd (before-irrefl (get_or ws j []) (rw e at b))
            by-same (inr n) = absurd (before-antisym (get_or ws i []) (get_or ws j []) b (sorted-at ws j i s (omega arith) l))

    go : (v : List ℕ) → Follows P (get_or ws i []) v → (suc i < length ws) ⊎ (length ws ≤ suc i) → v ≡ get_or ws (suc i) []
    go [] F (inl k) = absurd (F.none refl (get_or ws (suc i) []) (members (suc i) k) (sorted-at ws i (suc i) s (omega arith) k))
    go [] F (inr k) = sym (get_or-eq_default ws [] k)
    go (x ∷ v) F k = at (complete (x ∷ v) (F.some n).0)
      where
        n : (x ∷ v) ≢ []
        n = cons-not x v

        at : OccursIn (x ∷ v) ws → (x ∷ v) ≡ get_or ws (suc i) []
        at S = by (same? (suc i) S.place)
          where
            far : i < S.place
            far = beyond S.place S.within (rw S.is (F.some n).1)

            by : (suc i ≡ S.place) ⊎ (suc i ≢ S.place) → (x ∷ v) ≡ get_or ws (suc i) []
            by (inl e) = rw e (sym S.is)
            by (inr d) =
                let k : suc i < S.place = (let a = far in omega arith) in
                let m : suc i < length ws = (let a = S.within in omega arith) in
                absurd (F.nearest (get_or ws (suc i) []) (members (suc i) m) (sorted-at ws i (suc i) s (omega arith) m) (rw S.is at (sorted-at ws (suc i) S.place s k S.within)))

-- ---- ways to go on

module _ (m h f : ℕ) where
  -- there is a way to end exactly if `can_end` says so
  pub completions-some : h + f ≤ m → can_end h f ≡ true → 0 < length (completions m h f)
  completions-some l q = let s = occurs-in (least_ending h f) (completions m h f) (complete m h f (least_ending h f) l (ending-least h f q).fits) in let i = s.within in omega arith

  pub completions-none : can_end h f ≡ false → length (completions m h f) ≡ 0
  completions-none q = go (completions m h f) (completions-fit m h f)
    where
      go : (ws : List (List ℕ)) → All (Fits h f) ws → length ws ≡ 0
      go [] a = refl
      go (w ∷ ws) a = absurd (dead h f q w a.0)

  pub next-at : h + f ≤ m → (i : ℕ) → i < length (completions m h f) → next_ending h f (get_or (completions m h f) i []) ≡ get_or (completions m h f) (suc i) []
  next-at l i k = next_place (Fits h f) (completions m h f) (sorted m h f) fit (λ v a. occurs-in v (completions m h f) (complete m h f v l a)) i _ k (ways-follow (get_or (completions m h f) i []) h f (fit i k))
    where
      fit : (j : ℕ) → j < length (completions m h f) → Fits h f (get_or (completions m h f) j [])
      fit j k = all-at (Fits h f) (completions m h f) j [] (completions-fit m h f) k

-- ---- positions of a size

pub word_placed : (n p : ℕ) → p < count n → Word n (word_at n (suc p))
word_placed n p l = at-word n (suc p) (omega arith, l)

pub word-occurs : (n : ℕ) (w : List ℕ) → Word n w → OccursIn w (listing n)
word-occurs n w a = occurs-in w (listing n) (listing-complete n w a)

pub count-some : (n : ℕ) → 1 ≤ n → 1 ≤ count n
unfolding count
count-some n l = let s = word-occurs n (first_word n) ((first-follows n l).some (first-not n)).0 in let i = s.within in omega arith

-- the first word stands at the first place
first-at : (n : ℕ) → 1 ≤ n → first_word n ≡ word_at n 1
unfolding word_at
first-at n l = go S.place S.within S.is
  where
    F : Follows (Word n) [] (first_word n)
    F = first-follows n l

    S : OccursIn (first_word n) (listing n)
    S = word-occurs n (first_word n) (F.some (first-not n)).0

    some : (u : List ℕ) → Word n u → Before [] u
    some [] a = absurd a
    some (x ∷ u) a = tt

    go : (j : ℕ) → j < length (listing n) → get_or (listing n) j [] ≡ first_word n → first_word n ≡ get_or (listing n) 0 []
    go zero k e = sym e
    go (suc j) k e =
        let u = all-at (Word n) (listing n) 0 [] (listing-words n) (omega arith) in
        absurd (F.nearest (get_or (listing n) 0 []) u (some (get_or (listing n) 0 []) u) (rw e at (sorted-at (listing n) 0 (suc j) (listing-sorted n) (omega arith) k)))

pub following-at : (n p : ℕ) → 1 ≤ n → p ≤ count n → successor n (word_at n p) ≡ word_at n (suc p)
unfolding successor word_at count
following-at n zero l k = first-at n l
following-at n (suc p) l k = next_place (Word n) (listing n) (listing-sorted n) (λ i q. all-at (Word n) (listing n) i [] (listing-words n) q) (word-occurs n) p _ k (words-follow n _ (word_placed n p k))
