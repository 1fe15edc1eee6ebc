-- Positions: each of 1..count has one word of the size, each word of the size one position.
use mathlib.Core.Path.{◌≡◌, refl, sym, ap, ◌∙◌}
use mathlib.Core.Logic.{◌⊎◌, inl, inr, ⊎_elim}
use mathlib.Core.Bool.{Bool, true, false, true≢false}
use mathlib.Core.List.Memᴰ
use mathlib.Core.List.{List, [], ◌∷◌, Memᴰ}
use Prim.Native.Nat.{ℕ, zero, suc, ◌≤◌, ◌<◌}
use native.Mathlib.Nat.{not-suc-le-zero}
use native.Mathlib.Omega.{arith}
use lib.ListN.{length, get_or}
use Rattle.lists.specs.Ranges.{OneTo}
use Rattle.lists.proofs.Tests.{lt?}
use Rattle.lists.proofs.Lists.{all-at}
use Rattle.words.specs.Order.{Before, same}
use Rattle.words.specs.Shape.{Word}
use Rattle.words.proofs.Order.{before-irrefl, same_true, same_self}
use Rattle.listing.specs.Listing.{listing, count, Sorted}
use Rattle.listing.specs.Position.{word_at, place, position}
use Rattle.listing.proofs.Listing.{listing-words, listing-complete, listing-sorted}

-- ---- a sorted list of words

-- a word further on comes after
pub sorted-at : (ws : List (List ℕ)) (i j : ℕ) → Sorted ws → i < j → j < length ws → Before (get_or ws i []) (get_or ws j [])
sorted-at [] i j s l h = absurd (not-suc-le-zero h)
sorted-at (w ∷ ws) i zero s l h = absurd (not-suc-le-zero l)
sorted-at (w ∷ ws) zero (suc j) s l h = all-at (Before w) ws j [] s.0 (omega arith)
sorted-at (w ∷ ws) (suc i) (suc j) s l h = sorted-at ws i j s.1 (omega arith) (omega arith)

-- so no word stands at two places
pub sorted-once : (ws : List (List ℕ)) (i j : ℕ) → Sorted ws → i < length ws → j < length ws → get_or ws i [] ≡ get_or ws j [] → i ≡ j
sorted-once ws i j s a b e = go (lt? i j) (lt? j i)
  where
    go : (i < j) ⊎ (j ≤ i) → (j < i) ⊎ (i ≤ j) → i ≡ j
    go (inl l) r = absurd (before-irrefl (get_or ws j []) (rw e at (sorted-at ws i j s l b)))
    go (inr l) (inl r) = absurd (before-irrefl (get_or ws j []) (rw e at (sorted-at ws j i s r a)))
    go (inr l) (inr r) = omega arith

-- ---- where a word stands

record Found (w : List ℕ) (ws : List (List ℕ)) : Type 0 where
  below : place w ws < length ws
  there : get_or ws (place w ws) [] ≡ w

found : (w : List ℕ) (ws : List (List ℕ)) → Memᴰ w ws → Found w ws
found w [] m = absurd (Memᴰ.not-nil m)
found w (v ∷ ws) m = go (same w v) refl (⊎_elim (λ e. inl e) (λ n. inr (found w ws n)) (Memᴰ.cases_cons m))
  where
    go : (b : Bool) → same w v ≡ b → (w ≡ v) ⊎ Found w ws → Found w (v ∷ ws)
    go true e r = record { below = rw e (omega arith); there = rw e (sym (same_true w v e)) }
    go false e (inl q) = absurd (true≢false (sym (same_self v) ∙ rw q at e))
    go false e (inr f) = record { below = rw e (let i = f.below in omega arith); there = rw e f.there }

-- ---- positions of a size

pub at-word : (n p : ℕ) → OneTo (count n) p → Word n (word_at n p)
unfolding word_at count
at-word n zero e = absurd (omega arith)
at-word n (suc i) e = all-at (Word n) (listing n) i [] (listing-words n) e.1

pub at_once : (n p q : ℕ) → OneTo (count n) p → OneTo (count n) q → word_at n p ≡ word_at n q → p ≡ q
unfolding word_at count
at_once n zero q a b e = absurd (omega arith)
at_once n (suc i) zero a b e = absurd (omega arith)
at_once n (suc i) (suc j) a b e = ap suc (sorted-once (listing n) i j (listing-sorted n) a.1 b.1 e)

pub position_in : (n : ℕ) (w : List ℕ) → Word n w → OneTo (count n) (position n w)
unfolding position count
position_in n w a = let f = found w (listing n) (listing-complete n w a) in (omega arith, f.below)

pub at_position : (n : ℕ) (w : List ℕ) → Word n w → word_at n (position n w) ≡ w
unfolding word_at position
at_position n w a = (found w (listing n) (listing-complete n w a)).there

pub position_at : (n p : ℕ) → OneTo (count n) p → position n (word_at n p) ≡ p
position_at n p e = at_once n (position n (word_at n p)) p (position_in n (word_at n p) (at-word n p e)) e (at_position n (word_at n p) (at-word n p e))
