-- Laws of dictionary order: it is strict and total, the test `precedes` decides it, `lesser` picks the least of two, and the test `same`
-- holds of equal lists alone. Each goes by recursion on both lists, comparing their first items.
use mathlib.Core.Path.{◌≡◌, refl, sym, ◌∙◌}
use mathlib.Core.Logic.{◌≢◌, ◌⊎◌, inl, inr}
use mathlib.Core.Bool.{Bool, true, false, true≢false, cond}
use mathlib.Core.List.{List, [], ◌∷◌}
use Prim.Native.Nat.{ℕ, ◌+◌, ◌≤◌, ◌<◌}
use native.Mathlib.Numerals.{add-one}
use native.Mathlib.Omega.{arith}
use lib.Dec.{eqb, ltb}
use lib.ListN.{length, get_or, drop, drop_of_length-le}
use lib.Seq.{drop-cons}
use Rattle.lists.proofs.Tests.{not-true, lt?, lt-true, lt-false, ltb-true, eqb_same, eqb-eq, eqb-ne, eqb-true, both_true}
use Rattle.words_order.specs.Order.{Before, precedes, lesser, same}

-- ---- a strict order

pub before-irrefl : (u : List ℕ) → ¬ Before u u
before-irrefl [] l = l
before-irrefl (x ∷ u) (inl l) = omega arith
before-irrefl (x ∷ u) (inr l) = before-irrefl u l.1

pub before-trans : (u v w : List ℕ) → Before u v → Before v w → Before u w
before-trans u [] w a b = absurd a
before-trans u (y ∷ v) [] a b = absurd b
before-trans [] (y ∷ v) (z ∷ w) a b = tt
before-trans (x ∷ u) (y ∷ v) (z ∷ w) (inl a) (inl b) = inl (omega arith)
before-trans (x ∷ u) (y ∷ v) (z ∷ w) (inl a) (inr b) = inl (let e = b.0 in omega arith)
before-trans (x ∷ u) (y ∷ v) (z ∷ w) (inr a) (inl b) = inl (let e = a.0 in omega arith)
before-trans (x ∷ u) (y ∷ v) (z ∷ w) (inr a) (inr b) = inr (a.0 ∙ b.0, before-trans u v w a.1 b.1)

-- never each before the other
pub before-antisym : (u v : List ℕ) → Before u v → ¬ Before v u
before-antisym u v a b = before-irrefl u (before-trans u v u a b)

-- ---- a total order

-- how u stands to v
pub data Compared (u v : List ℕ) : Type 0 where
  before : Before u v → Compared u v
  equal : u ≡ v → Compared u v
  after : Before v u → Compared u v

pub compared : (u v : List ℕ) → Compared u v
compared [] [] = equal refl
compared [] (y ∷ v) = before tt
compared (x ∷ u) [] = after tt
compared (x ∷ u) (y ∷ v) = go (lt? x y) (lt? y x) (compared u v)
  where
    go : (x < y) ⊎ (y ≤ x) → (y < x) ⊎ (x ≤ y) → Compared u v → Compared (x ∷ u) (y ∷ v)
    go (inl a) b c = before (inl a)
    go (inr a) (inl b) c = after (inl b)
    go (inr a) (inr b) (before l) = before (inr (omega arith, l))
    go (inr a) (inr b) (equal e) = let z : x ≡ y = omega arith in equal (rw (z, e))
    go (inr a) (inr b) (after l) = after (inr (omega arith, l))

-- ---- the test

pub precedes-true : (u v : List ℕ) → precedes u v ≡ true → Before u v
precedes-true u [] e = absurd (true≢false (sym e))
precedes-true [] (y ∷ v) e = tt
precedes-true (x ∷ u) (y ∷ v) e = go (ltb x y) refl e (precedes-true u v)
  where
    go : (b : Bool) → ltb x y ≡ b → cond b true (cond (eqb x y) (precedes u v) false) ≡ true → (precedes u v ≡ true → Before u v) → Before (x ∷ u) (y ∷ v)
    go true t e k = inl (ltb-true x y t)
    go false t e k = let z = both_true (eqb x y) (precedes u v) e in inr (eqb-true x y z.0, k z.1)

pub before-true : (u v : List ℕ) → Before u v → precedes u v ≡ true
before-true u [] l = absurd l
before-true [] (y ∷ v) l = refl
before-true (x ∷ u) (y ∷ v) (inl l) = rw (lt-true x y l)
before-true (x ∷ u) (y ∷ v) (inr l) = let e = l.0 in rw (lt-false x y (omega arith), eqb-eq x y e) (before-true u v l.1)

pub precedes-false : (u v : List ℕ) → precedes u v ≡ false → ¬ Before u v
precedes-false u v e l = true≢false (sym (before-true u v l) ∙ e)

pub before-false : (u v : List ℕ) → ¬ Before u v → precedes u v ≡ false
before-false u v n = not-true (precedes u v) (λ e. n (precedes-true u v e))

-- ---- the lesser of two

-- r is one of u and v, and neither comes before it
pub record Least (u v r : List ℕ) : Type 0 where
  pub one : (r ≡ u) ⊎ (r ≡ v)
  pub first : ¬ Before u r
  pub second : ¬ Before v r

pub lesser-least : (u v : List ℕ) → Least u v (lesser u v)
lesser-least u v = go (precedes v u) refl
  where
    go : (b : Bool) → precedes v u ≡ b → Least u v (cond b v u)
    go true e = record { one = inr refl; first = before-antisym v u (precedes-true v u e); second = before-irrefl v }
    go false e = record { one = inl refl; first = before-irrefl u; second = precedes-false v u e }

-- on equality the second does not precede, so `lesser` picks the first
pub lesser-first : (u v : List ℕ) → u ≡ v → precedes v u ≡ false
lesser-first u v e = before-false v u (rw e (before-irrefl v))

-- ---- the steps of a comparison: what is left of both lists from place i on decides

pub precedes-from : (u v : List ℕ) (i : ℕ) → i < length u → i < length v → get_or u i 0 ≡ get_or v i 0 → precedes (drop i u) (drop i v) ≡ precedes (drop (i + 1) u) (drop (i + 1) v)
precedes-from u v i hu hv e = rw (drop-cons u i 0 hu, drop-cons v i 0 hv, add-one, lt-false (get_or u i 0) (get_or v i 0) (omega arith), eqb-eq (get_or u i 0) (get_or v i 0) e)

pub precedes-by : (u v : List ℕ) (i : ℕ) → i < length u → i < length v → get_or u i 0 ≢ get_or v i 0 → precedes (drop i u) (drop i v) ≡ ltb (get_or u i 0) (get_or v i 0)
precedes-by u v i hu hv n = rw (drop-cons u i 0 hu, drop-cons v i 0 hv, eqb-ne (get_or u i 0) (get_or v i 0) n) (itself (ltb (get_or u i 0) (get_or v i 0)))
  where
    itself : (b : Bool) → cond b true false ≡ b
    itself true = refl
    itself false = refl

pub precedes-short : (u v : List ℕ) (i : ℕ) → length u ≤ i → i < length v → precedes (drop i u) (drop i v) ≡ true
precedes-short u v i hu hv = rw (drop_of_length-le u hu, drop-cons v i 0 hv)

pub precedes-past : (u v : List ℕ) (i : ℕ) → length v ≤ i → precedes (drop i u) (drop i v) ≡ false
precedes-past u v i h = rw (drop_of_length-le v h)

-- ---- equality

pub same_true : (u v : List ℕ) → same u v ≡ true → u ≡ v
same_true [] [] e = refl
same_true [] (y ∷ v) e = absurd (true≢false (sym e))
same_true (x ∷ u) [] e = absurd (true≢false (sym e))
same_true (x ∷ u) (y ∷ v) e = let b = both_true (eqb x y) (same u v) e in rw (eqb-true x y b.0, same_true u v b.1)

pub same_self : (u : List ℕ) → same u u ≡ true
same_self [] = refl
same_self (x ∷ u) = rw (eqb_same x) (same_self u)

pub same_false : (u v : List ℕ) → u ≢ v → same u v ≡ false
same_false u v n = not-true (same u v) (λ e. n (same_true u v e))

pub same_from : (u v : List ℕ) (i : ℕ) → i < length u → i < length v → get_or u i 0 ≡ get_or v i 0 → same (drop i u) (drop i v) ≡ same (drop (i + 1) u) (drop (i + 1) v)
same_from u v i hu hv e = rw (drop-cons u i 0 hu, drop-cons v i 0 hv, add-one, eqb-eq (get_or u i 0) (get_or v i 0) e)

pub same_by : (u v : List ℕ) (i : ℕ) → i < length u → i < length v → get_or u i 0 ≢ get_or v i 0 → same (drop i u) (drop i v) ≡ false
same_by u v i hu hv n = rw (drop-cons u i 0 hu, drop-cons v i 0 hv, eqb-ne (get_or u i 0) (get_or v i 0) n)

pub same_over : (u v : List ℕ) (i : ℕ) → length u ≤ i → length v ≤ i → same (drop i u) (drop i v) ≡ true
same_over u v i hu hv = rw (drop_of_length-le u hu, drop_of_length-le v hv)
