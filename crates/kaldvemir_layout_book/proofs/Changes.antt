-- A change to a book, written into its 100 numbers.
use mathlib.Core.Path.{◌≡◌, sym, ◌∙◌, ap}
use mathlib.Core.List.{List, [], ◌∷◌, ◌++◌}
use Prim.Native.Nat.{ℕ, zero, suc, ◌+◌, ◌-◌, ◌≤◌, ◌<◌}
use native.Mathlib.Omega.{arith}
use lib.ListN.{length, get_or, set, take, drop, length-drop, length-set, take-append-drop}
use lib.Seq.{take_all, drop-drop, get_or-set_same, get_or-set_other, take-set-le, take-set-lt, drop-set-lt, drop-set-add}
use Rattle.lists.specs.Lists.{put}
use Rattle.lists.specs.Ranges.{OneTo}
use Rattle.book.specs.Calls.{entered, ticked}
use Rattle.kaldvemir_layout_book.specs.Layout.{book_in, book_numbers}

-- ---- a list of the book and a number written into the row

-- in front of the list or behind it
before : (l : List ℕ) (from place v : ℕ) → place < from → take 32 (drop from (set l place v)) ≡ take 32 (drop from l)
before l from place v h = rw (drop-set-lt from l place v h)

behind : (l : List ℕ) (from place v : ℕ) → from + 32 ≤ place → take 32 (drop from (set l place v)) ≡ take 32 (drop from l)
behind l from place v h =
    let e : place ≡ from + (place - from) = omega arith in
    ap (λ (k : ℕ). take 32 (drop from (set l k v))) e ∙ rw (drop-set-add from l (place - from) v) (take-set-le 32 (drop from l) (place - from) v (omega arith))

-- at the entry of share j
inside : (l : List ℕ) (from j v : ℕ) → OneTo 32 j → take 32 (drop (suc from) (set l (from + j) v)) ≡ put (take 32 (drop (suc from) l)) j v
inside l from zero v h = absurd (omega arith)
inside l from (suc i) v h =
    let e : from + suc i ≡ suc from + i = omega arith in
    ap (λ (k : ℕ). take 32 (drop (suc from) (set l k v))) e ∙ rw (drop-set-add (suc from) l i v) (take-set-lt 32 (drop (suc from) l) i v (omega arith))

-- ---- the row of a book

-- 96 numbers are three lists of 32
thirds : (m : List ℕ) → length m ≡ 96 → take 32 m ++ (take 32 (drop 32 m) ++ take 32 (drop 64 m)) ≡ m
thirds m h =
    ap (λ (q : List ℕ). take 32 m ++ (take 32 (drop 32 m) ++ q)) (take_all 32 (drop 64 m) (rw (length-drop 64 m) (omega arith)) ∙ sym (drop-drop 32 32 m))
    ∙ ap (λ (q : List ℕ). take 32 m ++ q) (take-append-drop 32 (drop 32 m))
    ∙ take-append-drop 32 m

-- a book is what its numbers are
pub book_again : (l : List ℕ) → length l ≡ 100 → book_numbers (book_in l) ≡ l
book_again (x0 ∷ x1 ∷ x2 ∷ x3 ∷ m) h = ap (λ (q : List ℕ). x0 ∷ x1 ∷ x2 ∷ x3 ∷ q) (thirds m (omega arith))
book_again [] h = absurd (omega arith)
book_again (x0 ∷ []) h = absurd (omega arith)
book_again (x0 ∷ x1 ∷ []) h = absurd (omega arith)
book_again (x0 ∷ x1 ∷ x2 ∷ []) h = absurd (omega arith)

-- ---- a change written into the row

module _ (l : List ℕ) (h : length l ≡ 100) where
  pub latest-row : (tick : ℕ) → set l 2 tick ≡ book_numbers (ticked (book_in l) tick)
  unfolding ticked
  latest-row tick =
      sym (book_again (set l 2 tick) (length-set l 2 tick ∙ h))
      ∙ rw (get_or-set_other l 2 0 tick 0 (λ z. omega arith), get_or-set_other l 2 1 tick 0 (λ z. omega arith), get_or-set_same l 2 tick 0 (omega arith), get_or-set_other l 2 3 tick 0 (λ z. omega arith), before l 4 2 tick (omega arith), before l 36 2 tick (omega arith), before l 68 2 tick (omega arith))

  module _ (tick issues j p t e : ℕ) (i : OneTo 32 j) where
    -- the row after each number that is written
    abbrev heads : List ℕ
    heads = set (set l 2 tick) 3 issues

    abbrev nexts : List ℕ
    nexts = set heads (3 + j) p

    abbrev tickets : List ℕ
    tickets = set nexts (35 + j) t

    abbrev row : List ℕ
    row = set tickets (67 + j) e

    -- its heads, and its lists
    head-is : (k : ℕ) → k < 4 → get_or row k 0 ≡ get_or heads k 0
    head-is k u = get_or-set_other tickets (67 + j) k e 0 (λ z. omega arith) ∙ get_or-set_other nexts (35 + j) k t 0 (λ z. omega arith) ∙ get_or-set_other heads (3 + j) k p 0 (λ z. omega arith)

    other-head : (k : ℕ) → k < 2 → get_or row k 0 ≡ get_or l k 0
    other-head k u = head-is k (omega arith) ∙ get_or-set_other (set l 2 tick) 3 k issues 0 (λ z. omega arith) ∙ get_or-set_other l 2 k tick 0 (λ z. omega arith)

    latest-is : get_or row 2 0 ≡ tick
    latest-is = head-is 2 (omega arith) ∙ get_or-set_other (set l 2 tick) 3 2 issues 0 (λ z. omega arith) ∙ get_or-set_same l 2 tick 0 (omega arith)

    issued-is : get_or row 3 0 ≡ issues
    issued-is = head-is 3 (omega arith) ∙ get_or-set_same (set l 2 tick) 3 issues 0 (rw (length-set l 2 tick) (omega arith))

    unaltered : (from : ℕ) → 4 ≤ from → take 32 (drop from heads) ≡ take 32 (drop from l)
    unaltered from u = before (set l 2 tick) from 3 issues (omega arith) ∙ before l from 2 tick (omega arith)

    next_is : take 32 (drop 4 row) ≡ put (take 32 (drop 4 l)) j p
    next_is =
        behind tickets 4 (67 + j) e (omega arith) ∙ behind nexts 4 (35 + j) t (omega arith) ∙ inside heads 3 j p i
        ∙ ap (λ (q : List ℕ). put q j p) (unaltered 4 (omega arith))

    ticket_is : take 32 (drop 36 row) ≡ put (take 32 (drop 36 l)) j t
    ticket_is =
        behind tickets 36 (67 + j) e (omega arith) ∙ inside nexts 35 j t i
        ∙ ap (λ (q : List ℕ). put q j t) (before heads 36 (3 + j) p (omega arith) ∙ unaltered 36 (omega arith))

    expiry-is : take 32 (drop 68 row) ≡ put (take 32 (drop 68 l)) j e
    expiry-is =
        inside tickets 67 j e i
        ∙ ap (λ (q : List ℕ). put q j e) (before nexts 68 (35 + j) t (omega arith) ∙ before heads 68 (3 + j) p (omega arith) ∙ unaltered 68 (omega arith))

    row-length : length row ≡ 100
    row-length = simp length-set h

    pub entries-row : row ≡ book_numbers (entered (book_in l) tick issues j p t e)
    unfolding entered
    entries-row = sym (book_again row row-length) ∙ rw (other-head 0 (omega arith), other-head 1 (omega arith), latest-is, issued-is, next_is, ticket_is, expiry-is)
