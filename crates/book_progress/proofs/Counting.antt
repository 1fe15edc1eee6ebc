-- What the two loops over the shares keep.
--
--   bare                   a book without tickets, of given heads and next positions
--   Counted, step          what the first i shares have committed, and one share more
--   one_left, one_more     share i + 1 is not finished, or is
use mathlib.Core.Path.{◌≡◌, refl, sym, ◌∙◌}
use mathlib.Core.Bool.{true, false}
use mathlib.Core.List.{List, []}
use Prim.Native.Nat.{ℕ, suc, pred, ◌+◌, ◌-◌, ◌*◌, ◌^◌, ◌≤◌, ◌<◌}
use native.Mathlib.Numerals.{add-one}
use native.Mathlib.Omega.{arith}
use Rattle.lists.specs.Lists.{at}
use Rattle.lists.specs.Ranges as ranges
use Rattle.lists.specs.Ranges.{OneTo, every}
use Rattle.lists.proofs.Tests.{lt-true, lt-false}
use Rattle.book.specs.declared.types.Book.{Book}
use Rattle.book.specs.declared.types.Heads.{Heads}
use Rattle.book_entries.specs.Entries.{book_with}
use Rattle.book.specs.Shares.{first, last, next, done, finished, committed, complete}
use Rattle.book.proofs.Counts.{last-small}
use Rattle.book.proofs.Entries.{every-false}
use Rattle.book_progress.specs.Progress.{NextIn}

-- what a book without tickets has committed is what one with any has
abbrev pub bare : Heads → List ℕ → Book
bare h p = book_with h p [] []

pub any_committed : (h : Heads) (p t e : List ℕ) → committed (bare h p) ≡ committed (book_with h p t e)
unfolding committed done
any_committed h p t e = refl

pub any_complete : (h : Heads) (p t e : List ℕ) → complete (bare h p) ≡ complete (book_with h p t e)
unfolding complete finished
any_complete h p t e = refl

-- the committed positions of shares 1..i
pub record Counted (h : Heads) (p : List ℕ) (i sum : ℕ) : Type 0 where
  pub is : sum ≡ ranges.sum i (done (bare h p))
  pub small : sum ≤ i * 2 ^ 57

-- share i + 1 adds those from its first to the one before its next
pub record Step (h : Heads) (p : List ℕ) (i sum before : ℕ) : Type 0 where
  pub from : before + 1 ≤ at p (suc i)
  pub less : i < 32
  pub counted : Counted h p (i + 1) (sum + (at p (suc i) - (before + 1)))

pub step : (h : Heads) (p : List ℕ) (i sum before : ℕ) → OneTo 50 h.size → OneTo 32 h.shares → NextIn h p → i < h.shares → before ≡ last h.size h.shares i → Counted h p i sum → Step h p i sum before
unfolding first done
step h p i sum before n k S l e C =
    let s = S (suc i) (omega arith) in
    let d : pred (suc i) ≡ i = omega arith in
    let f = rw d at s.0 in
    let m = last-small h.size h.shares (suc i) n (omega arith) in
    record {
      from = omega arith;
      less = omega arith;
      counted = record {
        is = rw (add-one, add-one, d, ← e, ← C.is) (omega arith);
        small = let u = s.1 in let v = C.small in omega arith;
      };
    }

pub whole_sum : (h : Heads) (p : List ℕ) (i sum : ℕ) → h.shares ≤ i → i ≤ h.shares → Counted h p i sum → sum ≡ committed (bare h p)
unfolding committed
whole_sum h p i sum l u C = let e : i ≡ h.shares = omega arith in C.is ∙ rw e

pub one_left : (b : Book) (i r : ℕ) → i < b.shares → r ≡ last b.size b.shares (i + 1) → next b (suc i) ≤ r → complete b ≡ false
unfolding complete finished
one_left b i r h e l = every-false b.shares (finished b) (suc i) (omega arith) (lt-false _ _ (rw (e, add-one) at l))

pub one_more : (b : Book) (i r : ℕ) → r ≡ last b.size b.shares (i + 1) → r < next b (suc i) → every i (finished b) ≡ true → every (i + 1) (finished b) ≡ true
unfolding finished
one_more b i r e l h = rw (add-one, lt-true _ _ (rw (e, add-one) at l)) h

pub whole : (b : Book) (i : ℕ) → b.shares ≤ i → i ≤ b.shares → every i (finished b) ≡ true → true ≡ complete b
unfolding complete
whole b i l u h = let e : i ≡ b.shares = omega arith in sym (rw e at h)
