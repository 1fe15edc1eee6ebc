-- A valid run stands at a position, or is finished; the word that follows its word stands at the next position, and there is none after the last.
use mathlib.Core.Path.{◌≡◌, refl, sym, ap}
use mathlib.Core.Logic.{◌≢◌, ◌⊎◌, inl, inr}
use mathlib.Core.List.{List, []}
use Prim.Native.Nat.{ℕ, zero, suc, ◌≤◌, ◌<◌}
use native.Mathlib.Omega.{arith}
use lib.ListN.{length, get_or-eq_default}
use Rattle.lists.proofs.Tests.{lt?}
use Rattle.words.specs.Shape.{Word}
use Rattle.listing.specs.Listing.{listing, count}
use Rattle.listing.specs.Position.{word_at}
use Rattle.listing_successor.specs.Successor.{successor, padded_word}
use Rattle.listing_successor.proofs.Forwards.{empty-not}
use Rattle.listing_successor.proofs.Places as places
use Rattle.listing_successor.proofs.Places.{word_placed, word-occurs, following-at}
use Rattle.run_answers.specs.declared.Run.{Run}
use Rattle.run_answers.specs.Promises.{RunAt, RunFinished}
use Rattle.run_validity.specs.Valid.{Staged, ValidRun}

-- a run by its fields
run_is : (run : Run) (n s : ℕ) (w : List ℕ) → run.size ≡ n → run.stage ≡ s → run.length ≡ length w → run.items ≡ padded_word w → run ≡ record { size = n; stage = s; length = length w; items = padded_word w }
run_is run n s w a b c d = same run.size run.stage run.length run.items a b c d
  where
    same : (n' s' l' : ℕ) (i' : List ℕ) → n' ≡ n → s' ≡ s → l' ≡ length w → i' ≡ padded_word w → ◌≡◌ {A = Run} record { size = n'; stage = s'; length = l'; items = i' } record { size = n; stage = s; length = length w; items = padded_word w }
    same n' s' l' i' a b c d = rw (a, b, c, d)

-- the position of a run: it has given so many diagrams, w being the word of the last
pub record Standing (run : Run) (w : List ℕ) : Type 0 where
  pub place : ℕ
  pub stands : RunAt run.size place run
  pub word : word_at run.size place ≡ w

pub standing : (run : Run) (S : ValidRun run) → run.stage ≢ 2 → Standing run S.word
unfolding word_at count
standing run S n = go S.word S.staged S.long S.holds
  where
    at-diagram : (w : List ℕ) → run.stage ≡ 1 → run.length ≡ length w → run.items ≡ padded_word w → places.OccursIn w (listing run.size) → Standing run w
    at-diagram w e l h P = record {
      place = suc P.place;
      stands = record { sized = S.sized; within = P.within; is = rw P.is (run_is run run.size 1 w refl e l h) };
      word = P.is;
    }

    go : (w : List ℕ) → Staged run.stage run.size w → run.length ≡ length w → run.items ≡ padded_word w → Standing run w
    go w (inl s) l h = at-diagram w s.0 l h (word-occurs run.size w s.1)
    go w (inr (inl z, e)) l h = record {
      place = 0;
      stands = record { sized = S.sized; within = omega arith; is = run_is run run.size 0 [] refl z (rw e at l) (rw e at h) };
      word = sym e;
    }
    go w (inr (inr z, e)) l h = absurd (n z)

pub finished-over : (run : Run) → ValidRun run → run.stage ≡ 2 → RunFinished run.size run
finished-over run S z = record { sized = S.sized; is = run_is run run.size 2 [] refl z (rw e at S.long) (rw e at S.holds) }
  where
    none : (w : List ℕ) → Staged run.stage run.size w → w ≡ []
    none w (inl s) = let i = s.0 in absurd (omega arith)
    none w (inr s) = s.1

    e : S.word ≡ []
    e = none S.word S.staged

-- the size is the run's
pub stands-size : (n p : ℕ) (run : Run) → RunAt n p run → run.size ≡ n
stands-size n zero run T = ap (λ (r : Run). r.size) T.is
stands-size n (suc p) run T = ap (λ (r : Run). r.size) T.is

-- ---- and back

pub over-valid : (n : ℕ) (run : Run) → RunFinished n run → ValidRun run
over-valid n run O = rw O.is record { word = []; sized = O.sized; long = refl; holds = refl; staged = inr (inr refl, refl) }

pub stands-valid : (n p : ℕ) (run : Run) → RunAt n p run → ValidRun run
stands-valid n zero run T = rw T.is record { word = []; sized = T.sized; long = refl; holds = refl; staged = inr (inl refl, refl) }
stands-valid n (suc p) run T = rw T.is record { word = word_at n (suc p); sized = T.sized; long = refl; holds = refl; staged = inl (refl, word_placed n p T.within) }

-- ---- the next word

past-none : (n p : ℕ) → count n ≤ p → word_at n (suc p) ≡ []
unfolding word_at count
past-none n p l = get_or-eq_default (listing n) [] l

-- there is none after position p exactly if p is the last
module _ (n p : ℕ) (l : p ≤ count n) where
  pub none_after : length (word_at n (suc p)) ≡ 0 → p ≡ count n
  none_after z = go (lt? p (count n))
    where
      go : (p < count n) ⊎ (count n ≤ p) → p ≡ count n
      go (inl h) = absurd (empty-not n (word_at n (suc p)) z (word_placed n p h))
      go (inr h) = omega arith

  pub some_after : ¬ (length (word_at n (suc p)) ≡ 0) → p < count n
  some_after z = go (lt? p (count n))
    where
      go : (p < count n) ⊎ (count n ≤ p) → p < count n
      go (inl h) = h
      go (inr h) = absurd (z (rw (past-none n p h)))

module _ (run : Run) (w : List ℕ) (T : Standing run w) where
  abbrev n : ℕ
  n = run.size

  abbrev v : List ℕ
  v = successor n w

  next_is : v ≡ word_at n (suc T.place)
  next_is = rw T.word at (following-at n T.place T.stands.sized.0 T.stands.within)

  pub last-stands : length v ≡ 0 → RunAt n (count n) run
  last-stands z = rw last at T.stands
    where
      last : T.place ≡ count n
      last = none_after n T.place T.stands.within (rw (← next_is) z)

  pub record Next : Type 0 where
    pub more : T.place < count n
    pub is : v ≡ word_at n (suc T.place)
    pub word : Word n v

  pub next-stands : length v ≢ 0 → Next
  next-stands z = record { more = more; is = next_is; word = rw next_is (word_placed n T.place more) }
    where
      more : T.place < count n
      more = some_after n T.place T.stands.within (λ y. z (rw next_is y))
