-- A valid run stands at a place of the single list, or is finished; its visits are those of that place.
use mathlib.Core.Path.{◌≡◌, refl, sym, ap, ◌∙◌}
use mathlib.Core.Logic.{◌≢◌, inl, inr}
use mathlib.Core.List.{List, []}
use Prim.Native.Nat.{ℕ, zero, suc}
use native.Mathlib.Omega.{arith}
use lib.ListN.{length}
use Rattle.lists.specs.Ranges.{OneTo}
use Rattle.listing_successor.specs.Successor.{padded_word}
use Rattle.upto.specs.Upto.{total, word_upto}
use Rattle.upto.specs.Visits.{visits}
use Rattle.upto.proofs.Upto.{upto-at}
use Rattle.upto.proofs.Visits.{visits-0}
use Rattle.upto_words.proofs.Within.{within_word}
use Rattle.upto_weights.specs.Weights.{passed_word}
use Rattle.upto_laws.proofs.Laws.{at-within, visits-passed, all-visits}
use Rattle.upto_answers.specs.declared.UptoRun.{UptoRun}
use Rattle.upto_answers.specs.Promises.{UptoAt, UptoFinished}
use Rattle.upto_validity.specs.Valid.{StagedUpto, ValidUpto}

-- a run by its fields
run_is : (run : UptoRun) (n s : ℕ) (w : List ℕ) (v : ℕ) → run.bound ≡ n → run.stage ≡ s → run.length ≡ length w → run.visits ≡ v → run.items ≡ padded_word w
    → run ≡ record { bound = n; stage = s; length = length w; visits = v; items = padded_word w }
run_is run n s w v a b c d e = same run.bound run.stage run.length run.visits run.items a b c d e
  where
    same : (n' s' l' v' : ℕ) (i' : List ℕ) → n' ≡ n → s' ≡ s → l' ≡ length w → v' ≡ v → i' ≡ padded_word w
        → ◌≡◌ {A = UptoRun} record { bound = n'; stage = s'; length = l'; visits = v'; items = i' } record { bound = n; stage = s; length = length w; visits = v; items = padded_word w }
    same n' s' l' v' i' a b c d e = rw (a, b, c, d, e)

-- the place of a run: it has given so many diagrams, w being the word of the last
pub record Standing (run : UptoRun) (w : List ℕ) : Type 0 where
  pub place : ℕ
  pub stands : UptoAt run.bound place run
  pub word : word_upto run.bound place ≡ w

none : (n : ℕ) → word_upto n 0 ≡ []
unfolding word_upto
none n = refl

pub standing : (run : UptoRun) (S : ValidUpto run) → run.stage ≢ 2 → Standing run S.word
standing run S z = go S.word S.staged S.long S.holds
  where
    at-diagram : (w : List ℕ) → run.stage ≡ 1 → run.visits ≡ passed_word 0 1 run.bound w → run.length ≡ length w → run.items ≡ padded_word w
        → (p : ℕ) → OneTo (total run.bound) p → word_upto run.bound p ≡ w → Standing run w
    at-diagram w e v l h zero o i = let y = o.0 in absurd (omega arith)
    at-diagram w e v l h (suc p) o i = record {
      place = suc p;
      stands = record {
        bounded = S.bounded;
        within = o.1;
        is = rw i (run_is run run.bound 1 w (visits run.bound (suc p)) refl e l (v ∙ ap (passed_word 0 1 run.bound) (sym i) ∙ sym (visits-passed run.bound S.bounded.0 (suc p) o.1)) h);
      };
      word = i;
    }

    go : (w : List ℕ) → StagedUpto run.stage run.bound w run.visits → run.length ≡ length w → run.items ≡ padded_word w → Standing run w
    go w (inl s) l h = let P = upto-at run.bound w ((within_word run.bound w).0 s.1) in at-diagram w s.0 s.2 l h P.0 P.1 P.2
    go w (inr (inl s)) l h = record {
      place = 0;
      stands = record { bounded = S.bounded; within = omega arith; is = run_is run run.bound 0 [] 0 refl s.0 (rw s.1 at l) s.2 (rw s.1 at h) };
      word = none run.bound ∙ sym s.1;
    }
    go w (inr (inr s)) l h = absurd (z s.0)

pub finished-over : (run : UptoRun) → ValidUpto run → run.stage ≡ 2 → UptoFinished run.bound run
finished-over run S z = over S.word S.staged S.long S.holds
  where
    over : (w : List ℕ) → StagedUpto run.stage run.bound w run.visits → run.length ≡ length w → run.items ≡ padded_word w → UptoFinished run.bound run
    over w (inl s) l h = let e = s.0 in absurd (omega arith)
    over w (inr (inl s)) l h = let e = s.0 in absurd (omega arith)
    over w (inr (inr s)) l h = record { bounded = S.bounded; is = run_is run run.bound 2 [] _ refl z (rw s.1 at l) (s.2 ∙ sym (all-visits run.bound S.bounded.0)) (rw s.1 at h) }

-- the visits of a run that stands somewhere
pub stands-visits : (n p : ℕ) (run : UptoRun) → UptoAt n p run → run.visits ≡ visits n p
stands-visits n zero run T = ap (λ (r : UptoRun). r.visits) T.is ∙ sym (visits-0 n)
stands-visits n (suc p) run T = ap (λ (r : UptoRun). r.visits) T.is

-- ---- and back

pub over-valid : (n : ℕ) (run : UptoRun) → UptoFinished n run → ValidUpto run
over-valid n run O = rw O.is record { word = []; bounded = O.bounded; long = refl; holds = refl; staged = inr (inr (refl, refl, all-visits n O.bounded.0)) }

pub stands-valid : (n p : ℕ) (run : UptoRun) → UptoAt n p run → ValidUpto run
stands-valid n zero run T = rw T.is record { word = []; bounded = T.bounded; long = refl; holds = refl; staged = inr (inl (refl, refl, refl)) }
stands-valid n (suc p) run T =
    rw T.is
    record {
      word = word_upto n (suc p);
      bounded = T.bounded;
      long = refl;
      holds = refl;
      staged = inl (refl, at-within n (suc p) (omega arith, T.within), visits-passed n T.bounded.0 (suc p) T.within);
    }
