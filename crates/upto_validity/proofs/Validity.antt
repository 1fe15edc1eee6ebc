-- A run's fields are those of a valid run exactly if its tests say so.
use mathlib.Core.Path.{◌≡◌, sym}
use mathlib.Core.Logic.{◌≢◌, ◌⊎◌, inl, inr}
use mathlib.Core.List.{List, []}
use Prim.Native.Nat.{ℕ, ◌≤◌}
use native.Mathlib.Omega.{arith}
use lib.ListN.{length, take, replicate}
use Rattle.lists.specs.Ranges.{OneTo}
use Rattle.run_validity.proofs.Validity.{unused, held-length, held_items, padded-length, padded-unused, padded-word}
use Rattle.upto_words.specs.Within.{WordWithin}
use Rattle.upto_words.proofs.Within.{within_word}
use Rattle.upto_weights.specs.Weights.{passed_word, whole_weight}
use Rattle.upto_size.specs.Sizes.{SizePromise}
use Rattle.upto_answers.specs.declared.UptoRun.{UptoRun}
use Rattle.upto_validity.specs.Valid.{StagedUpto, ValidUpto}

-- ---- a word, visits and a stage

module _ (stage n : ℕ) (w : List ℕ) (v : ℕ) where
  -- at a diagram: the word, and its visits
  pub staged-at : stage ≡ 1 → StagedUpto stage n w v → WordWithin n w × (v ≡ passed_word 0 1 n w)
  staged-at e (inl s) = (s.1, s.2)
  staged-at e (inr (inl s)) = let z = s.0 in absurd (omega arith)
  staged-at e (inr (inr s)) = let z = s.0 in absurd (omega arith)

  -- elsewhere no word
  pub staged-empty : stage ≢ 1 → StagedUpto stage n w v → length w ≡ 0
  staged-empty a (inl s) = absurd (a s.0)
  staged-empty a (inr (inl s)) = rw s.1
  staged-empty a (inr (inr s)) = rw s.1

  pub staged-fresh : stage ≡ 0 → StagedUpto stage n w v → v ≡ 0
  staged-fresh e (inl s) = let z = s.0 in absurd (omega arith)
  staged-fresh e (inr (inl s)) = s.2
  staged-fresh e (inr (inr s)) = let z = s.0 in absurd (omega arith)

  pub staged-over : stage ≡ 2 → StagedUpto stage n w v → v ≡ whole_weight 0 1 n
  staged-over e (inl s) = let z = s.0 in absurd (omega arith)
  staged-over e (inr (inl s)) = let z = s.0 in absurd (omega arith)
  staged-over e (inr (inr s)) = s.2

  pub staged-few : StagedUpto stage n w v → stage ≤ 2
  staged-few (inl s) = let z = s.0 in omega arith
  staged-few (inr (inl s)) = let z = s.0 in omega arith
  staged-few (inr (inr s)) = let z = s.0 in omega arith

  -- nothing, or a word
  pub staged-word : StagedUpto stage n w v → (w ≡ []) ⊎ WordWithin n w
  staged-word (inl s) = inr s.1
  staged-word (inr (inl s)) = inl s.1
  staged-word (inr (inr s)) = inl s.1

-- a list whose size was found is a word within the bound, and no other is
pub sized-within : (n : ℕ) (w : List ℕ) (r : ℕ) → SizePromise n w r → r ≢ 0 → WordWithin n w
sized-within n w r S z = (let o = S.sized z in (within_word n w).1 (r, o.0, o.1))

pub unsized-not : (n : ℕ) (w : List ℕ) (r : ℕ) → SizePromise n w r → r ≡ 0 → ¬ WordWithin n w
unsized-not n w r S z a = let m = (within_word n w).0 a in S.none z m.0 m.1 m.2

-- ---- the fields of a run

module _ (run : UptoRun) (n : length run.items ≡ 51) where
  pub valid-yes : OneTo 50 run.bound → run.length ≤ 51 → unused run.items run.length ≡ replicate (length (unused run.items run.length)) 0
      → StagedUpto run.stage run.bound (take run.length run.items) run.visits → ValidUpto run
  valid-yes e l z s = record { word = take run.length run.items; bounded = e; long = sym (held-length run.items run.length n l); holds = held_items run.items run.length n l z; staged = s }

  module _ (S : ValidUpto run) where
    pub valid-length : run.length ≤ 51
    valid-length = padded-length run.items run.length n S.word S.long S.holds

    pub valid-unused : unused run.items run.length ≡ replicate (length (unused run.items run.length)) 0
    valid-unused = padded-unused run.items run.length n S.word S.long S.holds

    pub valid-word : take run.length run.items ≡ S.word
    valid-word = padded-word run.items run.length n S.word S.long S.holds

    pub valid-staged : StagedUpto run.stage run.bound (take run.length run.items) run.visits
    valid-staged = rw valid-word S.staged
