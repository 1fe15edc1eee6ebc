-- A run's fields are those of a valid run exactly if its tests say so.
use mathlib.Core.Path.{◌≡◌, refl, sym, ap, ◌∙◌}
use mathlib.Core.Logic.{◌≢◌, ◌⊎◌, inl, inr}
use mathlib.Core.List.{List, [], ◌∷◌, ◌++◌}
use Prim.Native.Nat.{ℕ, suc, ◌-◌, ◌≤◌, ◌<◌}
use native.Mathlib.Omega.{arith}
use lib.ListN.{length, get_or, take, drop, replicate, get_or-replicate, length-append, length-drop, length-replicate, take-append-drop}
use lib.Seq.{length-take-le, take_all, take_at, drop_at}
use Rattle.lists.specs.Ranges.{OneTo}
use Rattle.lists.proofs.Tests.{same?}
use Rattle.lists.proofs.Lists.{length-0}
use Rattle.words.specs.Shape.{Word}
use Rattle.listing_successor.specs.Successor.{padded_word}
use Rattle.run_answers.specs.declared.Run.{Run}
use Rattle.run_validity.specs.Valid.{Staged, ValidRun}

-- ---- a list of zeros, by its elements

pub zeros-all : (w : List ℕ) → ((i : ℕ) → i < length w → get_or w i 0 ≡ 0) → w ≡ replicate (length w) 0
zeros-all [] k = refl
zeros-all (x ∷ w) k = rw (k 0 (omega arith)) (ap (λ (l : List ℕ). 0 ∷ l) (zeros-all w (λ i l. k (suc i) (omega arith))))

pub zeros-at : (n i : ℕ) (w : List ℕ) → w ≡ replicate n 0 → i < n → get_or w i 0 ≡ 0
zeros-at n i w e l = rw e (get_or-replicate n i 0 0 l)

-- ---- a word and a stage

pub staged-at : (stage n : ℕ) (w : List ℕ) → stage ≡ 1 → Staged stage n w → Word n w
staged-at stage n w e (inl s) = s.1
staged-at stage n w e (inr s) = absurd (none s.0)
  where
    none : (stage ≡ 0) ⊎ (stage ≡ 2) → ⊥
    none (inl z) = omega arith
    none (inr z) = omega arith

pub staged-few : (stage n : ℕ) (w : List ℕ) → Staged stage n w → stage ≤ 2
staged-few stage n w (inl s) = let e = s.0 in omega arith
staged-few stage n w (inr s) = few s.0
  where
    few : (stage ≡ 0) ⊎ (stage ≡ 2) → stage ≤ 2
    few (inl z) = omega arith
    few (inr z) = omega arith

module _ (stage n : ℕ) (w : List ℕ) (a : stage ≢ 1) where
  pub staged-none : stage ≤ 2 → length w ≡ 0 → Staged stage n w
  staged-none b z = inr (go (same? stage 0), length-0 w z)
    where
      go : (stage ≡ 0) ⊎ (stage ≢ 0) → (stage ≡ 0) ⊎ (stage ≡ 2)
      go (inl e) = inl e
      go (inr e) = inr (omega arith)

  pub staged-empty : Staged stage n w → length w ≡ 0
  staged-empty (inl s) = absurd (a s.0)
  staged-empty (inr s) = rw s.1

-- nothing, or a word
pub staged-word : (stage n : ℕ) (w : List ℕ) → Staged stage n w → (w ≡ []) ⊎ Word n w
staged-word stage n w (inl s) = inr s.1
staged-word stage n w (inr s) = inl s.1

-- ---- a word in the first of 51 places

-- the items from place l on, as a part of the list
abbrev pub unused : List ℕ → ℕ → List ℕ
unused items l = take (51 - l) (drop l items)

unused-is : (items : List ℕ) (l : ℕ) → length items ≡ 51 → unused items l ≡ drop l items
unused-is items l n = take_all (51 - l) (drop l items) (rw (length-drop, n) (omega arith))

module _ (items : List ℕ) (l : ℕ) (n : length items ≡ 51) where
  -- the first l items are a word of that length, where there are so many,
  pub held-length : l ≤ 51 → length (take l items) ≡ l
  held-length i = length-take-le l items (omega arith)

  -- and after them stand zeros, where the unused items are 0
  pub held_items : l ≤ 51 → unused items l ≡ replicate (length (unused items l)) 0 → items ≡ padded_word (take l items)
  held_items i z = sym (take-append-drop l items) ∙ ap (λ (t : List ℕ). take l items ++ t) rest
    where
      many : length (unused items l) ≡ 51 - length (take l items)
      many = rw (unused-is items l n, length-drop, n, held-length i)

      rest : drop l items ≡ replicate (51 - length (take l items)) 0
      rest = sym (unused-is items l n) ∙ z ∙ ap (λ (k : ℕ). replicate k 0) many

  module _ (w : List ℕ) (long : l ≡ length w) (holds : items ≡ padded_word w) where
    pub padded-length : l ≤ 51
    padded-length = let a = ap length holds in let b = length-append w (replicate (51 - length w) 0) in let c = length-replicate {A = ℕ} (51 - length w) 0 in omega arith

    pub padded-unused : unused items l ≡ replicate (length (unused items l)) 0
    padded-unused = rw (unused-is items l n) (by (drop l items) (51 - length w) (rw holds (drop_at w _ l (sym long))))
      where
        by : (t : List ℕ) (k : ℕ) → t ≡ replicate k 0 → t ≡ replicate (length t) 0
        by t k e = rw (e, length-replicate)

    pub padded-word : take l items ≡ w
    padded-word = rw holds (take_at w _ l (sym long))

-- ---- the fields of a run

module _ (run : Run) (n : length run.items ≡ 51) where
  -- the word of a run, its unused items being 0
  pub valid-yes : OneTo 50 run.size → run.length ≤ 51 → unused run.items run.length ≡ replicate (length (unused run.items run.length)) 0 → Staged run.stage run.size (take run.length run.items) → ValidRun run
  valid-yes e l z s = record { word = take run.length run.items; sized = e; long = sym (held-length run.items run.length n l); holds = held_items run.items run.length n l z; staged = s }

  module _ (S : ValidRun run) where
    pub valid-length : run.length ≤ 51
    valid-length = padded-length run.items run.length n S.word S.long S.holds

    pub valid-unused : unused run.items run.length ≡ replicate (length (unused run.items run.length)) 0
    valid-unused = padded-unused run.items run.length n S.word S.long S.holds

    pub valid-word : take run.length run.items ≡ S.word
    valid-word = padded-word run.items run.length n S.word S.long S.holds

    pub valid-staged : Staged run.stage run.size (take run.length run.items)
    valid-staged = rw valid-word S.staged
