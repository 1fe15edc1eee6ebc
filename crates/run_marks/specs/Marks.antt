-- The keep marks of a block.
--
--   MarkOf D x                  x is the keep mark of the diagram D: 1 where it is kept, 0 where not
--   Marks n p k m               m is the list of the keep marks of the k diagrams after position p of size n
--   BlockHeld n p k ..          the lists begin with the k diagrams after position p
--   MarksWritten n p k am bm    the keep marks of these are written into the list am, now bm
use Rattle.std.specs.Prelude.{◌≡◌, ◌⊎◌, List, ◌++◌, ℕ, suc, ◌+◌, ◌≤◌, ◌<◌, length, get_or}
use Rattle.lists.specs.Overwriting.{overwrite}
use Rattle.lists.specs.Ranges.{OneTo}
use Rattle.words.specs.Word.{Pair}
use Rattle.labelling.specs.Rootings.{Kept}
use Rattle.listing.specs.Listing.{count}
use Rattle.listing.specs.Diagrams.{diagram_at}
use Rattle.run_row.specs.Rows.{blacks, whites, flat_words, lengths}

abbrev pub MarkOf : Pair → ℕ → Type 0
MarkOf D x = ((x ≡ 1) × Kept D.black D.white 1) ⊎ ((x ≡ 0) × (¬ Kept D.black D.white 1))

pub record Marks (n p k : ℕ) (m : List ℕ) : Type 0 where
  pub long : length m ≡ k
  pub each : (i : ℕ) → i < k → MarkOf (diagram_at n (suc (p + i))) (get_or m i 0)

pub record BlockHeld (n p k : ℕ) (b0 b1 bw bl : List ℕ) : Type 0 where
  pub sized : OneTo 50 n
  pub within : p + k ≤ count n
  pub rest0 : List ℕ
  pub s0_is : b0 ≡ blacks n p k ++ rest0
  pub rest1 : List ℕ
  pub s1_is : b1 ≡ whites n p k ++ rest1
  pub rest_words : List ℕ
  pub words_is : bw ≡ flat_words n p k ++ rest_words
  pub rest_lengths : List ℕ
  pub lengths_is : bl ≡ lengths n p k ++ rest_lengths

pub record MarksWritten (n p k : ℕ) (am bm : List ℕ) : Type 0 where
  pub marks : List ℕ
  pub are : Marks n p k marks
  pub written : bm ≡ overwrite marks am
