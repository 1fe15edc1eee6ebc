-- What makes a run through all sizes up to a bound valid (request U1, refusal 34), said of its fields alone: what is passed at a word and in the whole
-- list are counted along the tree of the words (crate upto_weights, Weights).
--
--   StagedUpto stage n w v    the word w and the visits v go with the stage: a word of a size 1..n and its visits with 1, at a diagram; none with 0, fresh, and with
--                             2, finished, where the visits are those of the whole list
--   ValidUpto run             the run is fresh, at a diagram with its visits, or finished with all; `word` is the word it is at, [] where there is none
use Rattle.std.specs.Prelude.{◌≡◌, ◌⊎◌, List, [], ℕ, length}
use Rattle.lists.specs.Ranges.{OneTo}
use Rattle.listing_successor.specs.Successor.{padded_word}
use Rattle.upto_words.specs.Within.{WordWithin}
use Rattle.upto_weights.specs.Weights.{passed_word, whole_weight}
use Rattle.upto_answers.specs.declared.UptoRun.{UptoRun}

abbrev pub StagedUpto : ℕ → ℕ → List ℕ → ℕ → Type 0
StagedUpto stage n w v =
    ((stage ≡ 1) × WordWithin n w × (v ≡ passed_word 0 1 n w))
    ⊎ (((stage ≡ 0) × (w ≡ []) × (v ≡ 0)) ⊎ ((stage ≡ 2) × (w ≡ []) × (v ≡ whole_weight 0 1 n)))

pub record ValidUpto (run : UptoRun) : Type 0 where
  pub word : List ℕ
  pub bounded : OneTo 50 run.bound
  pub long : run.length ≡ length word
  pub holds : run.items ≡ padded_word word
  pub staged : StagedUpto run.stage run.bound word run.visits
