-- What makes a run valid (document 01, refusal 34), said of its fields alone.
--
--   Staged stage n w       the word w goes with the stage: a word of n edges with 1, at a diagram, and [] with 0, fresh, and 2, finished
--   ValidRun run           the run is fresh, at a diagram of its size, or finished; `word` is the word it is at, [] where there is none
use Rattle.std.specs.Prelude.{◌≡◌, ◌⊎◌, List, [], ℕ, length}
use Rattle.lists.specs.Ranges.{OneTo}
use Rattle.words.specs.Shape.{Word}
use Rattle.listing_successor.specs.Successor.{padded_word}
use Rattle.run_answers.specs.declared.Run.{Run}

abbrev pub Staged : ℕ → ℕ → List ℕ → Type 0
Staged stage n w = ((stage ≡ 1) × Word n w) ⊎ (((stage ≡ 0) ⊎ (stage ≡ 2)) × (w ≡ []))

pub record ValidRun (run : Run) : Type 0 where
  pub word : List ℕ
  pub sized : OneTo 50 run.size
  pub long : run.length ≡ length word
  pub holds : run.items ≡ padded_word word
  pub staged : Staged run.stage run.size word
