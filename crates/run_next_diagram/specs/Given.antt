-- A step that gives a diagram. Lists named a are as they were lent, lists named b as they are handed back.
--
--   StepGives size w given ..   a step that gives the diagram of w: its answer, the run it leaves, and the lists before and after
use Rattle.std.specs.Prelude.{◌≡◌, List, ℕ, length, Some, Ok}
use Rattle.words.specs.Outputs.{Written}
use Rattle.listing.specs.Diagrams.{diagram_of}
use Rattle.run_answers.specs.declared.Stepped.{Stepped}
use Rattle.run_answers.specs.Promises.{at_word}

pub record StepGives (size : ℕ) (w : List ℕ) (given : Stepped) (a0 a1 aw b0 b1 bw : List ℕ) : Type 0 where
  pub answer : given.answer ≡ Ok (Some (length w))
  pub leaves : given.run ≡ at_word size w
  pub written : Written (diagram_of w) w a0 a1 aw b0 b1 bw
