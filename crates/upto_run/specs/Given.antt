-- A step that gives a diagram. Lists named a are as they were lent, lists named b as they are handed back.
--
--   UptoGiven n size v w given ..    a step that gives the diagram of w: its answer, the run it leaves, and the lists before and after
use Rattle.std.specs.Prelude.{◌≡◌, List, ℕ, length, Some, Ok}
use Rattle.words.specs.Outputs.{Written}
use Rattle.listing.specs.Diagrams.{diagram_of}
use Rattle.upto_answers.specs.declared.UptoStepped.{UptoStepped}
use Rattle.upto_answers.specs.Promises.{upto_at}

pub record UptoGiven (n size v : ℕ) (w : List ℕ) (given : UptoStepped) (a0 a1 aw b0 b1 bw : List ℕ) : Type 0 where
  pub answer : given.answer ≡ Ok (Some record { size = size; length = length w; visits = v })
  pub leaves : given.run ≡ upto_at n w v
  pub written : Written (diagram_of w) w a0 a1 aw b0 b1 bw
