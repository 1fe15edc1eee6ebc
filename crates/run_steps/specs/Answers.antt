-- The value of a step's answer (crate run_answers).
pub use Rattle.run_answers.specs.Answers.{step_length}
