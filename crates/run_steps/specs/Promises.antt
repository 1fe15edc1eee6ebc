-- The runs of a size, and what the beginning and the step promise (crate run_answers).
pub use Rattle.run_answers.specs.Promises.{blank, fresh, at_word, finished, run_after, RunAt, RunFinished, BeginPromise, BeginAtPromise, RefusedStep, StepPromise}
