-- The value of a listing's answer (crate run_blocks_answers).
pub use Rattle.run_blocks_answers.specs.Answers.{list_rows}
