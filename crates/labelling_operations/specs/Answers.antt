-- The answers' numbers and values (crate labelling_answers).
pub use Rattle.labelling_answers.specs.Answers.{relabel_length, side_number, compare_number, compare_same, compare_side, symmetries_count, kept_mark}
