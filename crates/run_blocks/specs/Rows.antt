-- The rows of a block and their keep marks, passed on from the crates that write them.
unfoldable pub use Rattle.run_row.specs.Rows.{blacks, whites, flat_words, lengths}
pub use Rattle.run_marks.specs.Marks.{MarkOf, Marks, MarksWritten}
