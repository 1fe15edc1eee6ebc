-- What the two operations promise (crate run_blocks_answers).
pub use Rattle.run_blocks_answers.specs.Promises.{ShortRows, Block, RunAfterRows, RowsGiven, ListsUntouched, NoRows, RefusedList, ListPromise, MarkedRowsGiven, ListMarkedPromise}
