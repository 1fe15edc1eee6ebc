-- What the operations promise (crate labelling_answers).
pub use Rattle.labelling_answers.specs.Promises.{RelabelPromise, CharacteristicPromise, RefusedSide, ComparePromise, CompareRootedPromise, CompareUnrootedPromise, SymmetriesPromise, KeptPromise}
