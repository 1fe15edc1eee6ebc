-- The labelling in lent arrays (crate labelling_events).
pub use Rattle.labelling_events.specs.Scratch.{LabelsHeld, Underway, first_event_of, EventDone, WordWritten}
