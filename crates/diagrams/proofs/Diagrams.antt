-- The laws of diagrams (crate diagrams_entries).
pub use Rattle.diagrams_entries.proofs.Diagrams.{edge-one, black-one-one, white-one-one, reached-edge, reached-trans, reached-back, reached-from-any, maps-same, reached-same, diagram-same}
