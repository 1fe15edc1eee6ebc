-- The notions of a diagram (crate diagrams_entries).
pub use Rattle.diagrams_entries.specs.Diagram.{Reached, here, black, white, Maps, Diagram, Rooted}
