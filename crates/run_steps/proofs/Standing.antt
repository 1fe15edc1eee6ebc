-- Where a run stands (crate run_validity).
pub use Rattle.run_validity.proofs.Standing.{stands-size}
