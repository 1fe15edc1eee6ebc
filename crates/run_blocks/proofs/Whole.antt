-- A marked listing is a listing (crate run_blocks_marked).
pub use Rattle.run_blocks_marked.proofs.Whole.{marked-lists}
