-- The laws of decimals, passed on from `words_decimals`.
pub use Rattle.words_decimals.proofs.Decimal.{decimal-small, decimal-more}
