-- Dictionary order, passed on from `words_order`.
pub use Rattle.words_order.specs.Order.{Before, precedes, lesser, same}
