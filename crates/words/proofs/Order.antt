-- The laws of dictionary order, passed on from `words_order`.
pub use Rattle.words_order.proofs.Order.{before-irrefl, before-trans, before-antisym, Compared, before, equal, after, compared, precedes-true, before-true, precedes-false, before-false, Least, lesser-least, lesser-first, precedes-from, precedes-by, precedes-short, precedes-past, same_true, same_self, same_false, same_from, same_by, same_over}
