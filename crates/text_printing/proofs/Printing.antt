-- The laws of pieces and of lists, passed on from `text_printing_pieces` and `text_printing_lists`.
pub use Rattle.text_printing_pieces.proofs.Pieces.{put-fits, put-short, put-byte-fits, put_of, put-all-fits, put-all-append, puts_then, puts-last, put-all-then}
pub use Rattle.text_printing_lists.proofs.Lists.{entries-more, entry-one, entries-past, list-first, list-none}
