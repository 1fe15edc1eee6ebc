-- What take, commit and release know of the share that `ask` has found.
use Prim.Native.Nat.{ℕ}
use native.Mathlib.Omega.{arith}
use Rattle.lists.specs.Ranges.{OneTo}
use Rattle.book.specs.declared.types.Book.{Book}
use Rattle.book.proofs.Accepted.{TicketGood, ticket-good}
use Rattle.std.specs.Prelude.{Ok}
use Rattle.book_standing.specs.Ask.{AskPromise}

module _ (b : Book) (tick t j : ℕ) (a : AskPromise b tick t (Ok j)) where
  pub asked-good : TicketGood b tick t
  asked-good = (ticket-good b tick t 0 (a.1 0)).0

  -- it has an entry in the book's lists
  pub asked_in : OneTo 32 j
  asked_in = let G = asked-good in let S = G.is_valid in let k = S.shares_in in let e = G.stands.share_in in rw a.0 (omega arith)
