-- The numbers of a claim from some condition on, as the code tests them.
--
--   share_number b tick j        55 finished, 56 held and not lapsed, 57 all tickets issued
--   place_number b tick j len    53 share outside 1..k, 54 length outside 1..65,535, then those
use Rattle.std.specs.Prelude.{ℕ, ltb}
use Rattle.book.specs.declared.types.Book.{Book}
use Rattle.book.specs.Shares.{finished}
use Rattle.book.specs.Valid.{among}
use Rattle.book.specs.Calls.{unless, not, held}

unfoldable pub share_number : Book → ℕ → ℕ → ℕ
share_number b tick j = unless (not (finished b j)) 55 (unless (not (held b j tick)) 56 (unless (ltb b.issued 65535) 57 0))

unfoldable pub place_number : Book → ℕ → ℕ → ℕ → ℕ
place_number b tick j len = unless (among b.shares j) 53 (unless (among 65535 len) 54 (share_number b tick j))
