-- The conditions on a share's entries, each said of the numbers that the code is given.
--
--   placed before last p t  of a share that holds the positions after `before` up to `last`: its next position p is one of them or just past
--                           them, and past them its ticket t is 0
--   timely t e latest       without a ticket t the expiry e is 0, and it lies at most 65,535 beyond the latest tick
use Rattle.std.specs.Prelude.{Bool, true, false, cond, ℕ, suc, ◌+◌, eqb, leb, ltb}
use Rattle.book_connectives.specs.Connectives.{both, either}

unfoldable pub placed : ℕ → ℕ → ℕ → ℕ → Bool
placed before last p t = both (both (leb (suc before) p) (leb p (suc last))) (cond (ltb last p) (eqb t 0) true)

unfoldable pub timely : ℕ → ℕ → ℕ → Bool
timely t e latest = both (either (eqb e 0) (cond (eqb t 0) false true)) (leb e (latest + 65535))
