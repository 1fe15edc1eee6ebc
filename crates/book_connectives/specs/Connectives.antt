-- The connectives of the share book's tests and refusals.
--
--   both a b, either a b, not a   both tests hold; one or the other does; the test does not
--   among n x                     x is one of 1..n
--   unless t k rest               the number k where the test t fails, otherwise rest; 01's conditions in 01's order are a chain of these
use Rattle.std.specs.Prelude.{Bool, true, false, cond, ℕ, leb}

abbrev pub both : Bool → Bool → Bool
both a b = cond a b false

abbrev pub either : Bool → Bool → Bool
either a b = cond a true b

abbrev pub not : Bool → Bool
not b = cond b false true

-- x is one of 1..n
abbrev pub among : ℕ → ℕ → Bool
among n x = both (leb 1 x) (leb x n)

-- refusal k unless the test holds; the tests are made in the order in which they stand
abbrev pub unless : Bool → ℕ → ℕ → ℕ
unless t k rest = cond t rest k
