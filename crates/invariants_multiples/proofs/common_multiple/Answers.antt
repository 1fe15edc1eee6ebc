-- 0 where a stands for too large a number, or where the quotient times b would be one; otherwise that product.
use Rattle.std.proofs.Common.{arith}
use native.Mathlib.Nat.{pos_of_dvd_of_pos}
use Rattle.invariants_multiples.proofs.Holding.{stays-beyond, goes-beyond, stays-held}
use Rattle.invariants_multiples.proofs.common_multiple.Goals as goal

pub returns-then-a-eq0 : goal.returns-then-a-eq0
returns-then-a-eq0 c m h = stays-beyond c.requires m h c.if-a-eq0.true

pub nonzero_div-quotient : goal.nonzero_div-quotient
nonzero_div-quotient c = pos_of_dvd_of_pos c.gcd.ensures.left (omega arith)

pub returns-then-b-quotient : goal.returns-then-b-quotient
returns-then-b-quotient c m h = goes-beyond c.requires m h c.if-a-eq0.false c.gcd.ensures c.if-b-quotient.true

pub returns : goal.returns
returns c m h = stays-held c.requires m h c.if-a-eq0.false c.gcd.ensures c.if-b-quotient.false
