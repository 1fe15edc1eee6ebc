-- The rows of a run that has rows left; they are never refused, since the run stands and the room is enough.
use native.Mathlib.Omega.{arith}
use Rattle.census_parts.proofs.Texts.{rows_given, rows-refused, listed_small, kept-within}
use Rattle.census_parts.proofs.rows_part.Goals as goal

pub overflow_add-result : goal.overflow_add-result
overflow_add-result c = let P = c.requires in let G = rows_given P.0 P.1 P.2 (rw c.in-Ok.is at c.rows-done.ensures) in omega (arith, listed_small G)

pub overflow_add-result-in-Ok : goal.overflow_add-result-in-Ok
overflow_add-result-in-Ok c = let P = c.requires in let G = rows_given P.0 P.1 P.2 (rw c.in-Ok.is at c.rows-done.ensures) in omega (arith, listed_small G, kept-within G)

pub returns-in-Ok : goal.returns-in-Ok
returns-in-Ok c = let P = c.requires in rows_given P.0 P.1 P.2 (rw c.in-Ok.is at c.rows-done.ensures)

pub returns-in-Err : goal.returns-in-Err
returns-in-Err c = let P = c.requires in absurd (rows-refused P.0 _ P.3 (rw c.in-Err.is at c.rows-done.ensures))
