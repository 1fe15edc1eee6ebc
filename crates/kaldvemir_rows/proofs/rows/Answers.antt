-- `rows` meets its contract: the numbers that it leaves are those of the run, in acceptance and refusal.
use mathlib.Core.Path.{◌∙◌}
use native.Mathlib.Omega.{arith}
use Rattle.kaldvemir_rows.proofs.Fitting.{rows-fitting, fitting-numbers, rows-refused}
use borrow.Author.Rules.{rules}
use Rattle.kaldvemir_rows.proofs.rows.Goals as goal

pub overflow_cast-next : goal.overflow_cast-next
overflow_cast-next c = record { fits = omega (arith, (rows-fitting c.args.run.now _ _ _ _ _ (rw c.in-Ok.is at (rw c.held.ensures.run at c.rows-done.ensures))).stage_small) }

pub overflow_cast-next-in-Ok : goal.overflow_cast-next-in-Ok
overflow_cast-next-in-Ok c = record { fits = omega (arith, (rows-fitting c.args.run.now _ _ _ _ _ (rw c.in-Ok.is at (rw c.held.ensures.run at c.rows-done.ensures))).length_small) }

pub returns-in-Err : goal.returns-in-Err
returns-in-Err c =
    let h = c.held.ensures in
    let P = rw c.in-Err.is at (rw h.run at c.rows-done.ensures) in
    (_, P, rows-refused c.args.run.now _ _ _ _ _ h.whole P)

pub returns-in-Ok : goal.returns-in-Ok
returns-in-Ok c =
    let h = c.held.ensures in
    let P = rw c.in-Ok.is at (rw h.run at c.rows-done.ensures) in
    (_, P, c.put_back.ensures ∙ fitting-numbers c.args.run.now _ (rows-fitting c.args.run.now _ _ _ _ _ P))
