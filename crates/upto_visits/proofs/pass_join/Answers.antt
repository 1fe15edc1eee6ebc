-- `pass_join` adds up the branches before Jd; the sum is at most a number of branches in the table, so it fits.
use native.Mathlib.Omega.{arith}
use Rattle.upto_visits.proofs.Passing.{passed-J, sum-J}
use Rattle.upto_visits.proofs.pass_join.Goals as goal

pub overflow_add-before : goal.overflow_add-before
overflow_add-before c =
    let (w, a) = c.requires.by_index in
    omega (arith, c.branches.ensures.inside (omega arith), sum-J _ _ _ w c.requires.free_bound a)

pub overflow_add-before-2 : goal.overflow_add-before-2
overflow_add-before-2 c =
    let (w, a) = c.requires.by_index in
    omega (arith, c.branches.ensures.inside (omega arith), c.branches_f.ensures, sum-J _ _ _ w c.requires.free_bound a)

pub overflow_add-before-3 : goal.overflow_add-before-3
overflow_add-before-3 c =
    let (w, a) = c.requires.by_index in
    omega (arith, c.branches.ensures.inside (omega arith), c.branches_f.ensures, c.branches_b.ensures, sum-J _ _ _ w c.requires.free_bound a)

pub overflow_mul-result : goal.overflow_mul-result
overflow_mul-result c =
    let (w, a) = c.requires.by_index in
    rw (c.branches-each.ensures.inside (omega arith)) (omega (arith, sum-J _ _ _ w c.requires.free_bound a))

pub overflow_add-result : goal.overflow_add-result
overflow_add-result c =
    let (w, a) = c.requires.by_index in
    rw (c.branches-each.ensures.inside (omega arith)) (omega (arith, c.branches.ensures.inside (omega arith), c.branches_f.ensures, c.branches_b.ensures, sum-J _ _ _ w c.requires.free_bound a))

pub returns : goal.returns
returns c = λ w a. rw (c.branches-each.ensures.inside (omega arith), c.branches.ensures.inside (omega arith), c.branches_f.ensures, c.branches_b.ensures) (passed-J _ _ _ w c.requires.free_bound a)
