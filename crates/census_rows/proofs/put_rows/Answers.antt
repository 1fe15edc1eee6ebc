-- The lines one after another: each turn puts one row more.
use native.Mathlib.Omega.{arith}
use borrow.Author.Rules.{rules}
use Rattle.census_rows.proofs.Rows.{midway-none, midway-fits, first_small, midway-more}
use Rattle.census_rows.proofs.put_rows.Goals as goal

pub loop-i-init : goal.loop-i-init
loop-i-init c = midway-none _ _ _ _ _ _ _ _ _ _ c.rows_printed-count.ensures

pub bounds-lengths-i : goal.bounds-lengths-i
bounds-lengths-i c = omega (arith, (midway-fits c.loop-i.invariant c.loop-i-test.true).few)

pub bounds-marks-i : goal.bounds-marks-i
bounds-marks-i c = omega (arith, (midway-fits c.loop-i.invariant c.loop-i-test.true).few)

pub loop-i-preserved : goal.loop-i-preserved
loop-i-preserved c = midway-more c.loop-i.invariant c.loop-i-test.true _ _ _ _ _ _ _ c.items_of-m.ensures.0 c.items_of-m.ensures.1 c.kept_of-kept.ensures.0 c.kept_of-kept.ensures.1 (search rules) c.part.ensures c.part-in-loop-i.ensures c.part-in-loop-i-2.ensures c.put_row-end.ensures

pub offset_bounds-lengths-i : goal.offset_bounds-lengths-i
offset_bounds-lengths-i c = omega (arith, (midway-fits c.loop-i.invariant c.loop-i-test.true).few)

pub overflow_add-listed : goal.overflow_add-listed
overflow_add-listed c = omega (arith, (midway-fits c.loop-i.invariant c.loop-i-test.true).near)

pub overflow_add-first : goal.overflow_add-first
overflow_add-first c = omega (arith, first_small c.loop-i.invariant c.loop-i-test.true, (midway-fits c.loop-i.invariant c.loop-i-test.true).narrow)
