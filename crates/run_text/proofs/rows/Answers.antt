-- `rows` meets its promise: the refusals one after another, a finished run, and the rows that are written in blocks.
use Rattle.std.proofs.Common.{refl, inl, inr, arith}
use Rattle.run_blocks_answers.proofs.Refusals.{stands-nowhere, is-over, stands_at}
use Rattle.run_text.proofs.Growing.{row-some, room-asked, room-given}
use Rattle.run_text.proofs.rows.Goals as goal

pub returns-then-not-valid : goal.returns-then-not-valid
returns-then-not-valid c = let k = stands-nowhere c.args.run (c.valid.ensures.1 c.if-not-valid.true) in (inl (refl, k.0, k.1), refl, refl)

pub returns-then-run-eq2 : goal.returns-then-run-eq2
returns-then-run-eq2 c = inl (is-over _ (c.valid.ensures.0 c.if-not-valid.false) c.if-run-eq2.true, refl, refl, refl)

pub row_bytes-requires : goal.row_bytes-requires
row_bytes-requires c = (c.valid.ensures.0 c.if-not-valid.false).sized.1

pub short-requires : goal.short-requires
short-requires c = row-some _ _ c.row_bytes.ensures

pub returns-then-short : goal.returns-then-short
returns-then-short c =
    let T = stands_at _ (c.valid.ensures.0 c.if-not-valid.false) c.if-run-eq2.false in
    (inr (refl, (_, T.0, T.1, rw c.row_bytes.ensures at (c.short.ensures.0 c.if-short.true))), refl, refl)

pub given-p-requires : goal.given-p-requires
given-p-requires c = (c.valid.ensures.0 c.if-not-valid.false, c.if-run-eq2.false)

pub count_of-requires : goal.count_of-requires
count_of-requires c = c.given-p.ensures.sized

pub overflow_sub-count_of : goal.overflow_sub-count_of
overflow_sub-count_of c = omega (arith, c.count_of.ensures, c.given-p.ensures.within)

pub put_blocks-block-requires : goal.put_blocks-block-requires
put_blocks-block-requires c =
    let R = c.given-p.ensures in
    let k = c.min-rows.ensures in
    let t = c.count_of.ensures in
    let r = room-asked _ _ _ _ c.row_bytes.ensures (c.short.ensures.1 c.if-short.false) in
    (R, omega (arith, R.within), room-given _ _ _ _ (omega arith) r)

pub returns : goal.returns
returns c =
    let R = c.given-p.ensures in
    let r = room-asked _ _ _ _ c.row_bytes.ensures (c.short.ensures.1 c.if-short.false) in
    inr (_, _, R, r, rw c.count_of.ensures at c.min-rows.ensures, c.put_blocks-block.ensures)
