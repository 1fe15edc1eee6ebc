-- `tested` meets its contract: the refusals one after another.
use Rattle.std.proofs.Common.{refl, inl, inr}
use Rattle.run_blocks_answers.proofs.Refusals.{stands-nowhere, is-over, stands_at}
use Rattle.run_blocks_answers.proofs.tested.Goals as goal

pub returns-then-not-valid : goal.returns-then-not-valid
returns-then-not-valid c = let k = stands-nowhere c.args.run (c.valid.ensures.1 c.if-not-valid.true) in inl (refl, k.0, k.1)

pub returns-then-run-eq2 : goal.returns-then-run-eq2
returns-then-run-eq2 c = is-over _ (c.valid.ensures.0 c.if-not-valid.false) c.if-run-eq2.true

pub short_rows-requires : goal.short_rows-requires
short_rows-requires c = (c.valid.ensures.0 c.if-not-valid.false).sized

pub returns-then-short_rows : goal.returns-then-short_rows
returns-then-short_rows c =
    let T = stands_at _ (c.valid.ensures.0 c.if-not-valid.false) c.if-run-eq2.false in
    inr (refl, (_, T.0, T.1, c.short_rows.ensures.0 c.if-short_rows.true))

pub returns : goal.returns
returns c =
    let T = stands_at _ (c.valid.ensures.0 c.if-not-valid.false) c.if-run-eq2.false in
    (T.0, T.1, c.short_rows.ensures.1 c.if-short_rows.false)
