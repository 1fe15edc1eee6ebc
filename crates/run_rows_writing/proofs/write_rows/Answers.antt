-- `write_rows` meets its contract: before each row the block is as `Midlist` says, and the scratch lists hold the diagram of the last row's word.
use Rattle.std.proofs.Common.{◌≡◌, ◌≤◌, sym, length, arith}
use lib.Seq.{length-take-le}
use Rattle.run_rows_writing.proofs.Midlist.{midlist-starts, mid-small, mid-within, mid-word, mid-long, mid_done, mid-ends, mid-next-within, mid-held, mid-begins, mid-room, mid-again}
use Rattle.run_rows_writing.proofs.write_rows.Goals as goal

pub slice_bounds-items-end : goal.slice_bounds-items-end
slice_bounds-items-end c = mid-within (midlist-starts c.args.run c.args.rows c.args.s0.now c.args.s1.now c.args.words.now c.args.lengths.now c.requires.by_index.0 c.requires.by_index.1 c.requires.by_index.2)

pub draw_word-requires : goal.draw_word-requires
draw_word-requires c =
    let S = midlist-starts c.args.run c.args.rows c.args.s0.now c.args.s1.now c.args.words.now c.args.lengths.now c.requires.by_index.0 c.requires.by_index.1 c.requires.by_index.2 in
    (c.requires.scratch_lengths, (c.args.run.size, (mid-small S).1, mid-word S))

pub loop-i-init : goal.loop-i-init
loop-i-init c =
    let S = midlist-starts c.args.run c.args.rows c.args.s0.now c.args.s1.now c.args.words.now c.args.lengths.now c.requires.by_index.0 c.requires.by_index.1 c.requires.by_index.2 in
    (S, c.draw_word.ensures _ (mid-small S).1 (mid-word S))

pub advance-l-requires : goal.advance-l-requires
advance-l-requires c =
    let I = c.loop-i.invariant in
    (I.0.come.long, mid-small I.0, I.0.come.within, I.1)

pub returns-then-l-eq0 : goal.returns-then-l-eq0
returns-then-l-eq0 c =
    let r = c.arrived.ensures in
    rw (r.0, r.1) (mid-ends c.loop-i.invariant.0 c.advance-l.ensures c.loop-i-test.true c.if-l-eq0.true)

pub slice_bounds-items-end-in-loop-i : goal.slice_bounds-items-end-in-loop-i
slice_bounds-items-end-in-loop-i c = mid-next-within c.loop-i.invariant.0 c.advance-l.ensures c.loop-i-test.true c.if-l-eq0.false

pub row-requires : goal.row-requires
row-requires c =
    let M = c.loop-i.invariant.0 in
    let D = c.advance-l.ensures in
    let t = c.loop-i-test.true in
    (mid-room M D t c.if-l-eq0.false, mid-begins M D t c.if-l-eq0.false)

pub loop-i-preserved : goal.loop-i-preserved
loop-i-preserved c =
    let M = c.loop-i.invariant.0 in
    let D = c.advance-l.ensures in
    let t = c.loop-i-test.true in
    (mid-again M D t c.if-l-eq0.false _ _ _ _ c.row.ensures, mid-held M D t c.if-l-eq0.false)

pub slice_bounds-items-end-2 : goal.slice_bounds-items-end-2
slice_bounds-items-end-2 c = mid-within c.loop-i.invariant.0

pub padded-requires : goal.padded-requires
padded-requires c =
    let s = c.loop-i in
    let e = length-take-le s.l s.items (mid-within s.invariant.0) in
    rw e s.invariant.0.come.within

pub returns : goal.returns
returns c =
    let r = c.arrived-2.ensures in
    let M = c.loop-i.invariant.0 in
    let e : c.loop-i.i ≡ c.args.rows = omega (arith, M.few) in
    rw (r.0, r.1, c.padded.ensures) (rw e at (mid_done M c.loop-i-test.false))
