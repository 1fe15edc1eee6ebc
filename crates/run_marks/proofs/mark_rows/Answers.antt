-- `mark_rows` meets its contract: before each row the marks are as `Marking` says.
use Rattle.std.proofs.Common.{rules, refl, arith}
use Rattle.pending_ring.proofs.Laws.{ring-empty}
use Rattle.run_marks.proofs.Marking.{marking-starts, marking-done, marking-length, marking-rooms, marking-accepted, marking-own, marking-small, marking-again}
use Rattle.run_marks.proofs.mark_rows.Goals as goal

pub loop-i-init : goal.loop-i-init
loop-i-init c = marking-starts c.args.n c.args.rows c.args.s0.now c.args.s1.now c.args.words.now c.args.lengths.now c.args.marks.now _ _ _ ring-empty refl

pub mark-m-requires : goal.mark-m-requires
mark-m-requires c =
    let s = c.requires.0 in
    let m = c.loop-i.invariant in
    let t = c.loop-i-test.true in
    record {
      accepts = marking-accepted m t c.to_index.result c.to_index.ensures s.0 s.1;
      s0_in_bounds = marking-small m t c.to_index.result c.to_index.ensures s.0 s.1;
      ring = m.none_pending;
      s1_value = marking-own m t c.to_index.result c.to_index.ensures s.0 s.1;
    }

pub loop-i-preserved : goal.loop-i-preserved
loop-i-preserved c =
    let l = c.loop-i.invariant in
    marking-again l c.loop-i-test.true c.to_index.result c.to_index.ensures c.mark-m.result _ _ _ c.requires.1 c.mark-m.ensures.answer c.mark-m.ensures.empty (omega arith)

pub returns : goal.returns
returns c = marking-done c.loop-i.invariant c.loop-i-test.false

pub overflow_add-after : goal.overflow_add-after
overflow_add-after c =
    let s = c.requires.0 in
    let r = (marking-rooms c.loop-i.invariant c.loop-i-test.true _ refl s.0 s.1).room0 in
    let g = c.well_formed in
    record { fits = omega arith }

pub bounds-lengths-i : goal.bounds-lengths-i
bounds-lengths-i c = let s = c.requires.0 in marking-length c.loop-i.invariant c.loop-i-test.true s.0 s.1

pub overflow_add-end : goal.overflow_add-end
overflow_add-end c =
    let s = c.requires.0 in
    let r = (marking-rooms c.loop-i.invariant c.loop-i-test.true c.to_index.result c.to_index.ensures s.0 s.1).room_word in
    let g = c.well_formed in
    record { fits = omega arith }

pub offset_bounds-s0-edge : goal.offset_bounds-s0-edge
offset_bounds-s0-edge c =
    let s = c.requires.0 in
    let r = (marking-rooms c.loop-i.invariant c.loop-i-test.true c.to_index.result c.to_index.ensures s.0 s.1).room0 in
    let g = c.well_formed in
    record { fits = omega arith }

pub slice_bounds-mark-end : goal.slice_bounds-mark-end
slice_bounds-mark-end c =
    let s = c.requires.0 in
    let r = (marking-rooms c.loop-i.invariant c.loop-i-test.true c.to_index.result c.to_index.ensures s.0 s.1).room0 in
    search rules

pub slice_bounds-mark-end-in-loop-i : goal.slice_bounds-mark-end-in-loop-i
slice_bounds-mark-end-in-loop-i c =
    let s = c.requires.0 in
    let r = (marking-rooms c.loop-i.invariant c.loop-i-test.true c.to_index.result c.to_index.ensures s.0 s.1).room1 in
    search rules

pub offset_bounds-words-place : goal.offset_bounds-words-place
offset_bounds-words-place c =
    let s = c.requires.0 in
    let r = (marking-rooms c.loop-i.invariant c.loop-i-test.true c.to_index.result c.to_index.ensures s.0 s.1).room_word in
    let g = c.well_formed in
    record { fits = omega arith }

pub slice_bounds-mark-end-in-loop-i-3 : goal.slice_bounds-mark-end-in-loop-i-3
slice_bounds-mark-end-in-loop-i-3 c =
    let s = c.requires.0 in
    let r = (marking-rooms c.loop-i.invariant c.loop-i-test.true c.to_index.result c.to_index.ensures s.0 s.1).room_word in
    search rules
