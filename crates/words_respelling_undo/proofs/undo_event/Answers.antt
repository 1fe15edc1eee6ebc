-- `undo_event` undoes the item's event: the law of the event taken back, at the label that was popped.
use native.Mathlib.Omega.{arith}
use lib.ListN.{get_or}
use Rattle.words_spelling_events.proofs.Lists.{jump-item}
use Rattle.words_respelling_undo.proofs.Laws.{last, known-place, known-label, known-W, known-F, known-B, known-J, spelling-W, spelling-F, spelling-B, spelling-J}
use Rattle.words_respelling_undo.proofs.undo_event.Goals as goal

pub overflow_sub-i : goal.overflow_sub-i
overflow_sub-i c = let i = known-label _ _ _ _ _ _ _ c.requires in omega arith

pub overflow_sub-stack : goal.overflow_sub-stack
overflow_sub-stack c = let i = known-F _ _ _ _ _ _ _ c.requires c.in-1.is in omega arith

pub overflow_sub-result : goal.overflow_sub-result
overflow_sub-result c = let i = known-F _ _ _ _ _ _ _ c.requires c.in-1.is in omega arith

pub overflow_sub-result-in-1 : goal.overflow_sub-result-in-1
overflow_sub-result-in-1 c = let i = known-F _ _ _ _ _ _ _ c.requires c.in-1.is in omega arith

pub overflow_sub-result-in-2 : goal.overflow_sub-result-in-2
overflow_sub-result-in-2 c = let i = known-B _ _ _ _ _ _ _ c.requires c.in-2.is in omega arith

pub bounds-popped-place : goal.bounds-popped-place
bounds-popped-place c = known-place _ _ _ _ _ _ _ c.requires

pub bounds-stack-h : goal.bounds-stack-h
bounds-stack-h c = let i = known-W _ _ _ _ _ _ _ c.requires c.in-0.is in omega arith

pub bounds-s1-i : goal.bounds-s1-i
bounds-s1-i c = let i = known-label _ _ _ _ _ _ _ c.requires in omega arith

pub bounds-s1-i-in-2 : goal.bounds-s1-i-in-2
bounds-s1-i-in-2 c = let i = known-label _ _ _ _ _ _ _ c.requires in omega arith

pub bounds-stack-h-in-2 : goal.bounds-stack-h-in-2
bounds-stack-h-in-2 c = let i = known-B _ _ _ _ _ _ _ c.requires c.in-2.is in omega arith

pub undo_join-requires : goal.undo_join-requires
undo_join-requires c =
    known-J _ _ _ _ _ _ _ c.requires _ (jump-item (get_or c.args.word.now c.args.place 0) c.to_index.result (omega arith) (omega arith) (omega arith) c.to_index.ensures)

pub returns-in-0 : goal.returns-in-0
returns-in-0 c =
    let pre = c.requires in
    λ s0 R. spelling-W _ _ _ _ _ _ _ _ (rw c.in-0.is at (last _ _ _ s0 _ _ _ _ pre.0 pre.1 R))

pub returns-in-1 : goal.returns-in-1
returns-in-1 c =
    let pre = c.requires in
    λ s0 R. rw c.to_index-i.ensures (spelling-F _ _ _ _ _ _ _ _ (rw c.in-1.is at (last _ _ _ s0 _ _ _ _ pre.0 pre.1 R)))

pub returns-in-2 : goal.returns-in-2
returns-in-2 c =
    let pre = c.requires in
    λ s0 R. rw c.to_index-i.ensures (spelling-B _ _ _ _ _ _ _ _ (rw c.in-2.is at (last _ _ _ s0 _ _ _ _ pre.0 pre.1 R)))

pub returns-in_default : goal.returns-in_default
returns-in_default c =
    let pre = c.requires in
    let e = jump-item (get_or c.args.word.now c.args.place 0) c.to_index.result (omega arith) (omega arith) (omega arith) c.to_index.ensures in
    λ s0 R. spelling-J _ _ _ _ _ _ _ _ _ (rw e at (last _ _ _ s0 _ _ _ _ pre.0 pre.1 R)) _ _ c.undo_join.ensures
