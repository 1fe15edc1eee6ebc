-- `event` takes the lists and the stack from before an item to after it: the law of the item's event, at the label that is popped.
use native.Mathlib.Omega.{arith}
use mathlib.Core.Path.{refl}
use Rattle.words_spelling_events.proofs.Lists.{jump-item}
use Rattle.words_spelling_events.proofs.Laws.{pending-some, popped, midway-W, room-F, midway-F, room-B, midway-B, room-J, midway-J}
use Rattle.words_spelling_events.proofs.event.Goals as goal

pub bounds-stack-h : goal.bounds-stack-h
bounds-stack-h c = let (D, S, w, a0, a1, M) = c.requires in let i = pending-some _ _ _ _ _ _ _ _ _ _ _ M in omega arith

pub overflow_sub-h : goal.overflow_sub-h
overflow_sub-h c = let (D, S, w, a0, a1, M) = c.requires in let i = pending-some _ _ _ _ _ _ _ _ _ _ _ M in omega arith

pub overflow_add-result : goal.overflow_add-result
overflow_add-result c = let (D, S, w, a0, a1, M) = c.requires in let i = room-F _ _ _ _ _ _ _ _ _ _ _ (popped _ _ _ _ _ _ _ _ _ 1 _ _ (rw c.in-1.is at M) refl) in omega (arith, i.1)

pub overflow_add-result-in-2 : goal.overflow_add-result-in-2
overflow_add-result-in-2 c = let (D, S, w, a0, a1, M) = c.requires in let i = room-B _ _ _ _ _ _ _ _ _ _ _ (popped _ _ _ _ _ _ _ _ _ 2 _ _ (rw c.in-2.is at M) refl) in omega (arith, i.1)

pub overflow_sub-result : goal.overflow_sub-result
overflow_sub-result c =
    let (D, S, w, a0, a1, M) = c.requires in
    let i = room-J _ _ _ _ _ _ _ _ _ _ _ _ _ (jump-item c.args.item c.to_index.result (omega arith) (omega arith) (omega arith) c.to_index.ensures) (popped _ _ _ _ _ _ _ _ _ _ _ _ M refl) in
    omega (arith, i.0)

pub add_triple-requires : goal.add_triple-requires
add_triple-requires c = let (D, S, w, a0, a1, M) = c.requires in room-F _ _ _ _ _ _ _ _ _ _ _ (popped _ _ _ _ _ _ _ _ _ 1 _ _ (rw c.in-1.is at M) refl)

pub add_alone-requires : goal.add_alone-requires
add_alone-requires c = let (D, S, w, a0, a1, M) = c.requires in room-B _ _ _ _ _ _ _ _ _ _ _ (popped _ _ _ _ _ _ _ _ _ 2 _ _ (rw c.in-2.is at M) refl)

pub join_pending-requires : goal.join_pending-requires
join_pending-requires c =
    let (D, S, w, a0, a1, M) = c.requires in
    let i = room-J _ _ _ _ _ _ _ _ _ _ _ _ _ (jump-item c.args.item c.to_index.result (omega arith) (omega arith) (omega arith) c.to_index.ensures) (popped _ _ _ _ _ _ _ _ _ _ _ _ M refl) in
    (i.0, omega (arith, i.1), i.2, i.3, i.4)

pub returns-in-0 : goal.returns-in-0
returns-in-0 c = λ D S w a0 a1 M. rw c.in-0.is (midway-W _ _ _ _ _ _ _ _ _ _ _ (popped _ _ _ _ _ _ _ _ _ 0 _ _ (rw c.in-0.is at M) refl))

pub returns-in-1 : goal.returns-in-1
returns-in-1 c = λ D S w a0 a1 M. rw (c.in-1.is, c.add_triple.ensures.0, c.add_triple.ensures.1, c.add_triple.ensures.2) (midway-F _ _ _ _ _ _ _ _ _ _ _ (popped _ _ _ _ _ _ _ _ _ 1 _ _ (rw c.in-1.is at M) refl))

pub returns-in-2 : goal.returns-in-2
returns-in-2 c = λ D S w a0 a1 M. rw (c.in-2.is, c.add_alone.ensures.0, c.add_alone.ensures.1) (midway-B _ _ _ _ _ _ _ _ _ _ _ (popped _ _ _ _ _ _ _ _ _ 2 _ _ (rw c.in-2.is at M) refl))

pub returns-in_default : goal.returns-in_default
returns-in_default c =
    λ D S w a0 a1 M.
    let e = jump-item c.args.item c.to_index.result (omega arith) (omega arith) (omega arith) c.to_index.ensures in
    rw c.join_pending.ensures.1 (midway-J _ _ _ _ _ _ _ _ _ _ _ _ _ e (popped _ _ _ _ _ _ _ _ _ _ _ _ M refl) _ c.join_pending.ensures.0)
