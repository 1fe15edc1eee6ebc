-- `begin` leaves the lists and the stack as U or T does (`midway-U`, `midway-T`).
use native.Mathlib.Omega.{arith}
use Rattle.words_spelling_events.proofs.Laws.{first_some, first-T, midway-U, midway-T}
use Rattle.words_spelling_events.proofs.begin.Goals as goal

pub bounds-s0-0 : goal.bounds-s0-0
bounds-s0-0 c = let (D, w, e, R) = c.requires.1 in let i = first_some D w _ e in omega (arith, R.room0)

pub bounds-s1-0 : goal.bounds-s1-0
bounds-s1-0 c = let (D, w, e, R) = c.requires.1 in let i = first_some D w _ e in omega (arith, R.room1)

pub write_three-requires : goal.write_three-requires
write_three-requires c = let (D, w, e, R) = c.requires.1 in let i = first-T D w c.args.root (omega arith) e in omega (arith, R.room0, i.1)

pub write_three-requires-in_default : goal.write_three-requires-in_default
write_three-requires-in_default c = let (D, w, e, R) = c.requires.1 in let i = first-T D w c.args.root (omega arith) e in omega (arith, R.room1, i.1)

pub returns-in-0 : goal.returns-in-0
returns-in-0 c =
    λ D w e R.
    rw c.in-0.is (midway-U D w _ _ c.args.stack.now R c.requires.0 (rw c.in-0.is at e))

pub returns-in_default : goal.returns-in_default
returns-in_default c =
    λ D w e R.
    let i = first-T D w c.args.root (omega arith) e in rw (c.write_three-in_default.ensures, c.write_three.ensures) (rw i.0 (midway-T D w _ _ c.args.stack.now R c.requires.0 (rw i.0 at e)))
