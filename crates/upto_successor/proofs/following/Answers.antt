-- `following` meets its contract: by `last_raise` an item after the first is raised; where none can be, U becomes T, or the word is the last.
use mathlib.Core.Path.{refl}
use mathlib.Core.Logic.{inl, inr}
use mathlib.Core.List.{[]}
use native.Mathlib.Omega.{arith}
use Rattle.upto_successor.proofs.Branches.{following-held, Searched, following-first, following-raised, following-rooted, following-none}
use Rattle.upto_successor.proofs.following.Goals as goal

pub returns-then-word-eq0 : goal.returns-then-word-eq0
returns-then-word-eq0 c = let a = c.args in following-held a.n a.word.now _ _ _ (following-first a.n a.word.now c.if-word-eq0.true) c.raise_at.ensures

pub returns-then-r-gt0 : goal.returns-then-r-gt0
returns-then-r-gt0 c =
    let s : Searched c.args.n c.state_after_first-l.result c.last_raise-r.result.place c.last_raise-r.result.event c.last_raise-r.result.pending c.args.word.now = record { there = c.if-word-eq0.false; state = c.state_after_first-l.ensures; raises = c.last_raise-r.ensures } in
    following-held _ _ _ _ _ (following-raised _ _ _ _ _ _ s (λ z. omega arith)) c.raise_at-then-r-gt0.ensures

pub returns-then-n-ge3 : goal.returns-then-n-ge3
returns-then-n-ge3 c =
    let s : Searched c.args.n c.state_after_first-l.result c.last_raise-r.result.place c.last_raise-r.result.event c.last_raise-r.result.pending c.args.word.now = record { there = c.if-word-eq0.false; state = c.state_after_first-l.ensures; raises = c.last_raise-r.ensures } in
    following-held _ _ _ _ _ (following-rooted _ _ _ _ _ _ s (omega arith) c.if-word-eq0-2.true c.if-n-ge3.true) c.raise_at-then-n-ge3.ensures

pub returns-else-n-ge3 : goal.returns-else-n-ge3
returns-else-n-ge3 c =
    let s : Searched c.args.n c.state_after_first-l.result c.last_raise-r.result.place c.last_raise-r.result.event c.last_raise-r.result.pending c.args.word.now = record { there = c.if-word-eq0.false; state = c.state_after_first-l.ensures; raises = c.last_raise-r.ensures } in
    following-held _ _ 0 [] _ (following-none _ _ _ _ _ _ s (omega arith) (inr c.if-n-ge3.false)) refl

pub returns-else-word-eq0-2 : goal.returns-else-word-eq0-2
returns-else-word-eq0-2 c =
    let s : Searched c.args.n c.state_after_first-l.result c.last_raise-r.result.place c.last_raise-r.result.event c.last_raise-r.result.pending c.args.word.now = record { there = c.if-word-eq0.false; state = c.state_after_first-l.ensures; raises = c.last_raise-r.ensures } in
    following-held _ _ 0 [] _ (following-none _ _ _ _ _ _ s (omega arith) (inl c.if-word-eq0-2.false)) refl
