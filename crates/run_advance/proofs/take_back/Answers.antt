-- `take_back` meets its contract. Invariant: the items before i are drawn, and none from i on can be raised; so the first item on the way back that
-- can be raised is the last of the word.
use Rattle.std.proofs.Common.{◌≡◌, List, ℕ, ◌+◌, ◌-◌, ◌≤◌, ◌<◌, length, arith}
use Rattle.run_advance.proofs.Laws.{Back, word_some, back-starts, back-few, back_low, back-item, back_more, back-raise, back_none}
use Rattle.run_advance.proofs.take_back.Goals as goal

-- the item that a turn takes back
next : {n l : ℕ} {items : List ℕ} {stack popped s0 s1 : List ℕ} {used height : ℕ} (i : ℕ) → 1 < i → Back n l items i stack popped s0 s1 used height
    → Back n l items (i - 1 + 1) stack popped s0 s1 used height
next i k B = let e : i - 1 + 1 ≡ i = omega arith in rw e B

pub loop-i-init : goal.loop-i-init
loop-i-init c =
    let fit : c.args.l ≤ length c.args.items.now = omega arith in
    (word_some _ _ _ c.requires.1 fit c.requires.3, omega arith, λ s0 R. back-starts _ _ _ c.requires.1 fit c.requires.3 R)

pub least_above-e-requires : goal.least_above-e-requires
least_above-e-requires c =
    let fit : c.args.l ≤ length c.args.items.now = omega arith in
    let low : c.loop-i.i - 1 < c.args.l = omega arith in
    let R = c.undo_event-m.ensures _ (next _ c.loop-i-test.true (c.loop-i.invariant.2 _ c.requires.4.1)).spelled in
    (back_low _ _ _ c.requires.1 fit c.requires.3 _ low R, back-item _ _ _ c.requires.1 fit c.requires.3 _ low R)

pub returns-then-e-gt0 : goal.returns-then-e-gt0
returns-then-e-gt0 c =
    let fit : c.args.l ≤ length c.args.items.now = omega arith in
    let low : c.loop-i.i - 1 < c.args.l = omega arith in
    let started : 1 ≤ c.loop-i.i - 1 = omega arith in
    λ s0 R.
    let B = next _ c.loop-i-test.true (c.loop-i.invariant.2 s0 R) in
    back-raise _ _ _ c.requires.1 fit c.requires.3 _ low (c.undo_event-m.ensures s0 B.spelled) B _ c.least_above-e.ensures started (λ z. omega arith)

pub loop-i-preserved : goal.loop-i-preserved
loop-i-preserved c =
    let fit : c.args.l ≤ length c.args.items.now = omega arith in
    let low : c.loop-i.i - 1 < c.args.l = omega arith in
    let started : 1 ≤ c.loop-i.i - 1 = omega arith in (
      started,
      omega arith,
      λ s0 R.
          let B = next _ c.loop-i-test.true (c.loop-i.invariant.2 s0 R) in
          back_more _ _ _ c.requires.1 fit c.requires.3 _ low (c.undo_event-m.ensures s0 B.spelled) B _ c.least_above-e.ensures (omega arith),
    )

pub returns : goal.returns
returns c =
    let fit : c.args.l ≤ length c.args.items.now = omega arith in
    λ s0 R. back_none _ _ _ c.requires.1 fit c.requires.3 (omega arith) (c.loop-i.invariant.2 s0 R)

pub overflow_cast-h : goal.overflow_cast-h
overflow_cast-h c =
    let fit : c.args.l ≤ length c.args.items.now = omega arith in
    let low : c.loop-i.i - 1 < c.args.l = omega arith in
    let R = c.undo_event-m.ensures _ (next _ c.loop-i-test.true (c.loop-i.invariant.2 _ c.requires.4.1)).spelled in
    let l = back_low _ _ _ c.requires.1 fit c.requires.3 _ low R in
    record { fits = omega arith }

pub overflow_sub-n : goal.overflow_sub-n
overflow_sub-n c =
    let fit : c.args.l ≤ length c.args.items.now = omega arith in
    let low : c.loop-i.i - 1 < c.args.l = omega arith in
    let R = c.undo_event-m.ensures _ (next _ c.loop-i-test.true (c.loop-i.invariant.2 _ c.requires.4.1)).spelled in
    back-few _ _ _ c.requires.1 fit c.requires.3 _ low R
