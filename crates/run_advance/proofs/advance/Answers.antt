-- `advance` meets its contract: the first word of the size; or by `take_back` an item after the first is raised; where none can be, U becomes T, or the
-- word is the last.
use Rattle.std.proofs.Common.{◌≡◌, ◌∙◌, inl, inr, ℕ, ◌≤◌, length, get_or, take, sym, arith}
use lib.Seq.{get_or-take}
use Rattle.listing_successor.specs.Successor.{root_raised, successor}
use Rattle.listing_successor.proofs.Branches.{start-T-ends, following-first, root-up, root-down}
use Rattle.run_advance.proofs.Laws.{held-there, begins-same, raised-next, raised-ends, drawn-none}
use Rattle.run_advance.proofs.advance.Goals as goal

pub returns-then-l-eq0 : goal.returns-then-l-eq0
returns-then-l-eq0 c =
    let a = c.args in
    let z : length (take a.l a.items.now) ≡ 0 = rw c.if-l-eq0.true in
    rw (following-first a.n (take a.l a.items.now) z) c.first_word.ensures

pub take_back-r-requires : goal.take_back-r-requires
take_back-r-requires c =
    let fit : c.args.l ≤ length c.args.items.now = omega arith in
    let there = held-there c.args.l c.args.items.now c.args.n fit c.if-l-eq0.false c.requires.3 in
    (c.requires.0, c.requires.1.1, c.requires.2, there.0, (_, there.1))

pub raise_item-requires : goal.raise_item-requires
raise_item-requires c =
    let fit : c.args.l ≤ length c.args.items.now = omega arith in
    let there = held-there c.args.l c.args.items.now c.args.n fit c.if-l-eq0.false c.requires.3 in
    let T = c.take_back-r.ensures _ there.1 in
    (_, raised-next _ _ there.0 c.requires.1.1 T (λ z. omega arith) _ c.requires.0 (begins-same _ _ _ fit (T.within (λ z. omega arith))), raised-ends _ _ there.0 c.requires.1.1 T (λ z. omega arith))

pub returns-then-r-gt0 : goal.returns-then-r-gt0
returns-then-r-gt0 c =
    let fit : c.args.l ≤ length c.args.items.now = omega arith in
    let there = held-there c.args.l c.args.items.now c.args.n fit c.if-l-eq0.false c.requires.3 in
    let T = c.take_back-r.ensures _ there.1 in
    c.raise_item.ensures _ (raised-next _ _ there.0 c.requires.1.1 T (λ z. omega arith) _ c.requires.0 (begins-same _ _ _ fit (T.within (λ z. omega arith)))) (raised-ends _ _ there.0 c.requires.1.1 T (λ z. omega arith))

pub returns-then-n-ge3 : goal.returns-then-n-ge3
returns-then-n-ge3 c =
    let fit : c.args.l ≤ length c.args.items.now = omega arith in
    let there = held-there c.args.l c.args.items.now c.args.n fit c.if-l-eq0.false c.requires.3 in
    let first : get_or (take c.args.l c.args.items.now) 0 0 ≡ get_or c.args.items.now 0 0 = get_or-take c.args.l c.args.items.now 0 0 (omega arith) in
    let rooted : successor c.args.n (take c.args.l c.args.items.now) ≡ root_raised c.args.n (get_or c.args.items.now 0 0) = rw (← first) ((c.take_back-r.ensures _ there.1).none (omega arith)) in
    rw (rooted ∙ root-up c.args.n (get_or c.args.items.now 0 0) c.if-items-eq0.true c.if-n-ge3.true) c.begin_word.ensures

pub returns-else-n-ge3 : goal.returns-else-n-ge3
returns-else-n-ge3 c =
    let fit : c.args.l ≤ length c.args.items.now = omega arith in
    let there = held-there c.args.l c.args.items.now c.args.n fit c.if-l-eq0.false c.requires.3 in
    let first : get_or (take c.args.l c.args.items.now) 0 0 ≡ get_or c.args.items.now 0 0 = get_or-take c.args.l c.args.items.now 0 0 (omega arith) in
    let rooted : successor c.args.n (take c.args.l c.args.items.now) ≡ root_raised c.args.n (get_or c.args.items.now 0 0) = rw (← first) ((c.take_back-r.ensures _ there.1).none (omega arith)) in
    drawn-none c.requires.0 (rooted ∙ root-down c.args.n (get_or c.args.items.now 0 0) (inr c.if-n-ge3.false))

pub returns-else-items-eq0 : goal.returns-else-items-eq0
returns-else-items-eq0 c =
    let fit : c.args.l ≤ length c.args.items.now = omega arith in
    let there = held-there c.args.l c.args.items.now c.args.n fit c.if-l-eq0.false c.requires.3 in
    let first : get_or (take c.args.l c.args.items.now) 0 0 ≡ get_or c.args.items.now 0 0 = get_or-take c.args.l c.args.items.now 0 0 (omega arith) in
    let rooted : successor c.args.n (take c.args.l c.args.items.now) ≡ root_raised c.args.n (get_or c.args.items.now 0 0) = rw (← first) ((c.take_back-r.ensures _ there.1).none (omega arith)) in
    drawn-none c.requires.0 (rooted ∙ root-down c.args.n (get_or c.args.items.now 0 0) (inl c.if-items-eq0.false))
