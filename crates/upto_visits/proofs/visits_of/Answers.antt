-- `visits_of`: the branches met along the items after the first, after U or after all that begins with U.
use mathlib.Core.Path.{sym, ◌∙◌}
use native.Mathlib.Omega.{arith}
use Rattle.upto_visits.proofs.Words.{word_some, some-U, fits-U, visits-U, some-T, fits-T, sum-T, visits-T}
use Rattle.upto_visits.proofs.visits_of.Goals as goal

pub bounds-word-0 : goal.bounds-word-0
bounds-word-0 c = word_some c.args.n c.args.word.now c.requires.0

pub slice_bounds-visits_from-count : goal.slice_bounds-visits_from-count
slice_bounds-visits_from-count c = word_some c.args.n c.args.word.now c.requires.0

pub slice_bounds-visits_from-start : goal.slice_bounds-visits_from-start
slice_bounds-visits_from-start c = word_some c.args.n c.args.word.now c.requires.0

pub overflow_sub-n : goal.overflow_sub-n
overflow_sub-n c = some-U c.args.n c.args.word.now c.requires.0 c.in-0.is

pub visits_from-requires : goal.visits_from-requires
visits_from-requires c =
    let i = some-U c.args.n c.args.word.now c.requires.0 c.in-0.is in (fits-U c.args.n c.args.word.now c.requires.0 c.in-0.is, omega arith)

pub overflow_sub-n-in_default : goal.overflow_sub-n-in_default
overflow_sub-n-in_default c =
    let i = some-T c.args.n c.args.word.now c.requires.0 (λ e. omega arith) in omega arith

pub overflow_sub-n-in_default-2 : goal.overflow_sub-n-in_default-2
overflow_sub-n-in_default-2 c = some-T c.args.n c.args.word.now c.requires.0 (λ e. omega arith)

pub visits_from-requires-in_default : goal.visits_from-requires-in_default
visits_from-requires-in_default c =
    let i = some-T c.args.n c.args.word.now c.requires.0 (λ e. omega arith) in (fits-T c.args.n c.args.word.now c.requires.0 (λ e. omega arith), omega arith)

pub overflow_add-result : goal.overflow_add-result
overflow_add-result c =
    omega (arith, c.branches.ensures.inside (omega arith), c.visits_from-in_default.ensures, sum-T c.args.n c.args.word.now c.requires.0 (λ e. omega arith) c.requires.1)

pub returns-in-0 : goal.returns-in-0
returns-in-0 c = c.visits_from.ensures ∙ sym (visits-U c.args.n c.args.word.now c.requires.0 c.in-0.is)

pub returns-in_default : goal.returns-in_default
returns-in_default c =
    omega (arith, c.branches.ensures.inside (omega arith), c.visits_from-in_default.ensures, visits-T c.args.n c.args.word.now c.requires.0 (λ e. omega arith))
