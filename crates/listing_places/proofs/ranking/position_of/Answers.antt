-- `position_of`: the rank of the items after the first, among the words that begin with U or after all of them.
use native.Mathlib.Omega.{arith}
use Rattle.words_spelling_events.proofs.Laws.{word_some}
use Rattle.listing_places.proofs.Places.{some-U, fits-U, sum-U, place-U, some-T, fits-T, sum-T, place-T}
use Rattle.listing_places.proofs.ranking.position_of.Goals as goal

pub bounds-word-0 : goal.bounds-word-0
bounds-word-0 c = word_some _ _ c.requires.0

pub slice_bounds-rank-count : goal.slice_bounds-rank-count
slice_bounds-rank-count c = word_some _ _ c.requires.0

pub slice_bounds-rank-start : goal.slice_bounds-rank-start
slice_bounds-rank-start c = word_some _ _ c.requires.0

pub overflow_sub-size : goal.overflow_sub-size
overflow_sub-size c = some-U _ _ c.requires.0 c.requires.1 c.in-0.is

pub rank-requires : goal.rank-requires
rank-requires c =
    let i = some-U _ _ c.requires.0 c.requires.1 c.in-0.is in (fits-U _ _ c.requires.0 c.requires.1 c.in-0.is, omega arith)

pub overflow_add-result : goal.overflow_add-result
overflow_add-result c = omega (arith, c.rank.ensures, sum-U _ _ c.requires.0 c.requires.1 c.in-0.is)

pub overflow_sub-size-in_default : goal.overflow_sub-size-in_default
overflow_sub-size-in_default c =
    let i = some-T _ _ c.requires.0 c.requires.1 (λ e. omega arith) in omega arith

pub overflow_sub-size-in_default-2 : goal.overflow_sub-size-in_default-2
overflow_sub-size-in_default-2 c = some-T _ _ c.requires.0 c.requires.1 (λ e. omega arith)

pub rank-requires-in_default : goal.rank-requires-in_default
rank-requires-in_default c =
    let i = some-T _ _ c.requires.0 c.requires.1 (λ e. omega arith) in (fits-T _ _ c.requires.0 c.requires.1 (λ e. omega arith), omega arith)

pub overflow_add-result-in_default : goal.overflow_add-result-in_default
overflow_add-result-in_default c =
    omega (arith, c.ways.ensures.inside (omega arith), c.rank-in_default.ensures, sum-T _ _ c.requires.0 c.requires.1 (λ e. omega arith))

pub overflow_add-result-in_default-2 : goal.overflow_add-result-in_default-2
overflow_add-result-in_default-2 c =
    omega (arith, c.ways.ensures.inside (omega arith), c.rank-in_default.ensures, sum-T _ _ c.requires.0 c.requires.1 (λ e. omega arith))

pub returns-in-0 : goal.returns-in-0
returns-in-0 c = omega (arith, c.rank.ensures, place-U _ _ c.requires.0 c.requires.1 c.in-0.is)

pub returns-in_default : goal.returns-in_default
returns-in_default c =
    omega (arith, c.ways.ensures.inside (omega arith), c.rank-in_default.ensures, place-T _ _ c.requires.0 c.requires.1 (λ e. omega arith))
