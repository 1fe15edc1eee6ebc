-- `visit` meets its contract: two calls of `reach`.
use native.Mathlib.Omega.{arith}
use lib.ListN.{take}
use Rattle.diagrams_search.proofs.Searching.{black-small, white-small, joined-both}
use Rattle.diagrams_search.proofs.visit.Goals as goal

pub reach-more-requires-clause-one_to : goal.reach-more-requires-clause-one_to
reach-more-requires-clause-one_to c = black-small c.requires.mapped _ c.requires.s0_in_bounds c.args.k c.requires.one_to

pub reach-requires-clause-one_to : goal.reach-requires-clause-one_to
reach-requires-clause-one_to c = white-small c.requires.mapped _ (omega arith) c.args.k c.requires.one_to

pub returns : goal.returns
returns c =
    (c.reach.ensures.0, joined-both c.args.s0.now c.args.s1.now c.args.k c.requires.one_to.0 (take c.args.count c.args.list.now) c.reach-more.ensures.1 c.reach.ensures.1)
