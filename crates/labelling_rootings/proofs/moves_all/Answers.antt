-- `moves_all` meets its contract: all says whether each entry so far is another edge than its own.
use Rattle.diagrams_entries.proofs.Answers.{tested-all}
use Rattle.labelling_rootings.proofs.Moving.{places-moved}
use Rattle.labelling_rootings.proofs.moves_all.Goals as goal

pub returns : goal.returns
returns c =
    let a = tested-all _ c.loop-i.invariant c.loop-i-test.false in
    let b = places-moved c.args.s0.now in
    (λ q. b.0 (a.0 q), λ e. a.1 (b.1 e))
