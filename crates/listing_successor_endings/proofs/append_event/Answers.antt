-- `append_event` meets its contract: the event is one item more, and `end_word` writes the rest.
use mathlib.Core.List.{◌∷◌, [], ◌++◌}
use native.Mathlib.Omega.{arith}
use Rattle.lists.proofs.Lists.{length-1}
use Rattle.listing_successor_endings.proofs.Padding.{padded-more, padded-both}
use Rattle.listing_successor_endings.proofs.append_event.Goals as goal

pub end_word-requires : goal.end_word-requires
end_word-requires c =
    let p = c.requires in
    (p.0 ++ (c.args.event ∷ []), rw (p.1, p.2) (padded-more p.0 c.args.event (omega arith)), rw length-1 (omega arith), p.3, p.4, p.5)

pub returns : goal.returns
returns c = λ p e l. padded-both p _ _ _ _ (c.end_word.ensures (p ++ (c.args.event ∷ [])) (rw (e, l) (padded-more p c.args.event (let r = c.requires.3 in omega arith))) (rw length-1 (omega arith)))
