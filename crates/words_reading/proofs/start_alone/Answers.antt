-- U: the one store to each array and the push give the state `after_u`.
use mathlib.Core.List.{[]}
use Rattle.words_reading.proofs.ReadingLaws.{alone-first}
use Rattle.words_reading.proofs.start_alone.Goals as goal

pub returns : goal.returns
returns c = let p = c.requires in alone-first _ _ c.args.x0.now c.args.x1.now p.1 p.2 (c.push.ensures [] p.0 (λ i. i))
