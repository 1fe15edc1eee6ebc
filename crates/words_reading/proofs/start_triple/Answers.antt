-- T: the three stores to each array and the three pushes give the state `after_t`.
use mathlib.Core.Logic.{⊎_elim}
use mathlib.Core.List.{[], ◌∷◌}
use native.Mathlib.Omega.{arith}
use Rattle.words_reading.proofs.ReadingLaws.{triple-first}
use Rattle.words_reading.proofs.start_triple.Goals as goal

pub push_two-requires-clause-by_index : goal.push_two-requires-clause-by_index
push_two-requires-clause-by_index c = (_, c.push.ensures [] c.requires.0 (λ i. i), ⊎_elim (λ e. omega arith) (λ i. i))

pub returns : goal.returns
returns c =
    triple-first _ _ c.args.x0.now c.args.x1.now c.requires.1 c.requires.2
    (c.push_two.ensures (1 ∷ []) (c.push.ensures [] c.requires.0 (λ i. i)) (⊎_elim (λ e. omega arith) (λ i. i)) (⊎_elim (λ e. omega arith) (λ i. i)))
