-- The first label is pushed where it is not pending yet, and the second is neither that one nor pending.
use mathlib.Core.Logic.{⊎_elim}
use native.Mathlib.Omega.{arith}
use Rattle.words_reading_events.proofs.push_two.Goals as goal

pub returns : goal.returns
returns c = λ s r n m. c.push-2.ensures _ (c.push.ensures s r n) (⊎_elim (λ e. omega arith) m)
