-- `symmetries` meets its contract: what check refuses is refused, and of the rest the rootings with the own word are counted.
use mathlib.Core.List.{List}
use Prim.Native.Nat.{ℕ}
use Rattle.std.specs.Prelude.{Result, Ok, Err}
use Rattle.refusals.specs.declared.Refusal.{Refusal}
use Rattle.labelling.specs.Rootings.{symmetries}
use Rattle.labelling_rootings.specs.Among.{rootings_with}
use Rattle.labelling_comparison.specs.Questions.{AskedPromise}
use Rattle.labelling_comparison.specs.declared.Question.TheVariants.{Number}
use Rattle.labelling_answers.specs.Promises.{SymmetriesPromise}
use Rattle.labelling_operations_rootings.proofs.symmetries.Goals as goal

counted : (s0 s1 : List ℕ) (root : ℕ) (answer : Result ℕ Refusal) → AskedPromise Number s0 s1 root answer → SymmetriesPromise s0 s1 root answer
unfolding symmetries rootings_with
counted s0 s1 root (Ok m) p = p
counted s0 s1 root (Err e) p = p

pub returns : goal.returns
returns c = counted _ _ _ _ c.ask_own.ensures
