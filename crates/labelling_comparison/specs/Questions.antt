-- What compare, symmetries and kept ask of a diagram s0, s1 with root r, given a word w.
--
--   Askable question s0 s1 r w            what a question may rely on: whether w is the least is asked of the diagram's own word
--   Answered question s0 s1 r w a         a answers the question; yes is 1
--   AskedPromise question s0 s1 r asked   the promise of ask_own: the refusals of check; otherwise the answer, given the diagram's own word
use Rattle.std.specs.Prelude.{◌≡◌, ◌↔◌, List, ℕ, Result, Ok, Err}
use Rattle.diagrams.specs.Check.{Accepts, Refuses}
use Rattle.labelling.specs.Labelling.{word_of}
use Rattle.labelling_rootings.specs.Among.{NoneBefore, SomeRooting, rootings_with}
use Rattle.labelling_comparison.specs.declared.Question.{Question}
use Rattle.labelling_comparison.specs.declared.Question.TheVariants.{Root, Any, Number, Least}
use Rattle.refusals.specs.declared.Refusal.{Refusal}
use Rattle.refusals.specs.Numbers.{number}

abbrev pub Askable : Question → List ℕ → List ℕ → ℕ → List ℕ → Type 0
Askable Root s0 s1 r w = Unit
Askable Any s0 s1 r w = Unit
Askable Number s0 s1 r w = Unit
Askable Least s0 s1 r w = word_of s0 s1 r ≡ w

abbrev pub Answered : Question → List ℕ → List ℕ → ℕ → List ℕ → ℕ → Type 0
Answered Root s0 s1 r w a = (a ≡ 1) ↔ (word_of s0 s1 r ≡ w)
Answered Any s0 s1 r w a = (a ≡ 1) ↔ SomeRooting s0 s1 w
Answered Number s0 s1 r w a = a ≡ rootings_with s0 s1 w
Answered Least s0 s1 r w a = (a ≡ 1) ↔ NoneBefore s0 s1 w

abbrev pub AskedPromise : Question → List ℕ → List ℕ → ℕ → Result ℕ Refusal → Type 0
AskedPromise question s0 s1 r (Ok a) = Accepts s0 s1 r × Answered question s0 s1 r (word_of s0 s1 r) a
AskedPromise question s0 s1 r (Err e) = Refuses s0 s1 r (number e)
