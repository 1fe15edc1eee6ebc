-- What check_and_label promises: check's refusals, or the diagram's word and labels.
--
--   LabelPromise s0 s1 root la od a b answer   the refusals of check; otherwise the word stands in the list a, now b, before what it held, and la
--                                              and od hold the label of every edge
use Rattle.std.specs.Prelude.{List, ℕ, length, Result, Ok, Err}
use Rattle.diagrams.specs.Check.{Accepts, Refuses}
use Rattle.labelling_code.specs.Scratch.{WordWritten}
use Rattle.refusals.specs.declared.Refusal.{Refusal}
use Rattle.refusals.specs.Numbers.{number}

abbrev pub LabelPromise : List ℕ → List ℕ → ℕ → List ℕ → List ℕ → List ℕ → List ℕ → Result ℕ Refusal → Type 0
LabelPromise s0 s1 root la od a b (Ok m) = Accepts s0 s1 root × WordWritten s0 s1 root la od a b m (length s0)
LabelPromise s0 s1 root la od a b (Err e) = Refuses s0 s1 root (number e)
