-- What characteristic promises (document 01, "Labelling and words").
--
--   CharacteristicPromise s0 s1 root m   check's verdict, with the characteristic labelling and root 1, or the single edge
use Rattle.std.specs.Prelude.{List, ℕ}
use Rattle.diagrams.specs.Check.{CheckPromise}
use Rattle.diagrams.specs.Held.{HeldAfter}
use Rattle.diagrams.specs.declared.Made.{Made}
use Rattle.labelling.specs.Labelling.{characteristic}

-- the diagram held is the one in characteristic labelling where the verdict accepts, otherwise the single edge
pub record CharacteristicPromise (s0 s1 : List ℕ) (root : ℕ) (m : Made) : Type 0 where
  pub answer : CheckPromise s0 s1 root m.verdict
  pub kept : HeldAfter (characteristic s0 s1 root).black (characteristic s0 s1 root).white 1 m.diagram m.verdict
