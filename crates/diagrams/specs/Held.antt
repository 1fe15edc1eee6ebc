-- A rooted diagram held by value: its lists stand in the first places of two arrays.
--
--   Held d s0 s1 root                    d holds the lists s0 and s1 and the root; the places after the lists are 0
--   HeldAfter s0 s1 root d v             d after the verdict v: the lent diagram where v accepts it, otherwise the single edge
--   CheckedDiagramPromise s0 s1 root m   the promise of Diagram::checked: check's verdict, and the diagram that goes with it
use Rattle.std.specs.Prelude.{◌≡◌, List, [], ◌∷◌, ◌++◌, ℕ, ◌-◌, length, replicate, Result, Ok, Err}
use Rattle.diagrams.specs.Check.{CheckPromise}
use Rattle.refusals.specs.declared.Refusal.{Refusal}
use Rattle.diagrams.specs.declared.Diagram.{Diagram}
use Rattle.diagrams.specs.declared.Made.{Made}

-- s, then zeros to 1,024
abbrev pub padded : List ℕ → List ℕ
padded s = s ++ replicate (1024 - length s) 0

pub record Held (d : Diagram) (s0 s1 : List ℕ) (root : ℕ) : Type 0 where
  pub size : d.size ≡ length s0
  pub root_is : d.root ≡ root
  pub black : d.s0 ≡ padded s0
  pub white : d.s1 ≡ padded s1

abbrev pub HeldAfter : List ℕ → List ℕ → ℕ → Diagram → Result (Unit {0}) Refusal → Type 0
HeldAfter s0 s1 root d (Ok u) = Held d s0 s1 root
HeldAfter s0 s1 root d (Err e) = Held d (1 ∷ []) (1 ∷ []) 1

pub record CheckedDiagramPromise (s0 s1 : List ℕ) (root : ℕ) (m : Made) : Type 0 where
  pub answer : CheckPromise s0 s1 root m.verdict
  pub kept : HeldAfter s0 s1 root m.diagram m.verdict
