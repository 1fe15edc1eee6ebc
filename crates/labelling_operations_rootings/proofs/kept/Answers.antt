-- `kept` meets its contract: where U comes first check alone decides, and of the rest it is asked whether a rooting's word comes before the
-- own word.
use mathlib.Core.Path.{◌≡◌, refl, sym}
use mathlib.Core.Bool.{Bool, true, false, true≢false}
use mathlib.Core.Logic.{◌↔◌}
use mathlib.Core.List.{List}
use Prim.Native.Nat.{ℕ}
use Rattle.std.specs.Prelude.{Ok}
use Rattle.lists.proofs.Tests.{eqb-true, eqb-eq}
use Rattle.diagrams.specs.Check.{Accepts}
use Rattle.labelling.specs.Labelling.{word_of}
use Rattle.labelling.specs.Rootings.{Kept}
use Rattle.labelling_rootings.specs.Among.{NoneBefore}
use Rattle.labelling_answers.specs.Promises.{KeptPromise}
use Rattle.labelling_operations_rootings.proofs.kept.Goals as goal

marked : (s0 s1 : List ℕ) (root : ℕ) (b : Bool) → Accepts s0 s1 root → (b ≡ true) ↔ NoneBefore s0 s1 (word_of s0 s1 root) → KeptPromise s0 s1 root (Ok b)
unfolding Kept NoneBefore
marked s0 s1 root true a p = (a, p.0 refl)
marked s0 s1 root false a p = (a, λ k. true≢false (sym (p.1 k)))

pub returns : goal.returns
returns c =
    let (a, p) = c.in_ok-least.ensures in
    marked _ _ _ _ a (λ e. p.0 (eqb-true _ _ e), λ k. eqb-eq _ _ (p.1 k))
