-- `number` meets its contract, by the two truth values.
use mathlib.Core.Path.{◌≡◌, refl, sym}
use mathlib.Core.Bool.{Bool, true, false, true≢false}
use mathlib.Core.Logic.{◌↔◌}
use native.Mathlib.Omega.{arith}
use Rattle.std.specs.Int.{from_bool}
use Rattle.labelling_comparison.proofs.number.Goals as goal

one : (yes : Bool) → (from_bool yes ≡ 1) ↔ (yes ≡ true)
one true = (λ e. refl, λ e. refl)
one false = (λ e. absurd (omega arith), λ e. absurd (true≢false (sym e)))

pub returns : goal.returns
returns c = let e = c.from.ensures in rw e (one c.args.yes)
