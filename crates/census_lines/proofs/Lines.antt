-- Laws of the parts of a line.
use mathlib.Core.Path.{◌≡◌, ap, ◌∙◌}
use mathlib.Core.Logic.{◌≢◌}
use mathlib.Core.List.{[], ◌∷◌}
use Prim.Native.Nat.{ℕ}
use lib.IntN.{ℤ}
use Rattle.lists.proofs.Tests.{eqb-ne}
use Rattle.text_printing.specs.Printing.{Output, put, put_all, signed_pieces}
use Rattle.census_lines.specs.Lines.{mark_text}

-- ---- a number with its sign

pub signed_same : (y z : ℤ) (o p : Output) → y ≡ z → p ≡ put_all (signed_pieces y) o → p ≡ put_all (signed_pieces z) o
signed_same y z o p e f = f ∙ ap (λ (x : ℤ). put_all (signed_pieces x) o) e

-- ---- the keep mark

pub mark-kept : (m : ℕ) (o p : Output) → m ≡ 1 → p ≡ put (32 ∷ 75 ∷ 10 ∷ []) o → p ≡ put (mark_text m) o
unfolding mark_text
mark-kept m o p e f = rw e f

pub mark-other : (m : ℕ) (o p : Output) → m ≢ 1 → p ≡ put (32 ∷ 45 ∷ 10 ∷ []) o → p ≡ put (mark_text m) o
unfolding mark_text
mark-other m o p n f = rw (eqb-ne m 1 n) f
