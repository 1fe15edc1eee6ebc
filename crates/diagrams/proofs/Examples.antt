-- S0 1,2 with s1 1,2 is refused 8, since no step leaves edge 1.
use mathlib.Core.Path.{◌≡◌, refl}
use mathlib.Core.List.{List, [], ◌∷◌}
use Prim.Native.Nat.{ℕ, zero, suc}
use native.Mathlib.Omega.{arith}
use Rattle.lists.specs.Lists.{at}
use Rattle.lists.specs.Ranges.{OneTo}
use Rattle.diagrams.specs.Diagram.{Reached, here, black, white}
use Rattle.diagrams.specs.Check.{Refuses, no-path}

abbrev two : List ℕ
two = 1 ∷ 2 ∷ []

fixed : (x : ℕ) → OneTo 2 x → at two x ≡ x
fixed zero e = absurd (omega arith)
fixed (suc zero) e = refl
fixed (suc (suc zero)) e = refl
fixed (suc (suc (suc x))) e = absurd (omega arith)

stays : {x : ℕ} → Reached (at two) (at two) 1 x → x ≡ 1
stays here = refl
stays (black p) = rw (stays p)
stays (white p) = rw (stays p)

pub distinct-refused : Refuses (1 ∷ 2 ∷ []) (1 ∷ 2 ∷ []) 1 8
distinct-refused =
    no-path (omega arith) refl (omega arith)
    (λ x e. rw (fixed x e) e)
    (λ x e. rw (fixed x e) e)
    (λ x e. rw (fixed x e, fixed x e, fixed x e))
    (λ x e. rw (fixed x e, fixed x e))
    (λ c. let e = stays (c 2 (omega arith)) in omega arith)
