-- Laws of a diagram held by value: a list filled into an array of zeros is padded, and what a diagram holds determines it.
use mathlib.Core.Path.{◌≡◌, sym, ◌∙◌}
use mathlib.Core.Bool.{cond}
use mathlib.Core.List.{List, ◌++◌}
use Prim.Native.Nat.{ℕ, ◌-◌, ◌≤◌}
use lib.Dec.{leb}
use lib.ListN.{length, drop, replicate, length-replicate}
use Rattle.lists.proofs.Tests.{le-true}
use Rattle.lists.proofs.Lists.{drop-zeros}
use Rattle.diagrams.specs.Held.{padded, Held}
use Rattle.diagrams.specs.declared.Diagram.{Diagram}

filled : (m : ℕ) (s : List ℕ) → length s ≤ m → cond (leb (length s) (length (replicate {A = ℕ} m 0))) (s ++ drop (length s) (replicate m 0)) (replicate m 0) ≡ s ++ replicate (m - length s) 0
filled m s h = rw (length-replicate {A = ℕ} m 0, le-true (length s) m h, drop-zeros m (length s) h)

pub filled-padded : (s : List ℕ) → length s ≤ 1024 → cond (leb (length s) (length (replicate {A = ℕ} 1024 0))) (s ++ drop (length s) (replicate 1024 0)) (replicate 1024 0) ≡ padded s
filled-padded s h = filled 1024 s h

-- so all that hold the single edge are the same
pub held-once : (d e : Diagram) (s0 s1 : List ℕ) (root : ℕ) → Held d s0 s1 root → Held e s0 s1 root → d ≡ e
held-once d e s0 s1 root h k = same (h.black ∙ sym k.black) (h.white ∙ sym k.white) (h.size ∙ sym k.size) (h.root_is ∙ sym k.root_is)
  where
    same : {a a' b b' : List ℕ} {n n' r r' : ℕ} → a ≡ a' → b ≡ b' → n ≡ n' → r ≡ r'
        → ◌≡◌ {A = Diagram} (record { s0 = a; s1 = b; size = n; root = r }) (record { s0 = a'; s1 = b'; size = n'; root = r' })
    same p q m s = rw (p, q, m, s)
