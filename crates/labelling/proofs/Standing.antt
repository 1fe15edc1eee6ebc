-- The labelling after its first items: what is marked and pending then, that the items begin the word, and that enough moves are left.
use mathlib.Core.Path.{◌≡◌, refl, ◌∙◌}
use mathlib.Core.Bool.{Bool, true, false}
use mathlib.Core.List.{List, [], ◌∷◌, ◌++◌, append_assoc, append-nil}
use Prim.Native.Nat.{ℕ, zero, suc, ◌+◌, ◌≤◌, ◌<◌}
use native.Mathlib.Omega.{arith}
use lib.Dec.{eqb}
use lib.ListN.{length, length-append}
use Rattle.diagrams.specs.Diagram.{Maps}
use Rattle.labelling.specs.Labelling.{event, LabellingInvariant, events, first_event, label}
use Rattle.labelling.proofs.Along.{falls, size}

-- after the items w the labelling from the root stands at the marked edges o and the stack st, with `left` moves left
pub record Standing (n : ℕ) (f g : ℕ → ℕ) (root : ℕ) (w o st : List ℕ) : Type 0 where
  pub left : ℕ
  pub moves : length w + left ≡ suc n
  pub enough : length st + n ≤ left + length o
  pub word : (label n f g root).word ≡ w ++ (events f g left o st).word
  pub marked : (label n f g root).marked ≡ (events f g left o st).marked

first-even : (b : Bool) (p q s : ℕ) → length (first_event b p q s).stack ≡ length (first_event b p q s).marked
first-even true p q s = refl
first-even false p q s = refl

pub standing-begin : (n : ℕ) (f g : ℕ → ℕ) (root : ℕ) → let v = first_event (eqb (f root) root) root (f root) (f (f root)) in Standing n f g root (v.item ∷ []) v.marked v.stack
unfolding label
standing-begin n f g root = record {
  left = n;
  moves = omega arith;
  enough = let i = first-even (eqb (f root) root) root (f root) (f (f root)) in omega arith;
  word = refl;
  marked = refl;
}

module _ {n : ℕ} {f g : ℕ → ℕ} (D : Maps n f g) {root : ℕ} {w o : List ℕ} {k : ℕ} {r : List ℕ} (I : LabellingInvariant n f g o (k ∷ r)) (S : Standing n f g root w o (k ∷ r)) where
  -- while an edge is pending, a move is left
  move-left : 0 < S.left
  move-left = let i = size n f g D o (k ∷ r) I in let j = S.enough in omega arith

  pub standing-room : length w ≤ n
  standing-room = let i = move-left in let j = S.moves in omega arith

  pub standing-event : Standing n f g root (w ++ ((event f g o k r).item ∷ [])) (event f g o k r).marked (event f g o k r).stack
  unfolding events
  standing-event = go S.left refl move-left
    where
      go : (m : ℕ) → S.left ≡ m → 0 < m → Standing n f g root (w ++ ((event f g o k r).item ∷ [])) (event f g o k r).marked (event f g o k r).stack
      go zero i h = absurd (omega arith)
      go (suc m) i h = record {
        left = m;
        moves = simp length-append (let j = S.moves in omega arith);
        enough = let j = S.enough in let l = falls n f g D o k r I in omega arith;
        word = rw append_assoc (rw i at S.word);
        marked = rw i at S.marked;
      }

pub standing-end : {n : ℕ} {f g : ℕ → ℕ} {root : ℕ} {w o : List ℕ} → Standing n f g root w o [] → ((label n f g root).word ≡ w) × ((label n f g root).marked ≡ o)
unfolding events
standing-end {n} {f} {g} {root} {w} {o} S = (S.word ∙ rw (none S.left, append-nil), S.marked ∙ rw (none S.left))
  where
    none : (m : ℕ) → events f g m o [] ≡ record { marked = o; word = [] }
    none zero = refl
    none (suc m) = refl
