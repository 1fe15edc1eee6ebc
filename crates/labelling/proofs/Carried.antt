-- An isomorphism carries the labelling with it, so the words are equal.
use mathlib.Core.Path.{◌≡◌, refl, ap}
use mathlib.Core.Bool.{Bool, true, false}
use Prim.Native.Nat.{ℕ, zero, suc}
use mathlib.Core.List.{List, [], ◌∷◌, map}
use lib.Dec.{eqb}
use Rattle.lists.specs.Lists.{All, has, find, remove_at}
use Rattle.lists.specs.Ranges.{OneTo}
use Rattle.lists.proofs.Lists.{all-remove_at}
use Rattle.lists.proofs.Tests.{eqb-by}
use Rattle.diagrams.specs.Diagram.{Maps}
use Rattle.diagrams.specs.Isomorphism.{Isomorphism}
use Rattle.labelling.specs.Labelling.{Event, event_by, event, Labelled, events, first_event, label}

remove_at-map : (φ : ℕ → ℕ) (d : ℕ) (s : List ℕ) → remove_at d (map φ s) ≡ map φ (remove_at d s)
remove_at-map φ d [] = refl
remove_at-map φ zero (x ∷ s) = refl
remove_at-map φ (suc d) (x ∷ s) = ap (λ (t : List ℕ). φ x ∷ t) (remove_at-map φ d s)

abbrev moved : (ℕ → ℕ) → Event → Event
moved φ v = record { item = v.item; marked = map φ v.marked; stack = map φ v.stack }

abbrev pub carried : (ℕ → ℕ) → Labelled → Labelled
carried φ q = record { marked = map φ q.marked; word = q.word }

-- a move of a diagram stays among its edges
record In (n : ℕ) (v : Event) : Type 0 where
  marked_in : All (OneTo n) v.marked
  stack_in : All (OneTo n) v.stack

event_by-φ : (φ : ℕ → ℕ) (w old fix : Bool) (p q s d : ℕ) (o r : List ℕ) → event_by w old fix (φ p) (φ q) (φ s) d (map φ o) (map φ r) ≡ moved φ (event_by w old fix p q s d o r)
event_by-φ φ true old fix p q s d o r = refl
event_by-φ φ false true fix p q s d o r = rw remove_at-map
event_by-φ φ false false true p q s d o r = refl
event_by-φ φ false false false p q s d o r = refl

event_by-in : (n : ℕ) (w old fix : Bool) (p q s d : ℕ) (o r : List ℕ) → OneTo n p → OneTo n q → OneTo n s → All (OneTo n) o → All (OneTo n) r → In n (event_by w old fix p q s d o r)
event_by-in n true old fix p q s d o r a b c h k = record { marked_in = h; stack_in = k }
event_by-in n false true fix p q s d o r a b c h k = record { marked_in = h; stack_in = all-remove_at (OneTo n) d r k }
event_by-in n false false true p q s d o r a b c h k = record { marked_in = (a, h); stack_in = k }
event_by-in n false false false p q s d o r a b c h k = record { marked_in = (c, (b, (a, h))); stack_in = (c, (b, k)) }

first-φ : (φ : ℕ → ℕ) (fix : Bool) (p q s : ℕ) → first_event fix (φ p) (φ q) (φ s) ≡ moved φ (first_event fix p q s)
first-φ φ true p q s = refl
first-φ φ false p q s = refl

first-in : (n : ℕ) (fix : Bool) (p q s : ℕ) → OneTo n p → OneTo n q → OneTo n s → In n (first_event fix p q s)
first-in n true p q s a b c = record { marked_in = (a, tt); stack_in = (a, tt) }
first-in n false p q s a b c = record { marked_in = (c, (b, (a, tt))); stack_in = (c, (b, (a, tt))) }

module _ (n : ℕ) (f g f' g' φ : ℕ → ℕ) (D : Maps n f g) (c : Isomorphism n f g f' g' φ) where
  eqb-φ : (x y : ℕ) → OneTo n x → OneTo n y → eqb (φ x) (φ y) ≡ eqb x y
  eqb-φ x y a b = eqb-by (φ x) (φ y) x y (c.one_one x y a b) (ap φ)

  has-φ : (p : ℕ) (s : List ℕ) → OneTo n p → All (OneTo n) s → has (φ p) (map φ s) ≡ has p s
  has-φ p [] a b = refl
  has-φ p (x ∷ s) a b = rw (eqb-φ p x a b.0, has-φ p s a b.1)

  find-φ : (p : ℕ) (s : List ℕ) → OneTo n p → All (OneTo n) s → find (φ p) (map φ s) ≡ find p s
  find-φ p [] a b = refl
  find-φ p (x ∷ s) a b = rw (eqb-φ p x a b.0, find-φ p s a b.1)

  move_in : (o : List ℕ) (k : ℕ) (r : List ℕ) → All (OneTo n) o → OneTo n k → All (OneTo n) r → In n (event f g o k r)
  unfolding event
  move_in o k r a b d = event_by-in n (eqb (g k) k) (has (g k) o) (eqb (f (g k)) (g k)) (g k) (f (g k)) (f (f (g k))) (find (g k) r) o r p (D.black_in (g k) p) (D.black_in (f (g k)) (D.black_in (g k) p)) a d
    where
      p : OneTo n (g k)
      p = D.white_in k b

  move-φ : (o : List ℕ) (k : ℕ) (r : List ℕ) → All (OneTo n) o → OneTo n k → All (OneTo n) r → event f' g' (map φ o) (φ k) (map φ r) ≡ moved φ (event f g o k r)
  unfolding event
  move-φ o k r a b d =
      rw (← c.whites k b, eqb-φ (g k) k p b, has-φ (g k) o p a, ← c.blacks (g k) p, eqb-φ (f (g k)) (g k) q p, ← c.blacks (f (g k)) q, find-φ (g k) r p d)
      (event_by-φ φ (eqb (g k) k) (has (g k) o) (eqb (f (g k)) (g k)) (g k) (f (g k)) (f (f (g k))) (find (g k) r) o r)
    where
      p : OneTo n (g k)
      p = D.white_in k b

      q : OneTo n (f (g k))
      q = D.black_in (g k) p

  run-φ : (m : ℕ) (o st : List ℕ) → All (OneTo n) o → All (OneTo n) st → events f' g' m (map φ o) (map φ st) ≡ carried φ (events f g m o st)
  unfolding events
  run-φ zero o st a b = refl
  run-φ (suc m) o [] a b = refl
  run-φ (suc m) o (k ∷ r) a b = rw (move-φ o k r a b.0 b.1, run-φ m v.marked v.stack i.marked_in i.stack_in)
    where
      v : Event
      v = event f g o k r

      i : In n v
      i = move_in o k r a b.0 b.1

  pub label-φ : (r : ℕ) → OneTo n r → label n f' g' (φ r) ≡ carried φ (label n f g r)
  unfolding label
  label-φ r a =
      rw (← c.blacks r a, eqb-φ (f r) r q a, ← c.blacks (f r) q, first-φ φ (eqb (f r) r) r (f r) (f (f r)), run-φ n v.marked v.stack i.marked_in i.stack_in)
    where
      q : OneTo n (f r)
      q = D.black_in r a

      v : Event
      v = first_event (eqb (f r) r) r (f r) (f (f r))

      i : In n v
      i = first-in n (eqb (f r) r) r (f r) (f (f r)) a q (D.black_in (f r) q)
