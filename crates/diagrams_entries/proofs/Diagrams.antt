-- Laws of diagrams: both maps are one-to-one, paths can be joined and turned round, and a diagram is its maps' values at its edges.
use mathlib.Core.Path.{◌≡◌, sym, ap, ◌∙◌}
use Prim.Native.Nat.{ℕ}
use native.Mathlib.Omega.{arith}
use Rattle.lists.specs.Ranges.{OneTo}
use Rattle.diagrams_entries.specs.Diagram.{Reached, here, black, white, Maps, Diagram}

-- ---- the maps

pub edge-one : {n : ℕ} {f g : ℕ → ℕ} → Maps n f g → OneTo n 1
edge-one m = let i = m.some_edge in omega arith

pub black-one-one : {n : ℕ} {f g : ℕ → ℕ} → Maps n f g → (x y : ℕ) → OneTo n x → OneTo n y → f x ≡ f y → x ≡ y
black-one-one {f} m x y i j e = sym (m.thrice x i) ∙ ap (λ (z : ℕ). f (f z)) e ∙ m.thrice y j

pub white-one-one : {n : ℕ} {f g : ℕ → ℕ} → Maps n f g → (x y : ℕ) → OneTo n x → OneTo n y → g x ≡ g y → x ≡ y
white-one-one {g} m x y i j e = sym (m.twice x i) ∙ ap g e ∙ m.twice y j

-- ---- paths

pub reached-edge : {n : ℕ} {f g : ℕ → ℕ} → Maps n f g → {a x : ℕ} → OneTo n a → Reached f g a x → OneTo n x
reached-edge m e here = e
reached-edge m e (black {x = y} p) = m.black_in y (reached-edge m e p)
reached-edge m e (white {x = y} p) = m.white_in y (reached-edge m e p)

pub reached-trans : {f g : ℕ → ℕ} {a b c : ℕ} → Reached f g a b → Reached f g b c → Reached f g a c
reached-trans p here = p
reached-trans p (black q) = black (reached-trans p q)
reached-trans p (white q) = white (reached-trans p q)

-- two black steps, or one white step, undo a step
pub reached-back : {n : ℕ} {f g : ℕ → ℕ} → Maps n f g → {a x : ℕ} → OneTo n a → Reached f g a x → Reached f g x a
reached-back m e here = here
reached-back {f} {g} m e (black {x = y} p) =
    let back : Reached f g (f y) (f (f (f y))) = black (black here) in
    reached-trans (rw (m.thrice y (reached-edge m e p)) at back) (reached-back m e p)
reached-back {f} {g} m e (white {x = y} p) =
    let back : Reached f g (g y) (g (g y)) = white here in
    reached-trans (rw (m.twice y (reached-edge m e p)) at back) (reached-back m e p)

pub reached-from-any : {n : ℕ} {f g : ℕ → ℕ} → Diagram n f g → (r x : ℕ) → OneTo n r → OneTo n x → Reached f g r x
reached-from-any d r x i j = reached-trans (reached-back d.maps (edge-one d.maps) (d.connected r i)) (d.connected x j)

-- ---- a diagram is its maps' values at its edges

pub maps-same : {n : ℕ} {f g f' g' : ℕ → ℕ} → Maps n f g → ((x : ℕ) → OneTo n x → f x ≡ f' x) → ((x : ℕ) → OneTo n x → g x ≡ g' x) → Maps n f' g'
maps-same {f} {g} m a b = record {
  some_edge = m.some_edge;
  black_in = λ x e. rw (← a x e) (m.black_in x e);
  white_in = λ x e. rw (← b x e) (m.white_in x e);
  thrice = λ x e. rw (← a x e, ← a (f x) (m.black_in x e), ← a (f (f x)) (m.black_in (f x) (m.black_in x e))) (m.thrice x e);
  twice = λ x e. rw (← b x e, ← b (g x) (m.white_in x e)) (m.twice x e);
}

pub reached-same : {n : ℕ} {f g f' g' : ℕ → ℕ} → Maps n f g → ((x : ℕ) → OneTo n x → f x ≡ f' x) → ((x : ℕ) → OneTo n x → g x ≡ g' x)
    → {r x : ℕ} → OneTo n r → Reached f g r x → Reached f' g' r x
reached-same m a b e here = here
reached-same m a b e (black {x = y} p) = rw (a y (reached-edge m e p)) (black (reached-same m a b e p))
reached-same m a b e (white {x = y} p) = rw (b y (reached-edge m e p)) (white (reached-same m a b e p))

pub diagram-same : {n : ℕ} {f g f' g' : ℕ → ℕ} → Diagram n f g → ((x : ℕ) → OneTo n x → f x ≡ f' x) → ((x : ℕ) → OneTo n x → g x ≡ g' x) → Diagram n f' g'
diagram-same d a b = record {
  maps = maps-same d.maps a b;
  connected = λ x e. reached-same d.maps a b (edge-one d.maps) (d.connected x e);
}
