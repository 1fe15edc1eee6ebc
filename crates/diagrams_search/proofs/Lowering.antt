-- Laws of lower neighbours: where every edge but 1 has one, all are reached from edge 1; and the code's test of one edge.
use mathlib.Core.Path.{◌≡◌, refl}
use mathlib.Core.Logic.{◌⊎◌, inl, inr, ◌↔◌}
use mathlib.Core.Bool.{Bool, true, false, ◌||◌, or-true}
use mathlib.Core.List.{List}
use Prim.Native.Nat.{ℕ, zero, suc, ◌≤◌, ◌<◌}
use native.Mathlib.Omega.{arith}
use lib.Dec.{ltb}
use lib.ListN.{length}
use Rattle.lists.specs.Lists.{at}
use Rattle.lists.specs.Ranges.{OneTo}
use Rattle.lists.proofs.Tests.{lt?, lt-true, ltb-true}
use Rattle.diagrams_entries.specs.Diagram.{Reached, here, black, white}
use Rattle.diagrams_entries.specs.Conditions.{Connected, Mapped}
use Rattle.diagrams_search.specs.Lower.{LowerNeighbour, LowerNeighbours}

-- ---- every edge is reached

module _ {s0 s1 : List ℕ} (m : Mapped s0 s1) where
  -- where every lower edge is reached: from a lower neighbour two black steps, one black step or a white one lead to x
  from-lower : (x : ℕ) → OneTo (length s0) x → ((y : ℕ) → y < x → OneTo (length s0) y → Reached (at s0) (at s1) 1 y)
      → LowerNeighbour s0 s1 x → Reached (at s0) (at s1) 1 x
  from-lower x e h (inl l) =
      let on : Reached (at s0) (at s1) 1 (at s0 (at s0 (at s0 x))) = black (black (h (at s0 x) l (m.maps.black_in x e))) in
      rw (m.maps.thrice x e) at on
  from-lower x e h (inr (inl l)) =
      let i = m.maps.black_in (at s0 x) (m.maps.black_in x e) in
      let on : Reached (at s0) (at s1) 1 (at s0 (at s0 (at s0 x))) = black (h (at s0 (at s0 x)) l i) in
      rw (m.maps.thrice x e) at on
  from-lower x e h (inr (inr l)) =
      let on : Reached (at s0) (at s1) 1 (at s1 (at s1 x)) = white (h (at s1 x) l (m.maps.white_in x e)) in
      rw (m.maps.twice x e) at on

  -- by induction on a bound of the edge's number
  reached-below : LowerNeighbours s0 s1 → (n x : ℕ) → x ≤ n → OneTo (length s0) x → Reached (at s0) (at s1) 1 x
  reached-below a zero x i e = absurd (omega arith)
  reached-below a (suc n) x i e = go (lt? 1 x) (λ y l f. reached-below a n y (omega arith) f)
    where
      go : (1 < x) ⊎ (x ≤ 1) → ((y : ℕ) → y < x → OneTo (length s0) y → Reached (at s0) (at s1) 1 y) → Reached (at s0) (at s1) 1 x
      go (inl l) h = from-lower x e h (a x e l)
      go (inr l) h = let q : x ≡ 1 = omega arith in rw q here

  pub lower-connected : LowerNeighbours s0 s1 → Connected s0 s1
  lower-connected a x e = reached-below a x x (omega arith) e

-- ---- the code's test of one edge

or_cases : (a b : Bool) → (a || b) ≡ true → (a ≡ true) ⊎ (b ≡ true)
or_cases true b e = inl refl
or_cases false b e = inr e

any_below : (a b c x : ℕ) → ((ltb a x || (ltb b x || ltb c x)) ≡ true) ↔ ((a < x) ⊎ ((b < x) ⊎ (c < x)))
any_below a b c x = (λ e. to (or_cases (ltb a x) (ltb b x || ltb c x) e), from)
  where
    two : (ltb b x ≡ true) ⊎ (ltb c x ≡ true) → (b < x) ⊎ (c < x)
    two (inl e) = inl (ltb-true b x e)
    two (inr e) = inr (ltb-true c x e)

    to : (ltb a x ≡ true) ⊎ ((ltb b x || ltb c x) ≡ true) → (a < x) ⊎ ((b < x) ⊎ (c < x))
    to (inl e) = inl (ltb-true a x e)
    to (inr e) = inr (two (or_cases (ltb b x) (ltb c x) e))

    from : (a < x) ⊎ ((b < x) ⊎ (c < x)) → (ltb a x || (ltb b x || ltb c x)) ≡ true
    from (inl l) = rw (lt-true a x l)
    from (inr (inl l)) = rw (lt-true b x l, or-true (ltb a x))
    from (inr (inr l)) = rw (lt-true c x l, or-true (ltb b x), or-true (ltb a x))

-- a, b and c are the neighbours of x
pub lower-test : (s0 s1 : List ℕ) (x : ℕ) {a b c : ℕ} → a ≡ at s0 x → b ≡ at s0 a → c ≡ at s1 x
    → ((ltb a x || (ltb b x || ltb c x)) ≡ true) ↔ LowerNeighbour s0 s1 x
lower-test s0 s1 x p q r = rw (r, q, p) (any_below (at s0 x) (at s0 (at s0 x)) (at s1 x) x)
