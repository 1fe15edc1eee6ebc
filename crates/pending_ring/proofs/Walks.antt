-- Two walks in step to a pending label, down from the top and up from the bottom: i labels are passed on each, and the one that comes
-- to the label first has its place.
use mathlib.Core.Path.{◌≡◌}
use mathlib.Core.List.{List, reverse}
use Prim.Native.Nat.{ℕ, suc, ◌+◌, ◌<◌}
use native.Mathlib.Omega.{arith}
use lib.ListN.{length, get_or}
use Rattle.lists.specs.Lists.{Has, find}
use Rattle.lists.proofs.Lists.{find-lt}
use Rattle.pending_ring.specs.Ring.{Ring}
use Rattle.pending_ring.proofs.Laws.{Walk, walk_start, walk-small, walk-few, walk-next, walk-on, walk-found}
use Rattle.pending_ring.proofs.Reverse.{has-reverse, find-reverse, ring-reverse}

pub record Walks (s : List ℕ) (l i down up : ℕ) : Type 0 where
  pub top : Walk s (find l s) i down
  pub bottom : Walk (reverse s) (find l (reverse s)) i up

module _ (nx pv s : List ℕ) (r : Ring nx pv s) (l : ℕ) (h : Has l s) where
  pub walks-start : Walks s l 0 0 0
  walks-start = record {
    top = walk_start nx pv s r (find l s) (find-lt l s h);
    bottom = walk_start pv nx (reverse s) (ring-reverse nx pv s r) (find l (reverse s)) (find-lt l (reverse s) (has-reverse l s h));
  }

  module _ (i down up : ℕ) (w : Walks s l i down up) where
    pub down-small : down < 1025
    down-small = walk-small nx pv s r (find l s) (find-lt l s h) i down w.top

    pub up_small : up < 1025
    up_small = walk-small pv nx (reverse s) (ring-reverse nx pv s r) (find l (reverse s)) (find-lt l (reverse s) (has-reverse l s h)) i up w.bottom

    pub walks-few : i < 1024
    walks-few = walk-few nx pv s r (find l s) (find-lt l s h) i down w.top

    pub walks_next : ¬ (get_or nx down 0 ≡ l) → ¬ (get_or pv up 0 ≡ l) → Walks s l (i + 1) (get_or nx down 0) (get_or pv up 0)
    walks_next a b =
        let q = ring-reverse nx pv s r in
        let k = has-reverse l s h in
        record {
          top = walk-next nx pv s r (find l s) (find-lt l s h) i down w.top (walk-on nx pv s r l h i down w.top a);
          bottom = walk-next pv nx (reverse s) q (find l (reverse s)) (find-lt l (reverse s) k) i up w.bottom (walk-on pv nx (reverse s) q l k i up w.bottom b);
        }

    pub top-found : get_or nx down 0 ≡ l → i ≡ find l s
    top-found e = walk-found nx pv s r l h i down w.top e

    pub bottom-found : get_or pv up 0 ≡ l → suc (find l s + i) ≡ length s
    bottom-found e = omega (arith, walk-found pv nx (reverse s) (ring-reverse nx pv s r) l (has-reverse l s h) i up w.bottom e, find-reverse l s h r.once.1)
