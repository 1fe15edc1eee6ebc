-- The first places of an array after stores: those just past them join them, and those among them are stores to the list they hold.
use mathlib.Core.Path.{◌≡◌, refl}
use mathlib.Core.List.{List, [], ◌∷◌, ◌++◌, append_assoc}
use Prim.Native.Nat.{ℕ, zero, suc, ◌≤◌}
use native.Mathlib.Omega.{arith}
use lib.ListN.{length, set, take, length-set}
use lib.Seq.{take-suc-set, take-set-lt}
use Rattle.lists.specs.Lists.{put}

pub take-3 : (x : List ℕ) (u a b c : ℕ) → suc (suc (suc u)) ≤ length x
    → take (suc (suc (suc u))) (set (set (set x u a) (suc u) b) (suc (suc u)) c) ≡ take u x ++ (a ∷ b ∷ c ∷ [])
take-3 x u a b c h =
    rw (
      take-suc-set (set (set x u a) (suc u) b) (suc (suc u)) c (simp length-set h),
      take-suc-set (set x u a) (suc u) b (simp length-set (omega arith)),
      take-suc-set x u a (omega arith),
    )
    (simp append_assoc)

pub take_put : (x : List ℕ) (u k v : ℕ) → k ≤ u → take u (put x k v) ≡ put (take u x) k v
take_put x u zero v h = refl
take_put x u (suc k) v h = take-set-lt u x k v h
