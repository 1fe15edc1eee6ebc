-- A diagram of fewer than 64 edges has a level of at most 2^63.
use Prim.Native.Nat.{ℕ, ◌<◌}
use native.Mathlib.Nat.{pow-le-pow_right}
use native.Mathlib.Omega.{arith}
use mathlib.Core.List.{List}
use lib.ListN.{length}
use Rattle.diagrams.specs.Check.{Accepts}
use Rattle.diagrams.proofs.Checks.{accepts-diagram}
use Rattle.invariants_cycles.proofs.Cycles.{around-perm}
use Rattle.invariants_cycles.proofs.LevelBound.{level_bound}
use Rattle.invariants.specs.Promises.{Outgrown}

pub small-level : {s0 s1 : List ℕ} {root : ℕ} → Accepts s0 s1 root → length s0 < 64 → ¬ Outgrown s0 s1
small-level {s0} {s1} {root} A s far =
    let a = level_bound (around-perm (accepts-diagram s0 s1 root A).maps) in
    let b = pow-le-pow_right {n = 2} (omega arith) {i = length s0} {j = 63} (omega arith) in
    omega arith
