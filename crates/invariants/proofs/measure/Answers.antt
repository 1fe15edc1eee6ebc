-- Measure: each call gives the number that a definition names, the level where it is not 0; those bound what t is given.
use native.Mathlib.Omega.{arith}
use mathlib.Core.Path.{◌≡◌, ap, ◌∙◌}
use Prim.Native.Nat.{ℕ}
use lib.ListN.{length}
use mir.Syntax.{w32}
use mir.ValLaws.{to_z-of_z}
use Rattle.lists.specs.Lists.{at}
use Rattle.invariants_multiples.proofs.Holding.{held-some}
use Rattle.invariants_cycles.specs.Cycles.{fixed_points, cusp_map}
use Rattle.invariants_cycles.proofs.Cycles.{fixes-most, cycles-most}
use Rattle.invariants.proofs.Differences.{t_of}
use Rattle.invariants.proofs.measure.Goals as goal

pub t-t-requires : goal.t-t-requires
t-t-requires c =
    let n = length c.args.s0.now in
    let a = fixes-most n (at c.args.s1.now) in
    let b = fixes-most n (at c.args.s0.now) in
    let d = cycles-most n (cusp_map (at c.args.s0.now) (at c.args.s1.now)) in
    let e : ◌≡◌ {A = ℕ} c.fixed-e2.result (fixed_points n (at c.args.s1.now)) = c.fixed-e2.ensures ∙ ap (λ m. fixed_points m (at c.args.s1.now)) c.requires.lengths in
    omega (arith, c.fixed-e3.ensures, c.count_cycles-cycles.ensures.count_value, c.to_index.ensures, c.to_index-2.ensures, c.to_index-3.ensures, c.requires.size)

pub returns : goal.returns
returns c =
    let n = length c.args.s0.now in
    let e2_is : ◌≡◌ {A = ℕ} c.fixed-e2.result (fixed_points n (at c.args.s1.now)) = c.fixed-e2.ensures ∙ ap (λ m. fixed_points m (at c.args.s1.now)) c.requires.lengths in
    let held = held-some c.count_cycles-cycles.ensures.held c.if-outgrown.false in (
      λ far. let few = held.1 in omega arith,
      record {
        e2_is = e2_is;
        e3_is = c.fixed-e3.ensures;
        c_is = c.count_cycles-cycles.ensures.count_value;
        t_is =
            to_z-of_z w32 c.t-t.result record { sfits = c.t-t.type_inv }
            ∙ c.t-t.ensures
            ∙ t_of n (at c.args.s0.now) (at c.args.s1.now) _ _ _
            (c.to_index.ensures ∙ e2_is)
            (c.to_index-2.ensures ∙ c.fixed-e3.ensures)
            (c.to_index-3.ensures ∙ c.count_cycles-cycles.ensures.count_value);
        level_is = held.2;
      },
    )
