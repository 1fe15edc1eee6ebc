-- `write_list` meets its contract.
use borrow.Author.Rules.{rules}
use mathlib.Core.Path.{◌∙◌}
use mathlib.Core.List.{List}
use Prim.Native.Nat.{ℕ, ◌+◌, ◌<◌}
use native.Mathlib.Omega.{arith}
use lib.ListN.{length, get_or}
use Rattle.lists.specs.Lists.{at}
use Rattle.lists.specs.Ranges.{OneTo}
use Rattle.labelling.specs.Labelling.{relabel, edge_of}
use Rattle.labelling_code.specs.Scratch.{LabelsHeld}
use Rattle.labelling_arrays.proofs.Arrays.{seen, listed_more}
use Rattle.labelling_code.proofs.writing.write_list.Goals as goal

-- the edge of the next label
edge_in : (n : ℕ) (la od : List ℕ) (j : ℕ) → j < n → (o : List ℕ) × LabelsHeld la od n o × ((i : ℕ) → OneTo n i → OneTo n (edge_of o i)) → OneTo n (get_or od (j + 1) 0)
edge_in n la od j l (o, h, e) =
    let g = h.given_is in
    rw (h.edge_listed (j + 1) (omega arith)) (e (j + 1) (omega arith))

pub follow-x-requires : goal.follow-x-requires
follow-x-requires c = edge_in (length c.args.s.now) c.args.labels.now c.args.order.now c.loop-j.j (omega arith) c.requires.by_index

pub bounds-labels-to_index : goal.bounds-labels-to_index
bounds-labels-to_index c =
    let e = c.requires.s_in_bounds.3 _ (edge_in (length c.args.s.now) c.args.labels.now c.args.order.now c.loop-j.j (omega arith) c.requires.by_index) in
    let n = c.requires.s_in_bounds.0 in
    let i = c.to_index.ensures ∙ c.follow-x.ensures in
    omega arith

pub loop-j-preserved : goal.loop-j-preserved
loop-j-preserved c =
    λ o h.
    rw (c.loop-j.invariant o h, c.to_index.ensures ∙ c.follow-x.ensures, seen c.args.s.now c.args.labels.now c.args.order.now o c.loop-j.j h (search rules))
    (listed_more (relabel o (at c.args.s.now)) c.args.t.now c.loop-j.j (let n = c.requires.s_in_bounds.2 in omega arith))
