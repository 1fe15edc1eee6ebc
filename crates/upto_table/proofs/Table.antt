-- The table holds the numbers of branches, which have at most 50 bits: two computed tests, and the rule of the weights.
use mathlib.Core.Path.{◌≡◌, refl, sym, ◌∙◌}
use Prim.Native.Nat.{ℕ, suc, ◌+◌, ◌*◌, ◌^◌, ◌≤◌, ◌<◌}
use native.Mathlib.Omega.{arith}
use Rattle.listing_table.proofs.Rule.{ruled, RowsFit, past-table, ByRule, in_table, in-table-small}
use Rattle.upto_weights.specs.Weights.{weight, weight_f, weight_b}
use Rattle.upto_weights.proofs.Rule.{weight-0, weight-suc}
use Rattle.upto_table_rows.specs.Rows.{rows, entry}
use Rattle.upto_table.specs.Branches.{BranchesPromise}

whole : ByRule rows 1 50
whole = refl

lengths : RowsFit rows
lengths = refl

-- an emptied stack: the word ends here
first : (f : ℕ) → entry 0 f ≡ weight 0 1 0 f
first f = sym (weight-0 0 1 f)

rule : (h f : ℕ) → weight 0 1 (suc h) f ≡ ruled 1 (weight 0 1) h f
unfolding weight_f weight_b
rule h f = weight-suc 0 1 h f

pub entry-branches : (h f : ℕ) → 3 * h + f ≤ 56 → entry h f ≡ weight 0 1 h f
entry-branches h f l = in_table rows 1 50 whole (weight 0 1) first rule h f l

-- every number of branches that bounds up to 50 need has at most 50 bits
pub branches-small : (h f : ℕ) → 3 * h + f ≤ 56 → weight 0 1 h f < 2 ^ 50
branches-small h f l = in-table-small rows 1 50 whole (weight 0 1) first rule (λ f. omega arith) h f l

pub outside : (h f : ℕ) → 56 < 3 * h + f → entry h f ≡ 0
outside h f l = past-table rows lengths (omega arith) h f l

pub found : (h f r : ℕ) → r ≡ entry h f → BranchesPromise h f r
found h f r e = record { inside = λ l. e ∙ entry-branches h f l; outside = λ l. e ∙ outside h f l }
