-- The table holds the numbers of ways, which have at most 49 bits: two computed tests, and the rule of `ways`.
use mathlib.Core.Path.{◌≡◌, refl, sym, ◌∙◌}
use Prim.Native.Nat.{ℕ, zero, suc, ◌+◌, ◌*◌, ◌^◌, ◌≤◌, ◌<◌}
use native.Mathlib.Omega.{arith}
use Rattle.listing.specs.Listing.{ways}
use Rattle.listing.proofs.Completions.{ways-0-0, ways-0, ways-suc}
use Rattle.listing_table_rows.specs.Rows.{rows, entry}
use Rattle.listing_table.specs.Ways.{WaysPromise}
use Rattle.listing_table.proofs.Rule.{ruled, RowsFit, past-table, ByRule, in_table, in-table-small}

whole : ByRule rows 0 49
whole = refl

lengths : RowsFit rows
lengths = refl

-- an emptied stack: the word ends here, or not at all
first : (f : ℕ) → entry 0 f ≡ ways 0 f
first zero = sym ways-0-0
first (suc f) = sym (ways-0 f)

first_small : (f : ℕ) → entry 0 f < 2 ^ 49
first_small zero = omega arith
first_small (suc f) = omega arith

rule : (h f : ℕ) → ways (suc h) f ≡ ruled 0 ways h f
rule h f = let e = ways-suc h f in omega arith

pub entry-ways : (h f : ℕ) → 3 * h + f ≤ 56 → entry h f ≡ ways h f
entry-ways h f l = in_table rows 0 49 whole ways first rule h f l

-- every number of ways that sizes up to 50 need has at most 49 bits
pub ways-small : (h f : ℕ) → 3 * h + f ≤ 56 → ways h f < 2 ^ 49
ways-small h f l = in-table-small rows 0 49 whole ways first rule first_small h f l

pub outside : (h f : ℕ) → 56 < 3 * h + f → entry h f ≡ 0
outside h f l = past-table rows lengths (omega arith) h f l

pub found : (h f r : ℕ) → r ≡ entry h f → WaysPromise h f r
found h f r e = record { inside = λ l. e ∙ entry-ways h f l; outside = λ l. e ∙ outside h f l }
