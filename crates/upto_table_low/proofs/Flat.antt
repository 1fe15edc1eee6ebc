-- The low rows lie one after another, 57 places each: the number for h and f stands at place 57h + f.
use mathlib.Core.Path.{◌≡◌, ap, ◌∙◌}
use mathlib.Core.List.{List, []}
use Prim.Native.Nat.{ℕ, ◌+◌, ◌*◌, ◌<◌}
use native.Mathlib.Omega.{arith}
use lib.ListN.{get_or, take}
use lib.Seq.{get_or-take}
use Rattle.listing_table_low.proofs.Flat.{Fit, flat-at}
use Rattle.upto_table_rows.specs.Rows.{rows, entry, low_rows}

low-fit : Fit (take 6 rows)
low-fit = (omega arith, (omega arith, (omega arith, (omega arith, (omega arith, (omega arith, tt))))))

pub low-at : (h f : ℕ) → h < 6 → f < 57 → get_or low_rows (57 * h + f) 0 ≡ entry h f
low-at h f l k = flat-at (take 6 rows) low-fit h f k ∙ ap (λ (row : List ℕ). get_or row f 0) (get_or-take 6 rows h [] l)
