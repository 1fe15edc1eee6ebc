-- 01's counts of sizes 5 to 9, computed. (Its table of sizes 1 to 4 is stated in crate theorems, Table.)
use mathlib.Core.Path.{◌≡◌, refl}
use Rattle.listing.specs.Listing.{completions, listing, count}

counts-5-9 : (count 5 ≡ 5) × (count 6 ≡ 22) × (count 7 ≡ 42) × (count 8 ≡ 40) × (count 9 ≡ 120)
unfolding count listing completions
counts-5-9 = (refl, refl, refl, refl, refl)
