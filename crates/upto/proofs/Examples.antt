-- The numbers of request U1 at bounds 1 to 5, computed from the definitions: diagrams and visits.
use mathlib.Core.Path.{◌≡◌, refl}
use mathlib.Core.List.{[], ◌∷◌}
use Rattle.listing.specs.Listing.{listing, completions}
use Rattle.upto.specs.Upto.{upto, total}
use Rattle.upto.specs.Visits.{visits}

upto_3 : upto 3 ≡ (0 ∷ 0 ∷ []) ∷ (0 ∷ 2 ∷ []) ∷ (1 ∷ 0 ∷ 0 ∷ 0 ∷ []) ∷ (1 ∷ 0 ∷ 3 ∷ []) ∷ (1 ∷ 3 ∷ 0 ∷ []) ∷ (1 ∷ 4 ∷ 0 ∷ []) ∷ []
unfolding upto listing completions
upto_3 = refl

totals : (total 1 ∷ total 2 ∷ total 3 ∷ total 4 ∷ total 5 ∷ []) ≡ 1 ∷ 2 ∷ 6 ∷ 14 ∷ 19 ∷ []
unfolding total upto listing completions
totals = refl

visits-last : (visits 1 1 ∷ visits 2 2 ∷ visits 3 6 ∷ visits 4 14 ∷ visits 5 19 ∷ []) ≡ 1 ∷ 1 ∷ 6 ∷ 11 ∷ 13 ∷ []
unfolding visits upto listing completions
visits-last = refl
