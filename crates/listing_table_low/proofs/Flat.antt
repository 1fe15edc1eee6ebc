-- Rows that lie one after another, 57 places each: the number for h and f stands at place 57h + f.
use mathlib.Core.Path.{◌≡◌, refl, ap, ◌∙◌}
use mathlib.Core.List.{List, [], ◌∷◌, ◌++◌}
use Prim.Native.Nat.{ℕ, zero, suc, ◌+◌, ◌*◌, ◌-◌, ◌≤◌, ◌<◌}
use native.Mathlib.Omega.{arith}
use lib.ListN.{length, get_or, take, replicate, length-append, length-replicate, get_or-append}
use lib.Seq.{get_or-append-add, get_or-take}
use Rattle.lists.proofs.Lists.{at-zeros}
use Rattle.listing_table_rows.specs.Rows.{rows, entry, padded_row, flat_rows, low_rows}

-- zeros after a row alter no number of it
zeros-after : (row : List ℕ) (m f : ℕ) → get_or (row ++ replicate m 0) f 0 ≡ get_or row f 0
zeros-after [] m f = at-zeros m (suc f)
zeros-after (x ∷ row) m zero = refl
zeros-after (x ∷ row) m (suc f) = zeros-after row m f

padded-long : (row : List ℕ) → length row ≤ 57 → length (padded_row row) ≡ 57
padded-long row l =
    let a = length-append row (replicate (57 - length row) 0) in
    let b = length-replicate {A = ℕ} (57 - length row) 0 in
    omega arith

-- no row is longer than 57
abbrev pub Fit : List (List ℕ) → Type 0
Fit [] = Unit {0}
Fit (row ∷ rs) = (length row ≤ 57) × Fit rs

pub flat-at : (rs : List (List ℕ)) → Fit rs → (h f : ℕ) → f < 57 → get_or (flat_rows rs) (57 * h + f) 0 ≡ get_or (get_or rs h []) f 0
flat-at [] fit h f l = refl
flat-at (row ∷ rs) fit zero f l =
    let i = padded-long row fit.0 in
    let here : 57 * 0 + f ≡ f = omega arith in
    ap (λ (j : ℕ). get_or (padded_row row ++ flat_rows rs) j 0) here
    ∙ get_or-append (padded_row row) (flat_rows rs) 0 f (omega arith)
    ∙ zeros-after row (57 - length row) f
flat-at (row ∷ rs) fit (suc h) f l =
    let i = padded-long row fit.0 in
    let there : 57 * suc h + f ≡ length (padded_row row) + (57 * h + f) = omega arith in
    ap (λ (j : ℕ). get_or (padded_row row ++ flat_rows rs) j 0) there
    ∙ get_or-append-add (padded_row row) (flat_rows rs) (57 * h + f) 0
    ∙ flat-at rs fit.1 h f l

low-fit : Fit (take 6 rows)
low-fit = (omega arith, (omega arith, (omega arith, (omega arith, (omega arith, (omega arith, tt))))))

pub low-at : (h f : ℕ) → h < 6 → f < 57 → get_or low_rows (57 * h + f) 0 ≡ entry h f
low-at h f l k = flat-at (take 6 rows) low-fit h f k ∙ ap (λ (row : List ℕ). get_or row f 0) (get_or-take 6 rows h [] l)
