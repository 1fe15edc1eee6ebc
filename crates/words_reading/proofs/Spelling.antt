-- Read word and the diagram that a word spells: what is built is what the word spells and has at most 1,024 edges (`read-spell`,
-- `read_size`); a word of at most 1,025 items that spells such a diagram is read (`spell-read`).
use mathlib.Core.Path.{◌≡◌, refl, ap}
use mathlib.Core.Bool.{Bool, true, false, cond}
use mathlib.Core.Option.{some}
use mathlib.Core.List.{List, [], ◌∷◌}
use Prim.Native.Nat.{ℕ, zero, suc, ◌≤◌}
use native.Mathlib.Omega.{arith}
use lib.Dec.{leb, ltb}
use lib.ListN.{length, get_or}
use Rattle.lists.specs.Lists.{put, remove_at}
use Rattle.lists.proofs.Tests.{leb-true, le-true}
use Rattle.lists.proofs.Lists.{length-1, length-3}
use Rattle.words.specs.Word.{Pair, spells, spell}
use Rattle.words.proofs.Growing.{none≢some, cond-some}
use Rattle.words.proofs.Shape.{grows}
use Rattle.words_reading.specs.Read.{Read, refused, built, items, read_first, read}

pub not-built : (n : ℕ) (D : Pair) → ¬ (refused n ≡ built D)
not-built n D e = let z : ◌≡◌ {A = ℕ} 0 1 = cc in omega arith

-- a test that is passed, where what follows is built
pub built-passed : (b : Bool) (q : Read) (n : ℕ) (D : Pair) → cond b q (refused n) ≡ built D → (b ≡ true) × (q ≡ built D)
built-passed true q n D e = (refl, e)
built-passed false q n D e = absurd (not-built n D e)

-- ---- from reading to spelling

items-spells : (w st s0 s1 : List ℕ) (D : Pair) → items w st s0 s1 ≡ built D → spells w st s0 s1 ≡ some D
unfolding items spells
items-spells [] [] s0 s1 D e = let z : ◌≡◌ {A = Pair} record { black = s0; white = s1 } D = cc in ap some z
items-spells [] (k ∷ r) s0 s1 D e = absurd (not-built 25 D e)
items-spells (x ∷ w) [] s0 s1 D e = absurd (not-built 26 D e)
items-spells (zero ∷ w) (k ∷ r) s0 s1 D e = items-spells w r s0 s1 D e
items-spells (suc zero ∷ w) (k ∷ r) s0 s1 D e = items-spells w _ _ _ D (built-passed (leb (suc (suc (suc (length s0)))) 1024) _ 24 D e).1
items-spells (suc (suc zero) ∷ w) (k ∷ r) s0 s1 D e = items-spells w _ _ _ D (built-passed (leb (suc (length s0)) 1024) _ 24 D e).1
items-spells (suc (suc (suc d)) ∷ w) (k ∷ r) s0 s1 D e = let q = built-passed (ltb d (length r)) _ 23 D e in rw q.0 (items-spells w _ _ _ D q.1)

opening-spell : (w : List ℕ) (D : Pair) → read_first w ≡ built D → spell w ≡ some D
unfolding spell
opening-spell [] D e = absurd (not-built 21 D e)
opening-spell (zero ∷ w) D e = items-spells w _ _ _ D e
opening-spell (suc zero ∷ w) D e = items-spells w _ _ _ D e
opening-spell (suc (suc x) ∷ w) D e = absurd (not-built 22 D e)

pub read-spell : (w : List ℕ) (D : Pair) → read w ≡ built D → spell w ≡ some D
unfolding read
read-spell w D e = opening-spell w D (built-passed (leb (length w) 1025) (read_first w) 21 D e).1

-- ---- the size of what is read

items-size : (w st s0 s1 : List ℕ) (D : Pair) → length s0 ≤ 1024 → items w st s0 s1 ≡ built D → length D.black ≤ 1024
unfolding items
items-size [] [] s0 s1 D l e = let z : ◌≡◌ {A = Pair} record { black = s0; white = s1 } D = cc in rw (ap (λ (p : Pair). length p.black) z) at l
items-size [] (k ∷ r) s0 s1 D l e = absurd (not-built 25 D e)
items-size (x ∷ w) [] s0 s1 D l e = absurd (not-built 26 D e)
items-size (zero ∷ w) (k ∷ r) s0 s1 D l e = items-size w r s0 s1 D l e
items-size (suc zero ∷ w) (k ∷ r) s0 s1 D l e =
    let q = built-passed (leb (suc (suc (suc (length s0)))) 1024) _ 24 D e in
    items-size w _ _ _ D (rw length-3 (leb-true (suc (suc (suc (length s0)))) 1024 q.0)) q.1
items-size (suc (suc zero) ∷ w) (k ∷ r) s0 s1 D l e =
    let q = built-passed (leb (suc (length s0)) 1024) _ 24 D e in
    items-size w _ _ _ D (rw length-1 (leb-true (suc (length s0)) 1024 q.0)) q.1
items-size (suc (suc (suc d)) ∷ w) (k ∷ r) s0 s1 D l e = items-size w _ _ _ D l (built-passed (ltb d (length r)) _ 23 D e).1

opening-size : (w : List ℕ) (D : Pair) → read_first w ≡ built D → length D.black ≤ 1024
opening-size [] D e = absurd (not-built 21 D e)
opening-size (zero ∷ w) D e = items-size w _ (1 ∷ []) _ D (omega arith) e
opening-size (suc zero ∷ w) D e = items-size w _ (2 ∷ 3 ∷ 1 ∷ []) _ D (omega arith) e
opening-size (suc (suc x) ∷ w) D e = absurd (not-built 22 D e)

pub read_size : (w : List ℕ) (D : Pair) → read w ≡ built D → length D.black ≤ 1024
unfolding read
read_size w D e = opening-size w D (built-passed (leb (length w) 1025) (read_first w) 21 D e).1

-- ---- from spelling to reading

spells-items : (w st s0 s1 : List ℕ) (D : Pair) → length D.black ≤ 1024 → spells w st s0 s1 ≡ some D → items w st s0 s1 ≡ built D
unfolding items spells
spells-items [] [] s0 s1 D l e = let z : ◌≡◌ {A = Pair} record { black = s0; white = s1 } D = cc in ap built z
spells-items [] (k ∷ r) s0 s1 D l e = absurd (none≢some D e)
spells-items (x ∷ w) [] s0 s1 D l e = absurd (none≢some D e)
spells-items (zero ∷ w) (k ∷ r) s0 s1 D l e = spells-items w r s0 s1 D l e
spells-items (suc zero ∷ w) (k ∷ r) s0 s1 D l e =
    let g = rw length-3 at (grows w _ _ _ D e) in
    rw (le-true (suc (suc (suc (length s0)))) 1024 (omega arith)) (spells-items w _ _ _ D l e)
spells-items (suc (suc zero) ∷ w) (k ∷ r) s0 s1 D l e =
    let g = rw length-1 at (grows w _ _ _ D e) in
    rw (le-true (suc (length s0)) 1024 (omega arith)) (spells-items w _ _ _ D l e)
spells-items (suc (suc (suc d)) ∷ w) (k ∷ r) s0 s1 D l e =
    let q = cond-some (ltb d (length r)) (spells w (remove_at d r) s0 (put (put s1 k (get_or r d 0)) (get_or r d 0) k)) D e in
    rw q.0 (spells-items w _ _ _ D l q.1)

spell-opening : (w : List ℕ) (D : Pair) → length D.black ≤ 1024 → spell w ≡ some D → read_first w ≡ built D
unfolding spell
spell-opening [] D l e = absurd (none≢some D e)
spell-opening (zero ∷ w) D l e = spells-items w _ _ _ D l e
spell-opening (suc zero ∷ w) D l e = spells-items w _ _ _ D l e
spell-opening (suc (suc x) ∷ w) D l e = absurd (none≢some D e)

pub spell-read : (w : List ℕ) (D : Pair) → length D.black ≤ 1024 → length w ≤ 1025 → spell w ≡ some D → read w ≡ built D
unfolding read
spell-read w D l i e = rw (le-true (length w) 1025 i) (spell-opening w D l e)
