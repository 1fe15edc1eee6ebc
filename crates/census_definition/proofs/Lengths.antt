-- How long a row is at most: its parts one by one, and the row.
use mathlib.Core.Path.{◌≡◌, refl, sym, ap, ◌∙◌}
use mathlib.Core.Logic.{◌⊎◌, inl, inr}
use mathlib.Core.Bool.{Bool, true, false, cond}
use mathlib.Core.List.{List, [], ◌∷◌, ◌++◌, map}
use mathlib.Core.Option.{some}
use Prim.Native.Nat.{ℕ, zero, suc, ◌+◌, ◌-◌, ◌*◌, ◌/◌, ◌^◌, ◌≤◌, ◌<◌}
use native.Mathlib.Nat.{pow-le-pow_left, pow-le-pow_right}
use native.Mathlib.Omega.{arith, pow_step}
use lib.Dec.{ltb}
use lib.IntN.{ℤ, pos, negsuc, sub_ℕ}
use lib.ListN.{length, length-append}
use Rattle.lists.specs.Lists.{at}
use Rattle.lists.specs.Ranges.{OneTo}
use Rattle.lists.proofs.Tests.{lt?}
use Rattle.diagrams.specs.Diagram.{Maps}
use Rattle.words_decimals.specs.Decimals.{decimal}
use Rattle.words_decimals.proofs.Decimal.{decimal-within}
use Rattle.words.specs.Letters.{event_letters, events_letters, letters}
use Rattle.words.specs.Shape.{Fits, Word}
use Rattle.words.specs.Word.{Pair, spell}
use Rattle.words.proofs.Spelled.{spelled-diagram}
use Rattle.invariants_cycles.specs.Cycles.{e2, e3, c, t, level, cusp_map}
use Rattle.invariants_cycles.proofs.Cycles.{cycles-most, fixes-most, around-perm}
use Rattle.invariants_cycles.proofs.LevelBound.{level_bound}
use Rattle.listing.specs.Listing.{count}
use Rattle.listing.specs.Position.{word_at}
use Rattle.listing.specs.Diagrams.{diagram_of, diagram_at}
use Rattle.listing.proofs.Positions.{at-word}
use Rattle.listing_table.proofs.Counts.{count_small}
use Rattle.listing.proofs.Spelled.{spelled-of, black-length, white-length}
use Rattle.census_definition.specs.Census.{signed, joined, commas, is_kept_word, numbers, fields, row, row_bytes}

-- ---- numbers

two : (m : ℕ) → m < 100 → length (decimal m) ≤ 2
two m h = decimal-within 1 m (omega arith) (omega arith)

three : (m : ℕ) → m < 1000 → length (decimal m) ≤ 3
three m h = decimal-within 2 m (omega arith) (omega arith)

signed-length : (a b : ℕ) → a < 1000 → b < 1000 → length (signed (sub_ℕ a b)) ≤ 4
signed-length a b h l = go (ltb a b)
  where
    go : (x : Bool) → length (signed (cond x (negsuc (b - suc a)) (pos (a - b)))) ≤ 4
    go true = let i = three (suc (b - suc a)) (omega arith) in omega arith
    go false = let i = three (a - b) (omega arith) in omega arith

-- a number of at most 2^n
power-length : (n : ℕ) → n ≤ 50 → (m : ℕ) → m ≤ 2 ^ n → length (decimal m) ≤ n + 2
power-length n s m h = go (lt? n 16)
  where
    go : (n < 16) ⊎ (16 ≤ n) → length (decimal m) ≤ n + 2
    go (inl l) =
        let a = pow-le-pow_left {n = 2} {m = 10} (omega arith) n in
        let e = pow_step 10 n in
        let b = pow-le-pow_right {n = 10} (omega arith) {i = 0} {j = n} (omega arith) in
        let i = decimal-within n m (omega arith) (omega arith) in
        omega arith
    go (inr l) =
        let a = pow-le-pow_right {n = 2} (omega arith) s in
        let i = decimal-within 15 m (omega arith) (omega arith) in
        omega arith

-- ---- a word in letters

event-length : (d : ℕ) → d < 100 → length (event_letters (suc (suc (suc d)))) ≤ 3
event-length d h = let i = two d h in omega arith

fits-letters : (w : List ℕ) (h f : ℕ) → h + f ≤ 100 → Fits h f w → length (events_letters w) ≤ 2 * (h + f)
unfolding events_letters
fits-letters [] h f s a = omega arith
fits-letters (x ∷ w) zero f s a = absurd a
fits-letters (zero ∷ w) (suc h) f s a = let i = fits-letters w h f (omega arith) a in omega arith
fits-letters (suc zero ∷ w) (suc h) zero s a = absurd a
fits-letters (suc zero ∷ w) (suc h) (suc zero) s a = absurd a
fits-letters (suc zero ∷ w) (suc h) (suc (suc zero)) s a = absurd a
fits-letters (suc zero ∷ w) (suc h) (suc (suc (suc f))) s a = let i = fits-letters w (suc (suc h)) f (omega arith) a in omega arith
fits-letters (suc (suc zero) ∷ w) (suc h) zero s a = absurd a
fits-letters (suc (suc zero) ∷ w) (suc h) (suc f) s a = let i = fits-letters w h f (omega arith) a in omega arith
fits-letters (suc (suc (suc d)) ∷ w) (suc zero) f s a = let i = a.0 in absurd (omega arith)
fits-letters (suc (suc (suc d)) ∷ w) (suc (suc h)) f s a =
    let i = fits-letters w h f (omega arith) a.1 in
    let l = a.0 in
    let e = event-length d (omega arith) in
    let q = length-append (event_letters (suc (suc (suc d)))) (events_letters w) in
    omega arith

pub letters_length : (n : ℕ) (w : List ℕ) → n ≤ 50 → Word n w → length (letters w) ≤ 2 * n + 1
unfolding letters
letters_length n [] s a = absurd a
letters_length zero (zero ∷ w) s a = absurd a
letters_length (suc f) (zero ∷ w) s a = let i = fits-letters w 1 f (omega arith) a in omega arith
letters_length zero (suc zero ∷ w) s a = absurd a
letters_length (suc zero) (suc zero ∷ w) s a = absurd a
letters_length (suc (suc zero)) (suc zero ∷ w) s a = absurd a
letters_length (suc (suc (suc f))) (suc zero ∷ w) s a = let i = fits-letters w 3 f (omega arith) a in omega arith
letters_length n (suc (suc x) ∷ w) s a = absurd a

-- ---- a list

pub commas-length : (l : List ℕ) → ((i : ℕ) → OneTo (length l) i → at l i < 100) → length (commas l) ≤ 3 * length l
commas-length [] h = omega arith
commas-length (x ∷ []) h = let i = two x (h 1 (omega arith)) in omega arith
commas-length (x ∷ (y ∷ l)) h =
    let i = two x (h 1 (omega arith)) in
    let j = commas-length (y ∷ l) rest in
    let q = length-append (decimal x) (44 ∷ commas (y ∷ l)) in
    omega arith
  where
    rest : (i : ℕ) → OneTo (length (y ∷ l)) i → at (y ∷ l) i < 100
    rest zero e = absurd (omega arith)
    rest (suc i) e = h (suc (suc i)) (omega arith)

-- ---- a row

joined-10 : (b d e f g h i j k l : List ℕ) → length (joined 32 (b ∷ d ∷ e ∷ f ∷ g ∷ h ∷ i ∷ j ∷ k ∷ l ∷ []) ++ (10 ∷ []))
    ≡ length b + length d + length e + length f + length g + length h + length i + length j + length k + length l + 10
joined-10 b d e f g h i j k l = simp length-append (omega arith)

mark-length : (b : Bool) → length {A = ℕ} (cond b (75 ∷ []) (45 ∷ [])) ≡ 1
mark-length true = refl
mark-length false = refl

-- a row of such parts: a word, two lists, e2, e3 and c, t, the level and the mark
parts-fit : (n p : ℕ) (word s0 s1 : List ℕ) (a b d : ℕ) (z : List ℕ) (l : ℕ) (mark : List ℕ)
    → p < 2 ^ 50 → length word ≤ 2 * n + 1 → length s0 ≤ 3 * n → length s1 ≤ 3 * n → a ≤ 50 → b ≤ 50 → d ≤ 50 → length z ≤ 4 → length (decimal l) ≤ n + 2 → length mark ≡ 1
    → length (joined 32 (decimal p ∷ word ∷ s0 ∷ s1 ∷ decimal a ∷ decimal b ∷ decimal d ∷ z ∷ decimal l ∷ mark ∷ []) ++ (10 ∷ [])) ≤ 9 * n + 40
parts-fit n p word s0 s1 a b d z l mark h i2 i3 i4 i5 i6 i7 i8 i9 e =
    let q = joined-10 (decimal p) word s0 s1 (decimal a) (decimal b) (decimal d) z (decimal l) mark in
    let j0 = decimal-within 15 p (omega arith) (omega arith) in
    let j1 = two a (omega arith) in
    let j2 = two b (omega arith) in
    let j3 = two d (omega arith) in
    omega arith

-- the parts of a row, of a diagram whose entries are edges
module _ (n : ℕ) (s : n ≤ 50) (D : Pair) (e : length D.black ≡ n) (e' : length D.white ≡ n) (M : Maps (length D.black) (at D.black) (at D.white)) where
  blacks-length : length (commas D.black) ≤ 3 * n
  blacks-length = let i = commas-length D.black (λ i h. let j = M.black_in i h in omega arith) in omega arith

  whites-length : length (commas D.white) ≤ 3 * n
  whites-length = let i = commas-length D.white (λ i h. let j = M.white_in i (omega arith) in omega arith) in omega arith

  e2_most : e2 (length D.black) (at D.black) (at D.white) ≤ 50
  e2_most = let i = fixes-most (length D.black) (at D.white) in omega arith

  e3_most : e3 (length D.black) (at D.black) (at D.white) ≤ 50
  e3_most = let i = fixes-most (length D.black) (at D.black) in omega arith

  c_most : c (length D.black) (at D.black) (at D.white) ≤ 50
  c_most = let i = cycles-most (length D.black) (cusp_map (at D.black) (at D.white)) in omega arith

  level-length : length (decimal (level (length D.black) (at D.black) (at D.white))) ≤ n + 2
  level-length =
      let h = level_bound (around-perm M) in
      let q : 2 ^ length D.black ≡ 2 ^ n = ap (λ m. 2 ^ m) e in
      power-length n s _ (omega arith)

  t-length : length (signed (t (length D.black) (at D.black) (at D.white))) ≤ 4
  unfolding t
  t-length =
      let i = e2_most in
      let j = e3_most in
      let k = c_most in
      let m = length D.black in
      let f = at D.black in
      let g = at D.white in
      signed-length (12 + m) (3 * e2 m f g + 4 * e3 m f g + 6 * c m f g) (omega arith) (omega arith)

pub row_fits : (n p : ℕ) → OneTo 50 n → OneTo (count n) p → length (row n p) ≤ row_bytes n
unfolding row row_bytes diagram_at
row_fits n p s h =
    parts-fit n p (letters w) (commas D.black) (commas D.white) _ _ _ (signed (t (length D.black) (at D.black) (at D.white))) _ (cond (is_kept_word D) (75 ∷ []) (45 ∷ []))
    (let k = count_small n s in omega arith) (letters_length n w s.1 a)
    (blacks-length n s.1 D e e' M) (whites-length n s.1 D e e' M) (e2_most n s.1 D e e' M) (e3_most n s.1 D e e' M) (c_most n s.1 D e e' M)
    (t-length n s.1 D e e' M) (level-length n s.1 D e e' M) (mark-length (is_kept_word D))
  where
    w : List ℕ
    w = word_at n p

    D : Pair
    D = diagram_of w

    a : Word n w
    a = at-word n p h

    spelt : spell w ≡ some D
    spelt = spelled-of n w a

    e : length D.black ≡ n
    e = black-length n w a

    e' : length D.white ≡ n
    e' = white-length n w a

    M : Maps (length D.black) (at D.black) (at D.white)
    M = (spelled-diagram w D spelt).maps
