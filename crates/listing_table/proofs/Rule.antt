-- A table of numbers by the stack's height and the labels free, for 3h + f ≤ 56, of which every entry is what its neighbours give by a rule: b, and the
-- entries after W, F, B and each J. One computed test says so of all entries and bounds them; so the entries are the numbers of that rule, by
-- induction. Past the table they are 0.
use mathlib.Core.Path.{◌≡◌, sym, ap, ◌∙◌}
use mathlib.Core.Logic.{◌⊎◌, inl, inr}
use mathlib.Core.Bool.{Bool, true, false, cond}
use mathlib.Core.List.{List, []}
use Prim.Native.Nat.{ℕ, zero, suc, ◌+◌, ◌*◌, ◌-◌, ◌^◌, ◌≤◌, ◌<◌}
use native.Mathlib.Omega.{arith}
use lib.Dec.{eqb, leb, ltb}
use lib.ListN.{length, get_or, get_or-eq_default}
use Rattle.lists.specs.Ranges.{every}
use Rattle.lists.proofs.Tests.{eqb-true, ltb-true, leb-true, lt?, both_true}
use Rattle.lists.proofs.Ranges.{every_true}
use Rattle.words.specs.Shape.{pre, less1, less3}
use Rattle.listing.proofs.Completions.{less1-same, less3-same, pre-le, sum}

-- b, and the numbers e after each event, where h labels are pending besides the top
abbrev pub ruled : ℕ → (ℕ → ℕ → ℕ) → ℕ → ℕ → ℕ
ruled b e h f = b + (e h f + (less3 f 0 (λ g. e (suc (suc h)) g) + (less1 f 0 (λ g. e h g) + h * e (pre h) f)))

module _ (rows : List (List ℕ)) where
  -- the number in row h for f labels free; 0 where there is none
  abbrev number : ℕ → ℕ → ℕ
  number h f = get_or (get_or rows h []) f 0

  -- the test that no row is longer than the table is wide there
  abbrev pub RowsFit : Type 0
  RowsFit = every 19 (λ h. leb (length (get_or rows (pre h) [])) (57 - 3 * pre h)) ≡ true

  pub past-table : RowsFit → length rows ≤ 19 → (h f : ℕ) → 56 < 3 * h + f → number h f ≡ 0
  past-table fit few h f l = go (lt? h 19)
    where
      go : (h < 19) ⊎ (19 ≤ h) → number h f ≡ 0
      go (inl b) =
          let i = leb-true (length (get_or rows h [])) (57 - 3 * h) (every_true 19 (λ h. leb (length (get_or rows (pre h) [])) (57 - 3 * pre h)) fit (suc h) (omega arith)) in
          get_or-eq_default (get_or rows h []) 0 (omega arith)
      go (inr b) = ap (λ (row : List ℕ). get_or row f 0) (get_or-eq_default rows [] (omega arith))

  module _ (b bits : ℕ) where
    abbrev right : ℕ → ℕ → Bool
    right h f = cond (eqb (number (suc h) f) (ruled b number h f)) (ltb (number (suc h) f) (2 ^ bits)) false

    -- the test that every entry above row 0 is what its neighbours give, and below 2 ^ bits
    abbrev pub ByRule : Type 0
    ByRule = every 18 (λ h. every (57 - 3 * h) (λ k. right (pre h) (pre k))) ≡ true

    module _ (whole : ByRule) where
      right-at : (h f : ℕ) → 3 * suc h + f ≤ 56 → (number (suc h) f ≡ ruled b number h f) × (number (suc h) f < 2 ^ bits)
      right-at h f l =
          let t = every_true (57 - 3 * suc h) (λ k. right h (pre k)) (every_true 18 (λ h. every (57 - 3 * h) (λ k. right (pre h) (pre k))) whole (suc h) (omega arith)) (suc f) (omega arith) in
          let s = both_true (eqb (number (suc h) f) (ruled b number h f)) (ltb (number (suc h) f) (2 ^ bits)) t in
          (eqb-true (number (suc h) f) (ruled b number h f) s.0, ltb-true (number (suc h) f) (2 ^ bits) s.1)

      -- the numbers n follow the rule too, and row 0 has them
      module _ (n : ℕ → ℕ → ℕ) (first : (f : ℕ) → number 0 f ≡ n 0 f) (rule : (h f : ℕ) → n (suc h) f ≡ ruled b n h f) where
        -- m bounds the length of a word from here on
        by-rule : (m h f : ℕ) → h + f ≤ m → 3 * h + f ≤ 56 → number h f ≡ n h f
        by-rule zero zero f i l = first f
        by-rule zero (suc h) f i l = absurd (omega arith)
        by-rule (suc m) zero f i l = first f
        by-rule (suc m) (suc h) f i l =
            (right-at h f l).0
            ∙ ap (λ (x : ℕ). b + x)
            (sum h _ _ _ _ _ _ _ _ (by-rule m h f (omega arith) (omega arith)) (less3-same f 0 _ _ (λ g q. by-rule m (suc (suc h)) g (omega arith) (omega arith)))
            (less1-same f 0 _ _ (λ g q. by-rule m h g (omega arith) (omega arith))) (let j = pre-le h in by-rule m (pre h) f (omega arith) (omega arith)))
            ∙ sym (rule h f)

        pub in_table : (h f : ℕ) → 3 * h + f ≤ 56 → number h f ≡ n h f
        in_table h f l = by-rule (h + f) h f (omega arith) l

        -- and they are small, as those of row 0 are
        pub in-table-small : ((f : ℕ) → number 0 f < 2 ^ bits) → (h f : ℕ) → 3 * h + f ≤ 56 → n h f < 2 ^ bits
        in-table-small low h f l = rw (← in_table h f l) (go h l)
          where
            go : (h : ℕ) → 3 * h + f ≤ 56 → number h f < 2 ^ bits
            go zero l = low f
            go (suc h) l = (right-at h f l).1
