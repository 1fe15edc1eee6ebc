-- Laws of answering a cell: from what read word answers of its word to its pair, and the form of the cell.
use mathlib.Core.Path.{◌≡◌, refl, sym, ap, ◌∙◌}
use mathlib.Core.Bool.{Bool, true, false, cond}
use mathlib.Core.List.{List, [], ◌∷◌}
use mathlib.Core.Option.{some}
use Prim.Native.Nat.{ℕ, ◌+◌, ◌-◌, ◌≤◌, ◌<◌}
use native.Mathlib.Omega.{arith}
use lib.Dec.{eqb}
use lib.ListN.{length, take, drop, length-drop}
use lib.Seq.{drop-drop, take_all}
use Rattle.std.specs.Prelude.{◌==◌, ◌&&◌, Result, Ok, Err}
use Rattle.std.specs.List.{list_all}
use Rattle.lists.specs.Lists.{at}
use Rattle.lists.proofs.Tests.{le-true, le-false}
use Rattle.refusals.specs.declared.Refusal.{Refusal}
use Rattle.refusals.specs.Numbers.{number}
use Rattle.words.specs.Word.{Pair, Spells, spell}
use Rattle.words_reading.specs.Read.{Read, refused, built, read}
use Rattle.words_reading.proofs.Spelling.{read-spell}
use Rattle.words_reading_size.specs.Counting.{SizePromise}
use Rattle.labelling.proofs.OfLists.{spelled-word_of}
use Rattle.listing.specs.Position.{position}
use Rattle.sheet.specs.Cells.{tail_of, blank, refused_with, found_at, located, cell}
use Rattle.sheet.proofs.Cells.{cell-long, cell-marked, cell-read}

-- ---- from the answer of reading to the pair

not-sized : (e : Refusal) (n : ℕ) → ¬ (◌≡◌ {A = Result ℕ Refusal} (Err e) (Ok n))
not-sized e n p = let z : ◌≡◌ {A = ℕ} 0 1 = cc in omega arith

refused-with : (q : Read) (e : Refusal) → SizePromise q (Err e) → refused_with (number e) ≡ located q
refused-with (refused j) e p = ap refused_with p
refused-with (built D) e p = absurd (not-sized e _ p)

-- the diagram that was read
record Sized (q : Read) (n : ℕ) : Type 0 where
  diagram : Pair
  is_built : q ≡ built diagram
  size : n ≡ length diagram.black

sized : (q : Read) (n : ℕ) → SizePromise q (Ok n) → Sized q n
sized (refused k) n e = absurd e
sized (built D) n e = let z : n ≡ length D.black = cc in record { diagram = D; is_built = refl; size = z }

module _ (w : List ℕ) where
  pub located-refused : (e : Refusal) → SizePromise (read w) (Err e) → refused_with (number e) ≡ located (read w)
  located-refused = refused-with (read w)

  module _ (n : ℕ) (e : SizePromise (read w) (Ok n)) where
    abbrev S : Sized (read w) n
    S = sized (read w) n e

    pub located-31 : 50 < n → refused_with 31 ≡ located (read w)
    located-31 h = let z = S.size in rw (S.is_built, le-false (length S.diagram.black) 50 (omega arith)) refl

    spelt : spell w ≡ some S.diagram
    spelt = read-spell w S.diagram S.is_built

    module _ (m : ℕ) (f : m ≡ n) where
      pub sized-spells : Spells m w
      sized-spells = record { pair = S.diagram; spelt = spelt; sized = sym (f ∙ S.size) }

      -- the word of the diagram that was read is the word that was read
      pub located-at : n ≤ 50 → (p : ℕ) → p ≡ position m w → found_at p ≡ located (read w)
      located-at h p g =
          let z = S.size in
          rw (S.is_built, le-true (length S.diagram.black) 50 (omega arith), spelled-word_of w S.diagram spelt, ← (f ∙ S.size)) (ap found_at g)

-- ---- nothing but zeros

and-cond : (a b : Bool) → (a && b) ≡ cond a b false
and-cond true b = refl
and-cond false b = refl

zeros-blank : (l : List ℕ) → list_all (λ x. x == 0) l ≡ blank l
zeros-blank [] = refl
zeros-blank (x ∷ l) = rw (zeros-blank l) (and-cond (eqb x 0) (blank l))

-- ---- the form of a cell, as the code cuts it

module _ (c : List ℕ) (m : ℕ) (e : m ≡ at c 1) where
  pub answered-long : 51 < m → refused_with 61 ≡ cell c
  answered-long h = sym (cell-long c (omega (arith, e)))

  module _ (h : m ≤ 51) (l : length c ≡ 52) where
    tail-is : take (length c - (m + 1)) (drop (m + 1) c) ≡ tail_of c
    tail-is =
        take_all (length c - (m + 1)) (drop (m + 1) c) (rw length-drop (omega arith))
        ∙ sym (drop-drop m 1 c ∙ ap (λ (k : ℕ). drop k c) up)
        ∙ ap (λ (k : ℕ). drop k (drop 1 c)) e
      where
        up : 1 + m ≡ m + 1
        up = omega arith

    cut-blank : list_all (λ x. x == 0) (take (length c - (m + 1)) (drop (m + 1) c)) ≡ blank (tail_of c)
    cut-blank = zeros-blank (take (length c - (m + 1)) (drop (m + 1) c)) ∙ ap blank tail-is

    pub answered-marked : false ≡ list_all (λ x. x == 0) (take (length c - (m + 1)) (drop (m + 1) c)) → refused_with 61 ≡ cell c
    answered-marked b = sym (cell-marked c (sym (b ∙ cut-blank)))

    pub answered-read : true ≡ list_all (λ x. x == 0) (take (length c - (m + 1)) (drop (m + 1) c)) → located (read (take (m + 1 - 1) (drop 1 c))) ≡ cell c
    answered-read b =
        let z : m + 1 - 1 ≡ at c 1 = omega (arith, e) in
        rw z (sym (cell-read c (omega (arith, e)) (sym (b ∙ cut-blank))))
