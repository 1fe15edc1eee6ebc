-- The pieces of a line, put one after another, are the row of its position.
use mathlib.Core.Path.{◌≡◌, refl, sym, ap, ◌∙◌}
use mathlib.Core.Logic.{inl, inr}
use mathlib.Core.Bool.{Bool, true, false, cond}
use mathlib.Core.List.{List, [], ◌∷◌, ◌++◌, flatten, append_assoc, append-nil}
use Prim.Native.Nat.{ℕ, zero, suc, ◌≤◌}
use native.Mathlib.Omega.{arith}
use lib.Dec.{eqb}
use lib.IntN.{ℤ, pos, negsuc}
use lib.ListN.{length}
use Rattle.lists.specs.Lists.{at}
use Rattle.words.specs.Word.{Pair}
use Rattle.words.specs.Shape.{Word}
use Rattle.words.specs.Letters.{decimal, letters}
use Rattle.words.proofs.Order.{same_self, same_false}
use Rattle.labelling.specs.Labelling.{word_of}
use Rattle.labelling.specs.Rootings.{least_word}
use Rattle.labelling.proofs.Rootings.{kept-least, least_kept}
use Rattle.invariants_cycles.specs.Cycles.{e2, e3, c, t, level}
use Rattle.invariants.specs.declared.Numbers.{Numbers}
use Rattle.std.specs.Prelude.{Ok}
use Rattle.invariants.specs.Promises.{Invariants}
use Rattle.listing.specs.Position.{word_at}
use Rattle.listing.specs.Diagrams.{diagram_at}
use Rattle.run_marks.specs.Marks.{MarkOf}
use Rattle.text_printing_pieces.proofs.Pieces.{flatten-append}
use Rattle.text_printing.specs.Printing.{signed_pieces, word_pieces, entry_pieces, list_pieces}
use Rattle.census_lines.specs.Lines.{field, numbers_pieces, measured_pieces, mark_text, line_pieces}
use Rattle.census_definition.specs.Census.{signed, joined, commas, is_kept_word, row}

-- ---- pieces as texts

signed-text : (z : ℤ) → flatten (signed_pieces z) ≡ signed z
unfolding flatten signed_pieces
signed-text (pos n) = append-nil (decimal n)
signed-text (negsuc n) = rw append-nil

word-text : (n : ℕ) (w : List ℕ) → Word n w → flatten (word_pieces w) ≡ letters w
unfolding flatten word_pieces
word-text n [] a = absurd a
word-text n (zero ∷ w) a = append-nil (letters (0 ∷ w))
word-text n (suc zero ∷ w) a = append-nil (letters (1 ∷ w))
word-text n (suc (suc x) ∷ w) a = absurd a

entries-text : (x : ℕ) (l : List ℕ) → decimal x ++ flatten (entry_pieces l) ≡ commas (x ∷ l)
unfolding flatten entry_pieces
entries-text x [] = append-nil (decimal x)
entries-text x (y ∷ l) = ap (λ (s : List ℕ). decimal x ++ (44 ∷ s)) (entries-text y l)

list-text : (l : List ℕ) → 1 ≤ length l → flatten (list_pieces l) ≡ commas l
unfolding flatten list_pieces
list-text [] h = absurd (omega arith)
list-text (x ∷ l) h = entries-text x l

-- ---- the keep mark

-- the mark of a diagram that has an edge says whether it is kept
pub mark-kept : (D : Pair) (m : ℕ) → 1 ≤ length D.black → MarkOf D m → cond (eqb m 1) true false ≡ is_kept_word D
unfolding is_kept_word
mark-kept D m h (inl k) = rw (k.0, ← kept-least D.black D.white 1 (omega arith) k.1) (sym (same_self (word_of D.black D.white 1)))
mark-kept D m h (inr k) = rw k.0 (sym (same_false (word_of D.black D.white 1) (least_word D.black D.white) (λ e. k.1 (least_kept D.black D.white 1 (omega arith) e))))

-- ---- the line

field-then : (ss ts : List (List ℕ)) → flatten (field ss ++ ts) ≡ 32 ∷ (flatten ss ++ flatten ts)
unfolding flatten
field-then ss ts = ap (λ (s : List ℕ). 32 ∷ s) (flatten-append ss ts)

-- fields with a space before each, one after another
fields-flat : (a : List ℕ) (bs ds es : List (List ℕ)) (f g h : List ℕ) (is : List (List ℕ)) (j k : List ℕ)
    → flatten ((a ∷ []) ++ (field bs ++ (field ds ++ (field es ++ ((field (f ∷ []) ++ (field (g ∷ []) ++ (field (h ∷ []) ++ (field is ++ field (j ∷ []))))) ++ (k ∷ []))))))
    ≡ a ++ (32 ∷ (flatten bs ++ (32 ∷ (flatten ds ++ (32 ∷ (flatten es ++ (32 ∷ (f ++ (32 ∷ (g ++ (32 ∷ (h ++ (32 ∷ (flatten is ++ (32 ∷ (j ++ k))))))))))))))))
unfolding flatten
fields-flat a bs ds es f g h is j k =
    ap (λ (s : List ℕ). a ++ s)
    (field-then bs _ ∙ ap (λ (s : List ℕ). 32 ∷ (flatten bs ++ s))
    (field-then ds _ ∙ ap (λ (s : List ℕ). 32 ∷ (flatten ds ++ s))
    (field-then es _ ∙ ap (λ (s : List ℕ). 32 ∷ (flatten es ++ (32 ∷ (f ++ (32 ∷ (g ++ (32 ∷ (h ++ s)))))))) last)))
  where
    last : flatten ((field is ++ field (j ∷ [])) ++ (k ∷ [])) ≡ 32 ∷ (flatten is ++ (32 ∷ (j ++ k)))
    last =
        ap flatten (append_assoc (field is) (field (j ∷ [])) (k ∷ []))
        ∙ field-then is (field (j ∷ []) ++ (k ∷ []))
        ∙ ap (λ (s : List ℕ). 32 ∷ (flatten is ++ (32 ∷ (j ++ s)))) (append-nil k)

-- fields parted by spaces, and a newline
fields-joined : (a b d e f g h i j k : List ℕ)
    → joined 32 (a ∷ b ∷ d ∷ e ∷ f ∷ g ∷ h ∷ i ∷ j ∷ k ∷ []) ++ (10 ∷ [])
    ≡ a ++ (32 ∷ (b ++ (32 ∷ (d ++ (32 ∷ (e ++ (32 ∷ (f ++ (32 ∷ (g ++ (32 ∷ (h ++ (32 ∷ (i ++ (32 ∷ (j ++ (32 ∷ (k ++ (10 ∷ [])))))))))))))))))))
fields-joined a b d e f g h i j k = simp append_assoc

mark-text : (m : ℕ) → mark_text m ≡ 32 ∷ (cond (cond (eqb m 1) true false) (75 ∷ []) (45 ∷ []) ++ (10 ∷ []))
unfolding mark_text
mark-text m = go (eqb m 1)
  where
    go : (b : Bool) → cond {A = List ℕ} b (32 ∷ 75 ∷ 10 ∷ []) (32 ∷ 45 ∷ 10 ∷ []) ≡ 32 ∷ (cond (cond b true false) (75 ∷ []) (45 ∷ []) ++ (10 ∷ []))
    go true = refl
    go false = refl

pub line_row : (n p : ℕ) (r : Numbers) (m : ℕ) → Word n (word_at n p) → length (diagram_at n p).black ≡ n → length (diagram_at n p).white ≡ n → 1 ≤ n
    → Invariants (diagram_at n p).black (diagram_at n p).white r → MarkOf (diagram_at n p) m
    → flatten (line_pieces p (word_at n p) (diagram_at n p).black (diagram_at n p).white (Ok r) m) ≡ row n p
unfolding line_pieces measured_pieces numbers_pieces row
line_row n p r m a l0 l1 h I k =
    let D = diagram_at n p in
    let i = length D.black in
    let f = at D.black in
    let g = at D.white in
    fields-flat (decimal p) (word_pieces (word_at n p)) (list_pieces D.black) (list_pieces D.white) (decimal r.e2) (decimal r.e3) (decimal r.c) (signed_pieces r.t) (decimal r.level) (mark_text m)
    ∙ rw (word-text n (word_at n p) a, list-text D.black (omega arith), list-text D.white (omega arith), signed-text r.t, I.e2_is, I.e3_is, I.c_is, I.t_is, I.level_is, mark-text m, mark-kept D m (omega arith) k)
    (sym (fields-joined (decimal p) (letters (word_at n p)) (commas D.black) (commas D.white) (decimal (e2 i f g)) (decimal (e3 i f g)) (decimal (c i f g)) (signed (t i f g)) (decimal (level i f g)) (cond (is_kept_word D) (75 ∷ []) (45 ∷ []))))
