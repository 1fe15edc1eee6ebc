-- The lines of a census as pieces of ASCII text.
--
--   field ss                    a space, and then the pieces ss
--   numbers_pieces r             the invariants e2, e3, c, t, level, a field each
--   measured_pieces a            the same of an answer of invariants; nothing where it is a refusal
--   mark_text m                  a space, K where the keep mark m is 1 and a hyphen where it is not, and the newline
--   line_pieces p w s0 s1 a m    the line of the diagram s0, s1 at position p, with the word w, the invariants a and the keep mark m
use Rattle.std.specs.Prelude.{cond, List, [], ◌∷◌, ◌++◌, ℕ, eqb, Result, Ok, Err}
use Rattle.words.specs.Letters.{decimal}
use Rattle.invariants.specs.declared.Numbers.{Numbers}
use Rattle.refusals.specs.declared.Refusal.{Refusal}
use Rattle.text_printing.specs.Printing.{signed_pieces, word_pieces, list_pieces}

abbrev pub field : List (List ℕ) → List (List ℕ)
field ss = (32 ∷ []) ∷ ss

unfoldable pub numbers_pieces : Numbers → List (List ℕ)
numbers_pieces r = field (decimal r.e2 ∷ []) ++ (field (decimal r.e3 ∷ []) ++ (field (decimal r.c ∷ []) ++ (field (signed_pieces r.t) ++ field (decimal r.level ∷ []))))

unfoldable pub measured_pieces : Result Numbers Refusal → List (List ℕ)
measured_pieces (Ok r) = numbers_pieces r
measured_pieces (Err e) = []

-- " K" and " -", each with its newline
unfoldable pub mark_text : ℕ → List ℕ
mark_text m = cond (eqb m 1) (32 ∷ 75 ∷ 10 ∷ []) (32 ∷ 45 ∷ 10 ∷ [])

unfoldable pub line_pieces : ℕ → List ℕ → List ℕ → List ℕ → Result Numbers Refusal → ℕ → List (List ℕ)
line_pieces p w s0 s1 a m = (decimal p ∷ []) ++ (field (word_pieces w) ++ (field (list_pieces s0) ++ (field (list_pieces s1) ++ (measured_pieces a ++ (mark_text m ∷ [])))))
