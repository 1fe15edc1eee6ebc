-- The pieces of each line, put one after another, are the line, and 64 bytes are enough for it.
use mathlib.Core.Path.{◌≡◌, ap, ◌∙◌}
use mathlib.Core.List.{List, [], ◌∷◌, ◌++◌, flatten, append-nil}
use Prim.Native.Nat.{ℕ, ◌+◌, ◌≤◌}
use native.Mathlib.Omega.{arith}
use lib.ListN.{length, length-append}
use Rattle.words_decimals.specs.Decimals.{decimal, BytesWritten}
use Rattle.words_decimals.proofs.Decimal.{decimal-length}
use Rattle.text_printing_pieces.specs.Pieces.{Output, output, put_all}
use Rattle.text_printing_pieces.proofs.Pieces.{put-all-fits}
use Rattle.census_definition.specs.Census.{ascii, header, totals, refusal}

-- pieces that fit are written one after another
pub pieces-written : (ss : List (List ℕ)) (s d : List ℕ) (r : ℕ) (e : List ℕ) → flatten ss ≡ s → length s ≤ length d → output e r ≡ put_all ss (output d 0) → BytesWritten d 0 s r e
pieces-written ss s d r e f h q =
    let w = q ∙ put-all-fits ss (output d 0) (rw f (omega arith)) in
    record {
      next = rw f at (ap (λ (o : Output). o.next) w);
      bytes = rw f at (ap (λ (o : Output). o.bytes) w);
    }

module _ (b : List ℕ) (m : ℕ) where
  pub line-flat : flatten (b ∷ decimal m ∷ (10 ∷ []) ∷ []) ≡ b ++ (decimal m ++ (10 ∷ []))
  unfolding flatten
  line-flat = rw append-nil

  line-length : length (b ++ (decimal m ++ (10 ∷ []))) ≤ length b + 21
  line-length = let i = decimal-length m in simp length-append (omega arith)

pub header-length : (n : ℕ) → length (header n) ≤ 64
unfolding header
header-length n = let i = line-length (ascii "rooted trivalent diagrams, size ") n in omega arith

pub refusal-length : (k : ℕ) → length (refusal k) ≤ 64
unfolding refusal
refusal-length k = let i = line-length (ascii "refused ") k in omega arith

module _ (k m : ℕ) (a b : List ℕ) where
  pub totals-flat : flatten (decimal k ∷ a ∷ decimal m ∷ b ∷ []) ≡ decimal k ++ (a ++ (decimal m ++ b))
  unfolding flatten
  totals-flat = rw append-nil

pub totals-length : (k m : ℕ) → length (totals k m) ≤ 64
unfolding totals
totals-length k m = let i = decimal-length k in let j = decimal-length m in simp length-append (omega arith)
