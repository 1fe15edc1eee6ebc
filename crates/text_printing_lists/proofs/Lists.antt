-- Laws of printing a list, entry by entry.
use mathlib.Core.Path.{◌≡◌, refl}
use mathlib.Core.List.{List, [], ◌∷◌}
use Prim.Native.Nat.{ℕ, ◌+◌, ◌-◌, ◌≤◌, ◌<◌}
use native.Mathlib.Numerals.{add-one}
use native.Mathlib.Omega.{arith}
use lib.ListN.{length, get_or, take, drop, drop_of_length-le}
use lib.Seq.{drop-cons}
use Rattle.lists.proofs.Lists.{rest-is}
use Rattle.words_decimals.specs.Decimals.{decimal}
use Rattle.text_printing_pieces.specs.Pieces.{Output, put, put_all}
use Rattle.text_printing_lists.specs.Lists.{entry_pieces, list_pieces}

pub entries-more : (l : List ℕ) (k : ℕ) (o : Output) → k < length l
    → put_all (entry_pieces (drop (k + 1) l)) (put_all (entry_pieces (get_or l k 0 ∷ [])) o) ≡ put_all (entry_pieces (drop k l)) o
unfolding put_all entry_pieces
entries-more l k o h = rw (drop-cons l k 0 h, add-one)

pub entry-one : (x : ℕ) (o : Output) → put_all (entry_pieces (x ∷ [])) o ≡ put (decimal x) (put (44 ∷ []) o)
unfolding put_all entry_pieces
entry-one x o = refl

pub entries-past : (l : List ℕ) (k : ℕ) (o : Output) → length l ≤ k → put_all (entry_pieces (drop k l)) o ≡ o
unfolding put_all entry_pieces
entries-past l k o h = rw (drop_of_length-le l h)

-- the first, and then the part of the list after it
pub list-first : (l : List ℕ) (o : Output) → 1 ≤ length l → put_all (entry_pieces (take (length l - 1) (drop 1 l))) (put (decimal (get_or l 0 0)) o) ≡ put_all (list_pieces l) o
unfolding put_all list_pieces
list-first [] o h = absurd (omega arith)
list-first (x ∷ l) o h = rw (rest-is x l)

pub list-none : (l : List ℕ) (o : Output) → length l ≡ 0 → put_all (list_pieces l) o ≡ put (45 ∷ []) o
unfolding put_all list_pieces
list-none [] o h = refl
list-none (x ∷ l) o h = absurd (omega arith)
