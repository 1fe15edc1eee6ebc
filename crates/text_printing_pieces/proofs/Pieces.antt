-- Laws of printing: a piece that fits and one that does not, pieces one after another, and the steps of the functions that print a piece.
use mathlib.Core.Path.{◌≡◌, refl, sym, ap, ◌∙◌}
use mathlib.Core.Bool.{Bool, true, false, cond}
use mathlib.Core.List.{List, [], ◌∷◌, ◌++◌, flatten, append_assoc}
use Prim.Native.Nat.{ℕ, ◌+◌, ◌-◌, ◌≤◌, ◌<◌}
use native.Mathlib.Nat.{add-zero}
use native.Mathlib.Omega.{arith}
use borrow.Rule.Slice.PartMut.{put_mid}
use lib.Dec.{leb}
use lib.ListN.{length, set, length-append}
use lib.Seq.{drop-drop}
use Rattle.lists.proofs.Tests.{le-true, le-false}
use Rattle.words_decimals.specs.Decimals.{BytesPut}
use Rattle.lists.specs.Overwriting.{overwrite_from}
use Rattle.lists.proofs.Overwriting.{from-none, from_one, from-length, from-from}
use Rattle.text_printing_pieces.specs.Pieces.{Output, output, put, put_all}

-- ---- a piece

pub put-fits : (s : List ℕ) (o : Output) → o.next + length s ≤ length o.bytes → put s o ≡ output (overwrite_from o.next s o.bytes) (o.next + length s)
unfolding put
put-fits s o h = rw (le-true (o.next + length s) (length o.bytes) h)

pub put-short : (s : List ℕ) (o : Output) → length o.bytes < o.next + length s → put s o ≡ o
unfolding put
put-short s o h = rw (le-false (o.next + length s) (length o.bytes) h)

pub put-byte-fits : (d : List ℕ) (i b : ℕ) → i < length d → output (set d i b) (i + 1) ≡ put (b ∷ []) (output d i)
put-byte-fits d i b h = sym (put-fits (b ∷ []) (output d i) (omega arith) ∙ ap (λ e. output e (i + 1)) (from_one i b d h))

-- the same rule as that of words_decimals::put_decimal
pub put_of : (d : List ℕ) (i : ℕ) (s : List ℕ) (r : ℕ) (e : List ℕ) → BytesPut d i s r e → output e r ≡ put s (output d i)
unfolding put
put_of d i s r e p = rw (p.next, p.bytes) (both (leb (i + length s) (length d)))
  where
    both : (b : Bool) → output (cond b (overwrite_from i s d) d) (cond b (i + length s) i) ≡ cond b (output (overwrite_from i s d) (i + length s)) (output d i)
    both true = refl
    both false = refl

-- ---- pieces one after another

pub flatten-append : (ss ts : List (List ℕ)) → flatten (ss ++ ts) ≡ flatten ss ++ flatten ts
unfolding flatten
flatten-append [] ts = refl
flatten-append (s ∷ ss) ts = rw (flatten-append ss ts) (sym (append_assoc s (flatten ss) (flatten ts)))

-- where all of them fit, they stand one after another from the next place on
pub put-all-fits : (ss : List (List ℕ)) (o : Output) → o.next + length (flatten ss) ≤ length o.bytes
    → put_all ss o ≡ output (overwrite_from o.next (flatten ss) o.bytes) (o.next + length (flatten ss))
unfolding put_all flatten
put-all-fits [] o h = rw (add-zero, from-none o.next o.bytes)
put-all-fits (s ∷ ss) o h =
    ap (put_all ss) (put-fits s o room)
    ∙ put-all-fits ss (output (overwrite_from o.next s o.bytes) (o.next + length s)) (rw (from-length o.next s o.bytes room) (omega (arith, long)))
    ∙ rw (from-from o.next s o.bytes room (flatten ss), far)
  where
    long : length (s ++ flatten ss) ≡ length s + length (flatten ss)
    long = length-append s (flatten ss)

    room : o.next + length s ≤ length o.bytes
    room = omega (arith, long)

    far : (o.next + length s) + length (flatten ss) ≡ o.next + length (s ++ flatten ss)
    far = omega (arith, long)

pub put-all-append : (ss ts : List (List ℕ)) (o : Output) → put_all (ss ++ ts) o ≡ put_all ts (put_all ss o)
unfolding put_all
put-all-append [] ts o = refl
put-all-append (s ∷ ss) ts o = put-all-append ss ts (put s o)

-- ---- calls that follow one another: p is what a call leaves, q what those after it leave

pub puts_then : (s : List ℕ) (ts : List (List ℕ)) (o p q : Output) → p ≡ put s o → q ≡ put_all ts p → q ≡ put_all (s ∷ ts) o
unfolding put_all
puts_then s ts o p q e f = f ∙ ap (put_all ts) e

pub puts-last : (s : List ℕ) (o p : Output) → p ≡ put s o → p ≡ put_all (s ∷ []) o
unfolding put_all
puts-last s o p e = e

pub put-all-then : (ss ts : List (List ℕ)) (o p q : Output) → p ≡ put_all ss o → q ≡ put_all ts p → q ≡ put_all (ss ++ ts) o
put-all-then ss ts o p q e f = f ∙ ap (put_all ts) e ∙ sym (put-all-append ss ts o)

-- ---- a text, copied over its place

pub put-copied : (s d : List ℕ) (i : ℕ) (b : List ℕ) → i + length s ≤ length d → b ≡ s → output (put_mid i (i + length s - i) d b) (i + length s) ≡ put s (output d i)
unfolding overwrite_from
put-copied s d i b h e =
    let n : i + length s - i ≡ length s = omega arith in
    rw (n, e, drop-drop (length s) i d) (sym (put-fits s (output d i) h))
