-- Laws of lists that are written to: over their beginning, from a place on, entry by entry, one piece after another.
use mathlib.Core.Path.{◌≡◌, refl, sym, ap, ◌∙◌}
use mathlib.Core.Bool.{cond}
use mathlib.Core.List.{List, [], ◌∷◌, ◌++◌, append_assoc, append-nil}
use Prim.Native.Nat.{ℕ, suc, ◌+◌, ◌-◌, ◌≤◌, ◌<◌}
use native.Mathlib.Numerals.{add-one}
use native.Mathlib.Nat.{add-zero, zero-add}
use native.Mathlib.Omega.{arith}
use borrow.Rule.Slice.PartMut.{mid_of, put_mid}
use lib.Dec.{leb}
use lib.ListN.{length, set, take, drop, length-append, length-drop, length-set, take-append-drop}
use lib.Seq.{length-take-le, set_split, take-set-le, take_at, take_all, drop-set-lt, drop-cons, drop-length, drop-append-add, drop-drop, get_or-set_same}
use Rattle.lists.specs.Overwriting.{overwrite, overwrite_from}
use Rattle.lists.proofs.Tests.{le-true}
use Rattle.lists.proofs.Lists.{length-1}
use Rattle.lists.proofs.Copies.{written-more, written-length}

-- ---- writing over the beginning

pub over-length : (x a : List ℕ) → length x ≤ length a → length (overwrite x a) ≡ length a
over-length x a l = written-length a x (length x) refl l

-- one entry more
pub over-one : (x a : List ℕ) (i v : ℕ) → i ≡ length x → i < length a → set (overwrite x a) i v ≡ overwrite (x ++ (v ∷ [])) a
over-one x a i v e l = rw (length-1, ← e, ← add-one) (written-more a x i v (sym e) l)

-- the first m places, where x has m entries
pub over-part : (x a : List ℕ) (m : ℕ) (b : List ℕ) → m ≡ length x → b ≡ overwrite x a → take m b ≡ x
over-part x a m b e q = rw q (take_at x _ m (sym e))

pub over-within : (x a : List ℕ) (m : ℕ) (b : List ℕ) → m ≡ length x → b ≡ overwrite x a → m ≤ length b
over-within x a m b e q = rw q (simp length-append (omega arith))

-- ---- writing from a place on

pub from-0 : (x a : List ℕ) → overwrite_from 0 x a ≡ overwrite x a
unfolding overwrite_from
from-0 x a = rw zero-add

pub from-none : (i : ℕ) (a : List ℕ) → overwrite_from i [] a ≡ a
unfolding overwrite_from
from-none i a = rw add-zero (take-append-drop i a)

pub from-length : (i : ℕ) (x a : List ℕ) → i + length x ≤ length a → length (overwrite_from i x a) ≡ length a
unfolding overwrite_from
from-length i x a h = let e = length-take-le i a (omega arith) in simp (length-append, length-drop, e) (omega arith)

-- a single entry is a store
pub from_one : (i v : ℕ) (a : List ℕ) → i < length a → overwrite_from i (v ∷ []) a ≡ set a i v
unfolding overwrite_from
from_one i v a h = rw (add-one, set_split a i v h)

store_tail : (n v : ℕ) (a : List ℕ) → n < length a → drop n (set a n v) ≡ v ∷ drop (suc n) a
store_tail n v a h = rw (drop-cons (set a n v) n 0 (rw length-set h), get_or-set_same a n v 0 h, drop-set-lt (suc n) a n v (omega arith))

-- a piece from its last entry backwards
pub from_last : (i : ℕ) (x : List ℕ) (v : ℕ) (a : List ℕ) → i + length x < length a → overwrite_from i (x ++ (v ∷ [])) a ≡ overwrite_from i x (set a (i + length x) v)
unfolding overwrite_from
from_last i x v a h =
    let q : i + length (x ++ (v ∷ [])) ≡ suc (i + length x) = simp length-append (omega arith) in
    rw (q, take-set-le i a (i + length x) v (omega arith), store_tail (i + length x) v a h, append_assoc x (v ∷ []) (drop (suc (i + length x)) a))

drop_past : (p q : List ℕ) (n k : ℕ) → length p ≡ n → drop (n + k) (p ++ q) ≡ drop k q
drop_past p q n k e = rw (← e) (drop-append-add p q k)

-- one piece after another
pub from-from : (i : ℕ) (x a : List ℕ) → i + length x ≤ length a → (y : List ℕ) → overwrite_from (i + length x) y (overwrite_from i x a) ≡ overwrite_from i (x ++ y) a
unfolding overwrite_from
from-from i x a h y =
    rw (← append_assoc (take i a) x (drop n a), take_at p (drop n a) n long, drop_past p (drop n a) n (length y) long, drop-drop (length y) n a, far)
    (simp append_assoc)
  where
    p : List ℕ
    p = take i a ++ x

    n : ℕ
    n = i + length x

    long : length p ≡ n
    long = rw (length-append, length-take-le i a (omega arith))

    far : i + length (x ++ y) ≡ n + length y
    far = simp length-append (omega arith)

-- the part from place i to the end, with x over its beginning, put back into the list
pub from-part : (i : ℕ) (x a b : List ℕ) → i + length x ≤ length a → b ≡ overwrite x (mid_of i (length a - i) a) → put_mid i (length a - i) a b ≡ overwrite_from i x a
unfolding overwrite_from
from-part i x a b h e =
    let l : length (drop i a) ≡ length a - i = length-drop i a in
    let m : mid_of i (length a - i) a ≡ drop i a = take_all (length a - i) (drop i a) (omega arith) in
    let f : b ≡ x ++ drop (length x) (drop i a) = rw m at e in
    let p : drop (length a - i) (drop i a) ≡ [] = rw (← l) (drop-length (drop i a)) in
    rw (p, f, drop-drop (length x) i a, append-nil)

-- the same where `fill` wrote over that part
pub from-filled : (i : ℕ) (x a b : List ℕ) → i + length x ≤ length a
    → b ≡ cond (leb (length x) (length (mid_of i (length a - i) a))) (overwrite x (mid_of i (length a - i) a)) (mid_of i (length a - i) a)
    → put_mid i (length a - i) a b ≡ overwrite_from i x a
from-filled i x a b h e =
    let m : mid_of i (length a - i) a ≡ drop i a = take_all (length a - i) (drop i a) (omega (arith, length-drop i a)) in
    from-part i x a b h (e ∙ rw (le-true (length x) (length (mid_of i (length a - i) a)) (rw (m, length-drop) (omega arith))))

-- y written behind x, which is written over the beginning
pub over-more : (x a b : List ℕ) (i : ℕ) → i ≡ length x → b ≡ overwrite x a → (y : List ℕ) → length x ≤ length a → overwrite_from i y b ≡ overwrite (x ++ y) a
over-more x a b i e q y l =
    ap (λ (k : ℕ). overwrite_from k y b) (e ∙ sym (zero-add (length x))) ∙ ap (λ (c : List ℕ). overwrite_from (0 + length x) y c) (q ∙ sym (from-0 x a))
    ∙ from-from 0 x a (omega arith) y ∙ from-0 (x ++ y) a
