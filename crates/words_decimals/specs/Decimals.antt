-- Numbers in decimal, as ASCII bytes, and bytes that are written at a place.
--
--   digits k m                the digits of m, the highest first, where there are at most k; otherwise the k lowest
--   decimal m                 m in decimal, for a number of 64 bits or fewer
--   BytesWritten d i s r e    s was written over d from place i on, which left e; r is the place after s
--   BytesPut d i s r e        the same where s fits; where it does not, e is d and r is i
use Rattle.std.specs.Prelude.{◌≡◌, cond, List, [], ◌∷◌, ◌++◌, ℕ, zero, suc, ◌+◌, ◌/◌, ◌%◌, leb, ltb, length}
use Rattle.lists.specs.Overwriting.{overwrite_from}

-- ---- numbers

unfoldable pub digits : ℕ → ℕ → List ℕ
digits zero m = []
digits (suc k) m = let r = digits k (m / 10) in cond (ltb m 10) ((48 + m) ∷ []) (r ++ ((48 + m % 10) ∷ []))

-- twenty digits are enough: a number of 64 bits is below 10 ^ 20
unfoldable pub decimal : ℕ → List ℕ
decimal m = digits 20 m

-- ---- writing at a place

pub record BytesWritten (d : List ℕ) (i : ℕ) (s : List ℕ) (r : ℕ) (e : List ℕ) : Type 0 where
  pub next : r ≡ i + length s
  pub bytes : e ≡ overwrite_from i s d

pub record BytesPut (d : List ℕ) (i : ℕ) (s : List ℕ) (r : ℕ) (e : List ℕ) : Type 0 where
  pub next : r ≡ cond (leb (i + length s) (length d)) (i + length s) i
  pub bytes : e ≡ cond (leb (i + length s) (length d)) (overwrite_from i s d) d
