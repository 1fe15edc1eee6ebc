-- Laws of a write at a place and the place after it: a byte, one piece after another, and whether it fits.
use mathlib.Core.Path.{refl, sym, ◌∙◌}
use mathlib.Core.List.{List, [], ◌∷◌, ◌++◌}
use Prim.Native.Nat.{ℕ, ◌+◌, ◌≤◌, ◌<◌}
use native.Mathlib.Omega.{arith}
use lib.ListN.{length, set, length-append}
use Rattle.lists.proofs.Tests.{le-true, le-false}
use Rattle.words_decimals.specs.Decimals.{BytesWritten, BytesPut}
use Rattle.lists.proofs.Overwriting.{from_one, from-from}

pub wrote-byte : (d : List ℕ) (i b : ℕ) → i < length d → BytesWritten d i (b ∷ []) (i + 1) (set d i b)
wrote-byte d i b h = record { next = refl; bytes = sym (from_one i b d h) }

pub wrote_then : (d : List ℕ) (i : ℕ) (s t : List ℕ) (r : ℕ) (e : List ℕ) (r' : ℕ) (e' : List ℕ) → i + length s ≤ length d → BytesWritten d i s r e → BytesWritten e r t r' e' → BytesWritten d i (s ++ t) r' e'
wrote_then d i s t r e r' e' h a b = record {
  next = simp length-append (omega (arith, a.next, b.next));
  bytes = b.bytes ∙ rw (a.next, a.bytes) (from-from i s d h t);
}

-- where it fits, and where it does not
pub wrote-put : (d : List ℕ) (i : ℕ) (s : List ℕ) (r : ℕ) (e : List ℕ) → i + length s ≤ length d → BytesWritten d i s r e → BytesPut d i s r e
wrote-put d i s r e h w = record { next = rw (le-true (i + length s) (length d) h) w.next; bytes = rw (le-true (i + length s) (length d) h) w.bytes }

pub put-wrote : (d : List ℕ) (i : ℕ) (s : List ℕ) (r : ℕ) (e : List ℕ) → i + length s ≤ length d → BytesPut d i s r e → BytesWritten d i s r e
put-wrote d i s r e h p = record { next = p.next ∙ rw (le-true (i + length s) (length d) h); bytes = p.bytes ∙ rw (le-true (i + length s) (length d) h) }

pub put-short : (d : List ℕ) (i : ℕ) (s : List ℕ) → length d < i + length s → BytesPut d i s i d
put-short d i s h = record { next = rw (le-false (i + length s) (length d) h); bytes = rw (le-false (i + length s) (length d) h) }
