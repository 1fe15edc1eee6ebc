-- The entries of a valid book in three parts: each share's own entries, the tickets, each compared with those before it, and the entries
-- after the shares'.
use mathlib.Core.Path.{◌≡◌, refl, sym}
use mathlib.Core.Logic.{◌⊎◌, inl, inr}
use mathlib.Core.Bool.{Bool, true, false, cond}
use Prim.Native.Nat.{ℕ, ◌+◌, ◌-◌, ◌≤◌, ◌<◌}
use native.Mathlib.Omega.{arith}
use lib.Dec.{leb}
use Rattle.lists.specs.Ranges.{OneTo, every}
use Rattle.lists.proofs.Tests.{both_true, le-true, le-false, lt?}
use Rattle.lists.proofs.Ranges.{every_true, true-every}
use Rattle.book.specs.declared.types.Book.{Book}
use Rattle.book.specs.Valid.{both, next_in, finished_free, ticket_once, ticket_issued, expiry_in, share_valid, entry_unused, entries_valid}
use Rattle.book_tickets.specs.Tickets.{stands_once}
use Rattle.book_entries.specs.Entries.{own_valid, unused_after}
use Rattle.book.proofs.ValidBook.{both_of}

equal : (a b : Bool) → (a ≡ true → b ≡ true) → (b ≡ true → a ≡ true) → a ≡ b
equal true b to from = sym (to refl)
equal false true to from = from refl
equal false false to from = refl

pub both-truly : (a : Bool) → both a true ≡ a
both-truly true = refl
both-truly false = refl

third_last : (a b c d : Bool) → both a (both b (both c d)) ≡ both (both a (both b d)) c
third_last true true true d = sym (both-truly d)
third_last true true false true = refl
third_last true true false false = refl
third_last true false c d = refl
third_last false b c d = refl

share-parts : (b : Book) (j : ℕ) → share_valid b j ≡ both (own_valid b j) (stands_once b.ticket j)
unfolding share_valid own_valid ticket_once stands_once
share-parts b j = third_last (next_in b j) (finished_free b j) _ (both (ticket_issued b j) (expiry_in b j))

module _ (b : Book) (few : b.shares ≤ 32) where
  abbrev test : ℕ → Bool
  test j = cond (leb j b.shares) (share_valid b j) (entry_unused b j)

  abbrev parts : Bool
  parts = both (every b.shares (own_valid b)) (both (unused_after b.next b.ticket b.expiry b.shares) (every b.shares (stands_once b.ticket)))

  to : every 32 test ≡ true → parts ≡ true
  unfolding unused_after entry_unused
  to e = both_of _ _ (true-every _ _ (λ j i. (share j i).0)) (both_of _ _ (true-every (32 - b.shares) _ unused) (true-every _ _ (λ j i. (share j i).1)))
    where
      share : (j : ℕ) → OneTo b.shares j → (own_valid b j ≡ true) × (stands_once b.ticket j ≡ true)
      share j i = both_true _ _ (rw (le-true j b.shares i.1, share-parts) at (every_true 32 test e j (omega arith)))

      unused : (m : ℕ) → OneTo (32 - b.shares) m → entry_unused b (b.shares + m) ≡ true
      unused m i = rw (le-false (b.shares + m) b.shares (omega arith)) at (every_true 32 test e (b.shares + m) (omega arith))

  from : parts ≡ true → every 32 test ≡ true
  unfolding unused_after entry_unused
  from e = true-every 32 test (λ j i. go j i (lt? b.shares j))
    where
      p : (every b.shares (own_valid b) ≡ true) × (both (unused_after b.next b.ticket b.expiry b.shares) (every b.shares (stands_once b.ticket)) ≡ true)
      p = both_true _ _ e

      q : (unused_after b.next b.ticket b.expiry b.shares ≡ true) × (every b.shares (stands_once b.ticket) ≡ true)
      q = both_true _ _ p.1

      go : (j : ℕ) → OneTo 32 j → (b.shares < j) ⊎ (j ≤ b.shares) → test j ≡ true
      go j i (inl l) = let m : b.shares + (j - b.shares) ≡ j = omega arith in rw (le-false j b.shares l) (rw m at (every_true (32 - b.shares) (λ m. entry_unused b (b.shares + m)) q.0 (j - b.shares) (omega arith)))
      go j i (inr l) = rw (le-true j b.shares l, share-parts) (both_of _ _ (every_true b.shares (own_valid b) p.0 j (omega arith)) (every_true b.shares (stands_once b.ticket) q.1 j (omega arith)))

  entries-parts : entries_valid b ≡ parts
  unfolding entries_valid
  entries-parts = equal _ _ to from

  pub shares-failed : every b.shares (own_valid b) ≡ false → entries_valid b ≡ false
  shares-failed e = rw (entries-parts, e)

  pub shares-passed : every b.shares (own_valid b) ≡ true → entries_valid b ≡ both (unused_after b.next b.ticket b.expiry b.shares) (every b.shares (stands_once b.ticket))
  shares-passed e = rw (entries-parts, e)
