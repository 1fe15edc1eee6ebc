-- The numbers of the share book's answers: each answer is made of a number, which is 0 where the call is accepted and a refusal's otherwise.
use mathlib.Core.Path.{◌≡◌, refl, sym}
use mathlib.Core.Logic.{◌⊎◌, inl, inr}
use mathlib.Core.Bool.{Bool, true, false, cond}
use mathlib.Core.List.{List, [], ◌∷◌}
use Prim.Native.Nat.{ℕ}
use lib.Dec.{eqb, leb, ltb}
use Rattle.std.specs.Prelude.{Ok, Err}
use Rattle.lists.proofs.Tests.{eqb-eq, eqb-ne}
use Rattle.refusals.specs.declared.Refusal.{Refusal}
use Rattle.refusals.specs.declared.Refusal.TheVariants as refusal
use Rattle.refusals.specs.Numbers.{number, refusal_number}
use Rattle.refusals.specs.Named.{answered}
use Rattle.refusals.proofs.Numbers.{named-number, number-some}
use Rattle.book.specs.declared.types.Book.{Book}
use Rattle.book.specs.declared.types.Progress.{Progress}
use Rattle.book.specs.Shares.{committed, complete, finished, holder, lapsed}
use Rattle.book.specs.Valid.{among, valid}
use Rattle.book.specs.Calls.{unless, not, tick_in, held, due, lists_hold, positions, ticket_number, commits_number, commit_book, open_answer, open_number, claim_answer, claim_number, take_answer, take_number, commit_answer, commit_number, commit_range_answer, commit_range_number, release_answer, release_number, report_answer}
use Rattle.book.proofs.CommitRange.{range-closed}
use Rattle.theorems.specs.BookNumbers.{BookNumbers}

-- ---- every number is a refusal's or 0

abbrev Known : ℕ → Type 0
Known k = (k ≡ 0) ⊎ ((e : Refusal) × (k ≡ number e))

none : Known 0
none = inl refl

after : (t : Bool) (e : Refusal) {rest : ℕ} → Known rest → Known (unless t (number e) rest)
after true e k = k
after false e k = inr (e, refl)

either : (t : Bool) {j k : ℕ} → Known j → Known k → Known (cond t j k)
either true a b = a
either false a b = b

module _ (b : Book) (tick t : ℕ) where
  ticket-known : {rest : ℕ} → Known rest → Known (ticket_number b tick t rest)
  unfolding ticket_number
  ticket-known k = after (valid b) refusal.BookNotValid (after (tick_in b tick) refusal.TickOutOfRange (after _ refusal.NoSuchTicket (after _ refusal.TicketLapsed k)))

  commit-known : (p : ℕ) → Known (commit_number b tick t p)
  unfolding commit_number
  commit-known p = ticket-known (after _ refusal.PositionNotDue none)

open-known : (n k : ℕ) → Known (open_number n k)
unfolding open_number
open-known n k = after (among 50 n) refusal.ListedSizeOutOfRange (after (among 32 k) refusal.SharesOutOfRange none)

claim-known : (b : Book) (tick j len : ℕ) → Known (claim_number b tick j len)
unfolding claim_number
claim-known b tick j len =
    after (valid b) refusal.BookNotValid (after (tick_in b tick) refusal.TickOutOfRange (after (among b.shares j) refusal.ShareOutOfRange (after (among 65535 len) refusal.LengthOutOfRange
    (after (not (finished b j)) refusal.ShareFinished (after (not (held b j tick)) refusal.ShareHeld (after (ltb b.issued 65535) refusal.TicketsSpent none))))))

take-known : (b : Book) (tick t l0 l1 lw : ℕ) → Known (take_number b tick t l0 l1 lw)
unfolding take_number
take-known b tick t l0 l1 lw = ticket-known b tick t (after _ refusal.ListShort none)

commits-known : (tick t : ℕ) (ps : List ℕ) (b : Book) → Known (commits_number b tick t ps)
unfolding commits_number
commits-known tick t [] b = none
commits-known tick t (p ∷ ps) b = either (eqb (commit_number b tick t p) 0) (commits-known tick t ps (commit_book b tick t p)) (commit-known b tick t p)

range-known : (b : Book) (tick t p q : ℕ) → Known (commit_range_number b tick t p q)
unfolding commit_range_number
range-known b tick t p q = either (leb p q) (commits-known tick t (positions p q) b) (ticket-known b tick t (inr (refusal.PositionNotDue, refl)))

release-known : (b : Book) (tick t : ℕ) → Known (release_number b tick t)
unfolding release_number
release-known b tick t = ticket-known b tick t none

-- ---- so the answer that is told by it has it

number_is : {A : Type 0} (a : A) (k : ℕ) → Known k → refusal_number (answered k a) ≡ k
number_is a k (inl z) = rw (eqb-eq _ _ z) (sym z)
number_is a k (inr (e, z)) = rw (z, eqb-ne _ _ (number-some e), named-number e)

open_is : (n k : ℕ) → refusal_number (open_answer n k) ≡ open_number n k
unfolding open_answer
open_is n k = number_is tt (open_number n k) (open-known n k)

claim-is : (b : Book) (tick j len : ℕ) → refusal_number (claim_answer b tick j len) ≡ claim_number b tick j len
unfolding claim_answer
claim-is b tick j len = number_is _ (claim_number b tick j len) (claim-known b tick j len)

take-is : (b : Book) (tick t l0 l1 lw : ℕ) → refusal_number (take_answer b tick t l0 l1 lw) ≡ take_number b tick t l0 l1 lw
unfolding take_answer
take-is b tick t l0 l1 lw = number_is _ (take_number b tick t l0 l1 lw) (take-known b tick t l0 l1 lw)

commit-is : (b : Book) (tick t p : ℕ) → refusal_number (commit_answer b tick t p) ≡ commit_number b tick t p
unfolding commit_answer
commit-is b tick t p = number_is tt (commit_number b tick t p) (commit-known b tick t p)

commit-range-is : (b : Book) (tick t p q : ℕ) → refusal_number (commit_range_answer b tick t p q) ≡ commit_range_number b tick t p q
unfolding commit_range_answer
commit-range-is b tick t p q = number_is tt (commit_range_number b tick t p q) (range-known b tick t p q)

release-is : (b : Book) (tick t : ℕ) → refusal_number (release_answer b tick t) ≡ release_number b tick t
unfolding release_answer
release-is b tick t = number_is tt (release_number b tick t) (release-known b tick t)

report-is : (b : Book) → refusal_number (report_answer b) ≡ cond (valid b) 0 50
unfolding report_answer
report-is b = go (valid b)
  where
    go : (s : Bool) → refusal_number {A = Progress} (cond s (Ok (record { committed = committed b; complete = complete b })) (Err refusal.BookNotValid)) ≡ cond s 0 50
    go true = refl
    go false = refl

pub book_numbers : BookNumbers
book_numbers = record { opening = open_is; claim = claim-is; take = take-is; commit = commit-is; range_committed = commit-range-is; range_conditions = λ b tick t p q x y z. range-closed b tick t p q record { next_long = x; ticket_long = y; expiry_long = z }; release = release-is; report = report-is }
