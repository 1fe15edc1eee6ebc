-- The answers of the share book by document 01's numbers. The promise of each of its operations is that the answer is a function of the book and
-- the arguments (crate book, Calls: open_answer, claim_answer, ..); the number of that answer (crate refusals, Numbers) is the number of the first of
-- 01's conditions that applies, in 01's order, and 0 where none does (crate book, Calls: open_number, claim_number, ..).
use Rattle.std.specs.Prelude.{◌≡◌, cond, ℕ, length}
use Rattle.book.specs.declared.types.Book.{Book}
use Rattle.refusals.specs.Numbers.{refusal_number}
use Rattle.book.specs.Valid.{valid}
use Rattle.book.specs.Calls as calls

pub record BookNumbers : Type 0 where
  pub opening : (n k : ℕ) → refusal_number (calls.open_answer n k) ≡ calls.open_number n k
  pub claim : (b : Book) (tick share length : ℕ) → refusal_number (calls.claim_answer b tick share length) ≡ calls.claim_number b tick share length
  pub take : (b : Book) (tick ticket l0 l1 lw : ℕ) → refusal_number (calls.take_answer b tick ticket l0 l1 lw) ≡ calls.take_number b tick ticket l0 l1 lw
  pub commit : (b : Book) (tick ticket position : ℕ) → refusal_number (calls.commit_answer b tick ticket position) ≡ calls.commit_number b tick ticket position
  pub range_committed : (b : Book) (tick ticket first last : ℕ) → refusal_number (calls.commit_range_answer b tick ticket first last) ≡ calls.commit_range_number b tick ticket first last
  -- the number of a range, which is that of the first of its commits that is refused, is told by its two ends; the lists of a book have 32 entries
  pub range_conditions : (b : Book) (tick ticket first last : ℕ) → length b.next ≡ 32 → length b.ticket ≡ 32 → length b.expiry ≡ 32
      → calls.commit_range_number b tick ticket first last ≡ calls.ticket_number b tick ticket (calls.range_number b ticket first last)
  pub release : (b : Book) (tick ticket : ℕ) → refusal_number (calls.release_answer b tick ticket) ≡ calls.release_number b tick ticket
  -- the report refuses 50 alone
  pub report : (b : Book) → refusal_number (calls.report_answer b) ≡ cond (valid b) 0 50
