-- Demand 3, the first list (document 01, "The lists of demand 3"): every list of claims, takes, commits, ranges of commits, releases and reports,
-- in any number and order, with any arguments, accepted or refused, from the book that an accepted open left; each call is given the book that the
-- preceding one left.
-- The answers and the books after are the functions that the operations' own contracts name (crate book, Calls).
--
--   Call                             one call with its arguments; the lists of a take are as they were lent
--   book_after b call                 the book that the call leaves
--   book_after_all b calls             the book that the whole list leaves
--   committed_by b call               the position that the call commits, if it is an accepted commit; the positions of an accepted range, in order
--   commits b calls                  the positions that the accepted commits and ranges of the list commit, in order
--   ShareFinished n k C j            each position that share j holds stands in C
--   IsAt n s0 s1 root p              the diagram at p is isomorphic, with roots, to the given one
--   EachOnce n C                     every rooted diagram of size n has, up to root-keeping isomorphism, exactly one diagram at a position of C
--   InPlace n p                      the diagram at p is one of size n in its characteristic labelling, and its word is the p-th
--   Due n k b C t j p                p is the position that share j, where the ticket t stands, has to go on with
--   TakeGives .., CommitRecords ..   what an accepted take gives and leaves; what an accepted commit tells and leaves
--   RangeRecords ..                  what an accepted range of commits tells and leaves
-- and from elsewhere: open_book, commit_answer, .. (book, Calls); TakePromise, the promise of take (book, Taken); ShareHolds n k j p, share j of k holds
-- position p (book, Holding); diagram_at n p, word_at n p (listing); Written (words, Outputs); Accepts, RootedIsomorphic (diagrams);
-- Characteristic (Demand2); Has, Distinct (lists).
use Rattle.std.specs.Prelude.{◌≡◌, ◌≢◌, ◌↔◌, Bool, true, cond, List, [], ◌∷◌, ◌++◌, ℕ, suc, ◌≤◌, ◌<◌, eqb, length, Result, Ok}
use Rattle.lists.specs.Lists.{Has, Distinct}
use Rattle.lists.specs.Ranges.{OneTo}
use Rattle.diagrams.specs.Isomorphism.{RootedIsomorphic}
use Rattle.diagrams.specs.Check.{Accepts}
use Rattle.words.specs.Outputs.{Written}
use Rattle.labelling.specs.Labelling.{word_of}
use Rattle.listing.specs.Listing.{count}
use Rattle.listing.specs.Position.{word_at}
use Rattle.listing.specs.Diagrams.{diagram_at}
use Rattle.book.specs.declared.types.Book.{Book}
use Rattle.refusals.specs.declared.Refusal.{Refusal}
use Rattle.book.specs.declared.types.Taken.{Taken}
use Rattle.book.specs.declared.types.Progress.{Progress}
use Rattle.book.specs.Shares.{next, ticket, first}
use Rattle.book.specs.Calls.{open_answer, open_book, claim_book, take_book, commit_number, commit_answer, commit_book, positions, commit_range_number, commit_range_answer, commit_range_book, release_book, report_answer}
use Rattle.book.specs.Taken.{TakePromise}
use Rattle.book.specs.Holding.{ShareHolds}
use Rattle.theorems.specs.Demand2.{Characteristic}

pub data Call : Type 0 where
  claim : (tick share length : ℕ) → Call
  take : (tick ticket : ℕ) (s0 s1 word : List ℕ) → Call
  commit : (tick ticket position : ℕ) → Call
  commit_range : (tick ticket first last : ℕ) → Call
  release : (tick ticket : ℕ) → Call
  report : Call

abbrev pub book_after : Book → Call → Book
book_after b (claim tick share len) = claim_book b tick share len
book_after b (take tick t s0 s1 word) = take_book b tick t (length s0) (length s1) (length word)
book_after b (commit tick t p) = commit_book b tick t p
book_after b (commit_range tick t p q) = commit_range_book b tick t p q
book_after b (release tick t) = release_book b tick t
book_after b report = b

abbrev pub book_after_all : Book → List Call → Book
book_after_all b [] = b
book_after_all b (c ∷ calls) = book_after_all (book_after b c) calls

abbrev pub committed_by : Book → Call → List ℕ
committed_by b (claim tick share len) = []
committed_by b (take tick t s0 s1 word) = []
committed_by b (commit tick t p) = cond (eqb (commit_number b tick t p) 0) (p ∷ []) []
committed_by b (commit_range tick t p q) = cond (eqb (commit_range_number b tick t p q) 0) (positions p q) []
committed_by b (release tick t) = []
committed_by b report = []

abbrev pub commits : Book → List Call → List ℕ
commits b [] = []
commits b (c ∷ calls) = committed_by b c ++ commits (book_after b c) calls

abbrev pub ShareFinished : ℕ → ℕ → List ℕ → ℕ → Type 0
ShareFinished n k C j = (p : ℕ) → ShareHolds n k j p → Has p C

-- the diagram at p is isomorphic, with roots, to the given one
abbrev pub IsAt : ℕ → List ℕ → List ℕ → ℕ → ℕ → Type 0
IsAt n s0 s1 root p = RootedIsomorphic s0 s1 root (diagram_at n p).black (diagram_at n p).white 1

abbrev pub EachOnce : ℕ → List ℕ → Type 0
EachOnce n C = (s0 s1 : List ℕ) (root : ℕ) → Accepts s0 s1 root → length s0 ≡ n
    → (p : ℕ) × Has p C × IsAt n s0 s1 root p × ((q : ℕ) → Has q C → IsAt n s0 s1 root q → q ≡ p)

-- the diagram at position p: one of size n in its characteristic labelling, whose word is the p-th
pub record InPlace (n p : ℕ) : Type 0 where
  pub counted : OneTo (count n) p
  pub in_form : Characteristic (diagram_at n p)
  pub sized : length (diagram_at n p).black ≡ n
  pub its_word : word_of (diagram_at n p).black (diagram_at n p).white 1 ≡ word_at n p

-- the position p is due at the ticket t in the book b, C being committed so far: share j is where the ticket, which is not 0, stands, p is j's
-- next position in the book, and it is the first position of j that is not in C
pub record Due (n k : ℕ) (b : Book) (C : List ℕ) (t j p : ℕ) : Type 0 where
  pub sized : b.size ≡ n
  pub some_ticket : t ≢ 0
  pub stands : ticket b j ≡ t
  pub is_next : next b j ≡ p
  pub held : ShareHolds n k j p
  pub not_yet : ¬ Has p C
  pub all_before : (q : ℕ) → first n k j ≤ q → q < p → Has q C
  pub in_place : InPlace n p

-- what an accepted take gives, and what it leaves in the lists s0, s1 and word, which are c0, c1 and cw afterwards
pub record TakeGives (n k : ℕ) (b : Book) (C : List ℕ) (t : ℕ) (s0 s1 word : List ℕ) (j p m : ℕ) (c0 c1 cw : List ℕ) : Type 0 where
  pub due : Due n k b C t j p
  pub word_length : m ≡ length (word_at n p)
  pub written : Written (diagram_at n p) (word_at n p) s0 s1 word c0 c1 cw

-- what an accepted commit of p tells of the book b before it and leaves in the book b': p was due, and its share has moved on by one
pub record CommitRecords (n k : ℕ) (b : Book) (C : List ℕ) (t p : ℕ) (b' : Book) : Type 0 where
  pub share : ℕ
  pub due : Due n k b C t share p
  pub moved_on : next b' share ≡ suc p

-- what an accepted range of commits p, .., q tells of the book b before it and leaves in the book b': p was due, its share holds q too, and has moved
-- on past q; it commits each position from p to q, and no other
pub record RangeRecords (n k : ℕ) (b : Book) (C : List ℕ) (t p q : ℕ) (b' : Book) : Type 0 where
  pub share : ℕ
  pub due : Due n k b C t share p
  pub ordered : p ≤ q
  pub held : ShareHolds n k share q
  pub moved_on : next b' share ≡ suc q
  pub commits_each : (x : ℕ) → Has x (positions p q) ↔ ((p ≤ x) × (x ≤ q))

-- a report of that many committed positions, which says complete or not
abbrev pub reported : ℕ → Bool → Result Progress Refusal
reported committed complete = Ok (record { committed = committed; complete = complete })

-- The theorem, for a list of calls from a book of size n in k shares: b is the book that it leaves, C what it has committed.
pub record FirstList (n k : ℕ) (b : Book) (C : List ℕ) : Type 0 where
  -- the report then gives the number of accepted commits of the list, those of its accepted ranges among them, and says complete or not
  pub counts : (says : Bool) × (report_answer b ≡ reported (length C) says)
  -- it says complete exactly when every share is finished
  pub complete_exactly : (report_answer b ≡ reported (length C) true) ↔ ((j : ℕ) → OneTo k j → ShareFinished n k C j)
  -- and that is so exactly when every rooted diagram of the size has been committed once, in its characteristic labelling
  pub whole_exactly : (report_answer b ≡ reported (length C) true) ↔ EachOnce n C
  -- no position, and so no diagram, is ever committed twice, complete or not
  pub never_twice : Distinct C
  pub no_class_twice : (p q : ℕ) → Has p C → Has q C → RootedIsomorphic (diagram_at n p).black (diagram_at n p).white 1 (diagram_at n q).black (diagram_at n q).white 1 → p ≡ q
  -- what is committed are diagrams of the size in characteristic labelling
  pub in_place : (p : ℕ) → Has p C → InPlace n p
  -- whatever an accepted take after these calls answers and leaves by its promise: it gives the position that is due at its ticket, and c0, c1
  -- and cw are that position's diagram and word written over the lists that were lent
  pub takes : (tick t : ℕ) (s0 s1 word : List ℕ) (g : Taken) (b' : Book) (c0 c1 cw : List ℕ) → TakePromise b tick t s0 s1 word (Ok g) b' c0 c1 cw → TakeGives n k b C t s0 s1 word g.share g.position g.length c0 c1 cw
  -- a commit after these calls that is accepted names the position that is due at its ticket, and moves the share on by one
  pub records : (tick t p : ℕ) → commit_answer b tick t p ≡ Ok tt → CommitRecords n k b C t p (commit_book b tick t p)
  -- an accepted range begins at the position that is due at its ticket, lies in that share whole, and moves the share on past its last position
  pub records_range : (tick t p q : ℕ) → commit_range_answer b tick t p q ≡ Ok tt → RangeRecords n k b C t p q (commit_range_book b tick t p q)

-- The first list of demand 3: for every accepted open, whatever book was lent to it, and every list of calls from the book that it left.
abbrev pub FirstListHolds : Type 0
FirstListHolds =
    (lent : Book) (n k : ℕ) → open_answer n k ≡ Ok tt
    → (calls : List Call) → FirstList n k (book_after_all (open_book lent n k) calls) (commits (open_book lent n k) calls)
