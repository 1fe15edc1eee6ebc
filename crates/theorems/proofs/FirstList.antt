-- The first list of demand 3, by the ledger: every call keeps it, so the whole list does, and the ledger says what the report, the takes
-- and the commits have to say.
use mathlib.Core.Path.{◌≡◌, refl, sym, ap, ◌∙◌}
use mathlib.Core.Logic.{◌≢◌, ◌⊎◌, inl, inr, ◌↔◌}
use mathlib.Core.Bool.{true}
use mathlib.Core.List.{List, [], ◌∷◌, ◌++◌, append_assoc, append-nil}
use Prim.Native.Nat.{ℕ, suc, ◌-◌, ◌≤◌, ◌<◌}
use native.Mathlib.Omega.{arith}
use lib.ListN.{length}
use Rattle.std.specs.Prelude.{Bool, false, Result, Ok, Err}
use Rattle.lists.specs.Lists.{at, Has}
use Rattle.lists.specs.Ranges.{OneTo}
use Rattle.lists.proofs.Tests.{eqb-eq, eqb-ne, same?}
use Rattle.lists.proofs.Ranges.{has-stretch, stretch-has}
use Rattle.diagrams.specs.Isomorphism.{RootedIsomorphic}
use Rattle.diagrams.specs.Check.{Accepts}
use Rattle.words.specs.Outputs.{overwrite}
use Rattle.labelling.specs.Labelling.{word_of}
use Rattle.labelling.proofs.OfLists.{isomorphic-words}
use Rattle.listing.specs.Listing.{count}
use Rattle.listing.specs.Position.{position}
use Rattle.listing.specs.Diagrams.{diagram_at}
use Rattle.listing.proofs.Positions.{at_once}
use Rattle.listing.proofs.InPlace.{at_size, at-word_of, at-characteristic, at-accepted, position-counted, position-isomorphic, position-only}
use Rattle.book.specs.declared.types.Book.{Book}
use Rattle.refusals.specs.declared.Refusal.{Refusal}
use Rattle.book.specs.declared.types.Taken.{Taken}
use Rattle.book.specs.declared.types.Progress.{Progress}
use Rattle.book.specs.Shares.{first, next, ticket, committed, complete, holder}
use Rattle.book.specs.Valid.{among}
use Rattle.book.specs.Calls.{unless, open_number, open_answer, open_book, opened, due, take_number, take_list, book_moved_on, commit_answer, commit_book, positions, commit_range_answer, commit_range_book, report_answer}
use Rattle.book.specs.Taken.{TakePromise}
use Rattle.book.specs.Holding.{ShareHolds}
use Rattle.book.proofs.Partition.{share-of, held_in}
use Rattle.book.proofs.ValidBook.{facts-valid, among-true}
use Rattle.book.proofs.Accepted.{zero-unless, TicketAt, ticket-unfinished}
use Rattle.book.proofs.Ledger.{Ledger, passed-held, next-uncommitted, ledger-opened, finished_all, all_finished, complete-shares, shares-complete}
use Rattle.book.proofs.CallLaws.{ledger-claim, ledger-take, ledger-commit, ledger-release, commit-good, committed-number, take-good}
use Rattle.book.proofs.CommitRange.{moved-next, good-in, ledger-range, range-good, range-committed}
use Rattle.theorems.specs.FirstList.{Call, claim, take, commit, commit_range, release, report, book_after, book_after_all, committed_by, commits, ShareFinished, IsAt, EachOnce, InPlace, Due, TakeGives, CommitRecords, RangeRecords, FirstList, FirstListHolds, reported}

-- ---- the ledger along a list

pub ledger-after : (n k : ℕ) (b : Book) (C : List ℕ) → Ledger n k b C → (c : Call) → Ledger n k (book_after b c) (C ++ committed_by b c)
ledger-after n k b C L (claim tick j len) = rw append-nil (ledger-claim n k b C L tick j len)
ledger-after n k b C L (take tick t s0 s1 word) = rw append-nil (ledger-take n k b C L tick t (length s0) (length s1) (length word))
ledger-after n k b C L (commit tick t p) = ledger-commit n k b C L tick t p
ledger-after n k b C L (commit_range tick t p q) = ledger-range n k b C L tick t p q
ledger-after n k b C L (release tick t) = rw append-nil (ledger-release n k b C L tick t)
ledger-after n k b C L report = rw append-nil L

pub ledger-all : (n k : ℕ) (calls : List Call) (b : Book) (C : List ℕ) → Ledger n k b C → Ledger n k (book_after_all b calls) (C ++ commits b calls)
ledger-all n k [] b C L = rw append-nil L
ledger-all n k (c ∷ calls) b C L = rw append_assoc at (ledger-all n k calls (book_after b c) (C ++ committed_by b c) (ledger-after n k b C L c))

-- ---- the diagrams of a size

module _ (n : ℕ) (N : OneTo 50 n) where
  pub in_place : (p : ℕ) → OneTo (count n) p → InPlace n p
  in_place p e = record {
    counted = e;
    in_form = record { accepted = at-accepted n p e (omega arith); relabelled = at-characteristic n p e };
    sized = at_size n p e;
    its_word = at-word_of n p e;
  }

  -- two positions with isomorphic diagrams are one
  class-once : (p q : ℕ) → OneTo (count n) p → OneTo (count n) q → RootedIsomorphic (diagram_at n p).black (diagram_at n p).white 1 (diagram_at n q).black (diagram_at n q).white 1 → p ≡ q
  class-once p q e f i =
      at_once n p q e f
      (sym (at-word_of n p e)
      ∙ isomorphic-words (diagram_at n p).black (diagram_at n p).white 1 (at-accepted n p e (omega arith)) (diagram_at n q).black (diagram_at n q).white 1 (at-accepted n q f (omega arith)) i
      ∙ at-word_of n q f)

-- a rooted diagram of size n is at exactly one position
pub placed-once : (n : ℕ) (s0 s1 : List ℕ) (root : ℕ) → Accepts s0 s1 root → length s0 ≡ n → n ≤ 1024
    → OneTo (count n) (position n (word_of s0 s1 root)) × IsAt n s0 s1 root (position n (word_of s0 s1 root)) × ((q : ℕ) → OneTo (count n) q → IsAt n s0 s1 root q → q ≡ position n (word_of s0 s1 root))
placed-once n s0 s1 root A l h = rw (← l) (position-counted s0 s1 root A, position-isomorphic s0 s1 root A, λ q e i. position-only s0 s1 root A q e (rw l h) i)

-- ---- an accepted open

pub record OpenGood (lent : Book) (n k : ℕ) : Type 0 where
  pub size_in : OneTo 50 n
  pub shares_in : OneTo 32 k
  pub left : open_book lent n k ≡ opened n k

pub open-good : (lent : Book) (n k : ℕ) → open_answer n k ≡ Ok tt → OpenGood lent n k
unfolding open_answer open_book
open-good lent n k e = go (same? (open_number n k) 0)
  where
    go : (open_number n k ≡ 0) ⊎ (open_number n k ≢ 0) → OpenGood lent n k
    go (inl z) =
        let q = zero-unless (among 50 n) 31 (unless (among 32 k) 51 0) (omega arith) (unfold open_number in z) in
        let r = zero-unless (among 32 k) 51 0 (omega arith) q.1 in
        record { size_in = among-true 50 n q.0; shares_in = among-true 32 k r.0; left = rw (eqb-eq _ _ z) }
    go (inr z) = absurd (let r = rw (eqb-ne _ _ z) at e in let y : ◌≡◌ {A = ℕ} 0 1 = cc in omega arith)

-- ---- the theorem, from the opened book

module _ (n k : ℕ) (N : OneTo 50 n) (K : OneTo 32 k) (calls : List Call) where
  abbrev b : Book
  b = book_after_all (opened n k) calls

  abbrev C : List ℕ
  C = commits (opened n k) calls

  pub ledger : Ledger n k b C
  ledger = ledger-all n k calls (opened n k) [] (ledger-opened n k N K)

  some : 0 < k
  some = K.0

  committed-in : (p : ℕ) → Has p C → OneTo (count n) p
  committed-in p h = let q = ledger.from_share p h in held_in n k some q.0 p (passed-held ledger q.0 p q.1 q.2 q.3)

  counts : report_answer b ≡ reported (length C) (complete b)
  unfolding report_answer
  counts = rw (facts-valid b ledger.is_valid, ledger.total)

  -- what a report says
  abbrev said : Result Progress Refusal → Bool
  said (Ok p) = p.complete
  said (Err e) = false

  -- the report says complete exactly if the book is
  says-complete : (report_answer b ≡ reported (length C) true) ↔ (complete b ≡ true)
  says-complete = (λ e. ap said (sym counts ∙ e), λ c. counts ∙ ap (reported (length C)) c)

  complete_exactly : (complete b ≡ true) ↔ ((j : ℕ) → OneTo k j → ShareFinished n k C j)
  complete_exactly = (
    λ c j e p H. finished_all n k b C ledger some j e (complete-shares n k b C ledger some c j e) p H,
    λ f. shares-complete n k b C ledger some (λ j e. all_finished n k b C ledger some j e (f j e)),
  )

  -- once complete, every position is committed
  every-position : complete b ≡ true → (p : ℕ) → OneTo (count n) p → Has p C
  every-position c p e = let q = share-of n k some p e in complete_exactly.0 c q.0 q.1.share p q.1

  each_once : complete b ≡ true → EachOnce n C
  each_once c s0 s1 root A l =
      let q = placed-once n s0 s1 root A l (omega arith) in
      (position n (word_of s0 s1 root), every-position c (position n (word_of s0 s1 root)) q.0, q.1, λ p h i. q.2 p (committed-in p h) i)

  once-complete : EachOnce n C → complete b ≡ true
  once-complete E = complete_exactly.1 (λ j e p H. there p (held_in n k some j p H))
    where
      there : (p : ℕ) → OneTo (count n) p → Has p C
      there p e =
          let q = E (diagram_at n p).black (diagram_at n p).white 1 (at-accepted n p e (omega arith)) (at_size n p e) in
          rw (class-once n N p q.0 e (committed-in q.0 q.1) q.2) q.1

  -- the share of a ticket that is good, at its next position
  due-held : (t j : ℕ) → TicketAt b t j → ShareHolds n k j (next b j)
  due-held t j T = record {
    share = rw ledger.shared at T.share_in;
    from = rw (ledger.sized, ledger.shared) at (ledger.is_valid.share j T.share_in).from;
    to = rw (ledger.sized, ledger.shared) at (ticket-unfinished b t j ledger.is_valid T);
  }

  is-due : (t : ℕ) → TicketAt b t (holder b t) → Due n k b C t (holder b t) (next b (holder b t))
  is-due t T =
      let j = holder b t in
      let H = due-held t j T in
      record {
        sized = ledger.sized;
        some_ticket = T.some;
        stands = T.is;
        is_next = refl;
        held = H;
        not_yet = next-uncommitted ledger j H;
        all_before = λ q l u. ledger.to_list j q H.share l u;
        in_place = in_place n N (next b j) (held_in n k some j (next b j) H);
      }

  -- what an accepted take leaves in a list
  listed-over : (tick t l0 l1 lw : ℕ) (x a : List ℕ) → take_number b tick t l0 l1 lw ≡ 0 → take_list b tick t l0 l1 lw x a ≡ overwrite x a
  unfolding take_list
  listed-over tick t l0 l1 lw x a e = rw (eqb-eq _ _ e)

  takes : (tick t : ℕ) (s0 s1 word : List ℕ) (g : Taken) (b' : Book) (c0 c1 cw : List ℕ) → TakePromise b tick t s0 s1 word (Ok g) b' c0 c1 cw → TakeGives n k b C t s0 s1 word g.share g.position g.length c0 c1 cw
  unfolding due
  takes tick t s0 s1 word g b' c0 c1 cw T =
      let G = take-good b tick t (length s0) (length s1) (length word) g (sym T.answered) in
      let z = ledger.sized in
      rw (G.share-is, G.position-is) record {
        due = is-due t G.good.stands;
        word_length = rw z at G.length_is;
        written = record {
          s0_written = rw z at (T.s0_is ∙ listed-over tick t _ _ _ _ s0 G.number);
          s1_written = rw z at (T.s1_is ∙ listed-over tick t _ _ _ _ s1 G.number);
          word_written = rw z at (T.word_is ∙ listed-over tick t _ _ _ _ word G.number);
        };
      }

  records : (tick t p : ℕ) → commit_answer b tick t p ≡ Ok tt → CommitRecords n k b C t p (commit_book b tick t p)
  unfolding commit_book book_moved_on
  records tick t p e =
      let z = committed-number b tick t p e in
      let G = commit-good n k b C ledger tick t p z in
      rw (eqb-eq _ _ z) (rw G.names record {
        share = holder b t;
        due = is-due t G.good.stands;
        moved_on = moved-next b tick (holder b t) ledger.long (good-in b tick t ledger.long G.good) (suc (next b (holder b t)));
      })

  in_range : (p q : ℕ) → p ≤ q → (x : ℕ) → Has x (positions p q) ↔ ((p ≤ x) × (x ≤ q))
  unfolding positions
  in_range p q l x = (λ h. (let i = stretch-has p (suc q - p) x h in omega arith), λ i. has-stretch p (suc q - p) x i.0 (let u = i.1 in omega arith))

  records_range : (tick t p q : ℕ) → commit_range_answer b tick t p q ≡ Ok tt → RangeRecords n k b C t p q (commit_range_book b tick t p q)
  records_range tick t p q e =
      let G = range-good b tick t p q ledger.long (range-committed b tick t p q e) in
      let D = is-due t G.good.stands in
      record {
        share = holder b t;
        due = rw G.names D;
        ordered = G.ordered;
        held = record { share = D.held.share; from = (let x = D.held.from in let y = G.names in let z = G.ordered in omega arith); to = rw (ledger.sized, ledger.shared) at G.within };
        moved_on = rw (← G.left) (moved-next b tick (holder b t) ledger.long (good-in b tick t ledger.long G.good) (suc q));
        commits_each = in_range p q G.ordered;
      }

  first_list : FirstList n k b C
  first_list = record {
    counts = (complete b, counts);
    complete_exactly = (λ e. complete_exactly.0 (says-complete.0 e), λ f. says-complete.1 (complete_exactly.1 f));
    whole_exactly = (λ e. each_once (says-complete.0 e), λ E. says-complete.1 (once-complete E));
    never_twice = ledger.once;
    no_class_twice = λ p q h i. class-once n N p q (committed-in p h) (committed-in q i);
    in_place = λ p h. in_place n N p (committed-in p h);
    takes = takes;
    records = records;
    records_range = records_range;
  }

pub first-list-holds : FirstListHolds
first-list-holds lent n k e calls = let G = open-good lent n k e in rw G.left (first_list n k G.size_in G.shares_in calls)
