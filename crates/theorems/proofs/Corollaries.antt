-- The corollaries of the first list, from the ledger and the laws of tickets.
use mathlib.Core.Path.{◌≡◌, refl, sym, ap, ◌∙◌}
use mathlib.Core.Logic.{◌≢◌, ◌⊎◌, inl, inr, ⊎_elim}
use mathlib.Core.Bool.{true, cond}
use mathlib.Core.List.{List, [], ◌∷◌, ◌++◌}
use Prim.Native.Nat.{ℕ, zero, suc, ◌+◌, ◌≤◌, ◌<◌}
use native.Mathlib.Omega.{arith}
use lib.Dec.{eqb}
use lib.ListN.{length, length-append}
use Rattle.std.specs.Prelude.{Ok}
use Rattle.lists.specs.Lists.{Has}
use Rattle.lists.specs.Ranges.{OneTo}
use Rattle.lists.proofs.Tests.{eqb-eq, eqb-ne, same?}
use Rattle.book.specs.declared.types.Book.{Book}
use Rattle.book.specs.Shares.{first, next, committed, holder}
use Rattle.book.specs.Calls.{opened, entered, due, commit_number, commit_answer, release_number, release_book}
use Rattle.book.specs.Holding.{ShareHolds}
use Rattle.book.proofs.Partition.{share-once}
use Rattle.book.proofs.ValidBook.{other-next, other-ticket, other-expiry}
use Rattle.book.proofs.Accepted.{TicketGood, ticket-good}
use Rattle.book.proofs.Ledger.{Ledger, passed-held}
use Rattle.book.proofs.CallLaws.{commit-good, committed-number, take-good}
use Rattle.book.proofs.Tickets.{Gone, holder-nowhere, nowhere-holder, gone-claim, gone-take, gone-release, gone-commit, not-nowhere, not-lapsed, released-good}
use Rattle.book.proofs.CommitRange.{range-good, range-committed, gone-range}
use Rattle.theorems.specs.FirstList.{Call, claim, take, commit, commit_range, release, report, book_after, book_after_all, committed_by, commits}
use Rattle.theorems.specs.Corollaries.{Powerless, SameShare, Corollaries, CorollariesHold}
use Rattle.theorems.proofs.FirstList.{ledger, ledger-after, ledger-all, open-good}

module _ (n k : ℕ) (b : Book) (C : List ℕ) (L : Ledger n k b C) where
  powerless : (tick t : ℕ) → ¬ TicketGood b tick t → Powerless b tick t
  powerless tick t N = record {
    no_commit = λ p e. N (commit-good n k b C L tick t p (committed-number b tick t p e)).good;
    no_range = λ p q e. N (range-good b tick t p q L.long (range-committed b tick t p q e)).good;
    no_release = λ e. N (released-good b tick t e);
    no_take = λ l0 l1 lw g e. N (take-good b tick t l0 l1 lw g e).good;
  }

  gone-after : (t : ℕ) → Gone b t → (c : Call) → Gone (book_after b c) t
  gone-after t G (claim tick j len) = gone-claim b L.is_valid L.long t G tick j len
  gone-after t G (take tick u s0 s1 word) = gone-take b L.is_valid L.long t G tick u (length s0) (length s1) (length word)
  gone-after t G (commit tick u p) = gone-commit b L.is_valid L.long t G tick u p
  gone-after t G (commit_range tick u p q) = gone-range n k b C L t G tick u p q
  gone-after t G (release tick u) = gone-release b L.is_valid L.long t G tick u
  gone-after t G report = G

  own_share : (tick t j : ℕ) → OneTo 32 j → j ≢ holder b t → SameShare b (release_book b tick t) j
  unfolding release_book
  own_share tick t j e n = go (same? (release_number b tick t) 0)
    where
      go : (release_number b tick t ≡ 0) ⊎ (release_number b tick t ≢ 0) → SameShare b (cond (eqb (release_number b tick t) 0) (entered b tick b.issued (holder b t) (due b t) 0 0) b) j
      go (inl z) =
          let G = (ticket-good b tick t 0 (unfold release_number in z)).0 in
          let i : OneTo 32 (holder b t) = (let x = G.stands.share_in in let y = L.is_valid.shares_in in omega arith) in
          rw (eqb-eq _ _ z) record {
            same_next = other-next b tick b.issued (holder b t) (due b t) 0 0 L.long i j n;
            same_ticket = other-ticket b tick b.issued (holder b t) (due b t) 0 0 L.long i j n;
            same_expiry = other-expiry b tick b.issued (holder b t) (due b t) 0 0 L.long i j n;
          }
      go (inr z) = rw (eqb-ne _ _ z) record { same_next = refl; same_ticket = refl; same_expiry = refl }

  beginning : 0 < k → (j p q : ℕ) → ShareHolds n k j p → Has p C → first n k j ≤ q → q < p → Has q C
  beginning s j p q H h l u =
      let f = L.from_share p h in
      let e = share-once n k s f.0 j p (passed-held L f.0 p f.1 f.2 f.3) H in
      let z : next b f.0 ≡ next b j = ap (next b) e in
      L.to_list j q H.share l (let y = f.3 in omega arith)

gone-all : (n k : ℕ) (t : ℕ) (more : List Call) (b : Book) (C : List ℕ) → Ledger n k b C → Gone b t → Gone (book_after_all b more) t
gone-all n k t [] b C L G = G
gone-all n k t (c ∷ more) b C L G = gone-all n k t more (book_after b c) (C ++ committed_by b c) (ledger-after n k b C L c) (gone-after n k b C L t G c)

never_falls : (n k : ℕ) (more : List Call) (b : Book) (C : List ℕ) → Ledger n k b C → committed b ≤ committed (book_after_all b more)
never_falls n k more b C L =
    let a = L.total in
    let c = (ledger-all n k more b C L).total in
    let d = length-append C (commits b more) in
    omega arith

corollaries : (n k : ℕ) → OneTo 50 n → OneTo 32 k → (calls : List Call) → Corollaries n k (book_after_all (opened n k) calls) (commits (opened n k) calls)
corollaries n k N K calls =
    let b = book_after_all (opened n k) calls in
    let C = commits (opened n k) calls in
    let L = ledger n k N K calls in
    record {
      ended = λ tick t e. powerless n k b C L tick t (not-nowhere b tick t e);
      lapses = λ tick t e. powerless n k b C L tick t (not-lapsed b tick t e);
      for_good = λ t i e more. (let G : Gone b t = record { issued = i; nowhere = holder-nowhere b t e } in nowhere-holder (book_after_all b more) t (gone-all n k t more b C L G).nowhere);
      own_share = own_share n k b C L;
      beginning = beginning n k b C L K.0;
      never_falls = λ more. never_falls n k more b C L;
    }

pub corollaries-hold : CorollariesHold
corollaries-hold lent n k e calls = let G = open-good lent n k e in rw G.left (corollaries n k G.size_in G.shares_in calls)
