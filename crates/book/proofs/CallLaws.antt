-- What each call does to the ledger, and what an accepted take and an accepted commit tell.
use mathlib.Core.Path.{◌≡◌, refl, sym, ap, ◌∙◌}
use mathlib.Core.Logic.{◌≢◌, ◌⊎◌, inl, inr, ⊎_elim}
use mathlib.Core.Bool.{Bool, true, false, cond}
use mathlib.Core.List.{List, [], ◌∷◌, ◌++◌, append-nil}
use Prim.Native.Nat.{ℕ, zero, suc, ◌+◌, ◌≤◌, ◌<◌}
use native.Mathlib.Omega.{arith}
use lib.Dec.{eqb, leb, ltb}
use lib.ListN.{length}
use Rattle.std.specs.Prelude.{Result, Ok, Err}
use Rattle.lists.specs.Lists.{at}
use Rattle.lists.specs.Ranges.{OneTo}
use Rattle.lists.proofs.Tests.{eqb-eq, eqb-ne, eqb-true, same?, lt?, lt-true, lt-false}
use Rattle.listing.specs.Position.{word_at}
use Rattle.refusals.specs.declared.Refusal.{Refusal}
use Rattle.refusals.specs.Named.{answered}
use Rattle.book.specs.declared.types.Book.{Book}
use Rattle.book.specs.declared.types.Taken.{Taken}
use Rattle.book.specs.Shares.{first, last, next, ticket, expiry, finished, holder}
use Rattle.book.specs.Calls.{unless, entered, ticked, claim_number, claim_book, due, lists_hold, take_number, take_answer, take_book, commit_number, commit_answer, commit_book, book_moved_on, moved_to, release_number, release_book, ticket_number}
use Rattle.book.proofs.ValidBook.{ValidBook, Long, Fitting, entered-valid, entered-long, entered-next, other-next, ticked-valid}
use Rattle.book.proofs.Accepted.{zero-unless, TicketGood, ticket-good, ticket-unfinished, freed, kept_on, ClaimGood, claim-good, claim-fits}
use Rattle.book.proofs.Ledger.{Ledger, ledger-same, ledger-more}

module _ (n k : ℕ) (b : Book) (C : List ℕ) (L : Ledger n k b C) where
  -- a share is one of 32
  in-32 : (j : ℕ) → OneTo b.shares j → OneTo 32 j
  in-32 j e = let z = L.is_valid.shares_in in omega arith

  -- new entries at share j that leave its next position
  ledger-entered : (tick issues j t e : ℕ) → Fitting b tick issues j (next b j) t e → Ledger n k (entered b tick issues j (next b j) t e) C
  unfolding entered
  ledger-entered tick issues j t e F =
      ledger-same n k b (entered b tick issues j (next b j) t e) C L refl refl
      (entered-valid b tick issues j (next b j) t e L.long (in-32 j F.share_in) L.is_valid F)
      (entered-long b tick issues j (next b j) t e L.long (in-32 j F.share_in))
      (λ i a. go i (same? i j))
    where
      go : (i : ℕ) → (i ≡ j) ⊎ (i ≢ j) → next (entered b tick issues j (next b j) t e) i ≡ next b i
      go i (inl q) = rw q (entered-next b tick issues j (next b j) t e L.long (in-32 j F.share_in))
      go i (inr q) = other-next b tick issues j (next b j) t e L.long (in-32 j F.share_in) i q

  pub ledger-claim : (tick j len : ℕ) → Ledger n k (claim_book b tick j len) C
  unfolding claim_book
  ledger-claim tick j len = go (same? (claim_number b tick j len) 0)
    where
      go : (claim_number b tick j len ≡ 0) ⊎ (claim_number b tick j len ≢ 0)
          → Ledger n k (cond (eqb (claim_number b tick j len) 0) (entered b tick (suc b.issued) j (next b j) (suc b.issued) (tick + len)) b) C
      go (inl e) = rw (eqb-eq _ _ e) (ledger-entered tick (suc b.issued) j (suc b.issued) (tick + len) (claim-fits b tick j len (claim-good b tick j len e)))
      go (inr e) = rw (eqb-ne _ _ e) L

  pub ledger-take : (tick t l0 l1 lw : ℕ) → Ledger n k (take_book b tick t l0 l1 lw) C
  unfolding take_book
  ledger-take tick t l0 l1 lw = go (same? (take_number b tick t l0 l1 lw) 0)
    where
      accepted : TicketGood b tick t → Ledger n k (ticked b tick) C
      accepted G = unfold ticked in (ledger-same n k b (ticked b tick) C L refl refl (ticked-valid b tick G.later G.tick_small L.is_valid) record { next_long = L.long.next_long; ticket_long = L.long.ticket_long; expiry_long = L.long.expiry_long } (λ j e. refl))

      go : (take_number b tick t l0 l1 lw ≡ 0) ⊎ (take_number b tick t l0 l1 lw ≢ 0) → Ledger n k (cond (eqb (take_number b tick t l0 l1 lw) 0) (ticked b tick) b) C
      go (inl e) = rw (eqb-eq _ _ e) (accepted (ticket-good b tick t (unless (lists_hold b.size l0 l1 lw) 9 0) (unfold take_number in e)).0)
      go (inr e) = rw (eqb-ne _ _ e) L

  pub ledger-release : (tick t : ℕ) → Ledger n k (release_book b tick t) C
  unfolding release_book due
  ledger-release tick t = go (same? (release_number b tick t) 0)
    where
      go : (release_number b tick t ≡ 0) ⊎ (release_number b tick t ≢ 0) → Ledger n k (cond (eqb (release_number b tick t) 0) (entered b tick b.issued (holder b t) (next b (holder b t)) 0 0) b) C
      go (inl e) =
          let G = (ticket-good b tick t 0 (unfold release_number in e)).0 in
          let s = L.is_valid.share (holder b t) G.stands.share_in in
          rw (eqb-eq _ _ e) (ledger-entered tick b.issued (holder b t) 0 0 (freed b tick t G (next b (holder b t)) s.from s.to))
      go (inr e) = rw (eqb-ne _ _ e) L

  -- an accepted commit: its ticket is good, and it names the share's next position
  pub record CommitGood (tick t p : ℕ) : Type 0 where
    pub good : TicketGood b tick t
    pub names : p ≡ next b (holder b t)

  pub commit-good : (tick t p : ℕ) → commit_number b tick t p ≡ 0 → CommitGood tick t p
  unfolding commit_number due
  commit-good tick t p e =
      let q = ticket-good b tick t (unless (eqb p (next b (holder b t))) 60 0) e in
      record { good = q.0; names = eqb-true _ _ (zero-unless (eqb p (next b (holder b t))) 60 0 (omega arith) q.1).0 }

  -- the share of a good ticket moves on by one
  ledger-on : (tick t p e : ℕ) → (G : TicketGood b tick t) → Fitting b tick b.issued (holder b t) (suc (next b (holder b t))) p e
      → Ledger n k (entered b tick b.issued (holder b t) (suc (next b (holder b t))) p e) (C ++ (next b (holder b t) ∷ []))
  unfolding entered
  ledger-on tick t p e G F =
      let j = holder b t in
      let x = suc (next b (holder b t)) in
      let i = in-32 j F.share_in in
      ledger-more n k b (entered b tick b.issued j x p e) C L refl refl
      (entered-valid b tick b.issued j x p e L.long i L.is_valid F)
      (entered-long b tick b.issued j x p e L.long i)
      j F.share_in (ticket-unfinished b t j L.is_valid G.stands)
      (entered-next b tick b.issued j x p e L.long i)
      (λ h a q. other-next b tick b.issued j x p e L.long i h q)

  ledger-moved : (tick t : ℕ) → TicketGood b tick t → Ledger n k (book_moved_on b tick (holder b t)) (C ++ (next b (holder b t) ∷ []))
  unfolding book_moved_on moved_to finished
  ledger-moved tick t G = go (lt? (last on.size on.shares j) (next on j))
    where
      j : ℕ
      j = holder b t

      x : ℕ
      x = suc (next b (holder b t))

      on : Book
      on = entered b tick b.issued (holder b t) (suc (next b (holder b t))) (at b.ticket (holder b t)) (at b.expiry (holder b t))

      u : next b (holder b t) ≤ last b.size b.shares (holder b t)
      u = ticket-unfinished b t (holder b t) L.is_valid G.stands

      f : first b.size b.shares (holder b t) ≤ next b (holder b t)
      f = (L.is_valid.share (holder b t) G.stands.share_in).from

      is : next on j ≡ x
      is = entered-next b tick b.issued j x (at b.ticket j) (at b.expiry j) L.long (in-32 j G.stands.share_in)

      go : (last on.size on.shares j < next on j) ⊎ (next on j ≤ last on.size on.shares j)
          → Ledger n k (cond (ltb (last on.size on.shares j) (next on j)) (entered b tick b.issued j x 0 0) on) (C ++ (next b (holder b t) ∷ []))
      go (inl l) = rw (lt-true _ _ l) (ledger-on tick t 0 0 G (freed b tick t G x (let y = f in omega arith) (let y = u in omega arith)))
      go (inr l) = rw (lt-false _ _ l) (ledger-on tick t (at b.ticket j) (at b.expiry j) G (kept_on b tick t G x (let y = f in omega arith) (unfold entered in (rw is at l))))

  pub ledger-commit : (tick t p : ℕ) → Ledger n k (commit_book b tick t p) (C ++ cond (eqb (commit_number b tick t p) 0) (p ∷ []) [])
  unfolding commit_book
  ledger-commit tick t p = go (same? (commit_number b tick t p) 0)
    where
      go : (commit_number b tick t p ≡ 0) ⊎ (commit_number b tick t p ≢ 0)
          → Ledger n k (cond (eqb (commit_number b tick t p) 0) (book_moved_on b tick (holder b t)) b) (C ++ cond (eqb (commit_number b tick t p) 0) (p ∷ []) [])
      go (inl e) = let G = commit-good tick t p e in rw (eqb-eq _ _ e, G.names) (ledger-moved tick t G.good)
      go (inr e) = rw (eqb-ne _ _ e, append-nil) L

-- ---- what an answer tells

module _ (b : Book) where
  pub committed-number : (tick t p : ℕ) → commit_answer b tick t p ≡ Ok tt → commit_number b tick t p ≡ 0
  unfolding commit_answer
  committed-number tick t p e = go (same? (commit_number b tick t p) 0)
    where
      go : (commit_number b tick t p ≡ 0) ⊎ (commit_number b tick t p ≢ 0) → commit_number b tick t p ≡ 0
      go (inl q) = q
      go (inr q) = absurd (let r = rw (eqb-ne _ _ q) at e in let z : ◌≡◌ {A = ℕ} 0 1 = cc in omega arith)

  -- an accepted take: its ticket is good, the lists are long enough, and it gives the share's next position
  pub record TakeGood (tick t l0 l1 lw : ℕ) (g : Taken) : Type 0 where
    pub number : take_number b tick t l0 l1 lw ≡ 0
    pub good : TicketGood b tick t
    pub share-is : g.share ≡ holder b t
    pub position-is : g.position ≡ next b (holder b t)
    pub length_is : g.length ≡ length (word_at b.size (next b (holder b t)))

  pub take-good : (tick t l0 l1 lw : ℕ) (g : Taken) → take_answer b tick t l0 l1 lw ≡ Ok g → TakeGood tick t l0 l1 lw g
  unfolding take_answer due
  take-good tick t l0 l1 lw g e = go (same? (take_number b tick t l0 l1 lw) 0)
    where
      go : (take_number b tick t l0 l1 lw ≡ 0) ⊎ (take_number b tick t l0 l1 lw ≢ 0) → TakeGood tick t l0 l1 lw g
      go (inl q) =
          let r = rw (eqb-eq _ _ q) at e in
          let d : ◌≡◌ {A = Taken} (record { share = holder b t; position = next b (holder b t); length = length (word_at b.size (next b (holder b t))) }) g = cc in
          record { number = q; good = (ticket-good b tick t (unless (lists_hold b.size l0 l1 lw) 9 0) (unfold take_number in q)).0; share-is = sym (ap (λ (x : Taken). x.share) d); position-is = sym (ap (λ (x : Taken). x.position) d); length_is = sym (ap (λ (x : Taken). x.length) d) }
      go (inr q) = absurd (let r = rw (eqb-ne _ _ q) at e in let z : ◌≡◌ {A = ℕ} 0 1 = cc in omega arith)
