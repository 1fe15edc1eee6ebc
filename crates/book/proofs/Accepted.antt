-- What an accepted call tells of the book, and that the book it leaves is valid again.
use mathlib.Core.Path.{◌≡◌, refl, sym, ◌∙◌}
use mathlib.Core.Logic.{◌≢◌, ◌⊎◌, inl, inr}
use mathlib.Core.Bool.{Bool, true, false, cond}
use Prim.Native.Nat.{ℕ, zero, suc, ◌+◌, ◌^◌, ◌≤◌, ◌<◌}
use native.Mathlib.Omega.{arith}
use lib.Dec.{eqb, leb, ltb}
use borrow.Author.Tests.{ltb-false, leb-false}
use Rattle.lists.specs.Lists.{at}
use Rattle.lists.specs.Ranges.{OneTo}
use Rattle.lists.proofs.Tests.{both_true, eqb-true, eqb-false, eqb-ne, eqb-eq, leb-true, ltb-true, same?, lt?}
use Rattle.book.specs.declared.types.Book.{Book}
use Rattle.book.specs.Shares.{first, last, next, ticket, expiry, finished, standing, holder, lapsed}
use Rattle.book.specs.Valid.{among, valid}
use Rattle.book.specs.Calls.{unless, not, tick_in, claim_number, ticket_number, held}
use Rattle.book.proofs.ValidBook.{ShareValid, ValidBook, valid-facts, among-true, not-true, Fitting}

-- no number: the test held, and neither was a number answered after it
pub zero-unless : (t : Bool) (k rest : ℕ) → 0 < k → unless t k rest ≡ 0 → (t ≡ true) × (rest ≡ 0)
zero-unless true k rest h e = (refl, e)
zero-unless false k rest h e = absurd (omega arith)

-- ---- the share where a ticket stands

pub record TicketAt (b : Book) (t j : ℕ) : Type 0 where
  pub share_in : OneTo b.shares j
  pub some : t ≢ 0
  pub is : ticket b j ≡ t

ticket-below : (b : Book) (t m : ℕ) → standing b t m ≢ 0 → OneTo m (standing b t m) × (ticket b (standing b t m) ≡ t)
ticket-below b t zero n = absurd (n refl)
ticket-below b t (suc m) n = go (same? (ticket b (suc m)) t) (ticket-below b t m)
  where
    go : (ticket b (suc m) ≡ t) ⊎ (ticket b (suc m) ≢ t) → (standing b t m ≢ 0 → OneTo m (standing b t m) × (ticket b (standing b t m) ≡ t))
        → OneTo (suc m) (standing b t (suc m)) × (ticket b (standing b t (suc m)) ≡ t)
    go (inl e) r = rw (eqb-eq _ _ e) (omega arith, e)
    go (inr e) r = rw (eqb-ne _ _ e) (let q = r (rw (eqb-ne _ _ e) at n) in (omega arith, q.1))

pub holder-has-ticket : (b : Book) (t : ℕ) → holder b t ≢ 0 → TicketAt b t (holder b t)
unfolding holder
holder-has-ticket b t n = go (same? t 0)
  where
    go : (t ≡ 0) ⊎ (t ≢ 0) → TicketAt b t (cond (eqb t 0) 0 (standing b t b.shares))
    go (inl e) = absurd (n (rw (eqb-eq _ _ e)))
    go (inr e) =
        let q = ticket-below b t b.shares (rw (eqb-ne _ _ e) at n) in
        rw (eqb-ne _ _ e) record { share_in = q.0; some = e; is = q.1 }

-- ---- take, commit, release

pub record TicketGood (b : Book) (tick t : ℕ) : Type 0 where
  pub is_valid : ValidBook b
  pub later : b.latest ≤ tick
  pub tick_small : tick < 2 ^ 48
  pub stands : TicketAt b t (holder b t)
  pub unlapsed : tick < expiry b (holder b t)

pub tick-facts : (b : Book) (tick : ℕ) → tick_in b tick ≡ true → (b.latest ≤ tick) × (tick < 2 ^ 48)
unfolding tick_in
tick-facts b tick e = let q = both_true (leb b.latest tick) _ e in (leb-true _ _ q.0, ltb-true _ _ q.1)

pub ticket-good : (b : Book) (tick t rest : ℕ) → ticket_number b tick t rest ≡ 0 → TicketGood b tick t × (rest ≡ 0)
unfolding ticket_number lapsed
ticket-good b tick t rest e =
    let q = zero-unless (valid b) 50 _ (omega arith) e in
    let r = zero-unless (tick_in b tick) 52 _ (omega arith) q.1 in
    let s = zero-unless (not (eqb (holder b t) 0)) 58 _ (omega arith) r.1 in
    let u = zero-unless (not (leb (expiry b (holder b t)) tick)) 59 _ (omega arith) s.1 in
    let f = tick-facts b tick r.0 in (
      record {
        is_valid = valid-facts b q.0;
        later = f.0;
        tick_small = f.1;
        stands = holder-has-ticket b t (eqb-false _ _ (not-true _ s.0));
        unlapsed = leb-false _ _ (not-true _ u.0);
      },
      u.1,
    )

-- a share with a ticket is not finished
pub ticket-unfinished : (b : Book) (t j : ℕ) → ValidBook b → TicketAt b t j → next b j ≤ last b.size b.shares j
ticket-unfinished b t j S T = go (lt? (last b.size b.shares j) (next b j))
  where
    go : (last b.size b.shares j < next b j) ⊎ (next b j ≤ last b.size b.shares j) → next b j ≤ last b.size b.shares j
    go (inl l) = absurd (T.some (sym T.is ∙ (S.share j T.share_in).free l))
    go (inr l) = l

-- two shares with one ticket are one share
pub ticket-distinct : (b : Book) (t j : ℕ) → ValidBook b → TicketAt b t j → (i : ℕ) → OneTo b.shares i → i ≢ j → ticket b i ≢ t
ticket-distinct b t j S T i e n q = go (lt? i j)
  where
    go : (i < j) ⊎ (j ≤ i) → ⊥
    go (inl l) = (S.share j T.share_in).once i e.0 l (λ z. T.some (sym T.is ∙ z)) (q ∙ sym T.is)
    go (inr l) = (S.share i e).once j T.share_in.0 (omega arith) (λ z. T.some (sym q ∙ z)) (T.is ∙ sym q)

module _ (b : Book) (tick t : ℕ) (G : TicketGood b tick t) where
  abbrev j : ℕ
  j = holder b t

  abbrev S : ValidBook b
  S = G.is_valid

  s : ShareValid b (holder b t)
  s = S.share j G.stands.share_in

  -- the ticket ends, the share standing at p
  pub freed : (p : ℕ) → first b.size b.shares j ≤ p → p ≤ suc (last b.size b.shares j) → Fitting b tick b.issued j p 0 0
  freed p l u = record {
    share_in = G.stands.share_in;
    later = G.later;
    tick_in = G.tick_small;
    more = omega arith;
    issues_in = S.issued_in;
    from = l;
    to = u;
    free = λ z. refl;
    new = λ z. absurd (z refl);
    issued = omega arith;
    without = λ z. refl;
    soon = omega arith;
  }

  -- the share moves on within its positions, with its ticket
  pub kept_on : (p : ℕ) → first b.size b.shares j ≤ p → p ≤ last b.size b.shares j → Fitting b tick b.issued j p (at b.ticket j) (at b.expiry j)
  kept_on p l u = record {
    share_in = G.stands.share_in;
    later = G.later;
    tick_in = G.tick_small;
    more = omega arith;
    issues_in = S.issued_in;
    from = l;
    to = omega arith;
    free = λ z. absurd (omega arith);
    new = λ z i e n. rw G.stands.is (ticket-distinct b t j S G.stands i e n);
    issued = s.issued;
    without = s.without;
    soon = let x = s.soon in let y = G.later in omega arith;
  }

-- ---- claim

pub record ClaimGood (b : Book) (tick j len : ℕ) : Type 0 where
  pub is_valid : ValidBook b
  pub later : b.latest ≤ tick
  pub tick_small : tick < 2 ^ 48
  pub share_in : OneTo b.shares j
  pub len_in : OneTo 65535 len
  pub unfinished : next b j ≤ last b.size b.shares j
  pub open_to_claim : (ticket b j ≡ 0) ⊎ (expiry b j ≤ tick)
  pub tickets_left : b.issued < 65535

pub claim-good : (b : Book) (tick j len : ℕ) → claim_number b tick j len ≡ 0 → ClaimGood b tick j len
unfolding claim_number finished held lapsed
claim-good b tick j len e =
    let q = zero-unless (valid b) 50 _ (omega arith) e in
    let r = zero-unless (tick_in b tick) 52 _ (omega arith) q.1 in
    let u = zero-unless (among b.shares j) 53 _ (omega arith) r.1 in
    let v = zero-unless (among 65535 len) 54 _ (omega arith) u.1 in
    let w = zero-unless (not (ltb (last b.size b.shares j) (next b j))) 55 _ (omega arith) v.1 in
    let x = zero-unless (not (cond (not (eqb (at b.ticket j) 0)) (not (leb (at b.expiry j) tick)) false)) 56 _ (omega arith) w.1 in
    let y = zero-unless (ltb b.issued 65535) 57 0 (omega arith) x.1 in
    let f = tick-facts b tick r.0 in
    record {
      is_valid = valid-facts b q.0;
      later = f.0;
      tick_small = f.1;
      share_in = among-true _ _ u.0;
      len_in = among-true _ _ v.0;
      unfinished = ltb-false _ _ (not-true _ w.0);
      open_to_claim = by_tests (eqb (at b.ticket j) 0) (leb (at b.expiry j) tick) (eqb-true (at b.ticket j) 0) (leb-true (at b.expiry j) tick) (not-true _ x.0);
      tickets_left = ltb-true _ _ y.0;
    }
  where
    by_tests : (a c : Bool) → (a ≡ true → ticket b j ≡ 0) → (c ≡ true → expiry b j ≤ tick) → cond (not a) (not c) false ≡ false → (ticket b j ≡ 0) ⊎ (expiry b j ≤ tick)
    by_tests true c f g h = inl (f refl)
    by_tests false true f g h = inr (g refl)
    by_tests false false f g h = absurd (let z : ◌≡◌ {A = ℕ} 0 1 = cc in omega arith)

-- a ticket just issued stands at no share
pub claim-fits : (b : Book) (tick j len : ℕ) → ClaimGood b tick j len → Fitting b tick (suc b.issued) j (next b j) (suc b.issued) (tick + len)
claim-fits b tick j len G =
    let S = G.is_valid in
    let s = S.share j G.share_in in
    record {
      share_in = G.share_in;
      later = G.later;
      tick_in = G.tick_small;
      more = omega arith;
      issues_in = G.tickets_left;
      from = s.from;
      to = s.to;
      free = λ z. (let x = G.unfinished in absurd (omega arith));
      new = λ z i e n q. (let x = (S.share i e).issued in omega arith);
      issued = omega arith;
      without = λ z. absurd (omega arith);
      soon = let x = G.len_in in omega arith;
    }
