-- Tickets: one that stands nowhere or has lapsed has no power, and one that has been issued and stands nowhere never stands again.
use mathlib.Core.Path.{◌≡◌, refl, sym, ap, ◌∙◌}
use mathlib.Core.Logic.{◌≢◌, ◌⊎◌, inl, inr, ⊎_elim}
use mathlib.Core.Bool.{Bool, true, false, cond}
use Prim.Native.Nat.{ℕ, zero, suc, ◌+◌, ◌≤◌, ◌<◌}
use native.Mathlib.Omega.{arith}
use lib.Dec.{eqb, leb, ltb}
use Rattle.std.specs.Prelude.{Ok}
use Rattle.lists.specs.Lists.{at}
use Rattle.lists.specs.Ranges.{OneTo}
use Rattle.lists.proofs.Tests.{eqb-eq, eqb-ne, leb-true, same?}
use Rattle.book.specs.declared.types.Book.{Book}
use Rattle.book.specs.Shares.{next, ticket, expiry, finished, standing, holder, lapsed}
use Rattle.book.specs.Calls.{unless, entered, ticked, claim_number, claim_book, take_number, take_book, commit_number, commit_book, book_moved_on, moved_to, release_number, release_answer, release_book, due}
use Rattle.book.proofs.ValidBook.{ValidBook, Long, entered-ticket, other-ticket}
use Rattle.book.proofs.Accepted.{TicketGood, claim-good, ticket-good}

-- ---- a ticket that stands at no share

unfoldable pub Nowhere : Book → ℕ → Type 0
Nowhere b t = (t ≡ 0) ⊎ ((j : ℕ) → OneTo b.shares j → ticket b j ≢ t)

standing-none : (b : Book) (t m : ℕ) → standing b t m ≡ 0 → (j : ℕ) → OneTo m j → ticket b j ≢ t
standing-none b t zero e j i q = omega arith
standing-none b t (suc m) e j i q = go (same? (ticket b (suc m)) t) (same? j (suc m)) (λ a f. standing-none b t m a j f q)
  where
    go : (ticket b (suc m) ≡ t) ⊎ (ticket b (suc m) ≢ t) → (j ≡ suc m) ⊎ (j ≢ suc m) → (standing b t m ≡ 0 → OneTo m j → ⊥) → ⊥
    go (inl a) r k = let z : suc m ≡ 0 = rw (eqb-eq _ _ a) at e in omega arith
    go (inr a) (inl r) k = a (rw r at q)
    go (inr a) (inr r) k = k (rw (eqb-ne _ _ a) at e) (omega arith)

none-standing : (b : Book) (t m : ℕ) → ((j : ℕ) → OneTo m j → ticket b j ≢ t) → standing b t m ≡ 0
none-standing b t zero h = refl
none-standing b t (suc m) h = rw (eqb-ne _ _ (h (suc m) (omega arith))) (none-standing b t m (λ j i. h j (omega arith)))

pub holder-nowhere : (b : Book) (t : ℕ) → holder b t ≡ 0 → Nowhere b t
unfolding holder Nowhere
holder-nowhere b t e = go (same? t 0)
  where
    go : (t ≡ 0) ⊎ (t ≢ 0) → (t ≡ 0) ⊎ ((j : ℕ) → OneTo b.shares j → ticket b j ≢ t)
    go (inl z) = inl z
    go (inr z) = inr (standing-none b t b.shares (rw (eqb-ne _ _ z) at e))

pub nowhere-holder : (b : Book) (t : ℕ) → Nowhere b t → holder b t ≡ 0
unfolding holder Nowhere
nowhere-holder b t (inl z) = rw (eqb-eq _ _ z)
nowhere-holder b t (inr h) = go (same? t 0)
  where
    go : (t ≡ 0) ⊎ (t ≢ 0) → cond (eqb t 0) 0 (standing b t b.shares) ≡ 0
    go (inl z) = rw (eqb-eq _ _ z)
    go (inr z) = rw (eqb-ne _ _ z) (none-standing b t b.shares h)

-- ---- it stays so

-- other entries at share j, with a ticket that is not t
entered-nowhere : (b : Book) (tick issues j p u e t : ℕ) → Long b → OneTo 32 j → u ≢ t → Nowhere b t → Nowhere (entered b tick issues j p u e) t
unfolding Nowhere entered
entered-nowhere b tick issues j p u e t L k n (inl z) = inl z
entered-nowhere b tick issues j p u e t L k n (inr h) = inr (λ i a q. go i a q (same? i j))
  where
    go : (i : ℕ) → OneTo b.shares i → ticket (entered b tick issues j p u e) i ≡ t → (i ≡ j) ⊎ (i ≢ j) → ⊥
    go i a q (inl z) = n (sym (entered-ticket b tick issues j p u e L k) ∙ ap (ticket (entered b tick issues j p u e)) (sym z) ∙ q)
    go i a q (inr z) = h i a (sym (other-ticket b tick issues j p u e L k i z) ∙ q)

-- t has been issued and stands nowhere
pub record Gone (b : Book) (t : ℕ) : Type 0 where
  pub issued : t ≤ b.issued
  pub nowhere : Nowhere b t

entered-gone : (b : Book) (tick issues j p u e t : ℕ) → Long b → OneTo 32 j → b.issued ≤ issues → (t ≡ 0) ⊎ (u ≢ t) → Gone b t → Gone (entered b tick issues j p u e) t
entered-gone b tick issues j p u e t L k l (inl z) G = record { issued = unfold entered in (rw z (omega arith)); nowhere = unfold Nowhere in (inl z) }
entered-gone b tick issues j p u e t L k l (inr n) G = record { issued = unfold entered in (let x = G.issued in omega arith); nowhere = entered-nowhere b tick issues j p u e t L k n G.nowhere }

-- the ticket of a share is another, or t is 0
other-than : (b : Book) (t j : ℕ) → Nowhere b t → OneTo b.shares j → (t ≡ 0) ⊎ (ticket b j ≢ t)
unfolding Nowhere
other-than b t j (inl z) e = inl z
other-than b t j (inr h) e = inr (h j e)

none-than : (t : ℕ) → (t ≡ 0) ⊎ (0 ≢ t)
none-than t = ⊎_elim (λ e. inl e) (λ n. inr (λ q. n (sym q))) (same? t 0)

module _ (b : Book) (S : ValidBook b) (L : Long b) (t : ℕ) (G : Gone b t) where
  in-32 : (j : ℕ) → OneTo b.shares j → OneTo 32 j
  in-32 j e = let z = S.shares_in in omega arith

  pub gone-claim : (tick j len : ℕ) → Gone (claim_book b tick j len) t
  unfolding claim_book
  gone-claim tick j len = go (same? (claim_number b tick j len) 0)
    where
      go : (claim_number b tick j len ≡ 0) ⊎ (claim_number b tick j len ≢ 0) → Gone (cond (eqb (claim_number b tick j len) 0) (entered b tick (suc b.issued) j (next b j) (suc b.issued) (tick + len)) b) t
      go (inl e) =
          let c = claim-good b tick j len e in
          rw (eqb-eq _ _ e) (entered-gone b tick (suc b.issued) j (next b j) (suc b.issued) (tick + len) t L (in-32 j c.share_in) (omega arith) (inr (λ q. let x = G.issued in omega arith)) G)
      go (inr e) = rw (eqb-ne _ _ e) G

  pub gone-take : (tick u l0 l1 lw : ℕ) → Gone (take_book b tick u l0 l1 lw) t
  unfolding take_book ticked
  gone-take tick u l0 l1 lw = go (same? (take_number b tick u l0 l1 lw) 0)
    where
      go : (take_number b tick u l0 l1 lw ≡ 0) ⊎ (take_number b tick u l0 l1 lw ≢ 0) → Gone (cond (eqb (take_number b tick u l0 l1 lw) 0) (ticked b tick) b) t
      go (inl e) = rw (eqb-eq _ _ e) record { issued = G.issued; nowhere = unfold Nowhere in G.nowhere }
      go (inr e) = rw (eqb-ne _ _ e) G

  -- a share with a good ticket, given other entries, its own ticket or none among them
  good-gone : (tick u p : ℕ) → TicketGood b tick u → Gone (entered b tick b.issued (holder b u) p 0 0) t × Gone (entered b tick b.issued (holder b u) p (at b.ticket (holder b u)) (at b.expiry (holder b u))) t
  good-gone tick u p T =
      let j = holder b u in
      let i = in-32 j T.stands.share_in in (
        entered-gone b tick b.issued j p 0 0 t L i (omega arith) (none-than t) G,
        entered-gone b tick b.issued j p (at b.ticket j) (at b.expiry j) t L i (omega arith) (other-than b t j G.nowhere T.stands.share_in) G,
      )

  pub gone-release : (tick u : ℕ) → Gone (release_book b tick u) t
  unfolding release_book
  gone-release tick u = go (same? (release_number b tick u) 0)
    where
      go : (release_number b tick u ≡ 0) ⊎ (release_number b tick u ≢ 0) → Gone (cond (eqb (release_number b tick u) 0) (entered b tick b.issued (holder b u) (due b u) 0 0) b) t
      go (inl e) = rw (eqb-eq _ _ e) (good-gone tick u (due b u) (ticket-good b tick u 0 (unfold release_number in e)).0).0
      go (inr e) = rw (eqb-ne _ _ e) G

  gone-moved : (tick u : ℕ) → TicketGood b tick u → Gone (book_moved_on b tick (holder b u)) t
  unfolding book_moved_on moved_to
  gone-moved tick u T = go (finished (entered b tick b.issued (holder b u) (suc (next b (holder b u))) (at b.ticket (holder b u)) (at b.expiry (holder b u))) (holder b u))
    where
      go : (f : Bool) → Gone (cond f (entered b tick b.issued (holder b u) (suc (next b (holder b u))) 0 0) (entered b tick b.issued (holder b u) (suc (next b (holder b u))) (at b.ticket (holder b u)) (at b.expiry (holder b u)))) t
      go true = (good-gone tick u (suc (next b (holder b u))) T).0
      go false = (good-gone tick u (suc (next b (holder b u))) T).1

  pub gone-commit : (tick u p : ℕ) → Gone (commit_book b tick u p) t
  unfolding commit_book
  gone-commit tick u p = go (same? (commit_number b tick u p) 0)
    where
      go : (commit_number b tick u p ≡ 0) ⊎ (commit_number b tick u p ≢ 0) → Gone (cond (eqb (commit_number b tick u p) 0) (book_moved_on b tick (holder b u)) b) t
      go (inl e) = rw (eqb-eq _ _ e) (gone-moved tick u (ticket-good b tick u (unless (eqb p (due b u)) 60 0) (unfold commit_number in e)).0)
      go (inr e) = rw (eqb-ne _ _ e) G

-- ---- no power

module _ (b : Book) (tick t : ℕ) where
  -- such a ticket would stand somewhere and not have lapsed
  pub not-nowhere : holder b t ≡ 0 → ¬ TicketGood b tick t
  not-nowhere e T = let x = T.stands.share_in in omega arith

  pub not-lapsed : lapsed b (holder b t) tick ≡ true → ¬ TicketGood b tick t
  unfolding lapsed
  not-lapsed e T = let x = leb-true (expiry b (holder b t)) tick e in let y = T.unlapsed in omega arith

  pub released-good : release_answer b tick t ≡ Ok tt → TicketGood b tick t
  unfolding release_answer
  released-good e = go (same? (release_number b tick t) 0)
    where
      go : (release_number b tick t ≡ 0) ⊎ (release_number b tick t ≢ 0) → TicketGood b tick t
      go (inl q) = (ticket-good b tick t 0 (unfold release_number in q)).0
      go (inr q) = absurd (let r = rw (eqb-ne _ _ q) at e in let z : ◌≡◌ {A = ℕ} 0 1 = cc in omega arith)
