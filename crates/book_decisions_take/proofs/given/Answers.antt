-- `given` meets its contract: the next position of the ticket's share is one of the size's, so that only 9 is refused; otherwise its diagram is written.
use mathlib.Core.Path.{◌≡◌, refl}
use mathlib.Core.Logic.{◌⊎◌, inl, inr, ⊎_elim}
use mathlib.Core.Bool.{Bool, true, false, true≢false}
use mathlib.Core.List.{List}
use Prim.Native.Nat.{ℕ, suc}
use lib.Dec.{leb}
use lib.ListN.{length}
use Rattle.std.specs.Prelude.{Ok, Err}
use Rattle.refusals.specs.declared.Refusal.{Refusal}
use Rattle.refusals.specs.declared.Refusal.TheVariants as refusal
use Rattle.refusals.specs.Numbers.{number}
use Rattle.refusals.specs.Named.{named}
use Rattle.refusals.proofs.Numbers.{number-one}
use Rattle.lists.specs.Ranges.{OneTo}
use Rattle.lists.proofs.Tests.{le-true, le-false}
use Rattle.words.specs.Outputs.{Short, Written, Untouched}
use Rattle.words.proofs.Outputs.{long_enough}
use Rattle.listing.specs.Listing.{count}
use Rattle.listing.specs.Position.{word_at}
use Rattle.listing.specs.Diagrams.{diagram_at}
use Rattle.listing_ranking.specs.Promises.{RefusedAt}
use Rattle.book.specs.declared.types.Book.{Book}
use Rattle.book.specs.declared.types.Taken.{Taken}
use Rattle.book.specs.Shares.{next, holder}
use Rattle.book.specs.Valid.{both}
use Rattle.book.specs.Calls.{due, lists_hold, ticked, ticket_number, take_number, take_answer, take_book, take_list}
use Rattle.book_standing.specs.Ask.{AskPromise}
use Rattle.book.specs.Taken.{TakePromise}
use Rattle.book.proofs.Partition.{held_in}
use Rattle.book.proofs.ValidBook.{both_of}
use Rattle.book.proofs.Accepted.{TicketGood, ticket-unfinished}
use Rattle.book_standing.proofs.Found.{asked-good}
use Rattle.book_decisions_take.proofs.given.Goals as goal

-- the test of the room that the lists have
lists-hold-true : (n : ℕ) (a0 a1 aw : List ℕ) → ¬ Short n a0 a1 aw → lists_hold n (length a0) (length a1) (length aw) ≡ true
unfolding lists_hold
lists-hold-true n a0 a1 aw h = let l = long_enough n a0 a1 aw h in both_of _ _ (le-true _ _ l.0) (both_of _ _ (le-true _ _ l.1) (le-true _ _ l.2))

one-false : (x y z : Bool) → (x ≡ false) ⊎ ((y ≡ false) ⊎ (z ≡ false)) → both x (both y z) ≡ false
one-false false y z h = refl
one-false true false z h = refl
one-false true true false h = refl
one-false true true true h = let no : ¬ (true ≡ false) = true≢false in absurd (⊎_elim no (⊎_elim no no) h)

lists-hold-false : (n : ℕ) (a0 a1 aw : List ℕ) → Short n a0 a1 aw → lists_hold n (length a0) (length a1) (length aw) ≡ false
unfolding lists_hold
lists-hold-false n a0 a1 aw h = one-false (leb n (length a0)) (leb n (length a1)) (leb (suc n) (length aw)) (⊎_elim (λ x. inl (le-false _ _ x)) (⊎_elim (λ x. inr (inl (le-false _ _ x))) (λ x. inr (inr (le-false _ _ x)))) h)

module _ (b : Book) (tick t : ℕ) where
  module _ (a0 a1 aw : List ℕ) {c0 c1 cw : List ℕ} (e : (rest : ℕ) → ticket_number b tick t rest ≡ rest) where
    take_short : Short b.size a0 a1 aw → Untouched a0 a1 aw c0 c1 cw → TakePromise b tick t a0 a1 aw (Err refusal.ListShort) b c0 c1 cw
    unfolding take_answer take_book take_list take_number named
    take_short s u = record {
      answered = rw (e _, lists-hold-false _ _ _ _ s);
      left = rw (e _, lists-hold-false _ _ _ _ s);
      s0_is = rw (e _, lists-hold-false _ _ _ _ s) u.s0_same;
      s1_is = rw (e _, lists-hold-false _ _ _ _ s) u.s1_same;
      word_is = rw (e _, lists-hold-false _ _ _ _ s) u.word_same;
    }

    take-given : ¬ Short b.size a0 a1 aw → Written (diagram_at b.size (next b (holder b t))) (word_at b.size (next b (holder b t))) a0 a1 aw c0 c1 cw
        → TakePromise b tick t a0 a1 aw (Ok (record { share = holder b t; position = next b (holder b t); length = length (word_at b.size (next b (holder b t))) })) (ticked b tick) c0 c1 cw
    unfolding take_answer take_book take_list take_number due
    take-given s w = record {
      answered = rw (e _, lists-hold-true _ _ _ _ s);
      left = rw (e _, lists-hold-true _ _ _ _ s);
      s0_is = rw (e _, lists-hold-true _ _ _ _ s) w.s0_written;
      s1_is = rw (e _, lists-hold-true _ _ _ _ s) w.s1_written;
      word_is = rw (e _, lists-hold-true _ _ _ _ s) w.word_written;
    }

  module _ (G : TicketGood b tick t) where
    -- the next position of a share that is not finished is one of the size's
    position_in : OneTo (count b.size) (next b (holder b t))
    position_in =
        let S = G.is_valid in
        held_in b.size b.shares S.shares_in.0 (holder b t) (next b (holder b t)) record { share = G.stands.share_in; from = (S.share (holder b t) G.stands.share_in).from; to = ticket-unfinished b t (holder b t) S G.stands }

    refused-9 : (a0 a1 aw : List ℕ) (k : ℕ) → RefusedAt b.size (next b (holder b t)) a0 a1 aw k → (k ≡ 9) × Short b.size a0 a1 aw
    refused-9 a0 a1 aw k (inl r) = absurd (r.1 G.is_valid.size_in)
    refused-9 a0 a1 aw k (inr (inl r)) = absurd (r.2 position_in)
    refused-9 a0 a1 aw k (inr (inr r)) = (r.0, r.3)

-- the same of a share and a position that are the ticket's
module _ (b : Book) (tick t n j p : ℕ) (e : b.size ≡ n) (a : AskPromise b tick t (Ok j)) (q : p ≡ next b j) (a0 a1 aw : List ℕ) {c0 c1 cw : List ℕ} where
  refused-at : (r : Refusal) → RefusedAt n p a0 a1 aw (number r) → Untouched a0 a1 aw c0 c1 cw → TakePromise b tick t a0 a1 aw (Err r) b c0 c1 cw
  refused-at r f u =
      let z = refused-9 b tick t (asked-good b tick t j a) a0 a1 aw (number r) (rw (← e, q, a.0) at f) in
      rw (number-one r refusal.ListShort z.0) (take_short b tick t a0 a1 aw a.1 z.1 u)

  given-at : (m : ℕ) → ¬ Short n a0 a1 aw → m ≡ length (word_at n p) → Written (diagram_at n p) (word_at n p) a0 a1 aw c0 c1 cw → TakePromise b tick t a0 a1 aw (Ok (record { share = j; position = p; length = m })) (ticked b tick) c0 c1 cw
  given-at m s l w = rw (l, ← e, q, a.0) (take-given b tick t a0 a1 aw a.1 (rw (← e) at s) (rw (← e, q, a.0) at w))

pub returns-in-Err : goal.returns-in-Err
returns-in-Err c =
    let g = c.in-Err.ensures in
    (λ b t e a q. refused-at b c.args.tick t _ _ _ e a q c.args.s0.now c.args.s1.now c.args.word.now _ g.0 g.1, tt)

pub returns-in-Ok : goal.returns-in-Ok
returns-in-Ok c =
    let g = c.in-Ok.ensures in
    (λ b t e a q. given-at b c.args.tick t _ _ _ e a q c.args.s0.now c.args.s1.now c.args.word.now _ g.2 g.3 g.4, tt)
