-- A range of commits in closed form: under a good ticket the commits from the share's next position on are accepted one after another, and move the
-- share on, up to its last position; the commit after that finds the ticket ended.
use mathlib.Core.Path.{◌≡◌, refl, sym, ap, ◌∙◌}
use mathlib.Core.Logic.{◌≢◌, ◌⊎◌, inl, inr}
use mathlib.Core.Bool.{Bool, true, false, cond}
use mathlib.Core.List.{List, [], ◌∷◌, ◌++◌, append-nil, append_assoc}
use Prim.Native.Nat.{ℕ, zero, suc, ◌+◌, ◌-◌, ◌^◌, ◌≤◌, ◌<◌}
use native.Mathlib.Omega.{arith}
use lib.Dec.{eqb, leb, ltb}
use lib.Seq.{set-set}
use Rattle.std.specs.Prelude.{Ok, Err}
use Rattle.lists.specs.Lists.{at, put}
use Rattle.lists.specs.Ranges.{OneTo, stretch}
use Rattle.lists.proofs.Tests.{eqb-eq, eqb-ne, eqb-true, eqb_same, le-true, le-false, leb-true, lt-true, lt-false, same?, lt?, cond-all}
use Rattle.book.specs.declared.types.Book.{Book}
use Rattle.refusals.specs.declared.Refusal.{Refusal}
use Rattle.refusals.specs.Named.{named}
use Rattle.book.specs.Shares.{first, last, next, ticket, expiry, finished, holder, lapsed}
use Rattle.book.specs.Valid.{valid}
use Rattle.book.specs.Calls.{unless, not, entered, tick_in, ticket_number, due, moved_to, book_moved_on, commit_number, commit_book, commits_number, commits_book, positions, commit_range_number, commit_range_answer, commit_range_book, range_number}
use Rattle.book.proofs.ValidBook.{ValidBook, Long, facts-valid, entered-next, entered-ticket, entered-expiry, entered-long, other-ticket, entered-valid}
use Rattle.book.proofs.Accepted.{zero-unless, TicketAt, holder-has-ticket, TicketGood, ticket-good, ticket-unfinished, ticket-distinct, freed, kept_on}
use Rattle.book.proofs.Tickets.{Nowhere, holder-nowhere, nowhere-holder, Gone, gone-commit}
use Rattle.book.proofs.Ledger.{Ledger}
use Rattle.book.proofs.CallLaws.{ledger-commit}

-- ---- a ticket that is good

-- the share where a ticket stands is its holder
holder-is : (b : Book) (t j : ℕ) → ValidBook b → TicketAt b t j → holder b t ≡ j
unfolding Nowhere
holder-is b t j S T = go (same? (holder b t) 0) (same? (holder b t) j)
  where
    some : Nowhere b t → ⊥
    some (inl z) = T.some z
    some (inr h) = h j T.share_in T.is

    go : (holder b t ≡ 0) ⊎ (holder b t ≢ 0) → (holder b t ≡ j) ⊎ (holder b t ≢ j) → holder b t ≡ j
    go (inl z) q = absurd (some (holder-nowhere b t z))
    go (inr z) (inl q) = q
    go (inr z) (inr q) = let H = holder-has-ticket b t z in absurd (ticket-distinct b t j S T (holder b t) H.share_in q H.is)

-- a valid book at a tick in time: what its tickets are asked for
timely : (b : Book) (tick t rest : ℕ) → ValidBook b → b.latest ≤ tick → tick < 2 ^ 48
    → ticket_number b tick t rest ≡ unless (not (eqb (holder b t) 0)) 58 (unless (not (lapsed b (holder b t) tick)) 59 rest)
unfolding ticket_number tick_in
timely b tick t rest S l h = rw (facts-valid b S, le-true _ _ l, lt-true _ _ h)

pub good-number : (b : Book) (tick t rest : ℕ) → TicketGood b tick t → ticket_number b tick t rest ≡ rest
unfolding lapsed
good-number b tick t rest G =
    let i = G.stands.share_in in
    rw (timely b tick t rest G.is_valid G.later G.tick_small, eqb-ne (holder b t) 0 (λ z. omega arith), le-false _ _ G.unlapsed)

-- ---- one commit of a range

put-put : (s : List ℕ) (j x y : ℕ) → put (put s j x) j y ≡ put s j y
put-put s zero x y = refl
put-put s (suc j) x y = set-set s j x y

-- entries at share j written over entries at share j
entered-twice : (b : Book) (tick issues j p t e p' t' e' : ℕ)
    → entered (entered b tick issues j p t e) tick issues j p' t' e' ≡ entered b tick issues j p' t' e'
unfolding entered
entered-twice b tick issues j p t e p' t' e' = rw (put-put b.next j p p', put-put b.ticket j t t', put-put b.expiry j e e')

module _ (b : Book) (tick j : ℕ) (L : Long b) (i : OneTo 32 j) where
  -- whether the share is finished at p is told by its last position alone
  pub moved-finished : (p : ℕ) → finished (entered b tick b.issued j p (at b.ticket j) (at b.expiry j)) j ≡ ltb (last b.size b.shares j) p
  moved-finished p = unfold finished in (rw (entered-next b tick b.issued j p (at b.ticket j) (at b.expiry j) L i) (unfold entered in refl))

  pub moved-within : (p : ℕ) → p ≤ last b.size b.shares j → moved_to b tick j p ≡ entered b tick b.issued j p (at b.ticket j) (at b.expiry j)
  unfolding moved_to
  moved-within p l = rw (moved-finished p, lt-false _ _ l)

  pub moved-past : (p : ℕ) → last b.size b.shares j < p → moved_to b tick j p ≡ entered b tick b.issued j p 0 0
  unfolding moved_to
  moved-past p l = rw (moved-finished p, lt-true _ _ l)

  pub moved-next : (p : ℕ) → next (moved_to b tick j p) j ≡ p
  moved-next p = go (lt? (last b.size b.shares j) p)
    where
      go : (last b.size b.shares j < p) ⊎ (p ≤ last b.size b.shares j) → next (moved_to b tick j p) j ≡ p
      go (inl l) = rw (moved-past p l) (entered-next b tick b.issued j p 0 0 L i)
      go (inr l) = rw (moved-within p l) (entered-next b tick b.issued j p (at b.ticket j) (at b.expiry j) L i)

module _ (b : Book) (tick t : ℕ) (L : Long b) (G : TicketGood b tick t) where
  abbrev j : ℕ
  j = holder b t

  abbrev end : ℕ
  end = last b.size b.shares (holder b t)

  -- the position after the share's next one, its ticket and its expiry
  abbrev next_after : ℕ
  next_after = suc (next b (holder b t))

  abbrev own : ℕ
  own = at b.ticket (holder b t)

  abbrev until : ℕ
  until = at b.expiry (holder b t)

  pub good-in : OneTo 32 (holder b t)
  good-in = let x = G.stands.share_in in let y = G.is_valid.shares_in in omega arith

  -- the share's next position is not past its last
  pub good-next : next b j ≤ end
  good-next = ticket-unfinished b t j G.is_valid G.stands

  good-from : first b.size b.shares j ≤ next b j
  good-from = (G.is_valid.share j G.stands.share_in).from

  commit-accepted : commit_number b tick t (next b j) ≡ 0
  unfolding commit_number due
  commit-accepted = rw (good-number b tick t _ G, eqb_same (next b j))

  commit-leaves : commit_book b tick t (next b j) ≡ moved_to b tick j next_after
  unfolding commit_book book_moved_on
  commit-leaves = rw commit-accepted

  -- the book after a commit that is not the share's last
  abbrev on : Book
  on = entered b tick b.issued j next_after own until

  module _ (l : next_after ≤ end) where
    on-valid : ValidBook on
    on-valid = entered-valid b tick b.issued j next_after own until L good-in G.is_valid (kept_on b tick t G next_after (let y = good-from in omega arith) l)

    on-stands : TicketAt on t j
    on-stands = record {
      share_in = unfold entered in G.stands.share_in;
      some = G.stands.some;
      is = entered-ticket b tick b.issued j next_after own until L good-in ∙ G.stands.is;
    }

    on-holder : holder on t ≡ j
    on-holder = holder-is on t j on-valid on-stands

    on-long : Long on
    on-long = entered-long b tick b.issued j next_after own until L good-in

    on-good : TicketGood on tick t
    on-good = record {
      is_valid = on-valid;
      later = unfold entered in (omega arith);
      tick_small = G.tick_small;
      stands = rw on-holder on-stands;
      unlapsed = rw (on-holder, entered-expiry b tick b.issued j next_after own until L good-in) G.unlapsed;
    }

    on-next : next on (holder on t) ≡ next_after
    on-next = rw on-holder (entered-next b tick b.issued j next_after own until L good-in)

    on-end : last on.size on.shares (holder on t) ≡ end
    on-end = rw on-holder (unfold entered in refl)

    on-left : commit_book b tick t (next b j) ≡ on
    on-left = commit-leaves ∙ moved-within b tick j L good-in next_after l

    on-twice : (p u e : ℕ) → entered on tick on.issued j p u e ≡ entered b tick b.issued j p u e
    unfolding entered
    on-twice p u e = entered-twice b tick b.issued j next_after own until p u e

    on-ticket : at on.ticket j ≡ own
    on-ticket = entered-ticket b tick b.issued j next_after own until L good-in

    on-expiry : at on.expiry j ≡ until
    on-expiry = entered-expiry b tick b.issued j next_after own until L good-in

    -- the next commits leave the same, from this book as from the one before
    on-moved : (p : ℕ) → moved_to on tick (holder on t) p ≡ moved_to b tick j p
    on-moved p = rw on-holder (go (lt? end p))
      where
        same_end : last on.size on.shares j ≡ end
        same_end = unfold entered in refl

        go : (end < p) ⊎ (p ≤ end) → moved_to on tick j p ≡ moved_to b tick j p
        go (inl u) = moved-past on tick j on-long good-in p (rw same_end u) ∙ on-twice p 0 0 ∙ sym (moved-past b tick j L good-in p u)
        go (inr u) = moved-within on tick j on-long good-in p (rw same_end u) ∙ rw (on-ticket, on-expiry) (on-twice p own until) ∙ sym (moved-within b tick j L good-in p u)

  -- the commit of the share's last position ends the ticket
  ended-number : (rest : ℕ) → end < next_after → ticket_number (commit_book b tick t (next b j)) tick t rest ≡ 58
  ended-number rest l = rw (commit-leaves, moved-past b tick j L good-in next_after l) (timely off tick t rest off-valid off-later G.tick_small ∙ rw off-holder)
    where
      off : Book
      off = entered b tick b.issued j next_after 0 0

      off-valid : ValidBook off
      off-valid = entered-valid b tick b.issued j next_after 0 0 L good-in G.is_valid (freed b tick t G next_after (let y = good-from in omega arith) (let y = good-next in omega arith))

      off-later : off.latest ≤ tick
      off-later = unfold entered in (omega arith)

      off-ticket : (i : ℕ) → OneTo b.shares i → (i ≡ j) ⊎ (i ≢ j) → ticket off i ≢ t
      off-ticket i e (inl q) z = G.stands.some (sym z ∙ ap (ticket off) q ∙ entered-ticket b tick b.issued j next_after 0 0 L good-in)
      off-ticket i e (inr q) z = ticket-distinct b t j G.is_valid G.stands i e q (sym (other-ticket b tick b.issued j next_after 0 0 L good-in i q) ∙ z)

      off-holder : holder off t ≡ 0
      off-holder = nowhere-holder off t (unfold Nowhere entered in (inr (λ i e. off-ticket i e (same? i j))))

-- ---- the commits of a stretch

-- all within the share: it goes on after them
stretch-within : (tick t m : ℕ) (b : Book) → Long b → TicketGood b tick t → next b (holder b t) + m ≤ last b.size b.shares (holder b t)
    → (commits_number b tick t (stretch (next b (holder b t)) (suc m)) ≡ 0)
    × (commits_book b tick t (stretch (next b (holder b t)) (suc m)) ≡ moved_to b tick (holder b t) (suc (next b (holder b t) + m)))
unfolding commits_number commits_book
stretch-within tick t zero b L G l = (rw (commit-accepted b tick t L G), commit-leaves b tick t L G ∙ ap (λ (p : ℕ). moved_to b tick (holder b t) (suc p)) (omega arith))
stretch-within tick t (suc m) b L G l =
    let u : suc (next b (holder b t)) ≤ last b.size b.shares (holder b t) = omega arith in
    let x = on-next b tick t L G u in
    let e = on-end b tick t L G u in
    let q = stretch-within tick t m (on b tick t L G) (on-long b tick t L G u) (on-good b tick t L G u) (rw (x, e) (omega arith)) in (
      rw (commit-accepted b tick t L G, on-left b tick t L G u) (rw x at q.0),
      ap (λ (c : Book). commits_book c tick t (stretch (next_after b tick t L G) (suc m))) (on-left b tick t L G u)
          ∙ rw x at q.1
          ∙ on-moved b tick t L G u _
          ∙ ap (moved_to b tick (holder b t)) (omega arith),
    )

-- some past the share's end: the first of these finds the ticket ended
abbrev PastEnd : ℕ → ℕ → ℕ → Book → Type 0
PastEnd tick t m b =
    Long b → TicketGood b tick t → last b.size b.shares (holder b t) < next b (holder b t) + m
    → commits_number b tick t (stretch (next b (holder b t)) (suc m)) ≡ 58

past-step : (tick t m : ℕ) (b : Book) (L : Long b) (G : TicketGood b tick t) → last b.size b.shares (holder b t) < next b (holder b t) + suc m
    → PastEnd tick t m (on b tick t L G) → commits_number (commit_book b tick t (next b (holder b t))) tick t (stretch (next_after b tick t L G) (suc m)) ≡ 58
unfolding commits_number
past-step tick t m b L G l r = go (lt? (last b.size b.shares (holder b t)) (next_after b tick t L G))
  where
    go : (last b.size b.shares (holder b t) < next_after b tick t L G) ⊎ (next_after b tick t L G ≤ last b.size b.shares (holder b t))
        → commits_number (commit_book b tick t (next b (holder b t))) tick t (stretch (next_after b tick t L G) (suc m)) ≡ 58
    go (inl u) =
        let e : commit_number (commit_book b tick t (next b (holder b t))) tick t (next_after b tick t L G) ≡ 58 = unfold commit_number in (ended-number b tick t L G _ u) in
        rw e
    go (inr u) =
        let x = on-next b tick t L G u in
        let e = on-end b tick t L G u in
        rw (on-left b tick t L G u) (rw x at (r (on-long b tick t L G u) (on-good b tick t L G u) (rw (x, e) (omega arith))))

stretch-past : (tick t m : ℕ) (b : Book) → PastEnd tick t m b
unfolding commits_number
stretch-past tick t zero b L G l = let z = good-next b tick t L G in absurd (omega arith)
stretch-past tick t (suc m) b L G l = rw (commit-accepted b tick t L G) (past-step tick t m b L G l (stretch-past tick t m (on b tick t L G)))

-- ---- a range

-- a ticket that is not good is refused by the same number whatever would follow
refused-any : (a b c d : Bool) (rest : ℕ) → unless a 50 (unless b 52 (unless c 58 (unless d 59 0))) ≢ 0
    → unless a 50 (unless b 52 (unless c 58 (unless d 59 rest))) ≡ unless a 50 (unless b 52 (unless c 58 (unless d 59 0)))
refused-any false b c d rest n = refl
refused-any true false c d rest n = refl
refused-any true true false d rest n = refl
refused-any true true true false rest n = refl
refused-any true true true true rest n = absurd (n refl)

refused-number : (b : Book) (tick t rest : ℕ) → ticket_number b tick t 0 ≢ 0 → ticket_number b tick t rest ≡ ticket_number b tick t 0
unfolding ticket_number
refused-number b tick t rest n = refused-any (valid b) (tick_in b tick) (not (eqb (holder b t) 0)) (not (lapsed b (holder b t) tick)) rest n

module _ (b : Book) (tick t p q : ℕ) where
  -- a range that is not empty begins at p
  positions-begin : p ≤ q → positions p q ≡ stretch p (suc (q - p))
  unfolding positions
  positions-begin l = let e : suc q - p ≡ suc (q - p) = omega arith in rw e

  range-begins : p ≤ q → commit_range_number b tick t p q ≡ commits_number b tick t (stretch p (suc (q - p)))
  unfolding commit_range_number
  range-begins l = rw (le-true _ _ l, positions-begin l)

  -- its first commit is refused
  range-first : p ≤ q → commit_number b tick t p ≢ 0 → commit_range_number b tick t p q ≡ commit_number b tick t p
  unfolding commits_number
  range-first l n = range-begins l ∙ rw (eqb-ne _ _ n)

  -- the number of the fold is the number found from the two ends
  pub range-closed : Long b → commit_range_number b tick t p q ≡ ticket_number b tick t (range_number b t p q)
  unfolding range_number
  range-closed L = go (lt? q p)
    where
      j : ℕ
      j = holder b t

      end : ℕ
      end = last b.size b.shares (holder b t)

      ends : ℕ
      ends = unless (leb q end) 58 0

      due-first : p ≤ q → p ≡ next b (holder b t) → TicketGood b tick t → (end < q) ⊎ (q ≤ end) → commit_range_number b tick t p q ≡ ends
      due-first l e G (inl u) = range-begins l ∙ rw (le-false _ _ u) (rw (← e) at (stretch-past tick t (q - p) b L G (rw (← e) (omega arith))))
      due-first l e G (inr u) = range-begins l ∙ rw (le-true _ _ u) (rw (← e) at (stretch-within tick t (q - p) b L G (rw (← e) (omega arith))).0)

      good : p ≤ q → TicketGood b tick t → (p ≡ due b t) ⊎ (p ≢ due b t) → commit_range_number b tick t p q ≡ unless (eqb p (due b t)) 60 ends
      good l G (inl e) = rw (eqb-eq p (due b t) e) (due-first l (unfold due in e) G (lt? end q))
      good l G (inr e) =
          let z : commit_number b tick t p ≡ 60 = unfold commit_number in (rw (good-number b tick t (unless (eqb p (due b t)) 60 0) G, eqb-ne p (due b t) e)) in
          rw (eqb-ne p (due b t) e) (range-first l (λ y. let w = sym z ∙ y in omega arith) ∙ z)

      asked : p ≤ q → (ticket_number b tick t 0 ≡ 0) ⊎ (ticket_number b tick t 0 ≢ 0)
          → commit_range_number b tick t p q ≡ ticket_number b tick t (unless (eqb p (due b t)) 60 ends)
      asked l (inl e) = let G = (ticket-good b tick t 0 e).0 in rw (good-number b tick t (unless (eqb p (due b t)) 60 ends) G) (good l G (same? p (due b t)))
      asked l (inr e) =
          let z : commit_number b tick t p ≡ ticket_number b tick t 0 = unfold commit_number in (refused-number b tick t (unless (eqb p (due b t)) 60 0) e) in
          range-first l (λ y. e (sym z ∙ y)) ∙ z ∙ sym (refused-number b tick t (unless (eqb p (due b t)) 60 ends) e)

      go : (q < p) ⊎ (p ≤ q) → commit_range_number b tick t p q ≡ ticket_number b tick t (unless (leb p q) 60 (unless (eqb p (due b t)) 60 ends))
      go (inl l) = rw (le-false _ _ l) (unfold commit_range_number in (rw (le-false _ _ l)))
      go (inr l) = rw (le-true _ _ l) (asked l (same? (ticket_number b tick t 0) 0))

  -- a range that is refused, and one that is not
  pub range-refused : (k : ℕ) → k ≢ 0 → commit_range_number b tick t p q ≡ k
      → (Err (named k) ≡ commit_range_answer b tick t p q) × (b ≡ commit_range_book b tick t p q)
  unfolding commit_range_answer commit_range_book
  range-refused k n e = rw (e, eqb-ne _ _ n) (refl, refl)

  -- an accepted range: its ticket is good, it begins at the share's next position, ends in the share, and moves the share on past its end
  pub record RangeGood : Type 0 where
    pub good : TicketGood b tick t
    pub names : p ≡ next b (holder b t)
    pub ordered : p ≤ q
    pub within : q ≤ last b.size b.shares (holder b t)
    pub answered : Ok tt ≡ commit_range_answer b tick t p q
    pub left : moved_to b tick (holder b t) (suc q) ≡ commit_range_book b tick t p q

  pub range-good : Long b → commit_range_number b tick t p q ≡ 0 → RangeGood
  unfolding range_number due commit_range_answer commit_range_book
  range-good L e =
      let T = ticket-good b tick t (range_number b t p q) (sym (range-closed L) ∙ e) in
      let x = zero-unless (leb p q) 60 _ (omega arith) T.1 in
      let y = zero-unless (eqb p (next b (holder b t))) 60 _ (omega arith) x.1 in
      let z = zero-unless (leb q (last b.size b.shares (holder b t))) 58 0 (omega arith) y.1 in
      let l = leb-true p q x.0 in
      let d = eqb-true p (next b (holder b t)) y.0 in
      let u = leb-true q (last b.size b.shares (holder b t)) z.0 in
      record {
        good = T.0;
        names = d;
        ordered = l;
        within = u;
        answered = rw (eqb-eq _ _ e);
        left = rw (eqb-eq _ _ e, positions-begin l) (moved T.0 d l u);
      }
    where
      moved : TicketGood b tick t → p ≡ next b (holder b t) → p ≤ q → q ≤ last b.size b.shares (holder b t)
          → moved_to b tick (holder b t) (suc q) ≡ commits_book b tick t (stretch p (suc (q - p)))
      moved G d l u = rw d (ap (λ (x : ℕ). moved_to b tick (holder b t) (suc x)) (omega arith) ∙ sym (stretch-within tick t (q - next b (holder b t)) b L G (omega arith)).1)

  pub range-committed : commit_range_answer b tick t p q ≡ Ok tt → commit_range_number b tick t p q ≡ 0
  unfolding commit_range_answer
  range-committed e = go (same? (commit_range_number b tick t p q) 0)
    where
      go : (commit_range_number b tick t p q ≡ 0) ⊎ (commit_range_number b tick t p q ≢ 0) → commit_range_number b tick t p q ≡ 0
      go (inl z) = z
      go (inr z) = absurd (let r = rw (eqb-ne _ _ z) at e in let y : ◌≡◌ {A = ℕ} 0 1 = cc in omega arith)

-- ---- what a range does to the ledger, and to tickets that are gone: what its commits do, one after another

first-zero : (x y : ℕ) → cond (eqb x 0) y x ≡ 0 → (x ≡ 0) × (y ≡ 0)
first-zero x y e = go (same? x 0)
  where
    go : (x ≡ 0) ⊎ (x ≢ 0) → (x ≡ 0) × (y ≡ 0)
    go (inl z) = (z, rw (eqb-eq _ _ z) at e)
    go (inr z) = absurd (z (rw (eqb-ne _ _ z) at e))

ledger-commits : (n k tick t : ℕ) (ps : List ℕ) (b : Book) (C : List ℕ) → Ledger n k b C → commits_number b tick t ps ≡ 0 → Ledger n k (commits_book b tick t ps) (C ++ ps)
unfolding commits_number commits_book
ledger-commits n k tick t [] b C L e = rw append-nil L
ledger-commits n k tick t (p ∷ ps) b C L e =
    let z = first-zero (commit_number b tick t p) _ e in
    rw append_assoc at (ledger-commits n k tick t ps (commit_book b tick t p) (C ++ (p ∷ [])) (rw (eqb-eq _ _ z.0) at (ledger-commit n k b C L tick t p)) z.1)

gone-commits : (n k tick u t : ℕ) (ps : List ℕ) (b : Book) (C : List ℕ) → Ledger n k b C → Gone b t → Gone (commits_book b tick u ps) t
unfolding commits_book
gone-commits n k tick u t [] b C L G = G
gone-commits n k tick u t (p ∷ ps) b C L G = gone-commits n k tick u t ps (commit_book b tick u p) _ (ledger-commit n k b C L tick u p) (gone-commit b L.is_valid L.long t G tick u p)

module _ (n k : ℕ) (b : Book) (C : List ℕ) (L : Ledger n k b C) where
  pub ledger-range : (tick t p q : ℕ) → Ledger n k (commit_range_book b tick t p q) (C ++ cond (eqb (commit_range_number b tick t p q) 0) (positions p q) [])
  unfolding commit_range_book
  ledger-range tick t p q = go (same? (commit_range_number b tick t p q) 0)
    where
      all : commit_range_number b tick t p q ≡ 0 → commits_number b tick t (positions p q) ≡ 0
      all e = let l = (range-good b tick t p q L.long e).ordered in rw (positions-begin b tick t p q l) (sym (range-begins b tick t p q l) ∙ e)

      go : (commit_range_number b tick t p q ≡ 0) ⊎ (commit_range_number b tick t p q ≢ 0)
          → Ledger n k (cond (eqb (commit_range_number b tick t p q) 0) (commits_book b tick t (positions p q)) b) (C ++ cond (eqb (commit_range_number b tick t p q) 0) (positions p q) [])
      go (inl e) = rw (eqb-eq _ _ e) (ledger-commits n k tick t (positions p q) b C L (all e))
      go (inr e) = rw (eqb-ne _ _ e, append-nil) L

  pub gone-range : (t : ℕ) → Gone b t → (tick u p q : ℕ) → Gone (commit_range_book b tick u p q) t
  unfolding commit_range_book
  gone-range t G tick u p q = cond-all (λ c. Gone c t) (eqb (commit_range_number b tick u p q) 0) _ _ (λ e. gone-commits n k tick u t (positions p q) b C L G) (λ e. G)
