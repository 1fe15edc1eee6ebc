-- The test `valid` as facts, and that the entries an operation writes keep a book valid.
use mathlib.Core.Path.{◌≡◌, refl, sym, ap, ◌∙◌, subst}
use mathlib.Core.Logic.{◌≢◌, ◌⊎◌, inl, inr, ⊎_elim}
use mathlib.Core.Bool.{Bool, true, false, true≢false, cond}
use mathlib.Core.List.{List}
use Prim.Native.Nat.{ℕ, zero, suc, ◌+◌, ◌-◌, ◌^◌, ◌≤◌, ◌<◌}
use native.Mathlib.Omega.{arith}
use lib.Dec.{eqb, leb, ltb}
use lib.ListN.{length}
use Rattle.lists.specs.Lists.{at, put}
use Rattle.lists.specs.Ranges.{OneTo, every}
use Rattle.lists.proofs.Tests.{both_true, eqb-eq, eqb-true, eqb-ne, eqb-false, eqb_same, le-true, leb-true, le-false, lt-true, ltb-true, lt-false, same?, lt?}
use Rattle.lists.proofs.Lists.{at-put-same, at-put-other, length-put}
use Rattle.lists.proofs.Ranges.{every_true, true-every}
use Rattle.book.specs.declared.types.Book.{Book}
use Rattle.book.specs.Shares.{first, last, next, ticket, expiry, finished}
use Rattle.book.specs.Valid.{both, either, among, in_range, next_in, finished_free, ticket_once, ticket_issued, expiry_in, share_valid, entry_unused, entries_valid, counters_in, valid}
use Rattle.book.specs.Calls.{entered, ticked}

-- what is valid at share j
pub record ShareValid (b : Book) (j : ℕ) : Type 0 where
  pub from : first b.size b.shares j ≤ next b j
  pub to : next b j ≤ suc (last b.size b.shares j)
  pub free : last b.size b.shares j < next b j → ticket b j ≡ 0
  pub once : (i : ℕ) → 1 ≤ i → i < j → ticket b j ≢ 0 → ticket b i ≢ ticket b j
  pub issued : ticket b j ≤ b.issued
  pub without : ticket b j ≡ 0 → expiry b j ≡ 0
  pub soon : expiry b j ≤ b.latest + 65535

pub record Unused (b : Book) (j : ℕ) : Type 0 where
  pub no_next : next b j ≡ 0
  pub no_ticket : ticket b j ≡ 0
  pub no_expiry : expiry b j ≡ 0

pub record ValidBook (b : Book) : Type 0 where
  pub size_in : OneTo 50 b.size
  pub shares_in : OneTo 32 b.shares
  pub issued_in : b.issued ≤ 65535
  pub latest_in : b.latest < 2 ^ 48
  pub share : (j : ℕ) → OneTo b.shares j → ShareValid b j
  pub unused : (j : ℕ) → OneTo 32 j → b.shares < j → Unused b j

-- ---- from the test to the facts

pub among-true : (n x : ℕ) → among n x ≡ true → OneTo n x
among-true n x e = let q = both_true (leb 1 x) (leb x n) e in (leb-true 1 x q.0, leb-true x n q.1)

pub true-among : (n x : ℕ) → OneTo n x → among n x ≡ true
true-among n x e = rw (le-true 1 x e.0, le-true x n e.1)

pub both_of : (a b : Bool) → a ≡ true → b ≡ true → both a b ≡ true
both_of a b p q = rw (p, q)

pub either_true : (a b : Bool) → either a b ≡ true → (a ≡ true) ⊎ (b ≡ true)
either_true true b e = inl refl
either_true false b e = inr e

-- a test under `cond t false true`
pub not-true : (t : Bool) → cond t false true ≡ true → t ≡ false
not-true true e = absurd (true≢false (sym e))
not-true false e = refl

module _ (b : Book) where
  share-facts : (j : ℕ) → share_valid b j ≡ true → ShareValid b j
  unfolding share_valid next_in finished_free ticket_once ticket_issued expiry_in finished
  share-facts j e = record { from = leb-true _ _ p.0; to = leb-true _ _ p.1; free = free; once = once; issued = leb-true _ _ q3.0; without = without; soon = leb-true _ _ x.1 }
    where
      q1 : (next_in b j ≡ true) × (both (finished_free b j) (both (ticket_once b j) (both (ticket_issued b j) (expiry_in b j))) ≡ true)
      q1 = both_true _ _ e

      q2 : (finished_free b j ≡ true) × (both (ticket_once b j) (both (ticket_issued b j) (expiry_in b j)) ≡ true)
      q2 = both_true _ _ q1.1

      q : (ticket_once b j ≡ true) × (both (ticket_issued b j) (expiry_in b j) ≡ true)
      q = both_true _ _ q2.1

      q3 : (ticket_issued b j ≡ true) × (expiry_in b j ≡ true)
      q3 = both_true _ _ q.1

      p : (leb (first b.size b.shares j) (next b j) ≡ true) × (leb (next b j) (suc (last b.size b.shares j)) ≡ true)
      p = both_true _ _ q1.0

      x : (either (eqb (expiry b j) 0) (cond (eqb (ticket b j) 0) false true) ≡ true) × (leb (expiry b j) (b.latest + 65535) ≡ true)
      x = both_true _ _ q3.1

      free : last b.size b.shares j < next b j → ticket b j ≡ 0
      free l = eqb-true _ _ (rw (lt-true _ _ l) at q2.0)

      once : (i : ℕ) → 1 ≤ i → i < j → ticket b j ≢ 0 → ticket b i ≢ ticket b j
      once i a l n = go (either_true _ _ q.0)
        where
          go : (eqb (ticket b j) 0 ≡ true) ⊎ (every (j - 1) (λ i. cond (eqb (ticket b i) (ticket b j)) false true) ≡ true) → ticket b i ≢ ticket b j
          go (inl z) = absurd (n (eqb-true _ _ z))
          go (inr z) = eqb-false _ _ (not-true _ (every_true (j - 1) (λ i. cond (eqb (ticket b i) (ticket b j)) false true) z i (omega arith)))

      without : ticket b j ≡ 0 → expiry b j ≡ 0
      without t = go (either_true _ _ x.0)
        where
          go : (eqb (expiry b j) 0 ≡ true) ⊎ (cond (eqb (ticket b j) 0) false true ≡ true) → expiry b j ≡ 0
          go (inl z) = eqb-true _ _ z
          go (inr z) = absurd (eqb-false _ _ (not-true _ z) t)

  facts-share : (j : ℕ) → ShareValid b j → share_valid b j ≡ true
  unfolding share_valid next_in finished_free ticket_once ticket_issued expiry_in finished
  facts-share j S = both_of _ _ (both_of _ _ (le-true _ _ S.from) (le-true _ _ S.to)) (both_of _ _ free (both_of _ _ once (both_of _ _ (le-true _ _ S.issued) (both_of _ _ without (le-true _ _ S.soon)))))
    where
      free : cond (ltb (last b.size b.shares j) (next b j)) (eqb (ticket b j) 0) true ≡ true
      free = go (lt? (last b.size b.shares j) (next b j))
        where
          go : (last b.size b.shares j < next b j) ⊎ (next b j ≤ last b.size b.shares j) → cond (ltb (last b.size b.shares j) (next b j)) (eqb (ticket b j) 0) true ≡ true
          go (inl l) = rw (lt-true _ _ l) (eqb-eq _ _ (S.free l))
          go (inr l) = rw (lt-false _ _ l)

      once : either (eqb (ticket b j) 0) (every (j - 1) (λ i. cond (eqb (ticket b i) (ticket b j)) false true)) ≡ true
      once = go (same? (ticket b j) 0)
        where
          go : (ticket b j ≡ 0) ⊎ (ticket b j ≢ 0) → either (eqb (ticket b j) 0) (every (j - 1) (λ i. cond (eqb (ticket b i) (ticket b j)) false true)) ≡ true
          go (inl z) = rw (eqb-eq _ _ z)
          go (inr z) = rw (eqb-ne _ _ z) (true-every (j - 1) _ (λ i e. rw (eqb-ne _ _ (S.once i e.0 (omega arith) z))))

      without : either (eqb (expiry b j) 0) (cond (eqb (ticket b j) 0) false true) ≡ true
      without = go (same? (ticket b j) 0)
        where
          go : (ticket b j ≡ 0) ⊎ (ticket b j ≢ 0) → either (eqb (expiry b j) 0) (cond (eqb (ticket b j) 0) false true) ≡ true
          go (inl z) = rw (eqb-eq _ _ (S.without z))
          go (inr z) = rw (eqb-ne _ _ z) (any (eqb (expiry b j) 0))
            where
              any : (t : Bool) → either t true ≡ true
              any true = refl
              any false = refl

  unused-facts : (j : ℕ) → entry_unused b j ≡ true → Unused b j
  unfolding entry_unused
  unused-facts j e =
      let p = both_true (eqb (next b j) 0) _ e in
      let q = both_true (eqb (ticket b j) 0) _ p.1 in
      record { no_next = eqb-true _ _ p.0; no_ticket = eqb-true _ _ q.0; no_expiry = eqb-true _ _ q.1 }

  pub valid-facts : valid b ≡ true → ValidBook b
  unfolding valid in_range counters_in entries_valid
  valid-facts e =
      let p = both_true (in_range b) _ e in
      let q = both_true (counters_in b) _ p.1 in
      let r = both_true (among 50 b.size) _ p.0 in
      let s = both_true (leb b.issued 65535) _ q.0 in
      record {
        size_in = among-true 50 _ r.0;
        shares_in = among-true 32 _ r.1;
        issued_in = leb-true _ _ s.0;
        latest_in = ltb-true _ _ s.1;
        share = λ j i. share-facts j (rw (le-true j b.shares i.1) at (every_true 32 test q.1 j (let z = among-true 32 b.shares r.1 in omega arith)));
        unused = λ j i l. unused-facts j (rw (le-false j b.shares l) at (every_true 32 test q.1 j i));
      }
    where
      test : ℕ → Bool
      test j = cond (leb j b.shares) (share_valid b j) (entry_unused b j)

  pub facts-valid : ValidBook b → valid b ≡ true
  unfolding valid in_range counters_in entries_valid
  facts-valid S = both_of _ _ (both_of _ _ (true-among 50 _ S.size_in) (true-among 32 _ S.shares_in)) (both_of _ _ (both_of _ _ (le-true _ _ S.issued_in) (lt-true _ _ S.latest_in)) (true-every 32 _ at_entry))
    where
      at_entry : (j : ℕ) → OneTo 32 j → cond (leb j b.shares) (share_valid b j) (entry_unused b j) ≡ true
      at_entry j e = go (lt? b.shares j)
        where
          empty : Unused b j → entry_unused b j ≡ true
          empty u = unfold entry_unused in (both_of _ _ (eqb-eq _ _ u.no_next) (both_of _ _ (eqb-eq _ _ u.no_ticket) (eqb-eq _ _ u.no_expiry)))

          go : (b.shares < j) ⊎ (j ≤ b.shares) → cond (leb j b.shares) (share_valid b j) (entry_unused b j) ≡ true
          go (inl l) = rw (le-false _ _ l) (empty (S.unused j e l))
          go (inr l) = rw (le-true _ _ l) (facts-share j (S.share j (e.0, l)))

-- ---- what an operation writes

-- the three lists have an entry for each of 32 shares
pub record Long (b : Book) : Type 0 where
  pub next_long : length b.next ≡ 32
  pub ticket_long : length b.ticket ≡ 32
  pub expiry_long : length b.expiry ≡ 32

-- the entries p, t, e at share j, with the tick and the tickets issued, keep the book valid
pub record Fitting (b : Book) (tick issues j p t e : ℕ) : Type 0 where
  pub share_in : OneTo b.shares j
  pub later : b.latest ≤ tick
  pub tick_in : tick < 2 ^ 48
  pub more : b.issued ≤ issues
  pub issues_in : issues ≤ 65535
  pub from : first b.size b.shares j ≤ p
  pub to : p ≤ suc (last b.size b.shares j)
  pub free : last b.size b.shares j < p → t ≡ 0
  pub new : t ≢ 0 → (i : ℕ) → OneTo b.shares i → i ≢ j → ticket b i ≢ t
  pub issued : t ≤ issues
  pub without : t ≡ 0 → e ≡ 0
  pub soon : e ≤ tick + 65535

module _ (b : Book) (tick issues j p t e : ℕ) (L : Long b) (k : OneTo 32 j) where
  abbrev b' : Book
  b' = entered b tick issues j p t e

  pub entered-next : next b' j ≡ p
  unfolding entered
  entered-next = at-put-same b.next j p (rw L.next_long k)

  pub entered-ticket : ticket b' j ≡ t
  unfolding entered
  entered-ticket = at-put-same b.ticket j t (rw L.ticket_long k)

  pub entered-expiry : expiry b' j ≡ e
  unfolding entered
  entered-expiry = at-put-same b.expiry j e (rw L.expiry_long k)

  pub entered-long : Long b'
  unfolding entered
  entered-long = record { next_long = length-put b.next j p ∙ L.next_long; ticket_long = length-put b.ticket j t ∙ L.ticket_long; expiry_long = length-put b.expiry j e ∙ L.expiry_long }

  module _ (i : ℕ) (n : i ≢ j) where
    pub other-next : next b' i ≡ next b i
    unfolding entered
    other-next = at-put-other b.next j p i n

    pub other-ticket : ticket b' i ≡ ticket b i
    unfolding entered
    other-ticket = at-put-other b.ticket j t i n

    pub other-expiry : expiry b' i ≡ expiry b i
    unfolding entered
    other-expiry = at-put-other b.expiry j e i n

  module _ (S : ValidBook b) (F : Fitting b tick issues j p t e) where
    at_j : ShareValid b' j
    unfolding entered
    at_j = record {
      from = rw entered-next F.from;
      to = rw entered-next F.to;
      free = λ l. rw entered-ticket (F.free (rw entered-next at l));
      once = λ i a l z q. F.new (rw entered-ticket at z) i (let y = F.share_in in omega arith) (λ w. omega arith) (sym (other-ticket i (λ w. omega arith)) ∙ q ∙ entered-ticket);
      issued = rw entered-ticket F.issued;
      without = λ z. rw entered-expiry (F.without (rw entered-ticket at z));
      soon = rw entered-expiry F.soon;
    }

    at_other : (i : ℕ) → OneTo b.shares i → i ≢ j → ShareValid b' i
    unfolding entered
    at_other i a n = record {
      from = rw (other-next i n) s.from;
      to = rw (other-next i n) s.to;
      free = λ l. rw (other-ticket i n) (s.free (rw (other-next i n) at l));
      once = λ h u v z. once h u v (rw (other-ticket i n) at z) (same? h j);
      issued = rw (other-ticket i n) (let x = s.issued in let y = F.more in omega arith);
      without = λ z. rw (other-expiry i n) (s.without (rw (other-ticket i n) at z));
      soon = rw (other-expiry i n) (let x = s.soon in let y = F.later in omega arith);
    }
      where
        s : ShareValid b i
        s = S.share i a

        once : (h : ℕ) → 1 ≤ h → h < i → ticket b i ≢ 0 → (h ≡ j) ⊎ (h ≢ j) → ticket b' h ≢ ticket b' i
        once h u v z (inl q) w = go (same? t 0)
          where
            eq : t ≡ ticket b i
            eq = sym entered-ticket ∙ ap (ticket b') (sym q) ∙ w ∙ other-ticket i n

            go : (t ≡ 0) ⊎ (t ≢ 0) → ⊥
            go (inl y) = z (sym eq ∙ y)
            go (inr y) = F.new y i a n (sym eq)
        once h u v z (inr q) w = s.once h u v z (sym (other-ticket h q) ∙ w ∙ other-ticket i n)

    pub entered-valid : ValidBook b'
    unfolding entered
    entered-valid = record {
      size_in = S.size_in;
      shares_in = S.shares_in;
      issued_in = F.issues_in;
      latest_in = F.tick_in;
      share = λ i a. each i a (same? i j);
      unused = λ i a l. empty i a l;
    }
      where
        each : (i : ℕ) → OneTo b.shares i → (i ≡ j) ⊎ (i ≢ j) → ShareValid b' i
        each i a (inl q) = rw q at_j
        each i a (inr q) = at_other i a q

        empty : (i : ℕ) → OneTo 32 i → b.shares < i → Unused b' i
        empty i a l =
            let y = F.share_in in
            let n : i ≢ j = λ w. omega arith in
            let u = S.unused i a l in
            record { no_next = other-next i n ∙ u.no_next; no_ticket = other-ticket i n ∙ u.no_ticket; no_expiry = other-expiry i n ∙ u.no_expiry }

pub ticked-valid : (b : Book) (tick : ℕ) → b.latest ≤ tick → tick < 2 ^ 48 → ValidBook b → ValidBook (ticked b tick)
unfolding ticked
ticked-valid b tick l h S = record {
  size_in = S.size_in;
  shares_in = S.shares_in;
  issued_in = S.issued_in;
  latest_in = h;
  share = λ j e. (let s = S.share j e in record { from = s.from; to = s.to; free = s.free; once = s.once; issued = s.issued; without = s.without; soon = let x = s.soon in omega arith });
  unused = λ j e u. (let z = S.unused j e u in record { no_next = z.no_next; no_ticket = z.no_ticket; no_expiry = z.no_expiry });
}
