-- The ledger of a book: which positions have been committed, as its next positions tell. Opening starts it empty; a claim, a take and a
-- release leave it; a commit adds the share's next position to it.
use mathlib.Core.Path.{◌≡◌, refl, sym, ap, ◌∙◌}
use mathlib.Core.Logic.{◌≢◌, ◌⊎◌, inl, inr}
use mathlib.Core.Bool.{true, cond}
use mathlib.Core.List.{List, [], ◌∷◌, ◌++◌}
use Prim.Native.Nat.{ℕ, zero, suc, pred, ◌+◌, ◌-◌, ◌≤◌, ◌<◌}
use native.Mathlib.Omega.{arith}
use lib.Dec.{leb, ltb}
use lib.ListN.{length, length-replicate}
use Rattle.lists.specs.Lists.{Has, Distinct}
use Rattle.lists.specs.Ranges.{OneTo, sum}
use Rattle.lists.proofs.Tests.{le-true, le-false, lt-true, ltb-true, same?, lt?}
use Rattle.lists.proofs.Lists.{length-listed, at_listed, at-zeros, length-1, has-snoc, snoc-has, distinct_snoc}
use Rattle.lists.proofs.Ranges.{every_true, true-every, sum-zero}
use Rattle.book.specs.declared.types.Book.{Book}
use Rattle.book.specs.Shares.{first, last, next, finished, done, committed, complete}
use Rattle.book.specs.Calls.{opened}
use Rattle.book.specs.Holding.{ShareHolds}
use Rattle.book.proofs.Partition.{last-le, share-once}
use Rattle.book.proofs.ValidBook.{ValidBook, Long}

-- the book b of size n in k shares, with the positions C committed so far, in the order in which they were
pub record Ledger (n k : ℕ) (b : Book) (C : List ℕ) : Type 0 where
  pub sized : b.size ≡ n
  pub shared : b.shares ≡ k
  pub is_valid : ValidBook b
  pub long : Long b
  pub from_share : (p : ℕ) → Has p C → (j : ℕ) × OneTo k j × (first n k j ≤ p) × (p < next b j)
  pub to_list : (j p : ℕ) → OneTo k j → first n k j ≤ p → p < next b j → Has p C
  pub once : Distinct C
  pub total : length C ≡ committed b

-- what a share has passed, it holds
pub passed-held : {n k : ℕ} {b : Book} {C : List ℕ} → Ledger n k b C → (j p : ℕ) → OneTo k j → first n k j ≤ p → p < next b j → ShareHolds n k j p
passed-held {n} {k} {b} L j p e l u = record { share = e; from = l; to = let z = rw (L.sized, L.shared) at (L.is_valid.share j (rw L.shared e)).to in omega arith }

-- the next position of an unfinished share is held by it alone, so that none has committed it
pub next-uncommitted : {n k : ℕ} {b : Book} {C : List ℕ} → Ledger n k b C → (i : ℕ) → ShareHolds n k i (next b i) → ¬ Has (next b i) C
next-uncommitted {n} {k} {b} L i H h =
    let q = L.from_share (next b i) h in
    let e = share-once n k (let z = H.share in omega arith) q.0 i (next b i) (passed-held L q.0 (next b i) q.1 q.2 q.3) H in
    let z : next b q.0 ≡ next b i = ap (next b) e in
    let y = q.3 in
    omega arith

-- ---- sums

pub sum_same : (m : ℕ) (s t : ℕ → ℕ) → ((j : ℕ) → OneTo m j → s j ≡ t j) → sum m s ≡ sum m t
sum_same zero s t e = refl
sum_same (suc m) s t e = rw (e (suc m) (omega arith), sum_same m s t (λ j i. e j (omega arith)))

-- one term more by one
pub sum_one : (m : ℕ) (s t : ℕ → ℕ) (i : ℕ) → OneTo m i → t i ≡ suc (s i) → ((j : ℕ) → OneTo m j → j ≢ i → t j ≡ s j) → sum m t ≡ suc (sum m s)
sum_one zero s t i e q r = absurd (omega arith)
sum_one (suc m) s t i e q r = go (same? i (suc m)) (sum_one m s t i)
  where
    go : (i ≡ suc m) ⊎ (i ≢ suc m) → (OneTo m i → t i ≡ suc (s i) → ((j : ℕ) → OneTo m j → j ≢ i → t j ≡ s j) → sum m t ≡ suc (sum m s)) → sum (suc m) t ≡ suc (sum (suc m) s)
    go (inl z) k =
        let x = sum_same m t s (λ j u. r j (omega arith) (λ w. omega arith)) in
        let y : t (suc m) ≡ suc (s (suc m)) = rw (sym z) q in
        omega arith
    go (inr z) k =
        let x = k (omega arith) q (λ j u. r j (omega arith)) in
        let y = r (suc m) (omega arith) (λ w. z (sym w)) in
        omega arith

-- ---- opening

module _ (n k : ℕ) (N : OneTo 50 n) (K : OneTo 32 k) where
  some : 0 < k
  some = K.0

  opened-next : (j : ℕ) → OneTo k j → next (opened n k) j ≡ first n k j
  unfolding opened
  opened-next j e = at_listed (λ i. cond (leb i k) (first n k i) 0) 32 j (omega arith) ∙ rw (le-true j k e.1)

  opened-unused : (j : ℕ) → OneTo 32 j → k < j → next (opened n k) j ≡ 0
  unfolding opened
  opened-unused j e l = at_listed (λ i. cond (leb i k) (first n k i) 0) 32 j e ∙ rw (le-false j k l)

  -- a share begins at most one past the end of the one before
  first_fits : (j : ℕ) → OneTo k j → first n k j ≤ suc (last n k j)
  unfolding first
  first_fits j e = let x = last-le n k some (pred j) j (omega arith) in omega arith

  opened-valid : ValidBook (opened n k)
  unfolding opened
  opened-valid = record {
    size_in = N;
    shares_in = K;
    issued_in = omega arith;
    latest_in = omega arith;
    share = λ j e. record {
      from = rw (opened-next j e) (omega arith);
      to = rw (opened-next j e) (first_fits j e);
      free = λ l. at-zeros 32 j;
      once = λ i u v z. absurd (z (at-zeros 32 j));
      issued = rw (at-zeros 32 j) (omega arith);
      without = λ z. at-zeros 32 j;
      soon = rw (at-zeros 32 j) (omega arith);
    };
    unused = λ j e l. record { no_next = opened-unused j e l; no_ticket = at-zeros 32 j; no_expiry = at-zeros 32 j };
  }

  opened-none : (j : ℕ) → OneTo k j → done (opened n k) j ≡ 0
  unfolding done opened
  opened-none j e = rw (opened-next j e) (omega arith)

  pub ledger-opened : Ledger n k (opened n k) []
  unfolding committed opened
  ledger-opened = record {
    sized = refl;
    shared = refl;
    is_valid = opened-valid;
    long = record { next_long = length-listed (λ i. cond (leb i k) (first n k i) 0) 32; ticket_long = length-replicate {A = ℕ} 32 0; expiry_long = length-replicate {A = ℕ} 32 0 };
    from_share = λ p h. absurd h;
    to_list = λ j p e l u. (let x = opened-next j e in absurd (omega arith));
    once = tt;
    total = sym (sum-zero k (done (opened n k)) opened-none);
  }

-- ---- a call that moves no share on

module _ (n k : ℕ) (b b' : Book) (C : List ℕ) (L : Ledger n k b C) (sized : b'.size ≡ b.size) (shared : b'.shares ≡ b.shares) (S : ValidBook b') (M : Long b')
    (same : (j : ℕ) → OneTo b.shares j → next b' j ≡ next b j) where
  done-same : (j : ℕ) → OneTo b.shares j → done b' j ≡ done b j
  unfolding done
  done-same j e = rw (sized, shared, same j e)

  committed-same : committed b' ≡ committed b
  unfolding committed
  committed-same = ap (λ (m : ℕ). sum m (done b')) shared ∙ sum_same b.shares (done b') (done b) done-same

  pub ledger-same : Ledger n k b' C
  ledger-same = record {
    sized = sized ∙ L.sized;
    shared = shared ∙ L.shared;
    is_valid = S;
    long = M;
    from_share = λ p h. (let q = L.from_share p h in (q.0, q.1, q.2, rw (same q.0 (rw L.shared q.1)) q.3));
    to_list = λ j p e l u. L.to_list j p e l (rw (same j (rw L.shared e)) at u);
    once = L.once;
    total = L.total ∙ sym committed-same;
  }

-- ---- a call that moves share i on by one

module _ (n k : ℕ) (b b' : Book) (C : List ℕ) (L : Ledger n k b C) (sized : b'.size ≡ b.size) (shared : b'.shares ≡ b.shares) (S : ValidBook b') (M : Long b')
    (i : ℕ) (I : OneTo b.shares i) (unfinished : next b i ≤ last b.size b.shares i) (more : next b' i ≡ suc (next b i)) (same : (j : ℕ) → OneTo b.shares j → j ≢ i → next b' j ≡ next b j) where
  i-first : first n k i ≤ next b i
  i-first = rw (L.sized, L.shared) at (L.is_valid.share i I).from

  i-in : OneTo k i
  i-in = rw L.shared at I

  done_more : done b' i ≡ suc (done b i)
  unfolding done
  done_more = rw (sized, shared, more) (let x = (L.is_valid.share i I).from in omega arith)

  done-other : (j : ℕ) → OneTo b.shares j → j ≢ i → done b' j ≡ done b j
  unfolding done
  done-other j e n = rw (sized, shared, same j e n)

  committed-more : committed b' ≡ suc (committed b)
  unfolding committed
  committed-more = ap (λ (m : ℕ). sum m (done b')) shared ∙ sum_one b.shares (done b) (done b') i I done_more done-other

  not_yet : ¬ Has (next b i) C
  not_yet = next-uncommitted L i record { share = i-in; from = i-first; to = rw (L.sized, L.shared) at unfinished }

  pub ledger-more : Ledger n k b' (C ++ (next b i ∷ []))
  ledger-more = record {
    sized = sized ∙ L.sized;
    shared = shared ∙ L.shared;
    is_valid = S;
    long = M;
    from_share = λ p h. old p (has-snoc p C (next b i) h);
    to_list = λ j p e l u. snoc-has p C (next b i) (new j p e l u (same? j i));
    once = distinct_snoc C (next b i) L.once not_yet;
    total = length-1 C (next b i) ∙ ap suc L.total ∙ sym committed-more;
  }
    where
      up : (j : ℕ) → OneTo k j → next b j ≤ next b' j
      up j e = go (same? j i)
        where
          go : (j ≡ i) ⊎ (j ≢ i) → next b j ≤ next b' j
          go (inl z) = rw z (let y = more in omega arith)
          go (inr z) = let y = same j (rw L.shared e) z in omega arith

      old : (p : ℕ) → Has p C ⊎ (p ≡ next b i) → (j : ℕ) × OneTo k j × (first n k j ≤ p) × (p < next b' j)
      old p (inl h) = let q = L.from_share p h in let u = up q.0 q.1 in let v = q.3 in (q.0, q.1, q.2, omega arith)
      old p (inr e) = let y = more in let z = i-first in (i, i-in, omega arith, omega arith)

      new : (j p : ℕ) → OneTo k j → first n k j ≤ p → p < next b' j → (j ≡ i) ⊎ (j ≢ i) → Has p C ⊎ (p ≡ next b i)
      new j p e l u (inl z) = go (same? p (next b i))
        where
          go : (p ≡ next b i) ⊎ (p ≢ next b i) → Has p C ⊎ (p ≡ next b i)
          go (inl w) = inr w
          go (inr w) = inl (L.to_list j p e l (rw z (let x = rw z at u in let y = more in omega arith)))
      new j p e l u (inr z) = inl (L.to_list j p e l (rw (same j (rw L.shared e) z) at u))

-- ---- complete

module _ (n k : ℕ) (b : Book) (C : List ℕ) (L : Ledger n k b C) (some : 0 < k) where
  -- a share is finished exactly if each position that it holds has been committed
  pub finished_all : (j : ℕ) → OneTo k j → finished b j ≡ true → (p : ℕ) → ShareHolds n k j p → Has p C
  unfolding finished
  finished_all j e f p H =
      let l = rw (L.sized, L.shared) at (ltb-true (last b.size b.shares j) (next b j) f) in
      L.to_list j p e H.from (let x = H.to in omega arith)

  pub all_finished : (j : ℕ) → OneTo k j → ((p : ℕ) → ShareHolds n k j p → Has p C) → finished b j ≡ true
  unfolding finished
  all_finished j e h = go (lt? (last b.size b.shares j) (next b j))
    where
      s : first n k j ≤ next b j
      s = rw (L.sized, L.shared) at (L.is_valid.share j (rw L.shared e)).from

      go : (last b.size b.shares j < next b j) ⊎ (next b j ≤ last b.size b.shares j) → ltb (last b.size b.shares j) (next b j) ≡ true
      go (inl l) = lt-true _ _ l
      go (inr l) =
          let H : ShareHolds n k j (next b j) = record { share = e; from = s; to = rw (L.sized, L.shared) at l } in
          absurd (next-uncommitted L j H (h (next b j) H))

  pub complete-shares : complete b ≡ true → (j : ℕ) → OneTo k j → finished b j ≡ true
  unfolding complete
  complete-shares c j e = every_true b.shares (finished b) c j (rw L.shared e)

  pub shares-complete : ((j : ℕ) → OneTo k j → finished b j ≡ true) → complete b ≡ true
  unfolding complete
  shares-complete h = true-every b.shares (finished b) (λ j e. h j (rw L.shared at e))
