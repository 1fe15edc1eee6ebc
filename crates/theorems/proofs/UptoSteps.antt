-- The steps of a run through the single list: a run tells by its word how many diagrams it has given, and each step moves that number on by one
-- where it writes. So the rows that the steps of a history handed back are those of the single list from that number on.
use mathlib.Core.Path.{◌≡◌, refl, sym, ap, ◌∙◌}
use mathlib.Core.Logic.{◌⊎◌, inl, inr, ⊎_elim, ◌↔◌}
use mathlib.Core.Bool.{Bool, true, false, cond}
use mathlib.Core.List.{List, [], ◌∷◌, ◌++◌, map}
use Prim.Native.Nat.{ℕ, zero, suc, ◌+◌, ◌*◌, ◌≤◌, ◌<◌}
use native.Mathlib.Omega.{arith}
use lib.Dec.{eqb}
use lib.ListN.{length, take, drop, get_or, take-append-drop}
use lib.Seq.{take_at, take_all, drop-cons}
use Rattle.std.specs.Prelude.{Option, Some, None, Result, Ok, Err}
use Rattle.lists.specs.Ranges.{OneTo, stretch}
use Rattle.diagrams.specs.Check.{Accepts}
use Rattle.words.specs.Outputs.{Written, Untouched}
use Rattle.listing.specs.Diagrams.{diagram_of}
use Rattle.listing.proofs.Spelled.{black-length, white-length}
use Rattle.upto.specs.Upto.{upto, total, word_upto, size_of, of_size}
use Rattle.upto.specs.Visits.{visits}
use Rattle.upto.proofs.Upto.{upto-sorted, upto-of-size, at-upto, upto-once}
use Rattle.upto_laws.proofs.Laws.{some_word, visits-most}
use Rattle.upto_answers.specs.declared.UptoRun.{UptoRun}
use Rattle.refusals.specs.declared.Refusal.{Refusal}
use Rattle.upto_answers.specs.declared.UptoGiven.{UptoGiven}
use Rattle.upto_answers.specs.Promises.{fresh_upto, finished_upto, UptoAt, UptoFinished, UptoStepPromise}
use Rattle.upto_answers.proofs.Runs.{upto-not-over, upto-stands-once, upto-stands-not-over}
use Rattle.theorems.specs.Listing.{ExactlyOne}
use Rattle.theorems.specs.UptoSteps.{UptoStep, UptoHistory, upto_writes, upto_written, UptoRow, row_of_word, upto_row, upto_handed, upto_rows, upto_row_words, upto_row_at, IsUptoRow, UptoDoes, UptoAccepted, UptoList, UptoListHolds}
use Rattle.theorems.proofs.SecondList.{front-is, sorted-take}
use Rattle.theorems.proofs.SingleList.{upto-word_of, upto-accepted, word-at-place, upto-placed}

-- the run has given p diagrams, and may have answered "end" if these are all
abbrev Standing : ℕ → ℕ → UptoRun → Type 0
Standing n p run = UptoAt n p run ⊎ ((p ≡ total n) × UptoFinished n run)

-- ---- one step

module _ (n p : ℕ) (N : OneTo 50 n) (end next : UptoRun) (s : UptoStep) where
  abbrev Does : Result (Option UptoGiven) Refusal → Type 0
  Does a = UptoDoes n p end next s a × Standing n (upto_writes a + p) next

  -- after "end" the run is finished, and all had been given
  ended : p ≡ total n → next ≡ finished_upto n → Untouched s.s0 s.s1 s.word s.s0_after s.s1_after s.word_after → Does (Ok None)
  ended e x u = let z : 0 + p ≡ p = omega arith in ((e, x, u), inr (z ∙ e, record { bounded = N; is = x }))

  does : (a : Result (Option UptoGiven) Refusal) → Standing n p end → UptoStepPromise end next s.s0 s.s1 s.word s.s0_after s.s1_after s.word_after a → Does a
  does (Ok (Some g)) (inl S) (n', p', G) = go (upto-stands-once S G.stood)
    where
      go : (n ≡ n') × (p ≡ p') → Does (Ok (Some g))
      go q =
          let z : 1 + p ≡ suc p = omega arith in
          let l : p < total n = rw (q.0, q.1) G.more in (
            (l, rw (q.0, q.1) G.size_is, rw (q.0, q.1) G.length_is, rw (q.0, q.1) G.visits_are, rw (q.0, q.1) G.written),
            inl (rw z record { bounded = N; within = l; is = rw (q.0, q.1) G.leaves }),
          )
  does (Ok (Some g)) (inr o) (n', p', G) = absurd (upto-stands-not-over G.stood o.1)
  does (Ok None) (inl S) ((n', x, inl O), u) = absurd (upto-stands-not-over S O)
  does (Ok None) (inl S) ((n', x, inr T), u) = go (upto-stands-once S T)
    where
      go : (n ≡ n') × (p ≡ total n') → Does (Ok None)
      go q = ended (q.1 ∙ ap total (sym q.0)) (rw q.0 x) u
  does (Ok None) (inr o) ((n', x, inl O), u) = ended o.0 (rw (ap (λ (r : UptoRun). r.bound) (sym o.1.is ∙ O.is)) x) u
  does (Ok None) (inr o) ((n', x, inr T), u) = absurd (upto-stands-not-over T o.1)
  does (Err e) S (r, x, u) = let z : 0 + p ≡ p = omega arith in ((x, u), rw (z, x) S)

-- ---- the rows that the steps handed back

row_is : (n p : ℕ) (g : UptoGiven) (s : UptoStep) → p < total n → g.size ≡ size_of (word_upto n (suc p)) → g.length ≡ length (word_upto n (suc p)) → g.visits ≡ visits n (suc p)
    → Written (diagram_of (word_upto n (suc p))) (word_upto n (suc p)) s.s0 s.s1 s.word s.s0_after s.s1_after s.word_after
    → upto_handed s (Ok (Some g)) ≡ upto_row n (suc p) ∷ []
row_is n p g s l d e f w =
    let u = word_upto n (suc p) in
    let a = at-upto n (suc p) (omega arith, l) in
    rw (
      front-is g.size (diagram_of u).black s.s0 s.s0_after (sym d) w.s0_written,
      front-is g.size (diagram_of u).white s.s1 s.s1_after (white-length a.0 u a.2 ∙ sym (black-length a.0 u a.2) ∙ sym d) w.s1_written,
      front-is g.length u s.word s.word_after (sym e) w.word_written,
      d,
      f,
    )

-- the row that a step handed back, before k rows more
step-rows : (n p k : ℕ) (end next : UptoRun) (s : UptoStep) (a : Result (Option UptoGiven) Refusal) → UptoDoes n p end next s a
    → upto_handed s a ++ map (upto_row n) (stretch (suc (upto_writes a + p)) k) ≡ map (upto_row n) (stretch (suc p) (upto_writes a + k))
step-rows n p k end next s (Ok (Some g)) d =
    let z : 1 + p ≡ suc p = omega arith in
    let y : 1 + k ≡ suc k = omega arith in
    rw (z, y) (ap (λ (l : List UptoRow). l ++ map (upto_row n) (stretch (suc (suc p)) k)) (row_is n p g s d.0 d.1 d.2 d.3 d.4))
step-rows n p k end next s (Ok None) d =
    let z : 0 + p ≡ p = omega arith in
    let y : 0 + k ≡ k = omega arith in
    rw (z, y)
step-rows n p k end next s (Err r) d =
    let z : 0 + p ≡ p = omega arith in
    let y : 0 + k ≡ k = omega arith in
    rw (z, y)

-- the rows of a history from a run that has given p diagrams: those of the places from there on
rows_all : (n : ℕ) → OneTo 50 n → (steps : List UptoStep) (run end : UptoRun) (p : ℕ) → Standing n p run → UptoHistory run steps end
    → upto_rows steps ≡ map (upto_row n) (stretch (suc p) (upto_written steps))
rows_all n N [] run end p S h = refl
rows_all n N (s ∷ steps) run end p S h =
    let d = does n p N run h.0 s s.answer S h.1 in
    ap (λ (l : List UptoRow). upto_handed s s.answer ++ l) (rows_all n N steps h.0 end (upto_writes s.answer + p) d.1 h.2)
    ∙ step-rows n p (upto_written steps) run h.0 s s.answer d.0

standing-all : (n : ℕ) → OneTo 50 n → (steps : List UptoStep) (run end : UptoRun) (p : ℕ) → Standing n p run → UptoHistory run steps end → Standing n (upto_written steps + p) end
standing-all n N [] run end p S e = let z : 0 + p ≡ p = omega arith in rw (z, e) S
standing-all n N (s ∷ steps) run end p S h =
    let z : upto_written steps + (upto_writes s.answer + p) ≡ (upto_writes s.answer + upto_written steps) + p = omega arith in
    rw z at (standing-all n N steps h.0 end (upto_writes s.answer + p) (does n p N run h.0 s s.answer S h.1).1 h.2)

ends : (n p : ℕ) (end next : UptoRun) (s : UptoStep) (a : Result (Option UptoGiven) Refusal) → UptoDoes n p end next s a → UptoAccepted a → (a ≡ Ok None) ↔ (p ≡ total n)
ends n p end next s (Ok (Some g)) d c = (λ e. (let z : ◌≡◌ {A = ℕ} 0 1 = cc in absurd (omega arith)), λ e. (let l = d.0 in absurd (omega arith)))
ends n p end next s (Ok None) d c = (λ e. d.0, λ e. refl)
ends n p end next s (Err e) d c = absurd c

-- ---- the words of the rows

-- k words from place p + 1 on
words-places : (n k p : ℕ) → p + k ≤ total n → upto_row_words (map (upto_row n) (stretch (suc p) k)) ≡ take k (drop p (upto n))
unfolding total word_upto
words-places n zero p l = refl
words-places n (suc k) p l = rw (drop-cons (upto n) p [] (omega arith)) (ap (λ (ws : List (List ℕ)). get_or (upto n) p [] ∷ ws) (words-places n k (suc p) (omega arith)))

-- the i-th of the rows from place p on
row-at : (n k p i : ℕ) (r : UptoRow) → i < k → get_or (map (upto_row n) (stretch p k)) i r ≡ upto_row n (p + i)
row-at n zero p i r l = absurd (omega arith)
row-at n (suc k) p zero r l = let z : p ≡ p + 0 = omega arith in ap (upto_row n) z
row-at n (suc k) p (suc i) r l = let z : suc p + i ≡ p + suc i = omega arith in row-at n k (suc p) i r (omega arith) ∙ ap (upto_row n) z

size-append : (m : ℕ) (us vs : List (List ℕ)) → of_size m (us ++ vs) ≡ of_size m us ++ of_size m vs
size-append m [] vs = refl
size-append m (u ∷ us) vs = go (eqb (size_of u) m) (size-append m us vs)
  where
    go : (b : Bool) → of_size m (us ++ vs) ≡ of_size m us ++ of_size m vs → cond b (u ∷ of_size m (us ++ vs)) (of_size m (us ++ vs)) ≡ cond b (u ∷ of_size m us) (of_size m us) ++ of_size m vs
    go true e = ap (λ (ws : List (List ℕ)). u ∷ ws) e
    go false e = e

-- those of one size among the first words are the first of that size
first-of-size : (m k : ℕ) (ws : List (List ℕ)) → of_size m (take k ws) ≡ take (length (of_size m (take k ws))) (of_size m ws)
first-of-size m k ws =
    let j = length (of_size m (take k ws)) in
    sym (take_at (of_size m (take k ws)) (of_size m (drop k ws)) j refl) ∙ ap (take j) (sym (size-append m (take k ws) (drop k ws)) ∙ ap (of_size m) (take-append-drop k ws))

-- ---- the theorem

module _ (n : ℕ) (N : OneTo 50 n) (steps : List UptoStep) (end : UptoRun) (S : Standing n (upto_written steps) end) (g : upto_rows steps ≡ map (upto_row n) (stretch 1 (upto_written steps))) where
  abbrev k : ℕ
  k = upto_written steps

  no_more : k ≤ total n
  no_more = ⊎_elim (λ T. T.within) (λ o. (let e = o.0 in omega arith)) S

  finished_all : end ≡ finished_upto n → k ≡ total n
  finished_all e = ⊎_elim (λ T. absurd (upto-not-over n k n (sym T.is ∙ e))) (λ o. o.0) S

  words : upto_row_words (upto_rows steps) ≡ take k (upto n)
  words = ap upto_row_words g ∙ words-places n k 0 (let l = no_more in omega arith)

  row-in-place : (q : ℕ) → OneTo k q → upto_row_at (upto_rows steps) q ≡ upto_row n q
  row-in-place zero o = absurd (omega arith)
  row-in-place (suc i) o = let z : 1 + i ≡ suc i = omega arith in rw g (row-at n k 1 i (row_of_word [] 0) o.1 ∙ ap (upto_row n) z)

  in_list : (q : ℕ) → OneTo k q → OneTo (total n) q
  in_list q o = let l = no_more in omega arith

  never_twice : (p q : ℕ) → OneTo k p → OneTo k q → IsUptoRow (upto_row_at (upto_rows steps) p).diagram.black (upto_row_at (upto_rows steps) p).diagram.white 1 (upto_row_at (upto_rows steps) q) → p ≡ q
  never_twice p q a b i =
      let w = word_upto n p in
      let l = at-upto n p (in_list p a) in
      let s = black-length l.0 w l.2 in
      let o = l.1 in
      let A : Accepts (diagram_of w).black (diagram_of w).white 1 = upto-accepted n p (in_list p a) (omega arith) in
      upto-once n p q (in_list p a) (in_list q b)
      (sym (word-at-place n (diagram_of w).black (diagram_of w).white 1 A q (in_list q b) (rw (row-in-place p a, row-in-place q b) at i) ∙ upto-word_of n p (in_list p a)))

  whole : k ≡ total n → upto_row_words (upto_rows steps) ≡ upto n
  unfolding total
  whole e = words ∙ take_all k (upto n) (omega arith)

  each_once : k ≡ total n → (s0 s1 : List ℕ) (root : ℕ) → Accepts s0 s1 root → length s0 ≤ n → ExactlyOne k (λ p. IsUptoRow s0 s1 root (upto_row_at (upto_rows steps) p))
  each_once c s0 s1 root A l =
      let P = upto-placed n s0 s1 root A l in
      let o : OneTo k P.0 = rw c P.1 in
      (P.0, o, rw (row-in-place P.0 o) P.2, λ q f i. P.3 q (rw c at f) (rw (row-in-place q f) at i))

  few_visits : k ≡ total n → (upto_row_at (upto_rows steps) k).visits + 1 ≤ 2 * k
  few_visits c =
      let o = some_word n N.0 in
      rw (row-in-place k (omega arith), c) (visits-most n N.0)

  upto_list : UptoList n steps end
  upto_list = record {
    given = g;
    no_more = no_more;
    words = words;
    by_size = λ m o. (length (of_size m (take k (upto n))), ap (of_size m) words ∙ first-of-size m k (upto n) ∙ ap (take (length (of_size m (take k (upto n))))) (upto-of-size n m o));
    in_order = rw words (sorted-take k (upto n) (upto-sorted n));
    never_twice = never_twice;
    finished_all = finished_all;
    whole = λ e. (whole e, λ m o. ap (of_size m) (whole e) ∙ upto-of-size n m o);
    each_once = each_once;
    few_visits = few_visits;
    next_step = λ next s h. (does n k N end next s s.answer S h).0;
    end_exactly = λ next s h c. ends n k end next s s.answer (does n k N end next s s.answer S h).0 c;
  }

-- a begun run has given none
begun : (n : ℕ) (run : UptoRun) → OneTo 50 n × (run ≡ fresh_upto n) → Standing n 0 run
begun n run B = inl record { bounded = B.0; within = omega arith; is = B.1 }

pub upto-list-holds : UptoListHolds
upto-list-holds n run B steps end h =
    let z : upto_written steps + 0 ≡ upto_written steps = omega arith in
    upto_list n B.0 steps end (rw z at (standing-all n B.0 steps run end 0 (begun n run B) h)) (rows_all n B.0 steps run end 0 (begun n run B) h)
