-- The second list of demand 3: a run tells by its word how many diagrams it has given, and each step moves that number on by one where
-- it writes. So the rows that the steps of a history handed back are the listing from that number on.
use mathlib.Core.Path.{◌≡◌, refl, sym, ap, ◌∙◌}
use mathlib.Core.Logic.{◌⊎◌, inl, inr, ⊎_elim, ◌↔◌}
use mathlib.Core.List.{List, [], ◌∷◌, ◌++◌, map}
use Prim.Native.Nat.{ℕ, zero, suc, ◌+◌, ◌≤◌, ◌<◌}
use native.Mathlib.Omega.{arith}
use lib.ListN.{length, take, drop, get_or, get_or-map}
use lib.Seq.{take_at, take_all, drop-cons, get_or-take}
use Rattle.std.specs.Prelude.{Option, Some, None, Result, Ok, Err}
use Rattle.lists.specs.Lists.{All}
use Rattle.lists.specs.Ranges.{OneTo}
use Rattle.diagrams.specs.Check.{Accepts}
use Rattle.words.specs.Order.{Before}
use Rattle.words.specs.Outputs.{overwrite, Written, Untouched}
use Rattle.labelling.specs.Labelling.{word_of}
use Rattle.listing.specs.Listing.{listing, count, Sorted}
use Rattle.listing.specs.Position.{word_at, position}
use Rattle.listing.specs.Diagrams.{diagram_of, diagram_at}
use Rattle.listing.proofs.Listing.{listing-sorted}
use Rattle.listing.proofs.Positions.{at_once, position_at}
use Rattle.listing_successor.proofs.Places.{word_placed}
use Rattle.run_answers.specs.declared.Run.{Run}
use Rattle.refusals.specs.declared.Refusal.{Refusal}
use Rattle.run_steps.specs.Promises.{fresh, finished, run_after, RunAt, RunFinished, StepPromise}
use Rattle.run_row.proofs.Blocks.{black-length, white-length}
use Rattle.theorems.specs.FirstList.{InPlace}
use Rattle.run_validity.proofs.Runs.{given-once, not-over}
use Rattle.theorems.specs.SecondList.{Step, History, writes, written, Row, row_of, handed, rows, row_at, IsRow, StepDoes, Accepted, SecondList, SecondListHolds, BegunAtHolds}
use Rattle.theorems.proofs.Steps.{steps_from, from-happened, from-written}
use Rattle.theorems.proofs.FirstList.{in_place, placed-once}

-- the run has given p diagrams, and may have answered "end" if these are all
abbrev Standing : ℕ → ℕ → Run → Type 0
Standing n p run = RunAt n p run ⊎ ((p ≡ count n) × RunFinished n run)

-- ---- one step

module _ (p : ℕ) (end next : Run) (s : Step) where
  abbrev Does : ℕ → Result (Option ℕ) Refusal → Type 0
  Does n a = StepDoes n p end next s a × Standing n (writes a + p) next

  wrote : (n m : ℕ) → OneTo 50 n → p < count n → next ≡ run_after n (suc p) → m ≡ length (word_at n (suc p))
      → Written (diagram_at n (suc p)) (word_at n (suc p)) s.s0 s.s1 s.word s.s0_after s.s1_after s.word_after → Does n (Ok (Some m))
  wrote n m N l x e w =
      let z : 1 + p ≡ suc p = omega arith in
      ((l, in_place n N (suc p) (omega arith), e, w), inl (rw z record { sized = N; within = l; is = x }))

  -- after "end" the run is finished, and all had been given
  ended : (n : ℕ) → OneTo 50 n → p ≡ count n → next ≡ finished n → Untouched s.s0 s.s1 s.word s.s0_after s.s1_after s.word_after → Does n (Ok None)
  ended n N e x u = let z : 0 + p ≡ p = omega arith in ((e, x, u), inr (z ∙ e, record { sized = N; is = x }))

  does : (n : ℕ) → OneTo 50 n → (a : Result (Option ℕ) Refusal) → Standing n p end → StepPromise end next s.s0 s.s1 s.word s.s0_after s.s1_after s.word_after a → Does n a
  does n N (Ok (Some m)) (inl S) (n', p', T, l, r, x, e, w) = go (given-once n p n' p' S.within T.within (sym S.is ∙ T.is))
    where
      go : (n ≡ n') × (p ≡ p') → Does n (Ok (Some m))
      go q = wrote n m N (rw (q.0, q.1) l) (rw (q.0, q.1) x) (rw (q.0, q.1) e) (rw (q.0, q.1) w)
  does n N (Ok (Some m)) (inr o) (n', p', T, l, r, x, e, w) = absurd (not-over n' p' n (sym T.is ∙ o.1.is))
  does n N (Ok None) (inl S) ((n', x, inl O), u) = absurd (not-over n p n' (sym S.is ∙ O.is))
  does n N (Ok None) (inl S) ((n', x, inr T), u) = go (given-once n p n' (count n') S.within T.0.within (sym S.is ∙ T.0.is))
    where
      go : (n ≡ n') × (p ≡ count n') → Does n (Ok None)
      go q = ended n N (q.1 ∙ ap count (sym q.0)) (rw q.0 x) u
  does n N (Ok None) (inr o) ((n', x, inl O), u) = ended n N o.0 (rw (ap (λ (r : Run). r.size) (sym o.1.is ∙ O.is)) x) u
  does n N (Ok None) (inr o) ((n', x, inr T), u) = absurd (not-over n' (count n') n (sym T.0.is ∙ o.1.is))
  does n N (Err e) S (r, x, u) = let z : 0 + p ≡ p = omega arith in ((x, u), rw (z, x) S)

-- ---- the rows that the steps handed back

-- what was written over the beginning of a list, read off it again
pub front-is : (n : ℕ) (x a b : List ℕ) → length x ≡ n → b ≡ overwrite x a → take n b ≡ x
front-is n x a b l e = ap (take n) e ∙ take_at x (drop (length x) a) n l

row_is : (n p m : ℕ) (s : Step) → p < count n → m ≡ length (word_at n (suc p))
    → Written (diagram_at n (suc p)) (word_at n (suc p)) s.s0 s.s1 s.word s.s0_after s.s1_after s.word_after
    → handed n s (Ok (Some m)) ≡ row_of (word_at n (suc p)) ∷ []
unfolding diagram_at
row_is n p m s l e w =
    let v = word_at n (suc p) in
    let a = word_placed n p l in
    rw (
      front-is n (diagram_of v).black s.s0 s.s0_after (black-length n v a) w.s0_written,
      front-is n (diagram_of v).white s.s1 s.s1_after (white-length n v a) w.s1_written,
      front-is m v s.word s.word_after (sym e) w.word_written,
    )

-- the row that a step handed back, before k rows more
step-rows : (n p k : ℕ) (end next : Run) (s : Step) (a : Result (Option ℕ) Refusal) → StepDoes n p end next s a
    → handed n s a ++ map row_of (take k (drop (writes a + p) (listing n))) ≡ map row_of (take (writes a + k) (drop p (listing n)))
unfolding word_at count
step-rows n p k end next s (Ok (Some m)) d =
    let z : 1 + p ≡ suc p = omega arith in
    let y : 1 + k ≡ suc k = omega arith in
    rw (z, y, drop-cons (listing n) p [] d.0) (ap (λ (l : List Row). l ++ map row_of (take k (drop (suc p) (listing n)))) (row_is n p m s d.0 d.2 d.3))
step-rows n p k end next s (Ok None) d =
    let z : 0 + p ≡ p = omega arith in
    let y : 0 + k ≡ k = omega arith in
    rw (z, y)
step-rows n p k end next s (Err r) d =
    let z : 0 + p ≡ p = omega arith in
    let y : 0 + k ≡ k = omega arith in
    rw (z, y)

-- the rows of a history from a run that has given p diagrams: the listing from there on
pub rows_all : (n : ℕ) → OneTo 50 n → (steps : List Step) (run end : Run) (p : ℕ) → Standing n p run → History run steps end
    → rows n steps ≡ map row_of (take (written steps) (drop p (listing n)))
rows_all n N [] run end p S h = refl
rows_all n N (s ∷ steps) run end p S h =
    let d = does p run h.0 s n N s.answer S h.1 in
    ap (λ (l : List Row). handed n s s.answer ++ l) (rows_all n N steps h.0 end (writes s.answer + p) d.1 h.2)
    ∙ step-rows n p (written steps) run h.0 s s.answer d.0

-- the words of the rows of words
pub words-rows : (ws : List (List ℕ)) → map (λ (r : Row). r.word) (map row_of ws) ≡ ws
words-rows [] = refl
words-rows (w ∷ ws) = ap (λ (l : List (List ℕ)). w ∷ l) (words-rows ws)

-- what a list keeps where it is cut short
all_take : (P : List ℕ → Type 0) (k : ℕ) (ws : List (List ℕ)) → All P ws → All P (take k ws)
all_take P zero ws a = tt
all_take P (suc k) [] a = tt
all_take P (suc k) (w ∷ ws) a = (a.0, all_take P k ws a.1)

pub sorted-take : (k : ℕ) (ws : List (List ℕ)) → Sorted ws → Sorted (take k ws)
sorted-take zero ws s = tt
sorted-take (suc k) [] s = tt
sorted-take (suc k) (w ∷ ws) s = (all_take (Before w) k ws s.0, sorted-take k ws s.1)

-- the row at a position below the number of rows
pub row-at : (ws : List (List ℕ)) (k i : ℕ) → i < k → row_at (map row_of (take k ws)) (suc i) ≡ row_of (get_or ws i [])
row-at ws k i l = get_or-map row_of (take k ws) i [] ∙ ap row_of (get_or-take k ws i [] l)

-- ---- the whole list

standing-all : (n : ℕ) → OneTo 50 n → (steps : List Step) (run end : Run) (p : ℕ) → Standing n p run → History run steps end → Standing n (written steps + p) end
standing-all n N [] run end p S e = let z : 0 + p ≡ p = omega arith in rw (z, e) S
standing-all n N (s ∷ steps) run end p S h =
    let z : written steps + (writes s.answer + p) ≡ (writes s.answer + written steps) + p = omega arith in
    rw z at (standing-all n N steps h.0 end (writes s.answer + p) (does p run h.0 s n N s.answer S h.1).1 h.2)

ends : (n p : ℕ) (end next : Run) (s : Step) (a : Result (Option ℕ) Refusal) → StepDoes n p end next s a → Accepted a → (a ≡ Ok None) ↔ (p ≡ count n)
ends n p end next s (Ok (Some m)) d c = (λ e. (let z : ◌≡◌ {A = ℕ} 0 1 = cc in absurd (omega arith)), λ e. (let l = d.0 in absurd (omega arith)))
ends n p end next s (Ok None) d c = (λ e. d.0, λ e. refl)
ends n p end next s (Err e) d c = absurd c

-- ---- the theorem

module _ (n : ℕ) (N : OneTo 50 n) (steps : List Step) (end : Run) (S : Standing n (written steps) end) (g : rows n steps ≡ map row_of (take (written steps) (listing n))) where
  abbrev p : ℕ
  p = written steps

  no_more : p ≤ count n
  no_more = ⊎_elim (λ T. T.within) (λ o. (let e = o.0 in omega arith)) S

  finished_all : end ≡ finished n → p ≡ count n
  finished_all e = ⊎_elim (λ T. absurd (not-over n p n (sym T.is ∙ e))) (λ o. o.0) S

  row-in-place : (q : ℕ) → OneTo p q → InPlace n q × (row_at (rows n steps) q ≡ record { diagram = diagram_at n q; word = word_at n q })
  unfolding word_at diagram_at
  row-in-place zero e = absurd (omega arith)
  row-in-place (suc i) e = (in_place n N (suc i) (let l = no_more in omega arith), rw g (row-at (listing n) p i e.1))

  -- the diagram of the row at q
  row-diagram : (q : ℕ) → OneTo p q → (row_at (rows n steps) q).diagram ≡ diagram_at n q
  row-diagram q e = ap (λ (r : Row). r.diagram) (row-in-place q e).1

  never_twice : (q r : ℕ) → OneTo p q → OneTo p r → IsRow (row_at (rows n steps) q).diagram.black (row_at (rows n steps) q).diagram.white 1 (row_at (rows n steps) r) → q ≡ r
  never_twice q r e f i =
      let Q = (row-in-place q e).0 in
      let R = (row-in-place r f).0 in
      let P = placed-once n (diagram_at n q).black (diagram_at n q).white 1 Q.in_form.accepted Q.sized (omega arith) in
      sym (position_at n q Q.counted) ∙ ap (position n) (sym Q.its_word) ∙ sym (P.2 r R.counted (rw (row-diagram q e, row-diagram r f) at i))

  whole : p ≡ count n → rows n steps ≡ map row_of (listing n)
  unfolding count
  whole e = g ∙ ap (map row_of) (take_all p (listing n) (omega arith))

  each_once : p ≡ count n → (s0 s1 : List ℕ) (root : ℕ) → Accepts s0 s1 root → length s0 ≡ n
      → (q : ℕ) × OneTo p q × IsRow s0 s1 root (row_at (rows n steps) q) × ((r : ℕ) → OneTo p r → IsRow s0 s1 root (row_at (rows n steps) r) → r ≡ q)
  each_once c s0 s1 root A l =
      let P = placed-once n s0 s1 root A l (omega arith) in
      let i : OneTo p (position n (word_of s0 s1 root)) = rw c P.0 in (
        position n (word_of s0 s1 root),
        i,
        rw (row-in-place (position n (word_of s0 s1 root)) i).1 P.1,
        λ r f x. P.2 r (rw c at f) (rw (row-in-place r f).1 at x),
      )

  second_list : SecondList n steps end
  second_list = record {
    given = g;
    no_more = no_more;
    in_order = rw (g, words-rows (take p (listing n))) (sorted-take p (listing n) (listing-sorted n));
    never_twice = never_twice;
    in_place = row-in-place;
    finished_all = finished_all;
    whole = whole;
    each_once = each_once;
    next_step = λ next s h. (does p end next s n N s.answer S h).0;
    end_exactly = λ next s h c. ends n p end next s s.answer (does p end next s n N s.answer S h).0 c;
  }

-- a begun run has given none
begun : (n : ℕ) (run : Run) → OneTo 50 n × (run ≡ fresh n) → Standing n 0 run
begun n run B = inl record { sized = B.0; within = omega arith; is = B.1 }

pub second-list-holds : SecondListHolds
second-list-holds n run B steps end h =
    let z : written steps + 0 ≡ written steps = omega arith in
    second_list n B.0 steps end (rw z at (standing-all n B.0 steps run end 0 (begun n run B) h)) (rows_all n B.0 steps run end 0 (begun n run B) h)

-- ---- a run that begins at a position: p steps from the fresh run leave it

pub begun-at-holds : BegunAtHolds
begun-at-holds n p run start S B =
    let z : 0 + p ≡ p = omega arith in
    let l = S.within in
    let w = from-written n [] p 0 in (
      steps_from n 0 p [],
      from-happened n [] B.0 p 0 start run record { sized = B.0; within = omega arith; is = B.1 } (omega arith) (rw z S.is),
      omega arith,
    )
