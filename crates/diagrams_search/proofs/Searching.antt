-- Laws of the search: an edge is put on the list at most once, so the list has room; and a list that holds edge 1 and, with each
-- edge, both its neighbours, holds every edge that is reached.
use mathlib.Core.Path.{◌≡◌, refl, sym, ap, ◌∙◌}
use mathlib.Core.Logic.{◌≢◌, ◌⊎◌, inl, inr, ◌↔◌}
use mathlib.Core.List.{List, [], ◌∷◌, ◌++◌}
use Prim.Native.Nat.{ℕ, zero, suc, ◌+◌, ◌-◌, ◌≤◌, ◌<◌}
use native.Mathlib.Omega.{arith}
use native.Mathlib.Numerals.{add-one}
use lib.ListN.{length, get_or, take, set, replicate, length-set, length-replicate}
use lib.Seq.{length-take-le, take-suc-set, take-set-le, take-suc, take_all, take-append-le, get_or-take, set-get_or}
use Rattle.lists.specs.Lists.{at, put, Has, has, Distinct}
use Rattle.lists.specs.Ranges.{OneTo}
use Rattle.lists.proofs.Tests.{same?, cond-all}
use Rattle.lists.proofs.Lists.{has-true, has-false, has?, has-snoc, snoc-has, distinct_snoc, has_get_d, at-put-same, at-put-other, at_place, put-place, at-zeros, length-1}
use Rattle.lists.proofs.Ranges.{edges_few}
use Rattle.diagrams_entries.specs.Diagram.{Reached, here, black, white}
use Rattle.diagrams_entries.specs.Conditions.{Connected, Mapped, AllOne}
use Rattle.diagrams_entries.proofs.Diagrams.{edge-one, reached-edge}
use Rattle.diagrams_search.specs.Search.{added, Search}

-- ---- an edge on the list is there once

joined-there : (x : ℕ) (l : List ℕ) → Has x l → added x l ≡ l
joined-there x l h = rw (has-true x l h)

joined-new : (x : ℕ) (l : List ℕ) → ¬ Has x l → added x l ≡ l ++ (x ∷ [])
joined-new x l n = rw (has-false x l n)

room : (n x : ℕ) (l : List ℕ) → Distinct l → ((y : ℕ) → Has y l → OneTo n y) → OneTo n x → ¬ Has x l → length l < n
room n x l a k e m = edges_few n (x ∷ l) (m, a) inside
  where
    inside : (y : ℕ) → Has y (x ∷ l) → OneTo n y
    inside y (inl q) = rw q e
    inside y (inr h) = k y h

module _ {marks list : List ℕ} {count : ℕ} (s : Search marks list count) where
  marked-there : (x : ℕ) → at marks x ≡ 1 → Has x (take count list)
  marked-there x e = go (has? x (take count list))
    where
      go : Has x (take count list) ⊎ (¬ Has x (take count list)) → Has x (take count list)
      go (inl h) = h
      go (inr m) = let z = s.other x m in absurd (omega arith)

  module _ (x : ℕ) (e : OneTo (length marks) x) where
    mark-at : get_or marks (x - 1) 0 ≡ at marks x
    mark-at = at_place marks x e.0

    pub mark-small : get_or marks (x - 1) 0 ≤ 1
    mark-small = go (has? x (take count list))
      where
        go : Has x (take count list) ⊎ (¬ Has x (take count list)) → get_or marks (x - 1) 0 ≤ 1
        go (inl h) = let z = mark-at in let w = s.reached x h in omega arith
        go (inr m) = let z = mark-at in let w = s.other x m in omega arith

    -- x was reached before: what is written past the list's end is not counted
    again : Has x (take count list) → Search (set marks (x - 1) 1) (set list count x) count × (take count (set list count x) ≡ added x (take count list))
    again h = (
      record {
        room = rw (length-set marks (x - 1) 1, length-set list count x) s.room;
        count_fits = rw (length-set marks (x - 1) 1) s.count_fits;
        edges = rw (length-set marks (x - 1) 1, same) s.edges;
        distinct = rw same s.distinct;
        reached = rw (marks-same, same) s.reached;
        other = rw (marks-same, same) s.other;
      },
      same ∙ sym (joined-there x (take count list) h),
    )
      where
        same : take count (set list count x) ≡ take count list
        same = take-set-le count list count x (omega arith)

        marks-same : set marks (x - 1) 1 ≡ marks
        marks-same = ap (set marks (x - 1)) (sym (mark-at ∙ s.reached x h)) ∙ set-get_or marks (x - 1) 0

    module _ (new : ¬ Has x (take count list)) where
      below : count < length marks
      below = let z = room (length marks) x (take count list) s.distinct s.edges e new in let w = length-take-le count list (let i = s.room in let j = s.count_fits in omega arith) in omega arith

      longer : take (count + 1) (set list count x) ≡ take count list ++ (x ∷ [])
      longer = rw add-one (take-suc-set list count x (let i = s.room in let j = below in omega arith))

      more : Search (set marks (x - 1) 1) (set list count x) (count + 1) × (take (count + 1) (set list count x) ≡ added x (take count list))
      more = (
        record {
          room = rw (length-set marks (x - 1) 1, length-set list count x) s.room;
          count_fits = rw (length-set marks (x - 1) 1) (let l = below in omega arith);
          edges = rw (length-set marks (x - 1) 1, longer) (λ y h. go y (has-snoc y (take count list) x h));
          distinct = rw longer (distinct_snoc (take count list) x s.distinct new);
          reached = rw (longer, put-place marks x 1 e.0) (λ y h. mark y (same? y x) (has-snoc y (take count list) x h));
          other = rw (longer, put-place marks x 1 e.0) (λ y m. unmarked y m);
        },
        longer ∙ sym (joined-new x (take count list) new),
      )
        where
          go : (y : ℕ) → Has y (take count list) ⊎ (y ≡ x) → OneTo (length marks) y
          go y (inl h) = s.edges y h
          go y (inr q) = rw q e

          mark : (y : ℕ) → (y ≡ x) ⊎ (y ≢ x) → Has y (take count list) ⊎ (y ≡ x) → at (put marks x 1) y ≡ 1
          mark y (inl q) h = rw q (at-put-same marks x 1 e)
          mark y (inr d) (inl h) = at-put-other marks x 1 y d ∙ s.reached y h
          mark y (inr d) (inr q) = absurd (d q)

          unmarked : (y : ℕ) → ¬ Has y (take count list ++ (x ∷ [])) → at (put marks x 1) y ≡ 0
          unmarked y m = at-put-other marks x 1 y (λ q. m (rw q (snoc-has x (take count list) x (inr refl)))) ∙ s.other y (λ h. m (snoc-has y (take count list) x (inl h)))

    -- x is marked, written at the end and counted unless it was marked before
    pub search-reach : (r : ℕ) → r ≡ count + (1 - get_or marks (x - 1) 0)
        → Search (set marks (x - 1) 1) (set list count x) r × (take r (set list count x) ≡ added x (take count list))
    search-reach r q = go (has? x (take count list))
      where
        go : Has x (take count list) ⊎ (¬ Has x (take count list))
            → Search (set marks (x - 1) 1) (set list count x) r × (take r (set list count x) ≡ added x (take count list))
        go (inl h) = let w : r ≡ count = let z = mark-at in let v = s.reached x h in omega arith in rw w (again h)
        go (inr m) = let w : r ≡ count + 1 = let z = mark-at in let v = s.other x m in omega arith in rw w (more m)

-- ---- both neighbours of an edge have a mark

module _ {s0 s1 : List ℕ} (m : Mapped s0 s1) (n : ℕ) (f : length s0 ≤ n) (k : ℕ) (e : OneTo (length s0) k) where
  pub black-small : OneTo n (get_or s0 (k - 1) 0)
  black-small = rw (at_place s0 k e.0) (let i = m.maps.black_in k e in omega arith)

  pub white-small : OneTo n (get_or s1 (k - 1) 0)
  white-small = rw (at_place s1 k e.0) (let i = m.maps.white_in k e in omega arith)

-- an edge's black neighbour joins the list, then its white one
pub joined-both : (s0 s1 : List ℕ) (k : ℕ) → 1 ≤ k → (l : List ℕ) {m n : List ℕ} → m ≡ added (get_or s0 (k - 1) 0) l → n ≡ added (get_or s1 (k - 1) 0) m
    → n ≡ added (at s1 k) (added (at s0 k) l)
joined-both s0 s1 k e l p q = q ∙ rw (at_place s1 k e, p, at_place s0 k e)

-- ---- what the search has found

-- the edges of l are reached, edge 1 is among them, and so are both neighbours of the first edges, done of them
pub record Found (f g : ℕ → ℕ) (l : List ℕ) (done : ℕ) : Type 0 where
  pub first : Has 1 l
  pub all_reached : (x : ℕ) → Has x l → Reached f g 1 x
  pub visited : done ≤ length l
  pub closed : (x : ℕ) → Has x (take done l) → Has (f x) l × Has (g x) l

joined_keeps : (x y : ℕ) (l : List ℕ) → Has y l → Has y (added x l)
joined_keeps x y l h = cond-all (Has y) (has x l) l (l ++ (x ∷ [])) (λ e. h) (λ e. snoc-has y l x (inl h))

joined-has : (x : ℕ) (l : List ℕ) → Has x (added x l)
joined-has x l = go (has? x l)
  where
    go : Has x l ⊎ (¬ Has x l) → Has x (added x l)
    go (inl h) = rw (joined-there x l h) h
    go (inr m) = rw (joined-new x l m) (snoc-has x l x (inr refl))

joined-all : (P : ℕ → Type 0) (x : ℕ) (l : List ℕ) → P x → ((y : ℕ) → Has y l → P y) → (y : ℕ) → Has y (added x l) → P y
joined-all P x l p k y = cond-all (λ m. Has y m → P y) (has x l) l (l ++ (x ∷ [])) (λ e. k y) (λ e h. go (has-snoc y l x h))
  where
    go : Has y l ⊎ (y ≡ x) → P y
    go (inl h) = k y h
    go (inr q) = rw q p

joined-longer : (x : ℕ) (l : List ℕ) → length l ≤ length (added x l)
joined-longer x l = cond-all (λ m. length l ≤ length m) (has x l) l (l ++ (x ∷ [])) (λ e. omega arith) (λ e. rw (length-1 l x) (omega arith))

joined-start : (n x : ℕ) (l : List ℕ) → n ≤ length l → take n (added x l) ≡ take n l
joined-start n x l h = cond-all (λ m. take n m ≡ take n l) (has x l) l (l ++ (x ∷ [])) (λ e. refl) (λ e. take-append-le n l (x ∷ []) h)

module _ (f g : ℕ → ℕ) where
  pub found_first : Found f g (1 ∷ []) 0
  found_first = record { first = inl refl; all_reached = only; visited = omega arith; closed = λ x h. absurd h }
    where
      only : (x : ℕ) → Has x (1 ∷ []) → Reached f g 1 x
      only x (inl e) = rw e here
      only x (inr h) = absurd h

  module _ {l : List ℕ} {done : ℕ} (F : Found f g l done) where
    found-more : (k : ℕ) → done < length l → k ≡ get_or l done 0 → Found f g (added (g k) (added (f k) l)) (done + 1)
    found-more k h e = record {
      first = keeps 1 F.first;
      all_reached = joined-all (Reached f g 1) (g k) (added (f k) l) (white there) (joined-all (Reached f g 1) (f k) l (black there) F.all_reached);
      visited = let i = joined-longer (f k) l in let j = joined-longer (g k) (added (f k) l) in omega arith;
      closed = rw (before, add-one, take-suc l done 0 h, ← e) (λ x m. near x (has-snoc x (take done l) k m));
    }
      where
        there : Reached f g 1 k
        there = F.all_reached k (rw e (has_get_d l done h))

        keeps : (y : ℕ) → Has y l → Has y (added (g k) (added (f k) l))
        keeps y m = joined_keeps (g k) y (added (f k) l) (joined_keeps (f k) y l m)

        before : take (done + 1) (added (g k) (added (f k) l)) ≡ take (done + 1) l
        before = joined-start (done + 1) (g k) (added (f k) l) (let i = joined-longer (f k) l in omega arith) ∙ joined-start (done + 1) (f k) l (omega arith)

        near : (x : ℕ) → Has x (take done l) ⊎ (x ≡ k) → Has (f x) (added (g k) (added (f k) l)) × Has (g x) (added (g k) (added (f k) l))
        near x (inl m) = let c = F.closed x m in (keeps (f x) c.0, keeps (g x) c.1)
        near x (inr q) = rw q (joined_keeps (g k) (f k) (added (f k) l) (joined-has (f k) l), joined-has (g k) (added (f k) l))

    -- once every edge of the list is visited, it has all that are reached
    found_all : length l ≤ done → {x : ℕ} → Reached f g 1 x → Has x l
    found_all h here = F.first
    found_all h (black {x = y} p) = (F.closed y (rw (take_all done l h) (found_all h p))).0
    found_all h (white {x = y} p) = (F.closed y (rw (take_all done l h) (found_all h p))).1

-- ---- the search's first state, its step and its end, as the code has them

pub search-none : (n : ℕ) → Search (replicate n 0) (replicate (n + 1) 0) 0
search-none n = record {
  room = rw (length-replicate {A = ℕ} n 0, length-replicate {A = ℕ} (n + 1) 0) (omega arith);
  count_fits = omega arith;
  edges = λ x h. absurd h;
  distinct = tt;
  reached = λ x h. absurd h;
  other = λ x m. at-zeros n x;
}

module _ {s0 s1 marks list : List ℕ} {count done : ℕ} (m : Mapped s0 s1) (s : Search marks list count) (F : Found (at s0) (at s1) (take count list) done) where
  listed-length : length (take count list) ≡ count
  listed-length = length-take-le count list (let i = s.room in let j = s.count_fits in omega arith)

  module _ (h : done < count) where
    listed_at : get_or (take count list) done 0 ≡ get_or list done 0
    listed_at = get_or-take count list done 0 h

    pub listed-edge : OneTo (length s0) (get_or list done 0)
    listed-edge = reached-edge m.maps (edge-one m.maps) (F.all_reached (get_or list done 0) (rw listed_at at (has_get_d (take count list) done (rw listed-length h))))

    pub found-next : Found (at s0) (at s1) (added (at s1 (get_or list done 0)) (added (at s0 (get_or list done 0)) (take count list))) (done + 1)
    found-next = found-more (at s0) (at s1) F (get_or list done 0) (rw listed-length h) (sym listed_at)

  -- every edge is visited: the marks of 1..n are all 1 exactly if every edge is reached
  pub marks-connected : length s0 ≤ length marks → count ≤ done → AllOne (take (length s0) marks) ↔ Connected s0 s1
  marks-connected f h = (to, from)
    where
      n : ℕ
      n = length s0

      long : length (take n marks) ≡ n
      long = length-take-le n marks f

      to : AllOne (take n marks) → Connected s0 s1
      to a zero e = absurd (omega arith)
      to a (suc i) e = F.all_reached (suc i) (marked-there s (suc i) (sym (get_or-take n marks i 0 e.1) ∙ a i (rw long e.1)))

      from : Connected s0 s1 → AllOne (take n marks)
      from c i l =
          let q : i < n = rw long at l in
          get_or-take n marks i 0 q ∙ s.reached (suc i) (found_all (at s0) (at s1) F (rw listed-length h) (c (suc i) (omega arith)))
