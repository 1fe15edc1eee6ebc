-- What an event writes into the stack and the lists is what it does in `spells`: one law per event, and before it the places it needs.
use mathlib.Core.Path.{◌≡◌, refl, sym, ap, ◌∙◌}
use mathlib.Core.Bool.{true}
use mathlib.Core.Option.{some}
use mathlib.Core.List.{List, [], ◌∷◌, ◌++◌}
use Prim.Native.Nat.{ℕ, zero, suc, ◌+◌, ◌-◌, ◌≤◌, ◌<◌}
use native.Mathlib.Omega.{arith}
use lib.Dec.{ltb}
use lib.ListN.{length, get_or, set, length-set}
use Rattle.lists.specs.Lists.{put, remove_at}
use Rattle.lists.specs.Ranges.{OneTo}
use Rattle.lists.proofs.Tests.{ltb-true}
use Rattle.lists.proofs.Lists.{has_get_d, all-has, all_map, all-remove_at, length-remove_at, length-put, length-1, length-3}
use Rattle.words.specs.Word.{Pair, spells, spell, Spells}
use Rattle.words.proofs.Outputs.{over-length, over-one}
use Rattle.words.proofs.Growing.{none≢some, cond-some}
use Rattle.words.proofs.Shape.{grows}
use Rattle.words_spelling_stores.specs.Stores.{set_three, Shifted}
use Rattle.words_spelling_events.specs.States.{State, event_state, state_after, first_state}
use Rattle.words_spelling_events.specs.Spelling.{SpellingRoom, SpellingHeld, SpellingState}
use Rattle.words_spelling_events.proofs.Lists.{stacked-push, stacked-at, stacked-remove_at, over-three, over-put, over-set}

-- ---- the stack and the lists, k being popped

module _ (k : ℕ) (r s0 s1 a0 a1 stack b0 b1 : List ℕ) (used : ℕ) (H : SpellingHeld (k ∷ r) s0 s1 a0 a1 stack b0 b1 used) where
  -- the next free label
  abbrev c : ℕ
  c = suc (length s0)

  k-in : OneTo (length s1) k
  k-in = rw H.even H.within.0

  new1 : used + 1 ≡ c
  new1 = let z = H.used_is in omega arith

  new2 : used + 2 ≡ suc c
  new2 = let z = H.used_is in omega arith

  new3 : used + 3 ≡ suc (suc c)
  new3 = let z = H.used_is in omega arith

  holds-W : SpellingHeld r s0 s1 a0 a1 stack b0 b1 used
  holds-W = record {
    long = H.long;
    stacked = H.stacked.1;
    used_is = H.used_is;
    even = H.even;
    within = H.within.1;
    low = let z = H.low in omega arith;
    s0_is = H.s0_is;
    s1_is = H.s1_is;
  }

  holds-F : (h : ℕ) → h ≡ length r → used ≤ 50 → used + 3 ≤ length a0 → used + 3 ≤ length a1
      → SpellingHeld (suc (suc c) ∷ suc c ∷ r) (s0 ++ (suc c ∷ suc (suc c) ∷ c ∷ [])) (put s1 k c ++ (k ∷ suc c ∷ suc (suc c) ∷ [])) a0 a1
      (set (set stack h (used + 2)) (h + 1) (used + 3)) (set_three b0 used (used + 2) (used + 3) (used + 1)) (set_three (set b1 (k - 1) (used + 1)) used k (used + 2) (used + 3)) (used + 3)
  holds-F h e u l0 l1 = rw (new1, new2, new3) record {
    long = simp length-set H.long;
    stacked = stacked-push (set stack h (suc c)) (suc c ∷ r) (h + 1) (suc (suc c)) (omega arith) (simp length-set (let y = H.low in let z = H.long in omega arith))
        (stacked-push stack r h (suc c) e (let y = H.low in let z = H.long in omega arith) H.stacked.1);
    used_is = sym (length-3 s0 (suc c) (suc (suc c)) c);
    even = length-3 (put s1 k c) k (suc c) (suc (suc c)) ∙ rw (length-put, H.even, H.used_is);
    within = (omega arith, (omega arith, all_map (OneTo used) (OneTo (suc (suc c))) (λ x i. let z = H.used_is in omega arith) r H.within.1));
    low = let y = H.low in let z = H.used_is in omega arith;
    s0_is = rw H.s0_is (rw (new1, new2) at (over-three s0 a0 used (suc c) (suc (suc c)) c H.used_is l0));
    s1_is = rw (H.s1_is, over-set s1 a1 k c k-in) (rw (new1, new2) at (over-three (put s1 k c) a1 used k (suc c) (suc (suc c)) (rw length-put (sym H.even)) l1));
  }

  holds-B : used + 1 ≤ length a0 → used + 1 ≤ length a1
      → SpellingHeld r (s0 ++ (c ∷ [])) (put s1 k c ++ (k ∷ [])) a0 a1 stack (set b0 used (used + 1)) (set (set b1 (k - 1) (used + 1)) used k) (used + 1)
  holds-B l0 l1 = rw new1 record {
    long = H.long;
    stacked = H.stacked.1;
    used_is = sym (length-1 s0 c);
    even = length-1 (put s1 k c) k ∙ rw (length-put, H.even, H.used_is);
    within = all_map (OneTo used) (OneTo c) (λ x i. let z = H.used_is in omega arith) r H.within.1;
    low = let y = H.low in let z = H.used_is in omega arith;
    s0_is = rw H.s0_is (over-one s0 a0 used c H.used_is (omega arith));
    s1_is = rw (H.s1_is, over-set s1 a1 k c k-in) (over-one (put s1 k c) a1 used k (rw length-put (sym H.even)) (omega arith));
  }

  module _ (d : ℕ) (l : d < length r) where
    abbrev p : ℕ
    p = get_or r d 0

    p-in : OneTo used p
    p-in = all-has (OneTo used) r p H.within.1 (has_get_d r d l)

    holds-J : (q : List ℕ) (place end : ℕ) → Shifted stack q place end → place + suc d ≡ length r → length r ≤ suc end → SpellingHeld (remove_at d r) s0 (put (put s1 k p) p k) a0 a1 q b0 (put (put b1 k p) p k) used
    holds-J q place end s e m = record {
      long = s.long ∙ H.long;
      stacked = stacked-remove_at stack q r d place end s l e m H.stacked.1;
      used_is = H.used_is;
      even = simp length-put H.even;
      within = all-remove_at (OneTo used) d r H.within.1;
      low = let y = length-remove_at d r l in let z = H.low in omega arith;
      s0_is = H.s0_is;
      s1_is = rw (H.s1_is, over-put s1 a1 k p k-in) (over-put (put s1 k p) a1 p k (rw (length-put, H.even) p-in));
    }

-- ---- an event, its label k being popped

pub record Popped (D : Pair) (x : ℕ) (w : List ℕ) (S : State) (a0 a1 stack b0 b1 : List ℕ) (used h k : ℕ) : Type 0 where
  pub rest : List ℕ
  pub pending_is : S.pending ≡ k ∷ rest
  pub goes : spells (x ∷ w) (k ∷ rest) S.black S.white ≡ some D
  pub holds : SpellingHeld (k ∷ rest) S.black S.white a0 a1 stack b0 b1 used
  pub h_is : h ≡ length rest
  pub room : SpellingRoom D a0 a1

module _ (D : Pair) (w : List ℕ) (S : State) (a0 a1 stack b0 b1 : List ℕ) (used : ℕ) where
  pub pending-some : (x height : ℕ) → SpellingState D (x ∷ w) S a0 a1 stack b0 b1 used height → (1 ≤ height) × (height ≤ 50)
  unfolding spells
  pending-some x height M = go S.pending M.goes M.holds M.height_is
    where
      go : (p : List ℕ) → spells (x ∷ w) p S.black S.white ≡ some D → SpellingHeld p S.black S.white a0 a1 stack b0 b1 used → height ≡ length p → (1 ≤ height) × (height ≤ 50)
      go [] g H e = absurd (none≢some D g)
      go (k ∷ r) g H e =
          let u = grows (x ∷ w) (k ∷ r) S.black S.white D g in
          let v = M.room.small in
          let y = H.low in
          let z = H.used_is in
          omega arith

  pub popped : (x height h : ℕ) → SpellingState D (x ∷ w) S a0 a1 stack b0 b1 used height → h ≡ height - 1 → Popped D x w S a0 a1 stack b0 b1 used h (get_or stack h 0)
  unfolding spells
  popped x height h M f = go S.pending refl M.goes M.holds M.height_is
    where
      go : (p : List ℕ) → S.pending ≡ p → spells (x ∷ w) p S.black S.white ≡ some D → SpellingHeld p S.black S.white a0 a1 stack b0 b1 used → height ≡ length p → Popped D x w S a0 a1 stack b0 b1 used h (get_or stack h 0)
      go [] y g H e = absurd (none≢some D g)
      go (k ∷ r) y g H e =
          let q : h ≡ length r = omega arith in
          let i : get_or stack h 0 ≡ k = rw q H.stacked.0 in
          rw i record { rest = r; pending_is = y; goes = g; holds = H; h_is = q; room = M.room }

  module _ (h k : ℕ) where
    pub midway-W : Popped D 0 w S a0 a1 stack b0 b1 used h k → SpellingState D w (state_after 0 S) a0 a1 stack b0 b1 used h
    unfolding spells event_state
    midway-W P = rw P.pending_is record { goes = P.goes; holds = holds-W k P.rest S.black S.white a0 a1 stack b0 b1 used P.holds; height_is = P.h_is; room = P.room }

    module _ (P : Popped D 1 w S a0 a1 stack b0 b1 used h k) where
      grown-F : used + 3 ≤ length D.black
      unfolding spells
      grown-F = let i = rw length-3 at (grows w _ _ _ D P.goes) in let z = P.holds.used_is in omega arith

      pub room-F : OneTo used k × (used ≤ 50) × (h ≤ 50) × (used + 3 ≤ length b0) × (used + 3 ≤ length b1)
      room-F =
          let i = grown-F in
          let j = P.room in
          let y = P.holds.low in
          let z = P.holds.within.0 in
          let u = P.holds.used_is in
          let v = P.holds.even in
          let t = P.h_is in
          let l0 : length b0 ≡ length a0 = ap length P.holds.s0_is ∙ over-length S.black a0 (omega arith) in
          let l1 : length b1 ≡ length a1 = ap length P.holds.s1_is ∙ over-length S.white a1 (omega arith) in
          (z, omega arith, omega arith, omega arith, omega arith)

      pub midway-F : SpellingState D w (state_after 1 S) a0 a1 (set (set stack h (used + 2)) (h + 1) (used + 3)) (set_three b0 used (used + 2) (used + 3) (used + 1)) (set_three (set b1 (k - 1) (used + 1)) used k (used + 2) (used + 3)) (used + 3) (h + 2)
      unfolding spells event_state
      midway-F = let i = grown-F in let j = P.room in rw P.pending_is record {
        goes = P.goes;
        holds = holds-F k P.rest S.black S.white a0 a1 stack b0 b1 used P.holds h P.h_is (omega arith) (omega arith) (omega arith);
        height_is = let z = P.h_is in omega arith;
        room = P.room;
      }

    module _ (P : Popped D 2 w S a0 a1 stack b0 b1 used h k) where
      grown-B : used + 1 ≤ length D.black
      unfolding spells
      grown-B = let i = rw length-1 at (grows w _ _ _ D P.goes) in let z = P.holds.used_is in omega arith

      pub room-B : OneTo used k × (used ≤ 50) × (used + 1 ≤ length b0) × (used + 1 ≤ length b1)
      room-B =
          let i = grown-B in
          let j = P.room in
          let z = P.holds.within.0 in
          let u = P.holds.used_is in
          let v = P.holds.even in
          let l0 : length b0 ≡ length a0 = ap length P.holds.s0_is ∙ over-length S.black a0 (omega arith) in
          let l1 : length b1 ≡ length a1 = ap length P.holds.s1_is ∙ over-length S.white a1 (omega arith) in
          (z, omega arith, omega arith, omega arith)

      pub midway-B : SpellingState D w (state_after 2 S) a0 a1 stack (set b0 used (used + 1)) (set (set b1 (k - 1) (used + 1)) used k) (used + 1) h
      unfolding spells event_state
      midway-B = let i = grown-B in let j = P.room in rw P.pending_is record {
        goes = P.goes;
        holds = holds-B k P.rest S.black S.white a0 a1 stack b0 b1 used P.holds (omega arith) (omega arith);
        height_is = P.h_is;
        room = P.room;
      }

    module _ (x d : ℕ) (is-J : x ≡ suc (suc (suc d))) (P : Popped D x w S a0 a1 stack b0 b1 used h k) where
      abbrev partner : ℕ
      partner = get_or P.rest d 0

      abbrev rest_white : List ℕ
      rest_white = put (put S.white k partner) partner k

      jumped : (ltb d (length P.rest) ≡ true) × (spells w (remove_at d P.rest) S.black rest_white ≡ some D)
      unfolding spells
      jumped = cond-some (ltb d (length P.rest)) (spells w (remove_at d P.rest) S.black rest_white) D (rw is-J at P.goes)

      deep : d < length P.rest
      deep = ltb-true d (length P.rest) jumped.0

      partner-at : (place : ℕ) → place ≡ h - 1 - d → get_or stack place 0 ≡ partner
      partner-at place e = let l = deep in let t = P.h_is in stacked-at stack P.rest d place deep (omega arith) P.holds.stacked.1

      pub room-J : (d < h) × (h ≤ 50) × (length stack ≡ 64) × OneTo (length b1) k × OneTo (length b1) (get_or stack (h - 1 - d) 0)
      room-J =
          let i = grows w (remove_at d P.rest) S.black rest_white D jumped.1 in
          let j = P.room in
          let y = P.holds.low in
          let z = P.holds.within.0 in
          let u = P.holds.used_is in
          let v = P.holds.even in
          let t = P.h_is in
          let l = deep in
          let x = p-in k P.rest S.black S.white a0 a1 stack b0 b1 used P.holds d deep in
          let l1 : length b1 ≡ length a1 = ap length P.holds.s1_is ∙ over-length S.white a1 (omega arith) in
          (omega arith, omega arith, P.holds.long, omega arith, rw (partner-at (h - 1 - d) refl) (omega arith))

      pub midway-J : (q : List ℕ) → Shifted stack q (h - 1 - d) (h - 1) → SpellingState D w (state_after x S) a0 a1 q b0 (let p = get_or stack (h - 1 - d) 0 in put (put b1 k p) p k) used (h - 1)
      unfolding event_state
      midway-J q s =
          let l = deep in
          let t = P.h_is in
          rw (is-J, P.pending_is, partner-at (h - 1 - d) refl) record {
            goes = jumped.1;
            holds = holds-J k P.rest S.black S.white a0 a1 stack b0 b1 used P.holds d deep q (h - 1 - d) (h - 1) s (omega arith) (omega arith);
            height_is = let z = length-remove_at d P.rest deep in omega arith;
            room = P.room;
          }

-- ---- the first item

pub first_some : (D : Pair) (w : List ℕ) (x : ℕ) → spell (x ∷ w) ≡ some D → 1 ≤ length D.black
unfolding spell
first_some D w zero e = grows w _ _ _ D e
first_some D w (suc zero) e = let i = grows w _ _ _ D e in omega arith
first_some D w (suc (suc x)) e = absurd (none≢some D e)

-- a first item that is not U is T
pub first-T : (D : Pair) (w : List ℕ) (x : ℕ) → ¬ (x ≡ 0) → spell (x ∷ w) ≡ some D → (x ≡ 1) × (3 ≤ length D.black)
unfolding spell
first-T D w zero n e = absurd (n refl)
first-T D w (suc zero) n e = (refl, grows w _ _ _ D e)
first-T D w (suc (suc x)) n e = absurd (none≢some D e)

module _ (D : Pair) (w a0 a1 stack : List ℕ) (R : SpellingRoom D a0 a1) (long : length stack ≡ 64) where
  pub midway-U : spell (0 ∷ w) ≡ some D → SpellingState D w (first_state 0) a0 a1 (set stack 0 1) (set a0 0 1) (set a1 0 1) 1 1
  unfolding spell first_state
  midway-U e = let i = first_some D w 0 e in record {
    goes = e;
    holds = record {
      long = length-set stack 0 1 ∙ long;
      stacked = stacked-push stack [] 0 1 refl (omega arith) tt;
      used_is = refl;
      even = refl;
      within = (omega arith, tt);
      low = omega arith;
      s0_is = over-one [] a0 0 1 refl (let z = R.room0 in omega arith);
      s1_is = over-one [] a1 0 1 refl (let z = R.room1 in omega arith);
    };
    height_is = refl;
    room = R;
  }

  pub midway-T : spell (1 ∷ w) ≡ some D → SpellingState D w (first_state 1) a0 a1 (set (set (set stack 0 1) 1 2) 2 3) (set_three a0 0 2 3 1) (set_three a1 0 1 2 3) 3 3
  unfolding spell first_state
  midway-T e = let i = (first-T D w 1 (λ z. omega arith) e).1 in record {
    goes = e;
    holds = record {
      long = simp length-set long;
      stacked = stacked-push (set (set stack 0 1) 1 2) (2 ∷ 1 ∷ []) 2 3 refl (simp length-set (omega arith)) (stacked-push (set stack 0 1) (1 ∷ []) 1 2 refl (simp length-set (omega arith)) (stacked-push stack [] 0 1 refl (omega arith) tt));
      used_is = refl;
      even = refl;
      within = (omega arith, (omega arith, (omega arith, tt)));
      low = omega arith;
      s0_is = over-three [] a0 0 2 3 1 refl (let z = R.room0 in omega arith);
      s1_is = over-three [] a1 0 1 2 3 refl (let z = R.room1 in omega arith);
    };
    height_is = refl;
    room = R;
  }

-- ---- a whole word

pub word_some : (n : ℕ) (w : List ℕ) → Spells n w → 1 ≤ length w
unfolding spell
word_some n [] S = absurd (none≢some S.pair S.spelt)
word_some n (x ∷ w) S = omega arith
