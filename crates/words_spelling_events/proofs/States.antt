-- Laws of the states along a word: what an item that is read finds, what it leaves, and what holds of every state that a word passes.
use mathlib.Core.Path.{◌≡◌, refl}
use mathlib.Core.Option.{some}
use mathlib.Core.List.{List, [], ◌∷◌, ◌++◌}
use Prim.Native.Nat.{ℕ, zero, suc, ◌≤◌, ◌<◌}
use native.Mathlib.Omega.{arith}
use lib.Dec.{ltb}
use lib.ListN.{length, get_or}
use Rattle.lists.specs.Lists.{put, remove_at}
use Rattle.lists.proofs.Tests.{ltb-true}
use Rattle.words.specs.Word.{Pair, spells, spell}
use Rattle.words.proofs.Growing.{none≢some, cond-some, state-W, state-F, state-B, state-J, state-U, state-T}
use Rattle.words.proofs.Growing as growing
use Rattle.words_spelling_events.specs.States.{State, top_label, event_state, state_after, first_state, state_after_all, state_of}

-- the items w finish D from the state S
abbrev pub Goes : Pair → List ℕ → State → Type 0
Goes D w S = spells w S.pending S.black S.white ≡ some D

-- the pending labels are apart, among those given, and each its own partner so far
abbrev pub ValidState : State → Type 0
ValidState S = growing.State S.pending S.black S.white

-- ---- an item that is read

-- something is pending
pub popped-first : (D : Pair) (x : ℕ) (w : List ℕ) (S : State) → Goes D (x ∷ w) S → S.pending ≡ top_label S ∷ remove_at 0 S.pending
unfolding spells
popped-first D x w S e = go S.pending e
  where
    go : (p : List ℕ) → spells (x ∷ w) p S.black S.white ≡ some D → p ≡ get_or p 0 0 ∷ remove_at 0 p
    go [] g = absurd (none≢some D g)
    go (k ∷ r) g = refl

jumped : (D : Pair) (d k : ℕ) (w r s0 s1 : List ℕ) → spells (suc (suc (suc d)) ∷ w) (k ∷ r) s0 s1 ≡ some D
    → (d < length r) × (spells w (remove_at d r) s0 (put (put s1 k (get_or r d 0)) (get_or r d 0) k) ≡ some D)
unfolding spells
jumped D d k w r s0 s1 e =
    let q = cond-some (ltb d (length r)) (spells w (remove_at d r) s0 (put (put s1 k (get_or r d 0)) (get_or r d 0) k)) D e in
    (ltb-true d (length r) q.0, q.1)

-- Jd finds d labels and one more below the top
pub jump-deep : (D : Pair) (d : ℕ) (w : List ℕ) (S : State) → Goes D (suc (suc (suc d)) ∷ w) S → d < length (remove_at 0 S.pending)
unfolding spells
jump-deep D d w S e = go S.pending e
  where
    go : (p : List ℕ) → spells (suc (suc (suc d)) ∷ w) p S.black S.white ≡ some D → d < length (remove_at 0 p)
    go [] g = absurd (none≢some D g)
    go (k ∷ r) g = (jumped D d k w r S.black S.white g).0

pub after-item : (D : Pair) (x : ℕ) (w : List ℕ) (S : State) → Goes D (x ∷ w) S → Goes D w (state_after x S)
unfolding spells event_state
after-item D x w S e = go x S.pending e
  where
    go : (x : ℕ) (p : List ℕ) → spells (x ∷ w) p S.black S.white ≡ some D → Goes D w (event_state x (get_or p 0 0) (remove_at 0 p) S.black S.white)
    go x [] g = absurd (none≢some D g)
    go zero (k ∷ r) g = g
    go (suc zero) (k ∷ r) g = g
    go (suc (suc zero)) (k ∷ r) g = g
    go (suc (suc (suc d))) (k ∷ r) g = (jumped D d k w r S.black S.white g).1

pub valid-after-item : (D : Pair) (x : ℕ) (w : List ℕ) (S : State) → Goes D (x ∷ w) S → ValidState S → ValidState (state_after x S)
unfolding spells event_state
valid-after-item D x w S e s = go x S.pending e s
  where
    go : (x : ℕ) (p : List ℕ) → spells (x ∷ w) p S.black S.white ≡ some D → growing.State p S.black S.white → ValidState (event_state x (get_or p 0 0) (remove_at 0 p) S.black S.white)
    go x [] g s = absurd (none≢some D g)
    go zero (k ∷ r) g s = state-W k r S.black S.white s
    go (suc zero) (k ∷ r) g s = state-F k r S.black S.white s
    go (suc (suc zero)) (k ∷ r) g s = state-B k r S.black S.white s
    go (suc (suc (suc d))) (k ∷ r) g s = state-J k r S.black S.white s d (jumped D d k w r S.black S.white g).0

-- ---- the state after a beginning of a word

reached-good : (D : Pair) (u w : List ℕ) (S : State) → Goes D (u ++ w) S → ValidState S → Goes D w (state_after_all u S) × ValidState (state_after_all u S)
unfolding state_after_all
reached-good D [] w S e s = (e, s)
reached-good D (x ∷ u) w S e s = reached-good D u w (state_after x S) (after-item D x (u ++ w) S e) (valid-after-item D x (u ++ w) S e s)

pub begun-good : (D : Pair) (p w : List ℕ) → 1 ≤ length p → spell (p ++ w) ≡ some D → Goes D w (state_of p) × ValidState (state_of p)
unfolding spell first_state state_of
begun-good D [] w l e = absurd (omega arith)
begun-good D (zero ∷ p) w l e = reached-good D p w _ e state-U
begun-good D (suc zero ∷ p) w l e = reached-good D p w _ e state-T
begun-good D (suc (suc x) ∷ p) w l e = absurd (none≢some D e)

reached-more : (u : List ℕ) (x : ℕ) (S : State) → state_after_all (u ++ (x ∷ [])) S ≡ state_after x (state_after_all u S)
unfolding state_after_all
reached-more [] x S = refl
reached-more (y ∷ u) x S = reached-more u x (state_after y S)

pub begun_more : (p : List ℕ) (x : ℕ) → 1 ≤ length p → state_of (p ++ (x ∷ [])) ≡ state_after x (state_of p)
unfolding state_of
begun_more [] x l = absurd (omega arith)
begun_more (y ∷ p) x l = reached-more p x (first_state y)

pub begun-one : (x : ℕ) → state_of (x ∷ []) ≡ first_state x
unfolding state_of state_after_all
begun-one x = refl
