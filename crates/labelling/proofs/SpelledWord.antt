-- The diagram that a word spells is labelled 1, 2, .. as it stands, with that word.
use mathlib.Core.Path.{◌≡◌, refl, ◌∙◌}
use mathlib.Core.Option.{some}
use mathlib.Core.List.{List, [], ◌∷◌, ◌++◌}
use Prim.Native.Nat.{ℕ, zero, suc, ◌≤◌, ◌<◌}
use native.Mathlib.Nat.{not-suc-le-zero, le_of_suc-le-suc}
use native.Mathlib.Omega.{arith}
use lib.Dec.{ltb}
use lib.ListN.{length, get_or}
use Rattle.lists.specs.Lists.{at, put, remove_at}
use Rattle.lists.specs.Ranges.{down}
use Rattle.lists.proofs.Lists.{find-get_or, length-3, length-1}
use Rattle.lists.proofs.Ranges.{has-down, down-has}
use Rattle.lists.proofs.Tests.{ltb-true}
use Rattle.words.specs.Word.{Pair, spells, spell}
use Rattle.words.proofs.Growing.{State, Keeps, keeps, short, state-W, state-F, state-B, state-J, k-in, p-in, F-k, F-c, F-sc, B-k, B-c, W-k, Jd-k, none≢some, cond-some, state-U, state-T, p-k}
use Rattle.labelling.specs.Labelling.{event, events, label}
use Rattle.labelling.proofs.Moves.{move-W, move-J, move-B, move-F, label-U, label-T}

-- the event of the popped label k in the finished diagram D, from what D keeps
module _ (k : ℕ) (r s0 s1 : List ℕ) (S : State (k ∷ r) s0 s1) (D : Pair) where
  abbrev c : ℕ
  c = suc (length s0)

  F-move : Keeps (suc (suc c) ∷ suc c ∷ r) (s0 ++ (suc c ∷ suc (suc c) ∷ c ∷ [])) (put s1 k c ++ (k ∷ suc c ∷ suc (suc c) ∷ [])) D
      → event (at D.black) (at D.white) (down (length s0)) k r ≡ record { item = 1; marked = suc (suc c) ∷ suc c ∷ c ∷ down (length s0); stack = suc (suc c) ∷ suc c ∷ r }
  F-move K =
      let n = F-c k r s0 s1 S D K in
      let i = k-in k r s0 s1 S in
      rw (n, F-sc k r s0 s1 S D K) at
      (move-F (at D.black) (at D.white) (down (length s0)) k r c (F-k k r s0 s1 S D K) (λ q. omega arith) (λ h. let j = down-has (length s0) c h in omega arith) (rw n (omega arith)))

  B-move : Keeps r (s0 ++ (c ∷ [])) (put s1 k c ++ (k ∷ [])) D → event (at D.black) (at D.white) (down (length s0)) k r ≡ record { item = 2; marked = c ∷ down (length s0); stack = r }
  B-move K =
      let i = k-in k r s0 s1 S in
      move-B (at D.black) (at D.white) (down (length s0)) k r c (B-k k r s0 s1 S D K) (λ q. omega arith) (λ h. let j = down-has (length s0) c h in omega arith) (B-c k r s0 s1 S D K)

  J-move : (d : ℕ) (l : d < length r) → Keeps (remove_at d r) s0 (put (put s1 k (get_or r d 0)) (get_or r d 0) k) D
      → event (at D.black) (at D.white) (down (length s0)) k r ≡ record { item = suc (suc (suc d)); marked = down (length s0); stack = remove_at d r }
  J-move d l K = rw (find-get_or r d S.distinct.1 l) at
      (move-J (at D.black) (at D.white) (down (length s0)) k r (get_or r d 0) (Jd-k k r s0 s1 S d l D K) (p-k k r s0 s1 S d l) (has-down (length s0) (get_or r d 0) (p-in k r s0 s1 S d l)))

run_step : (f g : ℕ → ℕ) (o : List ℕ) (k : ℕ) (r : List ℕ) (m x : ℕ) (o' st' z w : List ℕ) → event f g o k r ≡ record { item = x; marked = o'; stack = st' }
    → events f g m o' st' ≡ record { marked = z; word = w } → events f g (suc m) o (k ∷ r) ≡ record { marked = z; word = x ∷ w }
unfolding events
run_step f g o k r m x o' st' z w e i = rw (e, i)

-- the labelling of the finished diagram, from the state before the items w: they are its word
pub reads : (w st s0 s1 : List ℕ) (D : Pair) (m : ℕ) → State st s0 s1 → spells w st s0 s1 ≡ some D → length w ≤ m
    → events (at D.black) (at D.white) m (down (length s0)) st ≡ record { marked = down (length D.black); word = w }
unfolding spells events
reads [] [] s0 s1 D zero S e h = rw b
  where
    b : D.black ≡ s0
    b = cc
reads [] [] s0 s1 D (suc m) S e h = rw b
  where
    b : D.black ≡ s0
    b = cc
reads [] (k ∷ r) s0 s1 D m S e h = absurd (none≢some D e)
reads (x ∷ w) [] s0 s1 D m S e h = absurd (none≢some D e)
reads (y ∷ w) (k ∷ r) s0 s1 D zero S e h = absurd (not-suc-le-zero h)
reads (zero ∷ w) (k ∷ r) s0 s1 D (suc m) S e h =
    let T = state-W k r s0 s1 S in
    run_step _ _ _ _ _ m _ _ _ _ _ (move-W _ _ (down (length s0)) k r k (W-k k r s0 s1 S D (keeps w r s0 s1 D T e)) refl) (reads w r s0 s1 D m T e (le_of_suc-le-suc h))
reads (suc zero ∷ w) (k ∷ r) s0 s1 D (suc m) S e h =
    let T = state-F k r s0 s1 S in
    run_step _ _ _ _ _ m _ _ _ _ _ (F-move k r s0 s1 S D (keeps w _ _ _ D T e)) (rw length-3 at (reads w _ _ _ D m T e (le_of_suc-le-suc h)))
reads (suc (suc zero) ∷ w) (k ∷ r) s0 s1 D (suc m) S e h =
    let T = state-B k r s0 s1 S in
    run_step _ _ _ _ _ m _ _ _ _ _ (B-move k r s0 s1 S D (keeps w _ _ _ D T e)) (rw length-1 at (reads w _ _ _ D m T e (le_of_suc-le-suc h)))
reads (suc (suc (suc d)) ∷ w) (k ∷ r) s0 s1 D (suc m) S e h =
    let q = cond-some (ltb d (length r)) (spells w (remove_at d r) s0 (put (put s1 k (get_or r d 0)) (get_or r d 0) k)) D e in
    let l = ltb-true d (length r) q.0 in
    let T = state-J k r s0 s1 S d l in
    run_step _ _ _ _ _ m _ _ _ _ _ (J-move k r s0 s1 S D d l (keeps w (remove_at d r) s0 _ D T q.1)) (reads w (remove_at d r) s0 _ D m T q.1 (le_of_suc-le-suc h))

pub spelled-word : (w : List ℕ) (D : Pair) → spell w ≡ some D → label (length D.black) (at D.black) (at D.white) 1 ≡ record { marked = down (length D.black); word = w }
unfolding spell
spelled-word [] D e = absurd (none≢some D e)
spelled-word (zero ∷ w) D e =
    let K = keeps w _ _ _ D state-U e in
    let i = short w _ _ _ D e in
    label-U _ _ _ 1 (K.blacks 1 (omega arith)) ∙ rw (reads w _ _ _ D (length D.black) state-U e (omega arith))
spelled-word (suc zero ∷ w) D e =
    let K = keeps w _ _ _ D state-T e in
    let i = short w _ _ _ D e in
    let a = K.blacks 1 (omega arith) in
    let b = K.blacks 2 (omega arith) in
    label-T _ _ _ 1 (rw a (omega arith)) ∙ rw (a, b, reads w _ _ _ D (length D.black) state-T e (omega arith))
spelled-word (suc (suc x) ∷ w) D e = absurd (none≢some D e)
