-- What the events F, B and Jd do to the state that the arrays hold, and when each is refused. One law for each way out of the code.
use mathlib.Core.Path.{◌≡◌, sym, ap, ◌∙◌}
use mathlib.Core.List.{List, [], ◌∷◌, ◌++◌}
use Prim.Native.Nat.{ℕ, suc, ◌+◌, ◌-◌, ◌≤◌, ◌<◌}
use native.Mathlib.Numerals.{add-one}
use native.Mathlib.Omega.{arith}
use lib.ListN.{length, get_or, set, length-set}
use lib.Seq.{length-take-le, take-suc-set}
use Rattle.std.specs.Prelude.{Ok}
use Rattle.lists.specs.Lists.{Has, find, remove_at, put}
use Rattle.lists.specs.Ranges.{OneTo}
use Rattle.lists.proofs.Tests.{le-true, le-false, lt-true, lt-false}
use Rattle.lists.proofs.Lists.{has_get_d, find-get_or, all-remove_at, all_map, all-has, length-remove_at, length-put}
use Rattle.pending_ring.specs.Ring.{Ring}
use Rattle.pending_ring.proofs.Laws.{ring-labels}
use Rattle.words_reading_events.specs.Items.{refused, items}
use Rattle.words_reading_events.specs.State.{State, ReadingHeld, ReadingAfter, three_black, three_white}
use Rattle.words_reading_events.proofs.Stores.{take-3, take_put}

two : (u : ℕ) → u + 2 ≡ suc (suc u)
two u = omega arith

next : (u : ℕ) → (u + 2) + 1 ≡ suc (suc (suc u))
next u = omega arith

three : (u : ℕ) → u + 3 ≡ suc (suc (suc u))
three u = omega arith

module _ (nx pv x0 x1 : List ℕ) (u h : ℕ) (t : State) (o : ReadingHeld nx pv x0 x1 u h t) where
  pub size : length t.black ≡ u
  size = ap length o.blacks ∙ length-take-le u x0 (omega (arith, o.room, o.black_long))

  -- a label that is not given yet is not pending
  pub fresh : (l : ℕ) → u < l → ¬ Has l t.stack
  fresh l k i = let z = all-has (λ x. x ≤ u) t.stack l o.given i in omega arith

  -- a pending label is one of those given
  pub pending-given : (d : ℕ) → d < h → OneTo u (get_or t.stack d 0)
  pending-given d g =
      let i = has_get_d t.stack d (omega (arith, o.high)) in
      let a = ring-labels nx pv t.stack o.ring (get_or t.stack d 0) i in
      let b = all-has (λ x. x ≤ u) t.stack (get_or t.stack d 0) o.given i in
      omega arith

  -- ---- F

  pub triple-refused : (k : ℕ) (w : List ℕ) → 1024 < u + 3 → items (1 ∷ w) (k ∷ t.stack) t.black t.white ≡ refused 24
  unfolding items
  triple-refused k w g = rw (le-false (suc (suc (suc (length t.black)))) 1024 (omega (arith, size)))

  pub triple-stands : (k : ℕ) (w : List ℕ) (mx pw y0 y1 : List ℕ) → OneTo u k → u + 3 ≤ 1024 → y0 ≡ three_black x0 u → y1 ≡ three_white x1 k u
      → Ring mx pw (((u + 2) + 1) ∷ (u + 2) ∷ t.stack)
      → ReadingAfter (items (1 ∷ w) (k ∷ t.stack) t.black t.white) w (Ok record { used = u + 3; height = h + 2 }) mx pw y0 y1
  unfolding items
  triple-stands k w mx pw y0 y1 e g p q r = (
    record {
      stack = suc (suc (suc (length t.black))) ∷ suc (suc (length t.black)) ∷ t.stack;
      black = t.black ++ (suc (suc (length t.black)) ∷ suc (suc (suc (length t.black))) ∷ suc (length t.black) ∷ []);
      white = put t.white k (suc (length t.black)) ++ (k ∷ suc (suc (length t.black)) ∷ suc (suc (suc (length t.black))) ∷ []);
    },
    record {
      ring = rw (size, ← next u, ← two u) r;
      given = (omega (arith, size), (omega (arith, size), all_map (λ l. l ≤ u) (λ l. l ≤ u + 3) (λ l z. omega arith) t.stack o.given));
      room = g;
      high = omega (arith, o.high);
      black_long = rw p (simp length-set o.black_long);
      white_long = rw q (simp (length-set, length-put) o.white_long);
      blacks = rw (size, o.blacks, p, add-one u, two u, three u) (sym (take-3 x0 u (suc (suc u)) (suc (suc (suc u))) (suc u) (omega (arith, o.black_long))));
      whites = rw (size, o.whites, q, add-one u, two u, three u)
          (ap (λ (z : List ℕ). z ++ (k ∷ suc (suc u) ∷ suc (suc (suc u)) ∷ [])) (sym (take_put x1 u k (suc u) e.1))
          ∙ sym (take-3 (put x1 k (suc u)) u k (suc (suc u)) (suc (suc (suc u))) (rw length-put (omega (arith, o.white_long)))));
    },
    rw (le-true (suc (suc (suc (length t.black)))) 1024 (omega (arith, size))),
  )

  -- ---- B

  pub alone-refused : (k : ℕ) (w : List ℕ) → 1024 < u + 1 → items (2 ∷ w) (k ∷ t.stack) t.black t.white ≡ refused 24
  unfolding items
  alone-refused k w g = rw (le-false (suc (length t.black)) 1024 (omega (arith, size)))

  pub alone-stands : (k : ℕ) (w : List ℕ) (i : ℕ) (y1 : List ℕ) → OneTo u k → u + 1 ≤ 1024 → i ≡ u → y1 ≡ put (put x1 k (u + 1)) (u + 1) k
      → ReadingAfter (items (2 ∷ w) (k ∷ t.stack) t.black t.white) w (Ok record { used = u + 1; height = h }) nx pv (set x0 i (u + 1)) y1
  unfolding items
  alone-stands k w i y1 e g p q = (
    record { stack = t.stack; black = t.black ++ (suc (length t.black) ∷ []); white = put t.white k (suc (length t.black)) ++ (k ∷ []) },
    record {
      ring = o.ring;
      given = all_map (λ l. l ≤ u) (λ l. l ≤ u + 1) (λ l z. omega arith) t.stack o.given;
      room = g;
      high = o.high;
      black_long = simp length-set o.black_long;
      white_long = rw q (simp length-put o.white_long);
      blacks = rw (size, o.blacks, p, add-one u) (sym (take-suc-set x0 u (suc u) (omega (arith, o.black_long))));
      whites = rw (size, o.whites, q, add-one u)
          (ap (λ (z : List ℕ). z ++ (k ∷ [])) (sym (take_put x1 u k (suc u) e.1))
          ∙ sym (take-suc-set (put x1 k (suc u)) u k (rw length-put (omega (arith, o.white_long)))));
    },
    rw (le-true (suc (length t.black)) 1024 (omega (arith, size))),
  )

  -- ---- Jd

  pub join-refused : (k d : ℕ) (w : List ℕ) → h ≤ d → items (suc (suc (suc d)) ∷ w) (k ∷ t.stack) t.black t.white ≡ refused 23
  unfolding items
  join-refused k d w g = rw (lt-false d (length t.stack) (omega (arith, o.high)))

  pub join_stands : (k d p : ℕ) (w : List ℕ) (mx pw y1 : List ℕ) → OneTo u k → d < h → p ≡ get_or t.stack d 0 → y1 ≡ put (put x1 k p) p k
      → Ring mx pw (remove_at (find p t.stack) t.stack)
      → ReadingAfter (items (suc (suc (suc d)) ∷ w) (k ∷ t.stack) t.black t.white) w (Ok record { used = u; height = h - 1 }) mx pw x0 y1
  unfolding items
  join_stands k d p w mx pw y1 e g f q r =
      let l : d < length t.stack = omega (arith, o.high) in
      let n = pending-given d g in (
        record { stack = remove_at d t.stack; black = t.black; white = put (put t.white k (get_or t.stack d 0)) (get_or t.stack d 0) k },
        record {
          ring = rw (f, find-get_or t.stack d o.ring.once.1 l) at r;
          given = all-remove_at (λ x. x ≤ u) d t.stack o.given;
          room = o.room;
          high = let c = length-remove_at d t.stack l in omega (arith, o.high);
          black_long = o.black_long;
          white_long = rw q (simp length-put o.white_long);
          blacks = o.blacks;
          whites = rw (q, f, o.whites)
              (ap (λ (z : List ℕ). put z (get_or t.stack d 0) k) (sym (take_put x1 u k (get_or t.stack d 0) e.1))
              ∙ sym (take_put (put x1 k (get_or t.stack d 0)) u (get_or t.stack d 0) k n.1));
        },
        rw (lt-true d (length t.stack) l),
      )
