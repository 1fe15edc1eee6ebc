-- The ways to go on at a stack, by their first event, and where each event leads.
use mathlib.Core.Path.{◌≡◌, refl, sym, ◌∙◌}
use mathlib.Core.Logic.{◌≢◌}
use mathlib.Core.List.{List, [], ◌∷◌, ◌++◌, append_assoc, append-nil}
use Prim.Native.Nat.{ℕ, zero, suc, ◌+◌, ◌-◌, ◌≤◌, ◌<◌}
use native.Mathlib.Nat.{add-zero, add-suc, suc-add}
use native.Mathlib.Numerals.{sub-one}
use native.Mathlib.Omega.{arith}
use Rattle.words.specs.Shape.{pre, less1, less3}
use Rattle.listing.specs.Listing.{prefix_each, prefix_range, completions}
use Rattle.listing.proofs.Completions.{join, less1-same, less3-same, pre-le, completions-0, completions-same}
use Rattle.listing_plain_walk_events.specs.Events.{all_completions, completions_after, LeadsTo}

pub rest-by : (m h f : ℕ) → h + f ≤ m → completions m h f ≡ all_completions h f
unfolding all_completions
rest-by m h f l = completions-same m (h + f) h f l (omega arith)

-- ---- an empty stack

pub rest_end : all_completions 0 0 ≡ [] ∷ []
unfolding all_completions
rest_end = completions-0 _ 0

pub rest-dead : (f : ℕ) → f ≢ 0 → all_completions 0 f ≡ []
rest-dead zero n = absurd (n refl)
rest-dead (suc f) n = unfold all_completions in completions-0 _ (suc f)

-- ---- by the first event

-- the ways to go on at a stack of height h + 1 whose first event is below e
unfoldable pub begun : ℕ → ℕ → ℕ → List (List ℕ)
begun zero h f = []
begun (suc e) h f = begun e h f ++ prefix_each e (completions_after e h f)

fan-more : (x j : ℕ) (ws : List (List ℕ)) → prefix_range x (suc j) ws ≡ prefix_range x j ws ++ prefix_each (x + j) ws
fan-more x zero ws = rw (add-zero, append-nil)
fan-more x (suc j) ws = rw (fan-more (suc x) j ws, suc-add, add-suc, append_assoc)

begun-jumps : (d h f : ℕ) → begun (suc (suc (suc d))) h f ≡ begun 3 h f ++ prefix_range 3 d (all_completions (pre h) f)
unfolding begun completions_after
begun-jumps zero h f = rw append-nil
begun-jumps (suc d) h f =
    let e : 3 + d ≡ suc (suc (suc d)) = omega arith in
    rw (fan-more 3 d (all_completions (pre h) f), e, begun-jumps d h f, append_assoc)

rest-suc : (h f : ℕ) → all_completions (suc h) f ≡ prefix_each 0 (all_completions h f) ++ (prefix_each 1 (less3 f [] (λ g. all_completions (suc (suc h)) g)) ++ (prefix_each 2 (less1 f [] (λ g. all_completions h g)) ++ prefix_range 3 h (all_completions (pre h) f)))
unfolding completions
rest-suc h f =
    sym (rest-by (suc (h + f)) (suc h) f (omega arith))
    ∙ join h _ _ _ _ _ _ _ _ (rest-by (h + f) h f (omega arith)) (less3-same f [] _ _ (λ g q. rest-by (h + f) (suc (suc h)) g (omega arith))) (less1-same f [] _ _ (λ g q. rest-by (h + f) h g (omega arith)))
    (let i = pre-le h in rest-by (h + f) (pre h) f (omega arith))

-- the events below h + 3 are all there are
pub begun_all : (h f : ℕ) → begun (h + 3) h f ≡ all_completions (suc h) f
unfolding begun completions_after
begun_all h f =
    let e : h + 3 ≡ suc (suc (suc h)) = omega arith in
    rw (e, begun-jumps h h f, rest-suc h f) (simp append_assoc)

-- ---- where an event leads

pub leads-W : (h f : ℕ) → LeadsTo 0 h f h f
unfolding completions_after
leads-W h f = record { same = refl; falls = omega arith }

pub leads-F : (h f : ℕ) → 3 ≤ f → LeadsTo 1 h f (h + 2) (f - 3)
unfolding completions_after
leads-F h zero l = absurd (omega arith)
leads-F h (suc zero) l = absurd (omega arith)
leads-F h (suc (suc zero)) l = absurd (omega arith)
leads-F h (suc (suc (suc f))) l =
    let a : h + 2 ≡ suc (suc h) = omega arith in
    let b : suc (suc (suc f)) - 3 ≡ f = omega arith in
    record { same = rw (a, b); falls = omega arith }

pub leads-no-F : (h f : ℕ) → f < 3 → LeadsTo 1 h f 0 1
unfolding completions_after
leads-no-F h zero l = record { same = rest-dead 1 (omega arith); falls = omega arith }
leads-no-F h (suc zero) l = record { same = rest-dead 1 (omega arith); falls = omega arith }
leads-no-F h (suc (suc zero)) l = record { same = rest-dead 1 (omega arith); falls = omega arith }
leads-no-F h (suc (suc (suc f))) l = absurd (omega arith)

pub leads-B : (h f : ℕ) → 1 ≤ f → LeadsTo 2 h f h (f - 1)
unfolding completions_after
leads-B h zero l = absurd (omega arith)
leads-B h (suc f) l = record { same = rw (sub-one (suc f)); falls = omega arith }

pub leads-no-B : (h f : ℕ) → f < 1 → LeadsTo 2 h f 0 1
unfolding completions_after
leads-no-B h zero l = record { same = rest-dead 1 (omega arith); falls = omega arith }
leads-no-B h (suc f) l = absurd (omega arith)

pub leads-J : (e h f : ℕ) → 3 ≤ e → e < h + 3 → LeadsTo e h f (h - 1) f
unfolding completions_after
leads-J zero h f a b = absurd (omega arith)
leads-J (suc zero) h f a b = absurd (omega arith)
leads-J (suc (suc zero)) h f a b = absurd (omega arith)
leads-J (suc (suc (suc d))) zero f a b = absurd (omega arith)
leads-J (suc (suc (suc d))) (suc h) f a b = record { same = rw (sub-one (suc h)); falls = omega arith }
