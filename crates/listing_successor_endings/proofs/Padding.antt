-- A word under construction in 51 places, with zeros after it: one item more, and the least way to end written item by item.
use mathlib.Core.Path.{◌≡◌, refl, ap, ◌∙◌}
use mathlib.Core.Logic.{◌≢◌}
use mathlib.Core.Bool.{true, cond}
use mathlib.Core.List.{List, [], ◌∷◌, ◌++◌, append_assoc, append-nil}
use Prim.Native.Nat.{ℕ, suc, ◌+◌, ◌-◌, ◌≤◌, ◌<◌}
use native.Mathlib.Omega.{arith}
use lib.ListN.{length, set, drop, replicate}
use lib.Seq.{set-append_seam}
use lib.Dec.{leb}
use Rattle.lists.proofs.Tests.{le-true}
use Rattle.lists.proofs.Lists.{length-1, drop-zeros}
use Rattle.listing_successor_states.specs.declared.StackState.{StackState}
use Rattle.listing_successor_states.specs.States.{state_after_item}
use Rattle.listing_successor_events.specs.Events.{can_end, can_end_after, least_event}
use Rattle.listing_successor_events.proofs.Ends.{leads-less}
use Rattle.listing_successor_endings.specs.declared.Next.{Next}
use Rattle.listing_successor_endings.specs.Endings.{least_ending, padded_word, shared_word}
use Rattle.listing_successor_endings.proofs.Endings.{ends-lead, ending-lead, ending-0}

pub padded-more : (p : List ℕ) (x : ℕ) → length p < 51 → set (padded_word p) (length p) x ≡ padded_word (p ++ (x ∷ []))
padded-more p x l =
    let e : 51 - length p ≡ suc (51 - suc (length p)) = omega arith in
    rw (e, set-append_seam p 0 (replicate (51 - suc (length p)) 0) x, length-1, append_assoc)

-- a beginning filled into zeros
pub padded-over : (b items : List ℕ) → length b ≤ 51 → items ≡ cond (leb (length b) 51) (b ++ drop (length b) (replicate 51 0)) (replicate 51 0) → items ≡ padded_word b
padded-over b items l e = e ∙ rw (le-true (length b) 51 l, drop-zeros 51 (length b) l)

-- one item and then a list after it
pub padded-both : (p v items : List ℕ) (x length' : ℕ) → (items ≡ padded_word ((p ++ (x ∷ [])) ++ v)) × (length' ≡ length ((p ++ (x ∷ [])) ++ v)) → (items ≡ padded_word (p ++ (x ∷ v))) × (length' ≡ length (p ++ (x ∷ v)))
padded-both p v items x length' r = let e = append_assoc p (x ∷ []) v in (r.0 ∙ ap padded_word e, r.1 ∙ ap length e)

pub shared-word-is : (k : ℕ) (w items : List ℕ) (length' : ℕ) → (items ≡ padded_word w) × (length' ≡ length w) → ◌≡◌ {A = Next} record { shared = k; length = length'; items = items } (shared_word k w)
shared-word-is k w items length' r = rw (r.0, r.1)

-- the items hold q, whose least ending from h and f on is the least ending of p from h₀ and f₀ on
pub record Wrote (p : List ℕ) (h₀ f₀ : ℕ) (items : List ℕ) (i h f : ℕ) : Type 0 where
  pub word : List ℕ
  pub holds : items ≡ padded_word word
  pub long : i ≡ length word
  pub goal : word ++ least_ending h f ≡ p ++ least_ending h₀ f₀

pub wrote_none : (p items : List ℕ) (i h f : ℕ) → items ≡ padded_word p → i ≡ length p → Wrote p h f items i h f
wrote_none p items i h f e l = record { word = p; holds = e; long = l; goal = refl }

pub wrote-all : (p : List ℕ) (h₀ f₀ : ℕ) (items : List ℕ) (i h f : ℕ) → h ≡ 0 → Wrote p h₀ f₀ items i h f → (items ≡ padded_word (p ++ least_ending h₀ f₀)) × (i ≡ length (p ++ least_ending h₀ f₀))
wrote-all p h₀ f₀ items i h f z W = (W.holds ∙ ap padded_word e, W.long ∙ ap length e)
  where
    e : W.word ≡ p ++ least_ending h₀ f₀
    e = rw (z, ending-0, append-nil) at W.goal

-- a state that ends, with room for the ending
pub record Ends (i h f : ℕ) : Type 0 where
  pub ended : can_end h f ≡ true
  pub small : h + f ≤ 50
  pub room : i + length (least_ending h f) ≤ 51

module _ (i f h : ℕ) (n : h ≢ 0) (E : Ends i h f) where
  pub ends-room : i < 51
  ends-room = let r = E.room in let e = ap length (ending-lead h f n E.ended) in omega arith

  module _ (e : ℕ) (d : e ≡ least_event h f) (l : StackState) (q : l ≡ state_after_item h f e) where
    pub ends-less : l.height + l.free < h + f
    ends-less = rw (q, d) (leads-less h f (least_event h f) (ends-lead h f n E.ended).ok)

    pub ends_more : Ends (i + 1) l.height l.free
    unfolding can_end_after
    ends_more = record {
      ended = rw (q, d) (ends-lead h f n E.ended).ok;
      small = let z = ends-less in let s = E.small in omega arith;
      room = let r = E.room in let z = ap length (ending-lead h f n E.ended) in rw (q, d) (omega arith);
    }

    pub wrote-more : (p : List ℕ) (h₀ f₀ : ℕ) (items : List ℕ) → Wrote p h₀ f₀ items i h f → Wrote p h₀ f₀ (set items i e) (i + 1) l.height l.free
    wrote-more p h₀ f₀ items W = record {
      word = W.word ++ (e ∷ []);
      holds = rw (W.holds, W.long) (padded-more W.word e (let r = ends-room in let z = W.long in omega arith));
      long = rw length-1 (let z = W.long in omega arith);
      goal = rw (append_assoc, q, d) (rw (ending-lead h f n E.ended) at W.goal);
    }
