-- What the scratch lists hold, from what holds of the state.
use mathlib.Core.Path.{◌≡◌, sym, ◌∙◌}
use mathlib.Core.List.{List}
use Prim.Native.Nat.{ℕ, ◌≤◌}
use native.Mathlib.Omega.{arith}
use lib.ListN.{length, drop}
use Rattle.lists.specs.Ranges.{OneTo}
use Rattle.lists.proofs.Ranges.{edges_few}
use Rattle.words.specs.Outputs.{overwrite}
use Rattle.words.proofs.Growing as growing
use Rattle.words_spelling_events.specs.Spelling.{StackHeld, SpellingHeld}
use Rattle.words_respelling_undo.proofs.Lists.{all_of, begins}

-- there are no more labels pending than given
pub low : (st s0 s1 : List ℕ) → growing.State st s0 s1 → length st ≤ length s0
low st s0 s1 s = edges_few (length s0) st s.distinct s.within

pub holds_of : (st s0 s1 a0 a1 stack b0 b1 : List ℕ) (used : ℕ) → growing.State st s0 s1 → length stack ≡ 64 → StackHeld stack st → used ≡ length s0 → b0 ≡ overwrite s0 a0 → b1 ≡ overwrite s1 a1
    → SpellingHeld st s0 s1 a0 a1 stack b0 b1 used
holds_of st s0 s1 a0 a1 stack b0 b1 used s l p u e f = record {
  long = l;
  stacked = p;
  used_is = u;
  even = s.even ∙ sym u;
  within = all_of (OneTo used) st (λ x h. rw u (s.within x h));
  low = let i = low st s0 s1 s in omega arith;
  s0_is = e;
  s1_is = f;
}

-- the lists that are held are lists like any other that begins so
pub holds-own : (st s0 s1 a0 a1 stack b0 b1 : List ℕ) (used : ℕ) → SpellingHeld st s0 s1 a0 a1 stack b0 b1 used → SpellingHeld st s0 s1 b0 b1 stack b0 b1 used
holds-own st s0 s1 a0 a1 stack b0 b1 used H = record {
  long = H.long;
  stacked = H.stacked;
  used_is = H.used_is;
  even = H.even;
  within = H.within;
  low = H.low;
  s0_is = begins s0 (drop (length s0) a0) b0 H.s0_is;
  s1_is = begins s1 (drop (length s1) a1) b1 H.s1_is;
}
