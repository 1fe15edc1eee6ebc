-- The events of the plain walk. Only the height of the stack and the number of labels left count (Shape in crate words).
--
--   all_completions h f         the ways to go on at a stack of height h with f labels free, in order
--   completions_after e h f     the ways to go on after the event e, with h edges pending besides the one it popped
--   LeadsTo e h f h' f'        the event leaves h' edges pending and f' labels free
use Rattle.std.specs.Prelude.{◌≡◌, List, [], ℕ, zero, suc, ◌+◌, ◌*◌, ◌<◌}
use Rattle.words.specs.Shape.{pre, less1, less3}
use Rattle.listing.specs.Listing.{completions}

unfoldable pub all_completions : ℕ → ℕ → List (List ℕ)
all_completions h f = completions (h + f) h f

unfoldable pub completions_after : ℕ → ℕ → ℕ → List (List ℕ)
completions_after zero h f = all_completions h f
completions_after (suc zero) h f = less3 f [] (λ g. all_completions (suc (suc h)) g)
completions_after (suc (suc zero)) h f = less1 f [] (λ g. all_completions h g)
completions_after (suc (suc (suc d))) h f = all_completions (pre h) f

-- The event e leads to h' edges pending and f' labels free. Twice the pending edges, plus the labels free, falls; the popped edge counts as
-- pending before.
pub record LeadsTo (e h f h' f' : ℕ) : Type 0 where
  pub same : all_completions h' f' ≡ completions_after e h f
  pub falls : 2 * h' + f' < 2 * suc h + f
