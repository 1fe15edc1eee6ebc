-- A word that is held with how far it agrees with the one before: its length, its items, and the same without that number.
use mathlib.Core.Path.{◌≡◌, ap}
use mathlib.Core.List.{List}
use Prim.Native.Nat.{ℕ, ◌≤◌}
use lib.ListN.{length, take}
use Rattle.listing_successor_endings.specs.declared.Next.{Next}
use Rattle.listing_successor_endings.specs.Endings.{padded_word, shared_word}
use Rattle.listing_successor.specs.declared.Held.{Held}
use Rattle.listing_successor.specs.Successor.{word_as_held}
use Rattle.run_validity.proofs.Validity.{padded-length, padded-word}
use Rattle.upto_answers.specs.declared.UptoRun.{UptoRun}
use Rattle.upto_answers.specs.Promises.{upto_at}

module _ (next : Next) (k : ℕ) (w : List ℕ) (e : next ≡ shared_word k w) where
  pub shared-length : next.length ≡ length w
  shared-length = ap (λ (r : Next). r.length) e

  shared-items : next.items ≡ padded_word w
  shared-items = ap (λ (r : Next). r.items) e

  pub shared-within : length next.items ≡ 51 → next.length ≤ 51
  shared-within n = padded-length next.items next.length n w shared-length shared-items

  pub shared-word : length next.items ≡ 51 → take next.length next.items ≡ w
  shared-word n = padded-word next.items next.length n w shared-length shared-items

  pub shared-held : ◌≡◌ {A = Held} record { length = next.length; items = next.items } (word_as_held w)
  shared-held = rw (shared-length, shared-items)

  pub shared_at : (n v : ℕ) → ◌≡◌ {A = UptoRun} record { bound = n; stage = 1; length = next.length; visits = v; items = next.items } (upto_at n w v)
  shared_at n v = rw (shared-length, shared-items)
