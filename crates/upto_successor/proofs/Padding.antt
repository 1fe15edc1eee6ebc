-- A beginning of a word, an event and zeros after it, as the code holds them: the zeros need not be written.
use mathlib.Core.Path.{◌≡◌, ap, ◌∙◌}
use mathlib.Core.List.{List, [], ◌∷◌, ◌++◌, append_assoc}
use Prim.Native.Nat.{ℕ, ◌+◌, ◌-◌, ◌≤◌}
use native.Mathlib.Omega.{arith}
use lib.ListN.{length, set, replicate, length-append, length-replicate, replicate-append-replicate}
use Rattle.lists.proofs.Lists.{length-1}
use Rattle.listing_successor_endings.specs.declared.Next.{Next}
use Rattle.listing_successor_endings.specs.Endings.{padded_word, shared_word}
use Rattle.listing_successor_endings.proofs.Padding.{padded-more, shared-word-is}

padded-zeros : (p : List ℕ) (k : ℕ) → length p + k ≤ 51 → padded_word p ≡ padded_word (p ++ replicate k 0)
padded-zeros p k l =
    let e : 51 - length p ≡ k + (51 - (length p + k)) = omega arith in
    ap (λ (m : ℕ). p ++ replicate m 0) e ∙ rw (length-append, length-replicate, append_assoc, replicate-append-replicate)

pub raised-word : (b items : List ℕ) (place event pending : ℕ) → length b ≡ place → place + 1 + pending ≤ 51 → items ≡ padded_word b → ◌≡◌ {A = Next} record { shared = place; length = place + 1 + pending; items = set items place event } (shared_word place (b ++ (event ∷ replicate pending 0)))
raised-word b items place event pending e l q = shared-word-is place (b ++ (event ∷ replicate pending 0)) _ _ (held, long)
  where
    held : set items place event ≡ padded_word (b ++ (event ∷ replicate pending 0))
    held = rw (q, ← e) (padded-more b event (omega arith)) ∙ padded-zeros (b ++ (event ∷ [])) pending (rw length-1 (omega arith)) ∙ ap padded_word (append_assoc b (event ∷ []) (replicate pending 0))

    long : place + 1 + pending ≡ length (b ++ (event ∷ replicate pending 0))
    long = rw (length-append, length-replicate) (omega arith)
