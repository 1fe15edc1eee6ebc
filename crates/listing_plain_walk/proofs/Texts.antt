-- Words one after another, each behind p.
use mathlib.Core.Path.{◌≡◌, refl, sym, ap, ◌∙◌}
use mathlib.Core.List.{List, [], ◌∷◌, ◌++◌, append_assoc, append-nil}
use Prim.Native.Nat.{ℕ}
use Rattle.listing.specs.Listing.{prefix_each}
use Rattle.listing_plain_walk.specs.Walk.{concatenated_behind}

pub text-append : (p : List ℕ) (us vs : List (List ℕ)) → concatenated_behind p (us ++ vs) ≡ concatenated_behind p us ++ concatenated_behind p vs
unfolding concatenated_behind
text-append p [] vs = refl
text-append p (u ∷ us) vs = ap (λ (l : List ℕ). (p ++ u) ++ l) (text-append p us vs) ∙ sym (append_assoc (p ++ u) (concatenated_behind p us) (concatenated_behind p vs))

pub text-each : (p : List ℕ) (e : ℕ) (ws : List (List ℕ)) → concatenated_behind p (prefix_each e ws) ≡ concatenated_behind (p ++ (e ∷ [])) ws
unfolding concatenated_behind
text-each p e [] = refl
text-each p e (w ∷ ws) = rw (text-each p e ws, append_assoc p (e ∷ []) w)

pub text-none : (p : List ℕ) → concatenated_behind p [] ≡ []
unfolding concatenated_behind
text-none p = refl

pub text-one : (p : List ℕ) → concatenated_behind p ([] ∷ []) ≡ p
unfolding concatenated_behind
text-one p = append-nil (p ++ []) ∙ append-nil p
