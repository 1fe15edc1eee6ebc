-- What of a word decides whether it spells a diagram, and of how many edges: the stack's height and the labels left, and nothing else.
-- (The law that counting rests on.)
--
--   less1 f z k, less3 f z k    k at f less 1 (less 3), or z where f has no 1 (no 3) to take
--   Fits h f items              read at a stack of height h with f labels free, the items empty the stack just as they use up the labels
--   Word n w                    w spells a diagram of n edges, said by height and labels left alone
use Rattle.std.specs.Prelude.{ℕ, zero, suc, ◌<◌, List, [], ◌∷◌}

-- the number before h; 0 before 0
abbrev pub pre : ℕ → ℕ
pre zero = zero
pre (suc h) = h

abbrev pub less1 {ℓ} : {A : Type ℓ} → ℕ → A → (ℕ → A) → A
less1 zero z k = z
less1 (suc f) z k = k f

abbrev pub less3 {ℓ} : {A : Type ℓ} → ℕ → A → (ℕ → A) → A
less3 zero z k = z
less3 (suc zero) z k = z
less3 (suc (suc zero)) z k = z
less3 (suc (suc (suc f))) z k = k f

abbrev pub Fits : ℕ → ℕ → List ℕ → Type 0
Fits zero zero [] = Unit {0}
Fits zero (suc f) [] = ⊥
Fits (suc h) f [] = ⊥
Fits zero f (x ∷ w) = ⊥
-- W takes the top off, F puts two more on for three labels, B takes the top off for one, Jd takes off the top and one other
Fits (suc h) f (zero ∷ w) = Fits h f w
Fits (suc h) f (suc zero ∷ w) = less3 f ⊥ (λ g. Fits (suc (suc h)) g w)
Fits (suc h) f (suc (suc zero) ∷ w) = less1 f ⊥ (λ g. Fits h g w)
Fits (suc h) f (suc (suc (suc d)) ∷ w) = (d < h) × Fits (pre h) f w

abbrev pub Word : ℕ → List ℕ → Type 0
Word n [] = ⊥
Word n (zero ∷ w) = less1 n ⊥ (λ f. Fits 1 f w)
Word n (suc zero ∷ w) = less3 n ⊥ (λ f. Fits 3 f w)
Word n (suc (suc x) ∷ w) = ⊥
