-- Ranking and unranking: the place of a word and the word at a place, found by the numbers of ways to go on alone. Places here go from 0.
--
--   ways_f h f, ways_b h f    how many ways begin with F, and with B, at a stack of height h + 1
--   join_block x j n i k     place i among j blocks of n words, the first block's beginning with x, the next with x + 1, ..; k gives the rest
--   unrank m h f i          the way to go on at place i (m bounds its length)
--   rank h f w              the place of the way to go on w
use Rattle.std.specs.Prelude.{cond, ℕ, zero, suc, ◌+◌, ◌*◌, ◌-◌, List, [], ◌∷◌, ltb}
use Rattle.words.specs.Shape.{pre, less1, less3}
use Rattle.listing.specs.Listing.{ways}

abbrev pub join_block : ℕ → ℕ → ℕ → ℕ → (ℕ → List ℕ) → List ℕ
join_block x zero n i k = []
join_block x (suc j) n i k = cond (ltb i n) (x ∷ k i) (join_block (suc x) j n (i - n) k)

unfoldable pub ways_f : ℕ → ℕ → ℕ
ways_f h f = less3 f 0 (λ g. ways (suc (suc h)) g)

unfoldable pub ways_b : ℕ → ℕ → ℕ
ways_b h f = less1 f 0 (λ g. ways h g)

unfoldable pub unrank : ℕ → ℕ → ℕ → ℕ → List ℕ
unrank zero h f i = []
unrank (suc m) zero f i = []
unrank (suc m) (suc h) f i =
    let a = ways h f in
    let b = ways_f h f in
    let c = ways_b h f in
    cond (ltb i a) (0 ∷ unrank m h f i)
    (cond (ltb (i - a) b) (1 ∷ less3 f [] (λ g. unrank m (suc (suc h)) g (i - a)))
    (cond (ltb (i - a - b) c) (2 ∷ less1 f [] (λ g. unrank m h g (i - a - b))) (join_block 3 h (ways (pre h) f) (i - a - b - c) (λ k. unrank m (pre h) f k))))

unfoldable pub rank : ℕ → ℕ → List ℕ → ℕ
rank h f [] = 0
rank zero f (x ∷ w) = 0
rank (suc h) f (zero ∷ w) = rank h f w
rank (suc h) f (suc zero ∷ w) = ways h f + less3 f 0 (λ g. rank (suc (suc h)) g w)
rank (suc h) f (suc (suc zero) ∷ w) = ways h f + (ways_f h f + less1 f 0 (λ g. rank h g w))
rank (suc h) f (suc (suc (suc d)) ∷ w) = ways h f + (ways_f h f + (ways_b h f + (d * ways (pre h) f + rank (pre h) f w)))
