-- What the items of a word after the first are read as.
--
--   Read                     a refusal with its number, or the diagram built
--   items w pending s0 s1    the items after the first, one by one: 26, 23, 24, and 25 at the end (the state as in `spells`)
use Rattle.std.specs.Prelude.{cond, List, [], ◌∷◌, ◌++◌, ℕ, zero, suc, leb, ltb, length, get_or}
use Rattle.lists.specs.Lists.{put, remove_at}
use Rattle.words.specs.Word.{Pair}

pub data Read : Type 0 where
  refused : ℕ → Read
  built : Pair → Read

unfoldable pub items : List ℕ → List ℕ → List ℕ → List ℕ → Read
items [] [] s0 s1 = built record { black = s0; white = s1 }
items [] (k ∷ r) s0 s1 = refused 25
items (x ∷ w) [] s0 s1 = refused 26
items (zero ∷ w) (k ∷ r) s0 s1 = items w r s0 s1
items (suc zero ∷ w) (k ∷ r) s0 s1 =
    let c = suc (length s0) in
    let q = items w (suc (suc c) ∷ suc c ∷ r) (s0 ++ (suc c ∷ suc (suc c) ∷ c ∷ [])) (put s1 k c ++ (k ∷ suc c ∷ suc (suc c) ∷ [])) in
    cond (leb (suc (suc c)) 1024) q (refused 24)
items (suc (suc zero) ∷ w) (k ∷ r) s0 s1 =
    let c = suc (length s0) in
    let q = items w r (s0 ++ (c ∷ [])) (put s1 k c ++ (k ∷ [])) in
    cond (leb c 1024) q (refused 24)
items (suc (suc (suc d)) ∷ w) (k ∷ r) s0 s1 =
    let p = get_or r d 0 in
    let q = items w (remove_at d r) s0 (put (put s1 k p) p k) in
    cond (ltb d (length r)) q (refused 23)
