-- The row of numbers that a book is.
use mathlib.Core.Path.{◌≡◌, refl, sym, ◌∙◌, ap}
use mathlib.Core.List.{List, [], ◌∷◌, ◌++◌, append-nil, append_assoc}
use Prim.Native.Nat.{ℕ, ◌+◌, ◌≤◌}
use native.Mathlib.Omega.{arith}
use lib.ListN.{length, set, drop, length-drop, length-set, length-append, drop_of_length-le}
use lib.Seq.{paste, length-paste, take_at, drop-append-add, take_all}

pub pasted : (d s : List ℕ) (place : ℕ) → length d ≡ 100 → length s ≡ 32 → place + 32 ≤ 100 → length (paste d place s 32) ≡ 100
pasted d s place hd hs h = length-paste d place s 32 (omega arith) (omega arith) ∙ hd

pub headed : (l : List ℕ) (a b c d : ℕ) → length l ≡ 100 → length (set (set (set (set l 0 a) 1 b) 2 c) 3 d) ≡ 100
headed l a b c d h = simp length-set h

-- 32 numbers pasted in after those of p, with m behind them
paste-after : (p s m : List ℕ) (place : ℕ) → length p ≡ place → length s ≡ 32 → paste (p ++ m) place s 32 ≡ p ++ (s ++ drop 32 m)
paste-after p s m place hp hs =
    rw (take_at p m place hp, take_all 32 s (omega arith), sym hp, drop-append-add p m 32, append_assoc) refl

pub book-row : (l nx tk ex : List ℕ) (a b c d : ℕ) → length l ≡ 100 → length nx ≡ 32 → length tk ≡ 32 → length ex ≡ 32
    → paste (paste (paste (set (set (set (set l 0 a) 1 b) 2 c) 3 d) 4 nx 32) 36 tk 32) 68 ex 32 ≡ a ∷ b ∷ c ∷ d ∷ (nx ++ (tk ++ ex))
book-row (x0 ∷ x1 ∷ x2 ∷ x3 ∷ m) nx tk ex a b c d hl hn ht he =
    ap (λ (q : List ℕ). paste (paste q 36 tk 32) 68 ex 32) (paste-after (a ∷ b ∷ c ∷ d ∷ []) nx m 4 refl hn)
    ∙ ap (λ (q : List ℕ). paste q 68 ex 32) (paste-after (a ∷ b ∷ c ∷ d ∷ nx) tk (drop 32 m) 36 (omega arith) ht)
    ∙ ap (λ (q : List ℕ). paste (a ∷ b ∷ c ∷ d ∷ q) 68 ex 32) (sym (append_assoc nx tk (drop 32 (drop 32 m))))
    ∙ paste-after (a ∷ b ∷ c ∷ d ∷ (nx ++ tk)) ex (drop 32 (drop 32 m)) 68 (rw (length-append nx tk) (omega arith)) he
    ∙ ap (λ (q : List ℕ). a ∷ b ∷ c ∷ d ∷ q) (append_assoc nx tk (ex ++ drop 32 (drop 32 (drop 32 m))) ∙ ap (λ (q : List ℕ). nx ++ (tk ++ (ex ++ q))) none ∙ ap (λ (q : List ℕ). nx ++ (tk ++ q)) (append-nil ex))
  where
    none : drop 32 (drop 32 (drop 32 m)) ≡ []
    none = drop_of_length-le (drop 32 (drop 32 m)) {i = 32} (rw (length-drop 32 (drop 32 m), length-drop 32 m) (omega arith))
book-row [] nx tk ex a b c d hl hn ht he = absurd (omega arith)
book-row (x0 ∷ []) nx tk ex a b c d hl hn ht he = absurd (omega arith)
book-row (x0 ∷ x1 ∷ []) nx tk ex a b c d hl hn ht he = absurd (omega arith)
book-row (x0 ∷ x1 ∷ x2 ∷ []) nx tk ex a b c d hl hn ht he = absurd (omega arith)
