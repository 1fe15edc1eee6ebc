-- A rooted diagram's word spells its characteristic labelling, and words are equal exactly for rooted diagrams that are isomorphic.
use mathlib.Core.Path.{◌≡◌, sym, ap, ◌∙◌}
use mathlib.Core.Option.{Option, some}
use mathlib.Core.List.{List}
use Prim.Native.Nat.{ℕ}
use native.Mathlib.Omega.{arith}
use lib.ListN.{length}
use Rattle.lists.specs.Lists.{at, tabulate}
use Rattle.lists.specs.Ranges.{OneTo, down}
use Rattle.lists.proofs.Lists.{length-listed, at_listed}
use Rattle.lists.proofs.Ranges.{onto}
use Rattle.diagrams.specs.Diagram.{Diagram}
use Rattle.diagrams.specs.Isomorphism.{RootedIsomorphicMaps}
use Rattle.words.specs.Word.{Pair, spell}
use Rattle.labelling.specs.Labelling.{Labelled, label, label_of, edge_of, relabel}
use Rattle.labelling.proofs.Carried.{label-φ}
use Rattle.labelling.proofs.Labels.{Done, done, lab-n, edge-n, edge-lab-n, lab-edge-n, through, carries, relabelled, canonical}
use Rattle.labelling.proofs.OwnWord.{own-word-spells}

pub label-spells : (n : ℕ) (f g : ℕ → ℕ) (D : Diagram n f g) (r : ℕ) (e : OneTo n r)
    → spell (label n f g r).word ≡ some record { black = tabulate (relabel (label n f g r).marked f) n; white = tabulate (relabel (label n f g r).marked g) n }
label-spells n f g D r e = rw (ap (λ (q : Labelled). q.word) c) at (own-word-spells n (relabel M f) (relabel M g) (relabelled n f g D r e M d) (ap (λ (q : Labelled). q.marked) c))
  where
    M : List ℕ
    M = (label n f g r).marked

    d : Done n f g r M
    d = done n f g D.maps r e

    c : label n (relabel M f) (relabel M g) 1 ≡ record { marked = down n; word = (label n f g r).word }
    c = canonical n f g D r e

pub some_inj : (A B : Pair) → some A ≡ some B → A ≡ B
some_inj A B e = cc

module _ (n : ℕ) (f g : ℕ → ℕ) (D : Diagram n f g) (r : ℕ) (e : OneTo n r) (n' : ℕ) (f' g' : ℕ → ℕ) (D' : Diagram n' f' g') (r' : ℕ) (e' : OneTo n' r') where
  pub iso-words : RootedIsomorphicMaps n f g r n' f' g' r' → (label n f g r).word ≡ (label n' f' g' r').word
  iso-words i = rw (← i.sizes, ← i.roots) (sym (ap (λ (q : Labelled). q.word) (label-φ n f g f' g' i.by D.maps i.is r e)))

  module _ (w : (label n f g r).word ≡ (label n' f' g' r').word) where
    abbrev M : List ℕ
    M = (label n f g r).marked

    abbrev M' : List ℕ
    M' = (label n' f' g' r').marked

    d : Done n f g r M
    d = done n f g D.maps r e

    d' : Done n' f' g' r' M'
    d' = done n' f' g' D'.maps r' e'

    pairs : ◌≡◌ {A = Option Pair} (some record { black = tabulate (relabel M f) n; white = tabulate (relabel M g) n }) (some record { black = tabulate (relabel M' f') n'; white = tabulate (relabel M' g') n' })
    pairs = sym (label-spells n f g D r e) ∙ ap spell w ∙ label-spells n' f' g' D' r' e'

    blacks : tabulate (relabel M f) n ≡ tabulate (relabel M' f') n'
    blacks = ap (λ (q : Pair). q.black) (some_inj _ _ pairs)

    whites : tabulate (relabel M g) n ≡ tabulate (relabel M' g') n'
    whites = ap (λ (q : Pair). q.white) (some_inj _ _ pairs)

    n-n' : n ≡ n'
    n-n' = sym (length-listed (relabel M f) n) ∙ ap length blacks ∙ length-listed (relabel M' f') n'

    black-at : (j : ℕ) → OneTo n j → relabel M f j ≡ relabel M' f' j
    black-at j i = sym (at_listed (relabel M f) n j i) ∙ ap (λ (s : List ℕ). at s j) blacks ∙ at_listed (relabel M' f') n' j (rw n-n' at i)

    white-at : (j : ℕ) → OneTo n j → relabel M g j ≡ relabel M' g' j
    white-at j i = sym (at_listed (relabel M g) n j i) ∙ ap (λ (s : List ℕ). at s j) whites ∙ at_listed (relabel M' g') n' j (rw n-n' at i)

    pub words-iso : RootedIsomorphicMaps n f g r n' f' g' r'
    words-iso = record { sizes = n-n'; by = φ; is = record { into = into; one_one = inj; onto = onto n φ into inj; blacks = bl; whites = wh }; roots = ro }
      where
        φ : ℕ → ℕ
        φ x = edge_of M' (label_of M x)

        labs : (x : ℕ) → OneTo n x → OneTo n' (label_of M x)
        labs x i = let q = n-n' in let z = lab-n n f g D r e M d x i in omega arith

        lab-φ : (x : ℕ) → OneTo n x → label_of M' (φ x) ≡ label_of M x
        lab-φ x i = lab-edge-n n' f' g' D' r' e' M' d' (label_of M x) (labs x i)

        inj : (x y : ℕ) → OneTo n x → OneTo n y → φ x ≡ φ y → x ≡ y
        inj x y i j q = (carries n f g D r e M d).one_one x y i j (sym (lab-φ x i) ∙ ap (label_of M') q ∙ lab-φ y j)

        φ-in : (x : ℕ) → OneTo n x → OneTo n' (φ x)
        φ-in x i = edge-n n' f' g' D' r' e' M' d' (label_of M x) (labs x i)

        into : (x : ℕ) → OneTo n x → OneTo n (φ x)
        into x i = let q = n-n' in let z = φ-in x i in omega arith

        -- φ after h is h' after φ where h and h' agree through the labels
        both : (h h' : ℕ → ℕ) → ((x : ℕ) → OneTo n x → OneTo n (h x)) → ((x : ℕ) → OneTo n' x → OneTo n' (h' x)) → ((j : ℕ) → OneTo n j → relabel M h j ≡ relabel M' h' j) → (x : ℕ) → OneTo n x → φ (h x) ≡ h' (φ x)
        both h h' a a' k x i =
            ap (edge_of M') (sym (through n f g D r e M d h x i) ∙ k (label_of M x) (lab-n n f g D r e M d x i) ∙ ap (relabel M' h') (sym (lab-φ x i)) ∙ through n' f' g' D' r' e' M' d' h' (φ x) (φ-in x i))
            ∙ edge-lab-n n' f' g' D' r' e' M' d' (h' (φ x)) (a' (φ x) (φ-in x i))

        bl : (x : ℕ) → OneTo n x → φ (f x) ≡ f' (φ x)
        bl = both f f' D.maps.black_in D'.maps.black_in black-at

        wh : (x : ℕ) → OneTo n x → φ (g x) ≡ g' (φ x)
        wh = both g g' D.maps.white_in D'.maps.white_in white-at

        ro : φ r ≡ r'
        ro = ap (edge_of M') (d.root_lab ∙ sym d'.root_lab) ∙ edge-lab-n n' f' g' D' r' e' M' d' r' e'
