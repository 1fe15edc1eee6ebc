-- The labelling of diagrams given as lists: the characteristic labelling is isomorphic to the diagram and accepted, its word spells it,
-- and words are equal exactly if the characteristic labellings are, exactly if a root-keeping isomorphism joins the diagrams.
use mathlib.Core.Path.{◌≡◌, sym, ap, ◌∙◌}
use mathlib.Core.Option.{some}
use mathlib.Core.List.{List}
use Prim.Native.Nat.{ℕ, ◌≤◌}
use lib.ListN.{length}
use Rattle.lists.specs.Lists.{at, tabulate}
use Rattle.lists.specs.Ranges.{OneTo}
use Rattle.lists.proofs.Lists.{length-listed, at_listed}
use Rattle.diagrams.specs.Check.{Accepts}
use Rattle.diagrams.specs.Diagram.{Diagram}
use Rattle.diagrams.specs.Isomorphism.{Isomorphism, RootedIsomorphic}
use Rattle.diagrams.proofs.Checks.{accepts-rooted, accepts-diagram}
use Rattle.diagrams.proofs.Diagrams.{edge-one, diagram-same}
use Rattle.diagrams.proofs.Isomorphisms.{root-isomorphic-sym, root-isomorphic-trans}
use Rattle.words.specs.Word.{Pair, spell, Spells}
use Rattle.words.proofs.Spelled.{spelled-diagram, spelled-lengths}
use Rattle.labelling.specs.Labelling.{Labelled, label, label_of, relabel, labels, word_of, characteristic}
use Rattle.labelling.proofs.Labels.{Done, done, carries, relabelled}
use Rattle.labelling.proofs.SpelledWord.{spelled-word}
use Rattle.labelling.proofs.WordsIsomorphic.{some_inj, label-spells, iso-words, words-iso}

-- one isomorphism for another between maps that agree on the edges
isomorphism-same : {n : ℕ} {f g f' g' f'' g'' φ : ℕ → ℕ} → Isomorphism n f g f' g' φ → ((x : ℕ) → OneTo n x → f' x ≡ f'' x) → ((x : ℕ) → OneTo n x → g' x ≡ g'' x) → Isomorphism n f g f'' g'' φ
isomorphism-same {φ = φ} I a b = record {
  into = I.into;
  one_one = I.one_one;
  onto = I.onto;
  blacks = λ x e. I.blacks x e ∙ a (φ x) (I.into x e);
  whites = λ x e. I.whites x e ∙ b (φ x) (I.into x e);
}

module _ (s0 s1 : List ℕ) (root : ℕ) (A : Accepts s0 s1 root) where
  abbrev n : ℕ
  n = length s0

  abbrev M : List ℕ
  M = (label (length s0) (at s0) (at s1) root).marked

  abbrev t0 : List ℕ
  t0 = tabulate (relabel M (at s0)) n

  abbrev t1 : List ℕ
  t1 = tabulate (relabel M (at s1)) n

  diagram : Diagram n (at s0) (at s1)
  diagram = accepts-diagram s0 s1 root A

  marked : Done n (at s0) (at s1) root M
  marked = done n (at s0) (at s1) diagram.maps root A.root_in

  -- the entries of the lists relabelled
  entry-0 : (x : ℕ) → OneTo n x → relabel M (at s0) x ≡ at t0 x
  entry-0 x e = sym (at_listed (relabel M (at s0)) n x e)

  entry-1 : (x : ℕ) → OneTo n x → relabel M (at s1) x ≡ at t1 x
  entry-1 x e = sym (at_listed (relabel M (at s1)) n x e)

  accepted : Accepts t0 t1 1
  accepted = (accepts-rooted t0 t1 1).1 (
    rw length-listed A.size,
    record {
      lengths = length-listed (relabel M (at s1)) n ∙ sym (length-listed (relabel M (at s0)) n);
      root_in = rw length-listed (edge-one diagram.maps);
      diagram = rw length-listed (diagram-same (relabelled n (at s0) (at s1) diagram root A.root_in M marked) entry-0 entry-1);
    },
  )

  joined : Isomorphism n (at s0) (at s1) (at t0) (at t1) (label_of M)
  joined = isomorphism-same (carries n (at s0) (at s1) diagram root A.root_in M marked) entry-0 entry-1

  -- the label of each edge carries the diagram to its characteristic labelling
  pub labels_carry : Isomorphism n (at s0) (at s1) (at (characteristic s0 s1 root).black) (at (characteristic s0 s1 root).white) (label_of (labels s0 s1 root))
  unfolding characteristic labels
  labels_carry = joined

  pub root-label : label_of (labels s0 s1 root) root ≡ 1
  unfolding labels
  root-label = marked.root_lab

  pub characteristic-accepted : Accepts (characteristic s0 s1 root).black (characteristic s0 s1 root).white 1
  unfolding characteristic labels
  characteristic-accepted = accepted

  pub characteristic-size : length (characteristic s0 s1 root).black ≡ n
  unfolding characteristic
  characteristic-size = length-listed (relabel (labels s0 s1 root) (at s0)) n

  pub characteristic-isomorphic : RootedIsomorphic s0 s1 root (characteristic s0 s1 root).black (characteristic s0 s1 root).white 1
  characteristic-isomorphic = record { sizes = sym characteristic-size; by = label_of (labels s0 s1 root); is = labels_carry; roots = root-label }

  pub word-spelled : spell (word_of s0 s1 root) ≡ some (characteristic s0 s1 root)
  unfolding word_of characteristic labels
  word-spelled = label-spells n (at s0) (at s1) diagram root A.root_in

  pub word-of-size : Spells (length s0) (word_of s0 s1 root)
  word-of-size = record { pair = characteristic s0 s1 root; spelt = word-spelled; sized = characteristic-size }

module _ (s0 s1 : List ℕ) (r : ℕ) (A : Accepts s0 s1 r) (t0 t1 : List ℕ) (q : ℕ) (B : Accepts t0 t1 q) where
  pub isomorphic-words : RootedIsomorphic s0 s1 r t0 t1 q → word_of s0 s1 r ≡ word_of t0 t1 q
  unfolding word_of
  isomorphic-words i = iso-words _ _ _ (diagram s0 s1 r A) r A.root_in _ _ _ (diagram t0 t1 q B) q B.root_in i

  pub words-isomorphic : word_of s0 s1 r ≡ word_of t0 t1 q → RootedIsomorphic s0 s1 r t0 t1 q
  unfolding word_of
  words-isomorphic w = words-iso _ _ _ (diagram s0 s1 r A) r A.root_in _ _ _ (diagram t0 t1 q B) q B.root_in w

  -- equal words and equal characteristic labellings are the same thing
  pub words-results : word_of s0 s1 r ≡ word_of t0 t1 q → characteristic s0 s1 r ≡ characteristic t0 t1 q
  words-results w = some_inj _ _ (sym (word-spelled s0 s1 r A) ∙ ap spell w ∙ word-spelled t0 t1 q B)

  pub results-isomorphic : characteristic s0 s1 r ≡ characteristic t0 t1 q → RootedIsomorphic s0 s1 r t0 t1 q
  results-isomorphic e =
      root-isomorphic-trans (characteristic-isomorphic s0 s1 r A)
      (rw e (root-isomorphic-sym (diagram t0 t1 q B).maps B.root_in (characteristic-isomorphic t0 t1 q B)))

-- a word spells a diagram that is labelled as it stands, with that word
module _ (w : List ℕ) (D : Pair) (e : spell w ≡ some D) where
  pub spelled-word_of : word_of D.black D.white 1 ≡ w
  unfolding word_of
  spelled-word_of = ap (λ (q : Labelled). q.word) (spelled-word w D e)

  abbrev m : ℕ
  m = length D.black

  -- check accepts it
  pub spelled-accepted : m ≤ 1024 → Accepts D.black D.white 1
  spelled-accepted l =
      let G = spelled-diagram w D e in
      (accepts-rooted D.black D.white 1).1 ((G.maps.some_edge, l), record { lengths = spelled-lengths w D e; root_in = edge-one G.maps; diagram = G })

  pub spelled-characteristic : characteristic D.black D.white 1 ≡ D
  unfolding characteristic labels
  spelled-characteristic =
      let G = spelled-diagram w D e in
      some_inj _ _ (sym (label-spells m (at D.black) (at D.white) G 1 (edge-one G.maps)) ∙ ap spell (ap (λ (q : Labelled). q.word) (spelled-word w D e)) ∙ e)
