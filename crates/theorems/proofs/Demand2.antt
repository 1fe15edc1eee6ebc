-- Demand 2, proved from the theorems of the labelling, and for the operations from their promises.
use mathlib.Core.Path.{◌≡◌, refl, sym, ap, ◌∙◌}
use mathlib.Core.Logic.{◌⊎◌, inl, inr, ◌↔◌}
use mathlib.Core.Bool.{Bool, true, false, cond}
use mathlib.Core.Option.{some}
use mathlib.Core.List.{List, ◌++◌}
use Prim.Native.Nat.{ℕ, ◌≤◌}
use native.Mathlib.Omega.{arith}
use lib.Dec.{leb}
use lib.ListN.{length, take}
use lib.Seq.{take_at, drop_at}
use Rattle.std.specs.Prelude.{Bool, true, false, Result, Ok, Err}
use Rattle.lists.specs.Lists.{at}
use Rattle.lists.specs.Ranges.{OneTo}
use Rattle.lists.proofs.Tests.{le-true}
use Rattle.diagrams.specs.Check.{Accepts, Refuses}
use Rattle.diagrams.specs.Isomorphism.{Isomorphic, RootedIsomorphic}
use Rattle.refusals.specs.declared.Refusal.{Refusal}
use Rattle.refusals.specs.Numbers.{number}
use Rattle.diagrams.proofs.Checks.{accepts-rooted}
use Rattle.diagrams.proofs.Checks as checks
use Rattle.diagrams.proofs.Isomorphisms.{root-isomorphic-isomorphic}
use Rattle.words.specs.Word.{Pair, spell}
use Rattle.words.specs.Order.{same}
use Rattle.words.specs.Outputs.{Written}
use Rattle.words.proofs.Order.{same_true, same_self}
use Rattle.words.proofs.Shape.{spells-word, word_length}
use Rattle.words.proofs.Spelled.{spelled-lengths}
use Rattle.words_reading.specs.Read.{Read, refused, built, read, with_room, reading_answer, ReadPromise}
use Rattle.words_reading.proofs.Spelling.{spell-read, read-spell, read_size}
use Rattle.labelling.specs.Labelling.{word_of, characteristic}
use Rattle.labelling.specs.Rootings.{least_word, Kept, symmetries}
use Rattle.labelling.proofs.Ended.{label-ends}
use Rattle.labelling.proofs.OfLists.{labels_carry, characteristic-accepted, characteristic-size, characteristic-isomorphic, word-spelled, word-of-size, isomorphic-words, words-isomorphic, words-results, results-isomorphic, spelled-word_of, spelled-accepted, spelled-characteristic}
use Rattle.labelling.proofs.Rootings.{accepts-rerooted, LeastOf, least-word, kept-least, least_kept, rooting-isomorphic, isomorphic-rooting, isomorphic-least, least-isomorphic}
use Rattle.labelling_answers.specs.declared.SideRefusal.{SideRefusal}
use Rattle.labelling_answers.specs.Answers.{side_number}
use Rattle.labelling_operations.specs.Promises.{RefusedSide, CompareRootedPromise, CompareUnrootedPromise, SymmetriesPromise}
use Rattle.listing.specs.Listing.{listing, count}
use Rattle.listing.specs.Position.{word_at, position}
use Rattle.listing.specs.Diagrams.{diagram_at}
use Rattle.listing.proofs.Positions.{position_at}
use Rattle.listing.proofs.InPlace.{at-spells, at_size, at-word_of, position-isomorphic}
use Rattle.listing_ranking.specs.Promises.{CountPromise, PositionPromise}
use Rattle.theorems.specs.Invariants.{Counts}
use Rattle.theorems.specs.Demand2.{ResultIsomorphic, EqualExactly, ReadsBack, ReadsExactly, LabelsBack, UnrootedExactly, Characteristic, KeptOnce, Outputs, front, items, Relabels, WritesAt, Reads, HandsBack, ReadsSpelled, RelabelHolds, RelabelsExactly, ReadHolds, CompareHolds, SymmetriesHold, PositionsHold, Demand2}
use Rattle.theorems.proofs.Listing.{listing-holds}
use Rattle.theorems.proofs.Invariants.{counted, invariants-hold}

result_isomorphic : (s0 s1 : List ℕ) (root : ℕ) → Accepts s0 s1 root → ResultIsomorphic s0 s1 root
result_isomorphic s0 s1 root A = record {
  ends = λ m l. label-ends (length s0) (at s0) (at s1) ((accepts-rooted s0 s1 root).0 A).1.diagram.maps root A.root_in m l;
  labels_carry = labels_carry s0 s1 root A;
  accepted = characteristic-accepted s0 s1 root A;
  joined = characteristic-isomorphic s0 s1 root A;
}

equal_exactly : (s0 s1 : List ℕ) (r : ℕ) → Accepts s0 s1 r → (t0 t1 : List ℕ) (q : ℕ) → Accepts t0 t1 q → EqualExactly s0 s1 r t0 t1 q
equal_exactly s0 s1 r A t0 t1 q B = record {
  results = (results-isomorphic s0 s1 r A t0 t1 q B, λ i. words-results s0 s1 r A t0 t1 q B (isomorphic-words s0 s1 r A t0 t1 q B i));
  words = (words-isomorphic s0 s1 r A t0 t1 q B, isomorphic-words s0 s1 r A t0 t1 q B);
}

-- a word of a diagram of at most 1,024 edges has at most 1,025 items, and is read
spelled-read : (w : List ℕ) (D : Pair) → spell w ≡ some D → length D.black ≤ 1024 → read w ≡ built D
spelled-read w D e l =
    let i = word_length (length D.black) w (spells-word (length D.black) w record { pair = D; spelt = e; sized = refl }) in
    spell-read w D l (omega arith) e

reads_exactly : (w : List ℕ) (D : Pair) → ReadsExactly w D
reads_exactly w D = (λ e. (read-spell w D e, read_size w D e), λ s. spelled-read w D s.0 s.1)

reads_back : (s0 s1 : List ℕ) (root : ℕ) → Accepts s0 s1 root → ReadsBack s0 s1 root
reads_back s0 s1 root A =
    let z = characteristic-size s0 s1 root A in
    let s = A.size in
    record { reads = spelled-read (word_of s0 s1 root) (characteristic s0 s1 root) (word-spelled s0 s1 root A) (omega arith) }

labels_back : (w : List ℕ) (D : Pair) → spell w ≡ some D → LabelsBack w D
labels_back w D e = record { word = spelled-word_of w D e; result = spelled-characteristic w D e; accepted = spelled-accepted w D e }

unrooted_exactly : (s0 s1 : List ℕ) (r : ℕ) → Accepts s0 s1 r → (t0 t1 : List ℕ) (q : ℕ) → Accepts t0 t1 q → UnrootedExactly s0 s1 t0 t1 q
unrooted_exactly s0 s1 r A t0 t1 q B = record {
  rootings = (isomorphic-rooting s0 s1 r A t0 t1 q B, λ x. rooting-isomorphic s0 s1 r A t0 t1 q B x.0 x.1 x.2);
  leasts = (isomorphic-least s0 s1 r A t0 t1 q B, least-isomorphic s0 s1 r A t0 t1 q B);
}

-- the kept one is the characteristic labelling of a least rooting
pub kept_once : (D : Pair) → Characteristic D → KeptOnce D
kept_once D C = record { kept = K; in_form = record { accepted = form; relabelled = again }; isomorphic = joined; is_kept = kept; only = only }
  where
    d0 : List ℕ
    d0 = D.black

    d1 : List ℕ
    d1 = D.white

    A : Accepts d0 d1 1
    A = C.accepted

    L : LeastOf d0 d1 (length d0) (least_word d0 d1)
    L = least-word d0 d1 A.size.0

    r : ℕ
    r = L.rooting

    B : Accepts d0 d1 r
    B = accepts-rerooted d0 d1 1 A r L.within

    K : Pair
    K = characteristic d0 d1 r

    form : Accepts K.black K.white 1
    form = characteristic-accepted d0 d1 r B

    again : characteristic K.black K.white 1 ≡ K
    again = spelled-characteristic (word_of d0 d1 r) K (word-spelled d0 d1 r B)

    joined : Isomorphic d0 d1 K.black K.white
    joined = root-isomorphic-isomorphic (characteristic-isomorphic d0 d1 r B)

    word : word_of K.black K.white 1 ≡ least_word K.black K.white
    word = spelled-word_of (word_of d0 d1 r) K (word-spelled d0 d1 r B) ∙ sym L.is ∙ isomorphic-least d0 d1 1 A K.black K.white 1 form joined

    kept : Kept K.black K.white 1
    kept = least_kept K.black K.white 1 form.root_in word

    only : (E : Pair) → Characteristic E → Isomorphic d0 d1 E.black E.white → Kept E.black E.white 1 → E ≡ K
    only E c i k =
        sym c.relabelled
        ∙ words-results E.black E.white 1 c.accepted K.black K.white 1 form
        (kept-least E.black E.white 1 c.accepted.root_in k ∙ sym (isomorphic-least d0 d1 1 A E.black E.white 1 c.accepted i) ∙ isomorphic-least d0 d1 1 A K.black K.white 1 form joined ∙ sym word)
        ∙ again

-- ---- what the operations hand back

-- the lists begin with the diagram D and its word w, which were written
module _ (w : List ℕ) (D : Pair) (e : spell w ≡ some D) (l : length D.black ≤ 1024) (n : ℕ) (s : length D.black ≡ n) (O : Outputs) where
  abbrev Wrote : Type 0
  Wrote = Written D w O.s0 O.s1 O.word O.s0_after O.s1_after O.word_after

  black_is : Wrote → take n O.s0_after ≡ D.black
  black_is W = rw W.s0_written (take_at D.black _ n s)

  white_is : Wrote → take n O.s1_after ≡ D.white
  white_is W = rw W.s1_written (take_at D.white _ n (spelled-lengths w D e ∙ s))

  word_is : Wrote → (m : ℕ) → m ≡ length w → take m O.word_after ≡ w
  word_is W m h = rw W.word_written (take_at w _ m (sym h))

  front-is : Wrote → front n O ≡ D
  front-is W = rw (black_is W, white_is W)

  hands_back : Wrote → (m : ℕ) → m ≡ length w → HandsBack n m O
  hands_back W m h = record {
    in_form = record { accepted = rw (black_is W, white_is W) (spelled-accepted w D e l); relabelled = rw (black_is W, white_is W) (spelled-characteristic w D e) };
    sized = rw (black_is W) s;
    its_word = rw (word_is W m h, black_is W, white_is W) (sym (spelled-word_of w D e));
    word_long = rw (word_is W m h) (sym h);
    s0_rest = rw (W.s0_written, ← s) (drop_at D.black _ (length D.black) refl);
    s1_rest = rw (W.s1_written, ← s, ← spelled-lengths w D e) (drop_at D.white _ (length D.white) refl);
    word_rest = rw (W.word_written, h) (drop_at w _ (length w) refl);
  }

-- ---- read word

read_answer : (w : List ℕ) (D : Pair) (a b : ℕ) → read w ≡ built D → length D.black ≤ a → length D.black ≤ b → reading_answer w a b ≡ built D
unfolding reading_answer
read_answer w D a b e h k = rw (e, le-true (length D.black) a h, le-true (length D.black) b k)

-- what read word leaves where it built the diagram
gave-front : (w : List ℕ) (D : Pair) → spell w ≡ some D → (O : Outputs) (r : Result ℕ Refusal) → ReadPromise (built D) r O.s0 O.s1 O.s0_after O.s1_after
    → (r ≡ Ok (length D.black)) × (front (length D.black) O ≡ D)
gave-front w D e O r (a, b, c) =
    let x : take (length D.black) O.s0_after ≡ D.black = rw b (take_at D.black _ (length D.black) refl) in
    let y : take (length D.black) O.s1_after ≡ D.white = rw c (take_at D.white _ (length D.black) (spelled-lengths w D e)) in
    (a, rw (x, y))

reads_spelled : (w : List ℕ) (D : Pair) → spell w ≡ some D → length D.black ≤ 1024 → ReadsSpelled w D
reads_spelled w D e l O r h k G = gave-front w D e O r (rw (read_answer w D (length O.s0) (length O.s1) (spelled-read w D e l) h k) at G)

module _ (n : ℕ) (x0 x1 y0 y1 : List ℕ) where
  cond-gave : (c : Bool) (q : Read) → ReadPromise (cond c q (refused 9)) (Ok n) x0 x1 y0 y1 → ReadPromise q (Ok n) x0 x1 y0 y1
  cond-gave true q G = G
  cond-gave false q G = absurd G.0

  -- an answer that gives a size is that of a word which is read
  gave-room : (q : Read) (a b : ℕ) → ReadPromise (with_room q a b) (Ok n) x0 x1 y0 y1 → (D : Pair) × (q ≡ built D) × ReadPromise (built D) (Ok n) x0 x1 y0 y1
  gave-room (refused k) a b G = absurd G.0
  gave-room (built D) a b G = (D, refl, cond-gave (leb (length D.black) b) (built D) (cond-gave (leb (length D.black) a) _ G))

  gave_read : (w : List ℕ) (a b : ℕ) → ReadPromise (reading_answer w a b) (Ok n) x0 x1 y0 y1 → (D : Pair) × (read w ≡ built D) × ReadPromise (built D) (Ok n) x0 x1 y0 y1
  unfolding reading_answer
  gave_read w a b G = gave-room (read w) a b G

-- ---- relabel

module _ (s0 s1 : List ℕ) (root : ℕ) (A : Accepts s0 s1 root) where
  abbrev W : List ℕ
  W = word_of s0 s1 root

  abbrev R : Pair
  R = characteristic s0 s1 root

  fits : length R.black ≤ 1024
  fits = let z = characteristic-size s0 s1 root A in let s = A.size in omega arith

  relabelled-front : (O : Outputs) (m : ℕ) → Relabels s0 s1 root O m → front (length s0) O ≡ R
  relabelled-front O m C = front-is W R (word-spelled s0 s1 root A) fits (length s0) (characteristic-size s0 s1 root A) O C.3

  relabelled-items : (O : Outputs) (m : ℕ) → Relabels s0 s1 root O m → items m O ≡ W
  relabelled-items O m C = word_is W R (word-spelled s0 s1 root A) fits (length s0) (characteristic-size s0 s1 root A) O C.3 m C.2

relabels : (s0 s1 : List ℕ) (root : ℕ) (O : Outputs) (m : ℕ) → Relabels s0 s1 root O m → RelabelHolds s0 s1 root O m
relabels s0 s1 root O m C =
    let A = C.0 in
    let e = relabelled-front s0 s1 root A O m C in
    record {
      hands_back = hands_back (word_of s0 s1 root) (characteristic s0 s1 root) (word-spelled s0 s1 root A) (fits s0 s1 root A) (length s0) (characteristic-size s0 s1 root A) O C.3 m C.2;
      joined = rw (ap (λ (D : Pair). D.black) e, ap (λ (D : Pair). D.white) e) (characteristic-isomorphic s0 s1 root A);
      reads_back = rw (relabelled-items s0 s1 root A O m C, ap (λ (D : Pair). D.black) e, ap (λ (D : Pair). D.white) e) (reads_spelled (word_of s0 s1 root) (characteristic s0 s1 root) (word-spelled s0 s1 root A) (fits s0 s1 root A));
    }

relabels_exactly : (s0 s1 : List ℕ) (r : ℕ) (O : Outputs) (m : ℕ) → Relabels s0 s1 r O m
    → (t0 t1 : List ℕ) (q : ℕ) (P : Outputs) (k : ℕ) → Relabels t0 t1 q P k → RelabelsExactly s0 s1 r O m t0 t1 q P k
relabels_exactly s0 s1 r O m C t0 t1 q P k E =
    let X = equal_exactly s0 s1 r C.0 t0 t1 q E.0 in
    let a = relabelled-front s0 s1 r C.0 O m C in
    let b = relabelled-front t0 t1 q E.0 P k E in
    let c = relabelled-items s0 s1 r C.0 O m C in
    let d = relabelled-items t0 t1 q E.0 P k E in
    record {
      diagrams = (λ e. X.results.0 (sym a ∙ e ∙ b), λ i. a ∙ X.results.1 i ∙ sym b);
      words = (λ e. X.words.0 (sym c ∙ e ∙ d), λ i. c ∙ X.words.1 i ∙ sym d);
    }

-- the diagram that read word gave is the one that the word spells
reads : (w : List ℕ) (O : Outputs) (n : ℕ) → Reads w O (Ok n) → ReadHolds w O n
reads w O n G = record { spelled = e ∙ ap some (sym f); accepted = rw (x, y) (spelled-accepted w D e l); writes_back = writes_back }
  where
    g : (D : Pair) × (read w ≡ built D) × ReadPromise (built D) (Ok n) O.s0 O.s1 O.s0_after O.s1_after
    g = gave_read n O.s0 O.s1 O.s0_after O.s1_after w (length O.s0) (length O.s1) G

    D : Pair
    D = g.0

    e : spell w ≡ some D
    e = read-spell w D g.1

    l : length D.black ≤ 1024
    l = read_size w D g.1

    s : length D.black ≡ n
    s = let q = g.2.0 in cc

    f : front n O ≡ D
    f = rw s at (gave-front w D e O (Ok n) g.2).1

    x : take n O.s0_after ≡ D.black
    x = ap (λ (p : Pair). p.black) f

    y : take n O.s1_after ≡ D.white
    y = ap (λ (p : Pair). p.white) f

    writes_back : (P : Outputs) (m : ℕ) → Relabels (front n O).black (front n O).white 1 P m → (items m P ≡ w) × (front n P ≡ front n O)
    writes_back P m C =
        let A = spelled-accepted w D e l in
        let E : Relabels D.black D.white 1 P m = rw (x, y) at C in (
          relabelled-items D.black D.white 1 A P m E ∙ spelled-word_of w D e,
          rw s at (relabelled-front D.black D.white 1 A P m E) ∙ spelled-characteristic w D e ∙ sym f,
        )

-- ---- compare and symmetries

pub not-both : (s0 s1 : List ℕ) (root k : ℕ) → Accepts s0 s1 root → Refuses s0 s1 root k → ⊥
not-both s0 s1 root k A R = checks.not-both s0 s1 root k A R

module _ (s0 s1 : List ℕ) (r : ℕ) (A : Accepts s0 s1 r) (t0 t1 : List ℕ) (q : ℕ) (B : Accepts t0 t1 q) where
  no-side : (k side : ℕ) → RefusedSide s0 s1 r t0 t1 q k side → ⊥
  no-side k side (inl x) = not-both s0 s1 r k A x.1
  no-side k side (inr x) = not-both t0 t1 q k B x.2

  different : ¬ (◌≡◌ {A = Result Bool SideRefusal} (Ok false) (Ok true))
  different e = let z : ◌≡◌ {A = ℕ} 0 1 = cc in omega arith

  with_roots : (a : Result Bool SideRefusal) → CompareRootedPromise s0 s1 r t0 t1 q a → (a ≡ Ok true) ↔ (word_of s0 s1 r ≡ word_of t0 t1 q)
  with_roots (Ok true) c = (λ e. isomorphic-words s0 s1 r A t0 t1 q B c.2, λ w. refl)
  with_roots (Ok false) c = (λ e. absurd (different e), λ w. absurd (c.2 (words-isomorphic s0 s1 r A t0 t1 q B w)))
  with_roots (Err r) c = absurd (no-side (number r.refusal) (side_number r.side) c)

  without_roots : (a : Result Bool SideRefusal) → CompareUnrootedPromise s0 s1 r t0 t1 q a → (a ≡ Ok true) ↔ (least_word s0 s1 ≡ least_word t0 t1)
  without_roots (Ok true) c = (λ e. isomorphic-least s0 s1 r A t0 t1 q B c.2, λ w. refl)
  without_roots (Ok false) c = (λ e. absurd (different e), λ w. absurd (c.2 (least-isomorphic s0 s1 r A t0 t1 q B w)))
  without_roots (Err r) c = absurd (no-side (number r.refusal) (side_number r.side) c)

  compares : CompareHolds s0 s1 r t0 t1 q
  compares = record { with_roots = with_roots; without_roots = without_roots }

symmetric : SymmetriesHold
unfolding symmetries
symmetric s0 s1 root m (A, e) = rw e (counted (length s0) (λ x. same (word_of s0 s1 x) (word_of s0 s1 root)) (λ x. RootedIsomorphic s0 s1 root s0 s1 x) exactly)
  where
    exactly : (x : ℕ) → OneTo (length s0) x → (same (word_of s0 s1 x) (word_of s0 s1 root) ≡ true) ↔ RootedIsomorphic s0 s1 root s0 s1 x
    exactly x i =
        let B = accepts-rerooted s0 s1 root A x i in (
          λ t. words-isomorphic s0 s1 root A s0 s1 x B (sym (same_true (word_of s0 s1 x) (word_of s0 s1 root) t)),
          λ a. rw (isomorphic-words s0 s1 root A s0 s1 x B a) (same_self (word_of s0 s1 x)),
        )

-- ---- positions

module _ (n p : ℕ) (O : Outputs) (m : ℕ) (G : WritesAt n p O m) where
  small : length (diagram_at n p).black ≤ 1024
  small = let z = at_size n p G.1 in let s = G.0 in omega arith

  given-front : front n O ≡ diagram_at n p
  given-front = front-is (word_at n p) (diagram_at n p) (at-spells n p G.1) small n (at_size n p G.1) O G.4

  given_back : HandsBack n m O
  given_back = hands_back (word_at n p) (diagram_at n p) (at-spells n p G.1) small n (at_size n p G.1) O G.4 m G.3

  position_of : (q : ℕ) → PositionPromise (front n O).black (front n O).white 1 (Ok q) → q ≡ p
  position_of q L =
      L.2
      ∙ ap (λ (D : Pair). position (length D.black) (word_of D.black D.white 1)) given-front
      ∙ rw (at_size n p G.1, at-word_of n p G.1) (position_at n p G.1)

at_position : (s0 s1 : List ℕ) (root p : ℕ) → PositionPromise s0 s1 root (Ok p) → (O : Outputs) (m : ℕ) → WritesAt (length s0) p O m
    → RootedIsomorphic s0 s1 root (front (length s0) O).black (front (length s0) O).white 1
at_position s0 s1 root p L O m G =
    let e = given-front (length s0) p O m G in
    rw (ap (λ (D : Pair). D.black) e, ap (λ (D : Pair). D.white) e, L.2) (position-isomorphic s0 s1 root L.0)

counted-listing : (n k : ℕ) → CountPromise n (Ok k) → k ≡ length (listing n)
unfolding count
counted-listing n k C = C.1

positions : PositionsHold
positions = record { counted = counted-listing; hands_back = given_back; position_of = position_of; at_position = at_position }

-- ---- demand 2 whole

pub demand_2 : Demand2
demand_2 = record {
  result_isomorphic = result_isomorphic;
  relabels = relabels;
  equal_exactly = equal_exactly;
  relabels_exactly = relabels_exactly;
  unrooted_exactly = unrooted_exactly;
  compares = compares;
  symmetries = symmetric;
  kept_once = kept_once;
  reads_exactly = reads_exactly;
  reads_back = reads_back;
  labels_back = labels_back;
  reads = reads;
  reads_spelled = reads_spelled;
  listing = listing-holds;
  positions = positions;
  invariants = invariants-hold;
}
