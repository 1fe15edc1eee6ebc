-- The operations on diagrams, words, positions and sheets leave one answer and one content of each lent list.
use mathlib.Core.Path.{◌≡◌, refl, sym, ap, ◌∙◌}
use mathlib.Core.Logic.{◌⊎◌, inl, inr, ◌↔◌}
use mathlib.Core.Bool.{Bool, true, false}
use mathlib.Core.List.{List}
use Prim.Native.Nat.{ℕ, ◌<◌}
use native.Mathlib.Omega.{arith}
use lib.ListN.{length}
use Rattle.std.specs.Prelude.{Result, Ok, Err}
use Rattle.lists.specs.Ranges.{OneTo}
use Rattle.refusals.specs.declared.Refusal.{Refusal}
use Rattle.refusals.specs.Numbers.{number, RefusedBy}
use Rattle.refusals.proofs.Numbers.{number-one}
use Rattle.diagrams.specs.declared.Diagram.{Diagram}
use Rattle.diagrams.specs.declared.Made.{Made}
use Rattle.diagrams.specs.Isomorphism.{Isomorphic, RootedIsomorphic}
use Rattle.diagrams.specs.Check.{Accepts, Refuses, CheckPromise, AllOne}
use Rattle.diagrams.specs.Held.{Held, HeldAfter, CheckedDiagramPromise}
use Rattle.diagrams.proofs.Checks as checks
use Rattle.words.specs.Word.{Pair}
use Rattle.words.specs.Outputs.{Short, Written, Untouched}
use Rattle.words.specs.Letters.{LettersAfter, LettersPromise}
use Rattle.words_reading.specs.Read.{Read, refused, built, ReadPromise}
use Rattle.labelling_answers.specs.declared.Side.{Side}
use Rattle.labelling_answers.specs.declared.Side.TheVariants as the
use Rattle.labelling_answers.specs.declared.SideRefusal.{SideRefusal}
use Rattle.labelling_answers.specs.Answers.{side_number}
use Rattle.labelling.specs.Labelling.{characteristic}
use Rattle.labelling_operations.specs.Promises.{RelabelPromise, CharacteristicPromise, RefusedSide, CompareRootedPromise, CompareUnrootedPromise, SymmetriesPromise, KeptPromise}
use Rattle.invariants.specs.declared.Numbers.{Numbers}
use Rattle.invariants.specs.Promises.{Invariants, Outgrown, InvariantsPromise}
use Rattle.listing.specs.Listing.{count}
use Rattle.listing_ranking.specs.Promises.{CountPromise, RefusedAt, DiagramAtPromise, PositionPromise}
use Rattle.census_definition.specs.Census.{kept_count}
use Rattle.run_kept_count.specs.Promises.{KeptCountPromise}
use Rattle.listing_plain_walk.specs.Promises.{PlainWalkPromise}
use Rattle.sheet.specs.Promises.{Divided, ShortForCells, RefusedSheet, SheetPromise}
use Rattle.theorems.specs.Determined.{SameLists}

-- ---- lists: what is written, and what is left as it was

pub written_once : {D : Pair} {w a0 a1 aw b0 b1 bw c0 c1 cw : List ℕ} → Written D w a0 a1 aw b0 b1 bw → Written D w a0 a1 aw c0 c1 cw → SameLists b0 b1 bw c0 c1 cw
written_once x y = record { s0_same = x.s0_written ∙ sym y.s0_written; s1_same = x.s1_written ∙ sym y.s1_written; word_same = x.word_written ∙ sym y.word_written }

pub untouched-once : {a0 a1 aw b0 b1 bw c0 c1 cw : List ℕ} → Untouched a0 a1 aw b0 b1 bw → Untouched a0 a1 aw c0 c1 cw → SameLists b0 b1 bw c0 c1 cw
untouched-once x y = record { s0_same = x.s0_same ∙ sym y.s0_same; s1_same = x.s1_same ∙ sym y.s1_same; word_same = x.word_same ∙ sym y.word_same }

-- ---- refusals of the same number

pub same-refusal : {A : Type 0} {e d : Refusal} → number e ≡ number d → ◌≡◌ {A = Result A Refusal} (Err e) (Err d)
same-refusal {e = e} {d = d} p = ap Err (number-one e d p)

-- ---- check's refusals, and one more condition that an operation asks after them

module _ {s0 s1 : List ℕ} {root : ℕ} where
  not-both : {k : ℕ} → Accepts s0 s1 root → Refuses s0 s1 root k → ⊥
  not-both {k} a r = checks.not-both s0 s1 root k a r

  refused-once : {j k : ℕ} → Refuses s0 s1 root j → Refuses s0 s1 root k → j ≡ k
  refused-once {j} {k} a b = checks.refused-once s0 s1 root j k a b

  later-once : (P : Type 0) (number j k : ℕ) → Refuses s0 s1 root j ⊎ ((j ≡ number) × Accepts s0 s1 root × P) → Refuses s0 s1 root k ⊎ ((k ≡ number) × Accepts s0 s1 root × P) → j ≡ k
  later-once P number j k (inl a) (inl b) = refused-once a b
  later-once P number j k (inl a) (inr b) = absurd (not-both b.1 a)
  later-once P number j k (inr a) (inl b) = absurd (not-both a.1 b)
  later-once P number j k (inr a) (inr b) = a.0 ∙ sym b.0

  later-not : (P : Type 0) (number k : ℕ) → Accepts s0 s1 root → ¬ P → Refuses s0 s1 root k ⊎ ((k ≡ number) × Accepts s0 s1 root × P) → ⊥
  later-not P number k a n (inl r) = not-both a r
  later-not P number k a n (inr r) = n r.2

-- ---- check, Diagram::checked, the all_reached test

pub check_once : (s0 s1 : List ℕ) (root : ℕ) (r q : Result (Unit {0}) Refusal) → CheckPromise s0 s1 root r → CheckPromise s0 s1 root q → r ≡ q
check_once s0 s1 root r q x y = checks.checked_once s0 s1 root r q x y

held-once : {d e : Diagram} {s0 s1 : List ℕ} {root : ℕ} → Held d s0 s1 root → Held e s0 s1 root → d ≡ e
held-once {d} {e} x y i = record {
  s0 = (x.black ∙ sym y.black) i;
  s1 = (x.white ∙ sym y.white) i;
  size = (x.size ∙ sym y.size) i;
  root = (x.root_is ∙ sym y.root_is) i;
}

kept-held : (s0 s1 : List ℕ) (root : ℕ) (d e : Diagram) (v : Result (Unit {0}) Refusal) → HeldAfter s0 s1 root d v → HeldAfter s0 s1 root e v → d ≡ e
kept-held s0 s1 root d e (Ok u) x y = held-once x y
kept-held s0 s1 root d e (Err k) x y = held-once x y

-- check's verdict, with a diagram t0, t1, r that goes with it
made-once : (s0 s1 : List ℕ) (root : ℕ) (t0 t1 : List ℕ) (x : ℕ) (r q : Made) → CheckPromise s0 s1 root r.verdict → CheckPromise s0 s1 root q.verdict
    → HeldAfter t0 t1 x r.diagram r.verdict → HeldAfter t0 t1 x q.diagram q.verdict → r ≡ q
made-once s0 s1 root t0 t1 x r q a b k h =
    let v : r.verdict ≡ q.verdict = check_once s0 s1 root r.verdict q.verdict a b in
    let d : r.diagram ≡ q.diagram = kept-held t0 t1 x r.diagram q.diagram q.verdict (rw v at k) h in
    λ i. record { verdict = v i; diagram = d i }

pub checked_once : (s0 s1 : List ℕ) (root : ℕ) (r q : Made) → CheckedDiagramPromise s0 s1 root r → CheckedDiagramPromise s0 s1 root q → r ≡ q
checked_once s0 s1 root r q x y = made-once s0 s1 root s0 s1 root r q x.answer y.answer x.kept y.kept

pub characteristic_once : (s0 s1 : List ℕ) (root : ℕ) (r q : Made) → CharacteristicPromise s0 s1 root r → CharacteristicPromise s0 s1 root q → r ≡ q
characteristic_once s0 s1 root r q x y = made-once s0 s1 root (characteristic s0 s1 root).black (characteristic s0 s1 root).white 1 r q x.answer y.answer x.kept y.kept

pub all_reached_once : (marks : List ℕ) (r q : Bool) → (r ≡ true) ↔ AllOne marks → (q ≡ true) ↔ AllOne marks → r ≡ q
all_reached_once marks true q x y = sym (y.1 (x.0 refl))
all_reached_once marks false true x y = x.1 (y.0 refl)
all_reached_once marks false false x y = refl

-- ---- letters, read word

room-once : (w a : List ℕ) {b c : List ℕ} (r : Result ℕ Refusal) → LettersAfter r w a b → LettersAfter r w a c → b ≡ c
room-once w a (Ok n) x y = x ∙ sym y
room-once w a (Err e) x y = x ∙ sym y

pub letters_once : (w a b c : List ℕ) (r q : Result ℕ Refusal) → LettersPromise w a r b → LettersPromise w a q c → (r ≡ q) × (b ≡ c)
letters_once w a b c r q x y =
    let e : r ≡ q = x.answer ∙ sym y.answer in
    (e, room-once w a q (rw e at x.room) y.room)

refused-same : {A : Type 0} (k : ℕ) (r q : Result A Refusal) → RefusedBy k r → RefusedBy k q → r ≡ q
refused-same k (Ok a) q x y = absurd x
refused-same k (Err e) (Ok b) x y = absurd y
refused-same k (Err e) (Err d) x y = same-refusal (x ∙ sym y)

pub gave-once : (d : Read) (a0 a1 b0 b1 c0 c1 : List ℕ) (r q : Result ℕ Refusal) → ReadPromise d r a0 a1 b0 b1 → ReadPromise d q a0 a1 c0 c1 → (r ≡ q) × (b0 ≡ c0) × (b1 ≡ c1)
gave-once (refused k) a0 a1 b0 b1 c0 c1 r q x y = (refused-same k r q x.0 y.0, x.1 ∙ sym y.1, x.2 ∙ sym y.2)
gave-once (built D) a0 a1 b0 b1 c0 c1 r q x y = (x.0 ∙ sym y.0, x.1 ∙ sym y.1, x.2 ∙ sym y.2)

-- ---- relabel

pub relabel_once : (s0 s1 : List ℕ) (root : ℕ) (a0 a1 aw b0 b1 bw c0 c1 cw : List ℕ) (r q : Result ℕ Refusal) → RelabelPromise s0 s1 root a0 a1 aw b0 b1 bw r → RelabelPromise s0 s1 root a0 a1 aw c0 c1 cw q
    → (r ≡ q) × SameLists b0 b1 bw c0 c1 cw
relabel_once s0 s1 root a0 a1 aw b0 b1 bw c0 c1 cw (Ok m) (Ok k) x y = (ap Ok (x.2 ∙ sym y.2), written_once x.3 y.3)
relabel_once s0 s1 root a0 a1 aw b0 b1 bw c0 c1 cw (Ok m) (Err e) x y = absurd (later-not _ 9 (number e) x.0 x.1 y.0)
relabel_once s0 s1 root a0 a1 aw b0 b1 bw c0 c1 cw (Err e) (Ok m) x y = absurd (later-not _ 9 (number e) y.0 y.1 x.0)
relabel_once s0 s1 root a0 a1 aw b0 b1 bw c0 c1 cw (Err e) (Err d) x y = (same-refusal (later-once _ 9 (number e) (number d) x.0 y.0), untouched-once x.1 y.1)

-- ---- compare

module _ {s0 s1 : List ℕ} {x : ℕ} {t0 t1 : List ℕ} {y : ℕ} where
  side-once : (j i k l : ℕ) → RefusedSide s0 s1 x t0 t1 y j i → RefusedSide s0 s1 x t0 t1 y k l → (j ≡ k) × (i ≡ l)
  side-once j i k l (inl a) (inl b) = (refused-once a.1 b.1, a.0 ∙ sym b.0)
  side-once j i k l (inl a) (inr b) = absurd (not-both b.1 a.1)
  side-once j i k l (inr a) (inl b) = absurd (not-both a.1 b.1)
  side-once j i k l (inr a) (inr b) = (refused-once a.2 b.2, a.0 ∙ sym b.0)

  side-not : (k l : ℕ) → Accepts s0 s1 x → Accepts t0 t1 y → RefusedSide s0 s1 x t0 t1 y k l → ⊥
  side-not k l a b (inl r) = not-both a r.1
  side-not k l a b (inr r) = not-both b r.2

-- a side has one number
side-one : (a b : Side) → side_number a ≡ side_number b → a ≡ b
side-one the.First the.First p = refl
side-one the.First the.Second p = absurd (omega arith)
side-one the.Second the.First p = absurd (omega arith)
side-one the.Second the.Second p = refl

refused-side : (r q : SideRefusal) → (number r.refusal ≡ number q.refusal) × (side_number r.side ≡ side_number q.side) → r ≡ q
refused-side r q e i = record { refusal = number-one r.refusal q.refusal e.0 i; side = side-one r.side q.side e.1 i }

-- compare with a relation P between the two accepted diagrams
abbrev Compared : List ℕ → List ℕ → ℕ → List ℕ → List ℕ → ℕ → Type 0 → Result Bool SideRefusal → Type 0
Compared s0 s1 x t0 t1 y P (Ok true) = Accepts s0 s1 x × Accepts t0 t1 y × P
Compared s0 s1 x t0 t1 y P (Ok false) = Accepts s0 s1 x × Accepts t0 t1 y × (¬ P)
Compared s0 s1 x t0 t1 y P (Err r) = RefusedSide s0 s1 x t0 t1 y (number r.refusal) (side_number r.side)

compared-once : (s0 s1 : List ℕ) (x : ℕ) (t0 t1 : List ℕ) (y : ℕ) (P : Type 0) (r q : Result Bool SideRefusal) → Compared s0 s1 x t0 t1 y P r → Compared s0 s1 x t0 t1 y P q → r ≡ q
compared-once s0 s1 x t0 t1 y P (Ok true) (Ok true) a b = refl
compared-once s0 s1 x t0 t1 y P (Ok true) (Ok false) a b = absurd (b.2 a.2)
compared-once s0 s1 x t0 t1 y P (Ok true) (Err q) a b = absurd (side-not (number q.refusal) (side_number q.side) a.0 a.1 b)
compared-once s0 s1 x t0 t1 y P (Ok false) (Ok true) a b = absurd (a.2 b.2)
compared-once s0 s1 x t0 t1 y P (Ok false) (Ok false) a b = refl
compared-once s0 s1 x t0 t1 y P (Ok false) (Err q) a b = absurd (side-not (number q.refusal) (side_number q.side) a.0 a.1 b)
compared-once s0 s1 x t0 t1 y P (Err r) (Ok true) a b = absurd (side-not (number r.refusal) (side_number r.side) b.0 b.1 a)
compared-once s0 s1 x t0 t1 y P (Err r) (Ok false) a b = absurd (side-not (number r.refusal) (side_number r.side) b.0 b.1 a)
compared-once s0 s1 x t0 t1 y P (Err r) (Err q) a b = ap Err (refused-side r q (side-once (number r.refusal) (side_number r.side) (number q.refusal) (side_number q.side) a b))

module _ (s0 s1 : List ℕ) (x : ℕ) (t0 t1 : List ℕ) (y : ℕ) where
  rooted : (r : Result Bool SideRefusal) → CompareRootedPromise s0 s1 x t0 t1 y r → Compared s0 s1 x t0 t1 y (RootedIsomorphic s0 s1 x t0 t1 y) r
  rooted (Ok true) p = p
  rooted (Ok false) p = p
  rooted (Err r) p = p

  unrooted : (r : Result Bool SideRefusal) → CompareUnrootedPromise s0 s1 x t0 t1 y r → Compared s0 s1 x t0 t1 y (Isomorphic s0 s1 t0 t1) r
  unrooted (Ok true) p = p
  unrooted (Ok false) p = p
  unrooted (Err r) p = p

  pub compare_rooted_once : (r q : Result Bool SideRefusal) → CompareRootedPromise s0 s1 x t0 t1 y r → CompareRootedPromise s0 s1 x t0 t1 y q → r ≡ q
  compare_rooted_once r q a b = compared-once s0 s1 x t0 t1 y (RootedIsomorphic s0 s1 x t0 t1 y) r q (rooted r a) (rooted q b)

  pub compare_unrooted_once : (r q : Result Bool SideRefusal) → CompareUnrootedPromise s0 s1 x t0 t1 y r → CompareUnrootedPromise s0 s1 x t0 t1 y q → r ≡ q
  compare_unrooted_once r q a b = compared-once s0 s1 x t0 t1 y (Isomorphic s0 s1 t0 t1) r q (unrooted r a) (unrooted q b)

-- ---- symmetries, kept, invariants

pub symmetries_once : (s0 s1 : List ℕ) (root : ℕ) (r q : Result ℕ Refusal) → SymmetriesPromise s0 s1 root r → SymmetriesPromise s0 s1 root q → r ≡ q
symmetries_once s0 s1 root (Ok m) (Ok k) x y = ap Ok (x.1 ∙ sym y.1)
symmetries_once s0 s1 root (Ok m) (Err e) x y = absurd (not-both x.0 y)
symmetries_once s0 s1 root (Err e) (Ok m) x y = absurd (not-both y.0 x)
symmetries_once s0 s1 root (Err e) (Err d) x y = same-refusal (refused-once x y)

pub kept_once : (s0 s1 : List ℕ) (root : ℕ) (r q : Result Bool Refusal) → KeptPromise s0 s1 root r → KeptPromise s0 s1 root q → r ≡ q
kept_once s0 s1 root (Ok true) (Ok true) x y = refl
kept_once s0 s1 root (Ok true) (Ok false) x y = absurd (y.1 x.1)
kept_once s0 s1 root (Ok true) (Err e) x y = absurd (not-both x.0 y)
kept_once s0 s1 root (Ok false) (Ok true) x y = absurd (x.1 y.1)
kept_once s0 s1 root (Ok false) (Ok false) x y = refl
kept_once s0 s1 root (Ok false) (Err e) x y = absurd (not-both x.0 y)
kept_once s0 s1 root (Err e) (Ok true) x y = absurd (not-both y.0 x)
kept_once s0 s1 root (Err e) (Ok false) x y = absurd (not-both y.0 x)
kept_once s0 s1 root (Err e) (Err d) x y = same-refusal (refused-once x y)

numbers-once : {s0 s1 : List ℕ} {r q : Numbers} → Invariants s0 s1 r → Invariants s0 s1 q → r ≡ q
numbers-once x y i = record {
  e2 = (x.e2_is ∙ sym y.e2_is) i;
  e3 = (x.e3_is ∙ sym y.e3_is) i;
  c = (x.c_is ∙ sym y.c_is) i;
  t = (x.t_is ∙ sym y.t_is) i;
  level = (x.level_is ∙ sym y.level_is) i;
}

pub invariants_once : (s0 s1 : List ℕ) (root : ℕ) (r q : Result Numbers Refusal) → InvariantsPromise s0 s1 root r → InvariantsPromise s0 s1 root q → r ≡ q
invariants_once s0 s1 root (Ok r) (Ok q) x y = ap Ok (numbers-once x.2 y.2)
invariants_once s0 s1 root (Ok r) (Err e) x (inl y) = absurd (not-both x.0 y)
invariants_once s0 s1 root (Ok r) (Err e) x (inr y) = absurd (x.1 y.2)
invariants_once s0 s1 root (Err e) (Ok q) (inl x) y = absurd (not-both y.0 x)
invariants_once s0 s1 root (Err e) (Ok q) (inr x) y = absurd (y.1 x.2)
invariants_once s0 s1 root (Err e) (Err d) x y = same-refusal (later-once (Outgrown s0 s1) 62 (number e) (number d) x y)

-- ---- count, diagram at a position, position of a diagram

-- a number m for a size n of 1..50, and otherwise 31: count and kept count
total-once : (n m : ℕ) (P : Result ℕ Refusal → Type 0) → ((c : ℕ) → P (Ok c) → OneTo 50 n × (c ≡ m)) → ((e : Refusal) → P (Err e) → (number e ≡ 31) × (¬ OneTo 50 n))
    → (r q : Result ℕ Refusal) → P r → P q → r ≡ q
total-once n m P f g (Ok c) (Ok d) x y = ap Ok ((f c x).1 ∙ sym (f d y).1)
total-once n m P f g (Ok c) (Err e) x y = absurd ((g e y).1 (f c x).0)
total-once n m P f g (Err e) (Ok c) x y = absurd ((g e x).1 (f c y).0)
total-once n m P f g (Err e) (Err d) x y = same-refusal ((g e x).0 ∙ sym (g d y).0)

pub count_once : (n : ℕ) (r q : Result ℕ Refusal) → CountPromise n r → CountPromise n q → r ≡ q
count_once n = total-once n (count n) (CountPromise n) (λ c x. x) (λ e x. x)

pub kept_count_once : (n : ℕ) (r q : Result ℕ Refusal) → KeptCountPromise n r → KeptCountPromise n q → r ≡ q
kept_count_once n = total-once n (kept_count n) (KeptCountPromise n) (λ c x. x) (λ e x. x)

module _ (n p : ℕ) (a0 a1 aw : List ℕ) where
  refused-at-once : (j k : ℕ) → RefusedAt n p a0 a1 aw j → RefusedAt n p a0 a1 aw k → j ≡ k
  refused-at-once j k (inl x) (inl y) = x.0 ∙ sym y.0
  refused-at-once j k (inl x) (inr (inl y)) = absurd (x.1 y.1)
  refused-at-once j k (inl x) (inr (inr y)) = absurd (x.1 y.1)
  refused-at-once j k (inr (inl x)) (inl y) = absurd (y.1 x.1)
  refused-at-once j k (inr (inl x)) (inr (inl y)) = x.0 ∙ sym y.0
  refused-at-once j k (inr (inl x)) (inr (inr y)) = absurd (x.2 y.2)
  refused-at-once j k (inr (inr x)) (inl y) = absurd (y.1 x.1)
  refused-at-once j k (inr (inr x)) (inr (inl y)) = absurd (y.2 x.2)
  refused-at-once j k (inr (inr x)) (inr (inr y)) = x.0 ∙ sym y.0

  not-refused-at : (k : ℕ) → OneTo 50 n → OneTo (count n) p → ¬ Short n a0 a1 aw → RefusedAt n p a0 a1 aw k → ⊥
  not-refused-at k N P r (inl x) = x.1 N
  not-refused-at k N P r (inr (inl x)) = x.2 P
  not-refused-at k N P r (inr (inr x)) = r x.3

pub diagram_at_once : (n p : ℕ) (a0 a1 aw b0 b1 bw c0 c1 cw : List ℕ) (r q : Result ℕ Refusal) → DiagramAtPromise n p a0 a1 aw b0 b1 bw r → DiagramAtPromise n p a0 a1 aw c0 c1 cw q → (r ≡ q) × SameLists b0 b1 bw c0 c1 cw
diagram_at_once n p a0 a1 aw b0 b1 bw c0 c1 cw (Ok m) (Ok k) x y = (ap Ok (x.3 ∙ sym y.3), written_once x.4 y.4)
diagram_at_once n p a0 a1 aw b0 b1 bw c0 c1 cw (Ok m) (Err e) x y = absurd (not-refused-at n p a0 a1 aw (number e) x.0 x.1 x.2 y.0)
diagram_at_once n p a0 a1 aw b0 b1 bw c0 c1 cw (Err e) (Ok m) x y = absurd (not-refused-at n p a0 a1 aw (number e) y.0 y.1 y.2 x.0)
diagram_at_once n p a0 a1 aw b0 b1 bw c0 c1 cw (Err e) (Err d) x y = (same-refusal (refused-at-once n p a0 a1 aw (number e) (number d) x.0 y.0), untouched-once x.1 y.1)

pub position_once : (s0 s1 : List ℕ) (root : ℕ) (r q : Result ℕ Refusal) → PositionPromise s0 s1 root r → PositionPromise s0 s1 root q → r ≡ q
position_once s0 s1 root (Ok p) (Ok k) x y = ap Ok (x.2 ∙ sym y.2)
position_once s0 s1 root (Ok p) (Err e) x y = absurd (later-not _ 31 (number e) x.0 (λ n. n x.1) y)
position_once s0 s1 root (Err e) (Ok p) x y = absurd (later-not _ 31 (number e) y.0 (λ n. n y.1) x)
position_once s0 s1 root (Err e) (Err d) x y = same-refusal (later-once _ 31 (number e) (number d) x y)

-- ---- two refusals, the second 9: a sheet of words, the plain walk

two-refused-once : {P : Type 0} {Q : Type 0} (first j k : ℕ) → ((j ≡ first) × (¬ P)) ⊎ ((j ≡ 9) × P × Q) → ((k ≡ first) × (¬ P)) ⊎ ((k ≡ 9) × P × Q) → j ≡ k
two-refused-once first j k (inl x) (inl y) = x.0 ∙ sym y.0
two-refused-once first j k (inl x) (inr y) = absurd (x.1 y.1)
two-refused-once first j k (inr x) (inl y) = absurd (y.1 x.1)
two-refused-once first j k (inr x) (inr y) = x.0 ∙ sym y.0

sheet-not-refused : (s a b : List ℕ) (k : ℕ) → Divided s → ¬ ShortForCells s a b → RefusedSheet s a b k → ⊥
sheet-not-refused s a b k d n (inl x) = x.1 d
sheet-not-refused s a b k d n (inr x) = n x.2

pub sheet_once : (s a b c d e f : List ℕ) (r q : Result (Unit {0}) Refusal) → SheetPromise s a b c d r → SheetPromise s a b e f q → (r ≡ q) × (c ≡ e) × (d ≡ f)
sheet_once s a b c d e f (Ok u) (Ok v) x y = (refl, x.2 ∙ sym y.2, x.3 ∙ sym y.3)
sheet_once s a b c d e f (Ok u) (Err r) x y = absurd (sheet-not-refused s a b (number r) x.0 x.1 y.0)
sheet_once s a b c d e f (Err r) (Ok u) x y = absurd (sheet-not-refused s a b (number r) y.0 y.1 x.0)
sheet_once s a b c d e f (Err r) (Err q) x y = (same-refusal (two-refused-once 61 (number r) (number q) x.0 y.0), x.1 ∙ sym y.1, x.2 ∙ sym y.2)

walk-not-refused : (n k : ℕ) (a : List ℕ) → OneTo 9 n → 1023 < length a → ((k ≡ 35) × (¬ OneTo 9 n)) ⊎ ((k ≡ 9) × OneTo 9 n × (length a < 1024)) → ⊥
walk-not-refused n k a N l (inl x) = x.1 N
walk-not-refused n k a N l (inr x) = let y = x.2 in omega arith

pub plain_walk_once : (n : ℕ) (a b c : List ℕ) (r q : Result ℕ Refusal) → PlainWalkPromise n a b r → PlainWalkPromise n a c q → (r ≡ q) × (b ≡ c)
plain_walk_once n a b c (Ok m) (Ok k) x y = (ap Ok (x.2 ∙ sym y.2), x.3 ∙ sym y.3)
plain_walk_once n a b c (Ok m) (Err e) x y = absurd (walk-not-refused n (number e) a x.0 x.1 y.0)
plain_walk_once n a b c (Err e) (Ok m) x y = absurd (walk-not-refused n (number e) a y.0 y.1 x.0)
plain_walk_once n a b c (Err e) (Err d) x y = (same-refusal (two-refused-once 35 (number e) (number d) x.0 y.0), x.1 ∙ sym y.1)
