-- The beginning and the step of a run through all sizes up to a bound leave one answer, one run, and one content of each lent list: where the run
-- stands decides whether a diagram comes, "end" or a refusal, and what goes with it.
use mathlib.Core.Path.{◌≡◌, refl, sym, ap, ◌∙◌}
use mathlib.Core.Logic.{◌⊎◌, inl, inr}
use mathlib.Core.List.{List}
use Prim.Native.Nat.{ℕ, zero, suc, ◌<◌}
use native.Mathlib.Omega.{arith}
use Rattle.std.specs.Prelude.{Option, Some, None, Result, Ok, Err}
use Rattle.refusals.specs.declared.Refusal.{Refusal}
use Rattle.refusals.specs.Numbers.{number}
use Rattle.upto.specs.Upto.{total}
use Rattle.upto_answers.specs.declared.UptoRun.{UptoRun}
use Rattle.upto_answers.specs.declared.UptoGiven.{UptoGiven}
use Rattle.upto_answers.specs.Promises.{upto_after, finished_upto, UptoAt, UptoFinished, UptoBeginPromise, RefusedUpto, UptoGives, UptoStepPromise}
use Rattle.upto_answers.proofs.Runs.{upto-stands-once, upto-stands-not-over}
use Rattle.theorems.specs.Determined.{SameLists}
use Rattle.theorems.proofs.Determined.Diagrams.{written_once, untouched-once, same-refusal}

pub upto_begin_once : (n : ℕ) (next other : UptoRun) (r q : Result (Unit {0}) Refusal) → UptoBeginPromise n next r → UptoBeginPromise n other q → (r ≡ q) × (next ≡ other)
upto_begin_once n next other (Ok u) (Ok v) x y = (refl, x.1 ∙ sym y.1)
upto_begin_once n next other (Ok u) (Err e) x y = absurd (y.1 x.0)
upto_begin_once n next other (Err e) (Ok u) x y = absurd (x.1 y.0)
upto_begin_once n next other (Err e) (Err d) x y = (same-refusal (x.0 ∙ sym y.0), x.2 ∙ sym y.2)

-- ---- all have been given

-- the run at which a step answers "end"
abbrev Over : ℕ → UptoRun → Type 0
Over n run = UptoFinished n run ⊎ UptoAt n (total n) run

after-bound : (n p : ℕ) → (upto_after n p).bound ≡ n
after-bound n zero = refl
after-bound n (suc p) = refl

over-bound : (n : ℕ) (run : UptoRun) → Over n run → run.bound ≡ n
over-bound n run (inl O) = ap (λ (r : UptoRun). r.bound) O.is
over-bound n run (inr S) = ap (λ (r : UptoRun). r.bound) S.is ∙ after-bound n (total n)

-- ---- the step

module _ (run : UptoRun) (a0 a1 aw : List ℕ) where
  -- a run at which a diagram comes is not one at which all have been given
  more-not-over : (n p n' : ℕ) → UptoAt n p run → p < total n → Over n' run → ⊥
  more-not-over n p n' S l (inl O) = upto-stands-not-over S O
  more-not-over n p n' S l (inr T) = let e = upto-stands-once S T in let z : p ≡ total n = e.1 ∙ ap total (sym e.0) in omega arith

  given-not-refused : (n p : ℕ) (next : UptoRun) (b0 b1 bw : List ℕ) (size m v k : ℕ) → UptoGives n p run next a0 a1 aw b0 b1 bw size m v → RefusedUpto run a0 a1 aw k → ⊥
  given-not-refused n p next b0 b1 bw size m v k G (inl y) = y.1 n p G.stood
  given-not-refused n p next b0 b1 bw size m v k G (inr (e, (n', p', T, l, s))) = let q = upto-stands-once G.stood T in G.room (rw (G.size_is, q.0, q.1) s)

  over-not-refused : (n k : ℕ) → Over n run → RefusedUpto run a0 a1 aw k → ⊥
  over-not-refused n k (inl O) (inl y) = y.2 n O
  over-not-refused n k (inr S) (inl y) = y.1 n (total n) S
  over-not-refused n k O (inr (e, (n', p', T, l, s))) = more-not-over n' p' n T l O

  number-once : (j k : ℕ) → RefusedUpto run a0 a1 aw j → RefusedUpto run a0 a1 aw k → j ≡ k
  number-once j k (inl x) (inl y) = x.0 ∙ sym y.0
  number-once j k (inl x) (inr (e, (n, p, T, l, s))) = absurd (x.1 n p T)
  number-once j k (inr (e, (n, p, T, l, s))) (inl y) = absurd (y.1 n p T)
  number-once j k (inr x) (inr y) = x.0 ∙ sym y.0

  gives-once : (n p n' p' : ℕ) (next other : UptoRun) (b0 b1 bw c0 c1 cw : List ℕ) (g h : UptoGiven) → UptoGives n p run next a0 a1 aw b0 b1 bw g.size g.length g.visits → UptoGives n' p' run other a0 a1 aw c0 c1 cw h.size h.length h.visits
      → (g ≡ h) × (next ≡ other) × SameLists b0 b1 bw c0 c1 cw
  gives-once n p n' p' next other b0 b1 bw c0 c1 cw g h G H =
      let q = upto-stands-once G.stood H.stood in
      let size : g.size ≡ h.size = rw (G.size_is, H.size_is, q.0, q.1) in
      let long : g.length ≡ h.length = rw (G.length_is, H.length_is, q.0, q.1) in
      let visited : g.visits ≡ h.visits = rw (G.visits_are, H.visits_are, q.0, q.1) in (
        λ i. record { size = size i; length = long i; visits = visited i },
        G.leaves ∙ rw (q.0, q.1) (sym H.leaves),
        written_once (rw (q.0, q.1) at G.written) H.written,
      )

  pub upto_step_once : (next other : UptoRun) (b0 b1 bw c0 c1 cw : List ℕ) (r q : Result (Option UptoGiven) Refusal) → UptoStepPromise run next a0 a1 aw b0 b1 bw r → UptoStepPromise run other a0 a1 aw c0 c1 cw q
      → (r ≡ q) × (next ≡ other) × SameLists b0 b1 bw c0 c1 cw
  upto_step_once next other b0 b1 bw c0 c1 cw (Ok (Some g)) (Ok (Some h)) (n, p, G) (n', p', H) =
      let e = gives-once n p n' p' next other b0 b1 bw c0 c1 cw g h G H in
      (ap (λ (x : UptoGiven). Ok (Some x)) e.0, e.1, e.2)
  upto_step_once next other b0 b1 bw c0 c1 cw (Ok (Some g)) (Ok None) (n, p, G) ((n', x, O), u) = absurd (more-not-over n p n' G.stood G.more O)
  upto_step_once next other b0 b1 bw c0 c1 cw (Ok (Some g)) (Err e) (n, p, G) y = absurd (given-not-refused n p next b0 b1 bw g.size g.length g.visits (number e) G y.0)
  upto_step_once next other b0 b1 bw c0 c1 cw (Ok None) (Ok (Some g)) ((n, x, O), u) (n', p, G) = absurd (more-not-over n' p n G.stood G.more O)
  upto_step_once next other b0 b1 bw c0 c1 cw (Ok None) (Ok None) ((n, x, O), u) ((n', y, P), t) = (refl, x ∙ ap finished_upto (sym (over-bound n run O) ∙ over-bound n' run P) ∙ sym y, untouched-once u t)
  upto_step_once next other b0 b1 bw c0 c1 cw (Ok None) (Err e) ((n, x, O), u) y = absurd (over-not-refused n (number e) O y.0)
  upto_step_once next other b0 b1 bw c0 c1 cw (Err e) (Ok (Some g)) x (n, p, G) = absurd (given-not-refused n p other c0 c1 cw g.size g.length g.visits (number e) G x.0)
  upto_step_once next other b0 b1 bw c0 c1 cw (Err e) (Ok None) x ((n, y, O), u) = absurd (over-not-refused n (number e) O x.0)
  upto_step_once next other b0 b1 bw c0 c1 cw (Err e) (Err d) x y = (same-refusal (number-once (number e) (number d) x.0 y.0), x.1 ∙ sym y.1, untouched-once x.2 y.2)
