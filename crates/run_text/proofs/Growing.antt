-- Laws of rows that are written a block at a time.
use mathlib.Core.Path.{◌≡◌, refl, sym, ap, ◌∙◌, subst}
use mathlib.Core.Logic.{◌≢◌}
use mathlib.Core.List.{List, ◌++◌, append_assoc, append-nil}
use Prim.Native.Nat.{ℕ, zero, suc, ◌+◌, ◌-◌, ◌*◌, ◌≤◌, ◌<◌}
use native.Mathlib.Nat.{add-zero, add-mul, mul-le-mul_right}
use native.Mathlib.Omega.{arith}
use borrow.Rule.Slice.PartMut.{mid_of, put_mid}
use lib.ListN.{length, drop, length-append, length-drop}
use lib.Seq.{take_all}
use Rattle.lists.specs.Overwriting.{overwrite, overwrite_from}
use Rattle.lists.proofs.Overwriting.{over-more, from-length, from-part}
use Rattle.lists.specs.Ranges.{OneTo}
use Rattle.words.specs.Shape.{Word}
use Rattle.listing.specs.Listing.{count}
use Rattle.listing.specs.Position.{position}
use Rattle.listing.proofs.Positions.{position_at}
use Rattle.run_answers.specs.declared.Run.{Run}
use Rattle.run_answers.specs.Promises.{RunAt, run_after}
use Rattle.run_validity.specs.Valid.{ValidRun}
use Rattle.run_validity.proofs.Validity.{staged-at, staged-few}
use Rattle.run_validity.proofs.Standing.{standing, stands-size}
use Rattle.census_definition.specs.Census.{row, rows, kept_among, row_bytes}
use Rattle.census_definition.proofs.Kept.{kept_then, kept-most}
use Rattle.census_blocks.specs.Blocks.{RowsText}
use Rattle.census_blocks.proofs.Texts.{rows_fit}

-- ---- rows after rows

pub rows_then : (n p j k : ℕ) → rows n p (j + k) ≡ rows n p j ++ rows n (p + j) k
unfolding rows
rows_then n p j zero = rw (add-zero j) (sym (append-nil (rows n p j)))
rows_then n p j (suc k) =
    let e : j + suc k ≡ suc (j + k) = omega arith in
    let f : p + (j + k) ≡ (p + j) + k = omega arith in
    rw (e, rows_then n p j k, f) (append_assoc (rows n p j) (rows n (p + j) k) (row n (suc ((p + j) + k))))

-- ---- how many diagrams a run has given

stage-none : (run : Run) (n p : ℕ) → run ≡ run_after n p → run.stage ≡ 0 → p ≡ 0
stage-none run n zero e z = refl
stage-none run n (suc p) e z = let y : run.stage ≡ 1 = ap (λ (r : Run). r.stage) e in absurd (omega arith)

stage-some : (run : Run) (n p : ℕ) → run ≡ run_after n p → run.stage ≢ 0 → 1 ≤ p
stage-some run n zero e z = absurd (z (ap (λ (r : Run). r.stage) e))
stage-some run n (suc p) e z = omega arith

module _ (run : Run) (S : ValidRun run) (o : run.stage ≢ 2) where
  pub given-none : run.stage ≡ 0 → RunAt run.size 0 run
  given-none z = let T = standing run S o in rw (stage-none run run.size T.place T.stands.is z) at T.stands

  pub given_word : run.stage ≢ 0 → Word run.size S.word
  given_word z = let l = staged-few run.stage run.size S.word S.staged in staged-at run.stage run.size S.word (omega arith) S.staged

  pub given-some : run.stage ≢ 0 → (w : List ℕ) → w ≡ S.word → (p : ℕ) → p ≡ position run.size w → RunAt run.size p run
  given-some z w e p q =
      let T = standing run S o in
      let h = stage-some run run.size T.place T.stands.is z in
      let y = position_at run.size T.place (h, T.stands.within) in
      let x : p ≡ T.place = q ∙ ap (position run.size) (e ∙ sym T.word) ∙ y in
      rw x T.stands

-- ---- a block more

rest-length : (i : ℕ) (a : List ℕ) → length (mid_of i (length a - i) a) ≡ length a - i
rest-length i a = let l = length-drop i a in ap length (take_all (length a - i) (drop i a) (omega arith)) ∙ l

pub record Growing (n p all : ℕ) (before : List ℕ) (run : Run) (out : List ℕ) (bytes kept done : ℕ) : Type 0 where
  pub few : done ≤ all
  pub long : length out ≡ length before
  pub text : RowsText n p done before bytes kept run out

pub growing-none : (n p all : ℕ) (before : List ℕ) (run : Run) → RunAt n p run → Growing n p all before run before 0 0 0
unfolding rows kept_among
growing-none n p all before run R = record { few = omega arith; long = refl; text = record { bytes_are = refl; kept_are = refl; next_is = rw add-zero R.is; written = refl } }

module _ {n p all : ℕ} {before : List ℕ} {run : Run} {out : List ℕ} {bytes kept done : ℕ} (s : OneTo 50 n) (w : p + all ≤ count n) (r : all * row_bytes n ≤ length before)
    (G : Growing n p all before run out bytes kept done) where
  pub bytes_small : bytes ≤ done * row_bytes n
  bytes_small = let f = G.few in let i = rows_fit n p done s (omega arith) in let e = G.text.bytes_are in omega arith

  pub bytes-within : bytes ≤ length out
  bytes-within = let f = mul-le-mul_right (row_bytes n) G.few in let i = bytes_small in let e = G.long in omega arith

  pub kept_small : kept ≤ done
  kept_small = let i = kept-most n p done in let e = G.text.kept_are in omega arith

  -- where the run is
  pub stands : RunAt n (p + done) run
  stands = let f = G.few in record { sized = s; within = omega arith; is = G.text.next_is }

  -- the room that is left for k rows more
  room-left : (k : ℕ) → done + k ≤ all → k * row_bytes n ≤ length out - bytes
  room-left k h =
      let i = bytes_small in
      let f = mul-le-mul_right (row_bytes n) h in
      let q = add-mul done k (row_bytes n) in
      let e = G.long in
      omega arith

  block_size : run.size ≡ n
  block_size = stands-size n (p + done) run stands

  -- what the next block asks for: so many rows are left, and there is room for them
  pub block-asks : (k : ℕ) → k ≤ 48 → done + k ≤ all
      → RunAt run.size (p + done) run × (k ≤ 48) × ((p + done) + k ≤ count run.size) × (k * row_bytes run.size ≤ length (mid_of bytes (length out - bytes) out))
  block-asks k l h = (
    subst (λ (m : ℕ). RunAt m (p + done) run) (sym block_size) stands,
    l,
    rw block_size (let f = G.few in omega arith),
    rw (block_size, rest-length bytes out) (room-left k h),
  )

  pub growing-more : (k : ℕ) (b : List ℕ) (more kept' : ℕ) (next : Run) → done + k ≤ all
      → RowsText run.size (p + done) k (mid_of bytes (length out - bytes) out) more kept' next b
      → Growing n p all before next (put_mid bytes (length out - bytes) out b) (bytes + more) (kept + kept') (done + k)
  growing-more k b more kept' next h T' =
      let T = rw block_size at T' in
      let x = rows n p done in
      let y = rows n (p + done) k in
      let f : length x ≤ length before = let i = bytes-within in let e = G.text.bytes_are in let l = G.long in omega arith in
      let room : bytes + length y ≤ length out =
      let i = room-left k h in
      let j = rows_fit n (p + done) k s (omega arith) in
      let m = bytes-within in
      omega arith in
      let part : put_mid bytes (length out - bytes) out b ≡ overwrite_from bytes y out = from-part bytes y out b room T.written in
      record {
        few = h;
        long = rw part (from-length bytes y out room) ∙ G.long;
        text = record {
          bytes_are = rw (G.text.bytes_are, T.bytes_are, rows_then n p done k) (sym (length-append x y));
          kept_are = rw (G.text.kept_are, T.kept_are) (sym (kept_then n p done k));
          next_is = T.next_is ∙ ap (run_after n) (let e : (p + done) + k ≡ p + (done + k) = omega arith in e);
          written = part ∙ over-more x before out bytes G.text.bytes_are G.text.written y f ∙ ap (λ (t : List ℕ). overwrite t before) (sym (rows_then n p done k));
        };
      }

  pub growing-all : all ≤ done → RowsText n p all before bytes kept run out
  growing-all h = let f = G.few in let e : done ≡ all = omega arith in rw e at G.text

-- ---- the room that is asked for

pub row-some : (n r : ℕ) → r ≡ row_bytes n → 1 ≤ r
unfolding row_bytes
row-some n r e = omega arith

pub room-asked : (n r asked l : ℕ) → r ≡ row_bytes n → ¬ (l < asked * r) → asked * row_bytes n ≤ l
room-asked n r asked l e h = rw (← e) (omega arith)

-- where all that is asked for has room, so has what there is of it
pub room-given : (n k asked l : ℕ) → k ≤ asked → asked * row_bytes n ≤ l → k * row_bytes n ≤ l
room-given n k asked l h r = let m = mul-le-mul_right (row_bytes n) h in omega arith
