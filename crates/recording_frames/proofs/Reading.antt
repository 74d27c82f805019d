-- The frames of a recording read two by two: rows into the cluster, dc words beside. Assumes nothing.
use mathlib.Core.Path.{◌≡◌, refl, sym, ap, subst, ap₂, ◌∙◌}
use mathlib.Core.Bool.{Bool, true, false, not}
use mathlib.Core.List.{List, ◌++◌}
use Prim.Native.Nat.{ℕ, ◌+◌, ◌*◌, ◌-◌, ◌/◌, ◌%◌, ◌<◌, ◌≤◌}
use native.Mathlib.Decide.{dec_lt}
use native.Mathlib.Omega.{arith}
use lib.ListN.{length, get_or, set, take, drop, length-append, take-append-drop, get_or-append}
use lib.Seq.{get_or-append-add}
use Rattle.std.specs.Prelude.{Option, Some, None}
use Rattle.laws.proofs.First.{Passed, passed_none, passed-more, first-here, first_past}
use Rattle.laws.proofs.Fill.{Upto, upto-none, upto-more, upto-part, upto_all}
use Rattle.modulation.specs.Sync.{FS, sync_number}
use Rattle.frame_bits.specs.FrameBits.{row_from}
use Rattle.frame_sync.specs.Sync.{fs, fs_number, hash_at}
use Rattle.frame.specs.Reading.{StrictlyRead, readable, frame_read, row_left}
use Rattle.frame_sync.proofs.SyncTables.{fs-number}
use Rattle.frame_bits.proofs.FrameBits.{length-row}
use Rattle.frame.proofs.Reading.{readable-gives, read_is, some-is, no_some}
use Rattle.recording.specs.Reading.{modulated_at, hash_behind, no_frame, first_no_frame, frame_bits_in, cluster_byte, cluster_in, dc_word_in, dc_in}
use Rattle.recording_frames.specs.steps.Read.{FrameAnswer, TwoFrames, FramesRead}
use Rattle.recording.proofs.Accepting.{readable-is}
use Rattle.recording.proofs.Places.{hash-behind, bits-behind}

-- ---- a frame

module _ (b : List ℕ) (n : ℕ) where
  -- where some bits give it, its row has 155 bytes
  pub length-row-in : no_frame b n ≡ false → length (row_from (frame_bits_in b n)) ≡ 155
  length-row-in e = length-row (frame_bits_in b n) (readable-gives (sync_number n) (modulated_at b n) (hash_behind b n) (readable-is b n e)).are-bits

-- a frame as it is read with the number of its sync, from bit q on, in bits l where the recording starts at bit `at`
module _ (l : List ℕ) (at n number q s : ℕ) {before p : List ℕ} {hash : Bool} {r : Option ℕ} (en : number ≡ fs_number (sync_number n)) (eh : hash ≡ hash_at l s)
    (es : s ≡ at + 1932 * (n + 1)) (eq : q ≡ at + (1932 * n + 30)) (read : StrictlyRead (fs number) (take 1902 (drop q l)) hash before r p) where
  abbrev b : List ℕ
  b = drop at l

  behind : hash ≡ hash_behind b n
  behind = eh ∙ ap (hash_at l) es ∙ sym (hash-behind l at (1932 * (n + 1)))

  there : take 1902 (drop q l) ≡ modulated_at b n
  there = ap (λ (k : ℕ). take 1902 (drop k l)) eq ∙ sym (bits-behind l at (1932 * n + 30) 1902)

  strictly : StrictlyRead (sync_number n) (modulated_at b n) (hash_behind b n) before r p
  strictly =
      subst (λ (f : FS). StrictlyRead f (modulated_at b n) (hash_behind b n) before r p) (ap fs en ∙ fs-number (sync_number n))
      (subst (λ (h : Bool). StrictlyRead (fs number) (modulated_at b n) h before r p) behind (subst (λ (m : List ℕ). StrictlyRead (fs number) m hash before r p) there read))

  pub frame-answer : FrameAnswer b n r
  unfolding no_frame frame_read
  frame-answer = by (readable (sync_number n) (modulated_at b n) (hash_behind b n)) refl
    where
      by : (t : Bool) → readable (sync_number n) (modulated_at b n) (hash_behind b n) ≡ t → FrameAnswer b n r
      by true e =
          let answered : r ≡ Some (dc_word_in b n) = (read_is strictly).0 ∙ rw e in
          record { found = λ dc f. (ap not e, some-is (sym f ∙ answered)); none = λ f. absurd (no_some (sym answered ∙ f)) }
      by false e =
          let answered : r ≡ None = (read_is strictly).0 ∙ rw e in
          record { found = λ dc f. absurd (no_some (sym f ∙ answered)); none = λ f. ap not e }

  pub row_is : no_frame b n ≡ false → p ≡ row_from (frame_bits_in b n)
  unfolding row_left
  row_is e = (read_is strictly).1 ∙ rw (readable-is b n e)

-- two rows in the places of frames n and n + 1, as `read_two` leaves p there
pub two-rows : (b work p : List ℕ) (n m : ℕ) → m ≡ 310 → take 155 p ≡ row_from (frame_bits_in b n) → drop 155 p ≡ row_from (frame_bits_in b (n + 1))
    → take (155 * n) work ++ (p ++ drop m (drop (155 * n) work))
    ≡ take (155 * n) work ++ ((row_from (frame_bits_in b n) ++ row_from (frame_bits_in b (n + 1))) ++ drop 310 (drop (155 * n) work))
two-rows b work p n m em row next =
    let rows : p ≡ row_from (frame_bits_in b n) ++ row_from (frame_bits_in b (n + 1)) = sym (take-append-drop 155 p) ∙ ap₂ ◌++◌ row next in
    ap₂ (λ (l : List ℕ) (k : ℕ). take (155 * n) work ++ (l ++ drop k (drop (155 * n) work))) rows em

-- ---- the loop

-- the frames below n are read
pub record Below (b : List ℕ) (n : ℕ) (dc work : List ℕ) : Type 0 where
  pub given : Passed (no_frame b) n
  pub words : Upto 0 (dc_word_in b) 496 n dc
  pub rows : Upto 0 (cluster_byte b) 76880 (155 * n) work

pub below_none : {b dc work : List ℕ} → length dc ≡ 496 → length work ≡ 76880 → Below b 0 dc work
below_none d w = record { given = passed_none; words = upto-none d; rows = upto-none w }

module _ {b dc work after : List ℕ} {pair : ℕ} {first second : Option ℕ} (u : Below b (2 * pair) dc work) (h : pair < 248)
    (two : TwoFrames b (2 * pair) work first second after) where
  abbrev n : ℕ
  n = 2 * pair

  -- two frames more
  pub below_more : {word next : ℕ} → first ≡ Some word → second ≡ Some next → Below b (2 * (pair + 1)) (set (set dc (2 * pair) word) (2 * pair + 1) next) after
  below_more {word} {next} e f =
      let found = two.one.found word e in
      let other = two.two.found next f in
      let further : 2 * pair + 1 + 1 ≡ 2 * (pair + 1) = omega arith in
      record {
        given = subst (Passed (no_frame b)) further (passed-more (passed-more u.given found.0) other.0);
        words =
            subst (λ (k : ℕ). Upto 0 (dc_word_in b) 496 k (set (set dc (2 * pair) word) (2 * pair + 1) next)) further
            (upto-more (omega arith) other.1 (upto-more (omega arith) found.1 u.words));
        rows =
            subst (Upto 0 (cluster_byte b) 76880 (155 * (2 * (pair + 1)))) (sym (two.rows found.0 other.0))
            (upto-part 310 (row (2 * pair) ++ row (2 * pair + 1)) (omega arith) (omega arith) (long found.0 other.0) (byte found.0) u.rows);
      }
    where
      row : ℕ → List ℕ
      row k = row_from (frame_bits_in b k)

      long : no_frame b n ≡ false → no_frame b (n + 1) ≡ false → length (row n ++ row (n + 1)) ≡ 310
      long e f = omega (arith, length-append (row n) (row (n + 1)), length-row-in b n e, length-row-in b (n + 1) f)

      byte : no_frame b n ≡ false → (k : ℕ) → k < 310 → get_or (row n ++ row (n + 1)) k 0 ≡ cluster_byte b (155 * n + k)
      byte e k l =
          let size = length-row-in b n e in
          elim (dec_lt k 155) [
            | yes lower ↦
                let here : (155 * n + k) / 155 ≡ n = omega arith in
                let column : (155 * n + k) % 155 ≡ k = omega arith in
                get_or-append (row n) (row (n + 1)) 0 k (omega (arith, size)) ∙ sym (ap₂ (λ (i j : ℕ). get_or (row i) j 0) here column)
            | no upper ↦
                let here : (155 * n + k) / 155 ≡ n + 1 = omega arith in
                let column : (155 * n + k) % 155 ≡ k - 155 = omega arith in
                let place : k ≡ length (row n) + (k - 155) = omega (arith, size) in
                ap (λ (j : ℕ). get_or (row n ++ row (n + 1)) j 0) place
                ∙ get_or-append-add (row n) (row (n + 1)) (k - 155) 0
                ∙ sym (ap₂ (λ (i j : ℕ). get_or (row i) j 0) here column)
          ]

  stop : (k : ℕ) → k < 496 → Passed (no_frame b) k → no_frame b k ≡ true → FramesRead b (Some k) dc after
  unfolding first_no_frame
  stop k l passed none =
      let is : k ≡ first_no_frame b = first-here l passed none in
      record { first = (omega (arith, is), is); dc-is = tt; work-is = tt; size = two.size ∙ u.rows.size }

  -- the first of them, or the second, is one that no bits give
  pub below-stop : first ≡ None → FramesRead b (Some (2 * pair)) dc after
  below-stop e = stop n (omega arith) u.given (two.one.none e)

  pub below-stop-next : {word : ℕ} → first ≡ Some word → second ≡ None → FramesRead b (Some (2 * pair + 1)) dc after
  below-stop-next {word} e f = stop (n + 1) (omega arith) (passed-more u.given (two.one.found word e).0) (two.two.none f)

pub below_all : {b dc work : List ℕ} {n : ℕ} → 496 ≤ n → Below b n dc work → FramesRead b None dc work
unfolding first_no_frame cluster_in dc_in
below_all {b} {dc} {work} {n} l u =
    record {
      first = λ some. omega (arith, some, first_past l u.given);
      dc-is = upto_all l u.words;
      work-is = upto_all (omega arith) u.rows;
      size = u.rows.size;
    }
