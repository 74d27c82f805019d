-- The tally's answer, case by case of its definition. Assumes nothing.
use mathlib.Core.Bool.{Bool, true, false, cond}
use mathlib.Core.List.{List, ◌∷◌, ◌++◌}
use mathlib.Core.Path.{◌≡◌, refl, ap, ap₂, ◌∙◌}
use Prim.Native.Nat.{ℕ, suc, ◌-◌, ◌^◌, ◌<◌, ◌≤◌}
use native.Mathlib.Omega.{arith}
use borrow.Author.Tests.{eq-eqb, ne_eqb, lt-ltb, le-ltb}
use lib.Dec.{eqb, ltb}
use lib.ListN.{length, get_or, take, drop, length-drop}
use lib.Seq.{take_all}
use Rattle.std.specs.Prelude.{Option, Some, None, IsSomeAnd}
use Rattle.laws.specs.Bytes.{Bytes}
use Rattle.laws.specs.HowMany.{how_many}
use Rattle.laws.proofs.Booleans.{and-false}
use Rattle.laws.proofs.Bytes.{bytes-cons, bytes-append}
use Rattle.big_endian.specs.Words.{four_bytes}
use Rattle.big_endian.proofs.Words.{word_back, bytes-four}
use Rattle.frame_sync.specs.Sync.{fs}
use Rattle.frame.specs.Frame.{frame}
use Rattle.frame.proofs.Frame.{length-frame}
use Rattle.gaps.specs.Gaps.{gap_counts, gap_at}
use Rattle.frame_gaps.specs.Tally.{tally_dc, is_tally_input, tally_frame, tallied, input_of}
use Rattle.frame_gaps.proofs.FrameCounted.{bits-frame}
use Rattle.gaps.proofs.Neighbours.{counts-often}

module _ (input : List ℕ) {a : Option (List ℕ)} (r : a ≡ None) where
  refused : is_tally_input input ≡ false → a ≡ tallied input
  unfolding tallied
  refused e = r ∙ rw e

  pub refused-length : (length input ≡ 161 → ⊥) → a ≡ tallied input
  refused-length h = refused (rw (ne_eqb (length input) 161 h))

  pub refused-hash : 1 < get_or input 0 0 → a ≡ tallied input
  refused-hash h = refused (and-false (eqb (length input) 161) _ (rw (le-ltb (get_or input 0 0) 2 h)))

  pub refused-number : 6 < get_or input 1 0 → a ≡ tallied input
  refused-number h = refused (and-false (eqb (length input) 161) _ (and-false (ltb (get_or input 0 0) 2) _ (rw (le-ltb (get_or input 1 0) 7 h))))

  pub refused-dc : {dc : ℕ} → dc ≡ tally_dc input → 268435455 < dc → a ≡ tallied input
  refused-dc {dc} e h =
      refused
      (and-false (eqb (length input) 161) _ (and-false (ltb (get_or input 0 0) 2) _
      (and-false (ltb (get_or input 1 0) 7) _ (le-ltb (tally_dc input) (2 ^ 28) (omega arith)))))

-- the row is lent as the part of the input from 6 on
pub tallied-counts : (input : List ℕ) {dc : ℕ} {c : List ℕ} → length input ≡ 161 → get_or input 0 0 ≤ 1 → get_or input 1 0 ≤ 6 → dc ≡ tally_dc input → dc ≤ 268435455
    → c ≡ gap_counts (frame (eqb (get_or input 0 0) 1) (fs (get_or input 1 0)) (take (length input - 6) (drop 6 input)) dc)
    → Some c ≡ tallied input
unfolding tallied
tallied-counts input {dc} {c} size hash number e small counts =
    rw (
      eq-eqb (length input) 161 size,
      lt-ltb (get_or input 0 0) 2 (omega arith),
      lt-ltb (get_or input 1 0) 7 (omega arith),
      lt-ltb (tally_dc input) (2 ^ 28) (omega arith),
      counts,
      e,
      take_all (length input - 6) (drop 6 input) (omega (arith, length-drop 6 input)),
    )

-- ---- what is tallied

-- of an accepted input: of each length from 1 to 8, how many places of the frame's 1,932 bits begin such a gap
pub tallied-often : (input : List ℕ) → is_tally_input input ≡ true → (k : ℕ) → k < 8
    → IsSomeAnd (tallied input) (λ counts. get_or counts k 0 ≡ how_many 1932 (gap_at (tally_frame input) (suc k)))
unfolding tallied
tallied-often input e k h =
    rw e
    (counts-often (tally_frame input) (bits-frame _ _ _ _) k h
    ∙ ap (λ (m : ℕ). how_many m (gap_at (tally_frame input) (suc k))) (length-frame _ _ _ _))

-- of the bytes that give a frame: its gap counts
module _ (hash : Bool) (number : ℕ) (row : List ℕ) (dc : ℕ) (size : length row ≡ 155) (few : number < 7) (small : dc < 2 ^ 28) where
  same-hash : (t : Bool) → (eqb (cond t 1 0) 1 ≡ t) × (ltb (cond t 1 0) 2 ≡ true)
  same-hash true = (refl, refl)
  same-hash false = (refl, refl)

  same-dc : tally_dc (input_of hash number row dc) ≡ dc
  same-dc = word_back dc (omega arith)

  given : is_tally_input (input_of hash number row dc) ≡ true
  given =
      rw (
        eq-eqb (length (input_of hash number row dc)) 161 (omega arith),
        (same-hash hash).1,
        lt-ltb number 7 few,
        lt-ltb (tally_dc (input_of hash number row dc)) (2 ^ 28) (omega (arith, same-dc)),
      )

  pub frame-tallied : tallied (input_of hash number row dc) ≡ Some (gap_counts (frame hash (fs number) row dc))
  unfolding tallied
  frame-tallied =
      ap (λ (t : Bool). cond t (Some (gap_counts (tally_frame (input_of hash number row dc)))) None) given
      ∙ ap₂ (λ (h : Bool) (d : ℕ). Some (gap_counts (frame h (fs number) row d))) (same-hash hash).0 same-dc

  -- and they are bytes
  pub bytes-input : Bytes row → Bytes (input_of hash number row dc)
  bytes-input rest =
      bytes-cons (cond hash 1 0) (number ∷ (four_bytes dc ++ row)) (bit hash) (bytes-cons number (four_bytes dc ++ row) (omega arith) (bytes-append (four_bytes dc) row (bytes-four dc) rest))
    where
      bit : (t : Bool) → cond t 1 0 < 256
      bit true = omega arith
      bit false = omega arith
