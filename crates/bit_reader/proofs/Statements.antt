-- What the steps of an image reader give, one after the other: the groups of three bits from its position on, then 8 for ever. Assumes nothing.
use mathlib.Core.Path.{◌≡◌, refl, sym, ap, ◌∙◌}
use Prim.Native.Nat.{ℕ, zero, suc, ◌+◌, ◌*◌, ◌-◌, ◌^◌, ◌<◌, ◌≤◌}
use native.Mathlib.Nat.{add-zero}
use native.Mathlib.Omega.{arith}
use borrow.Author.Tests.{le-leb}
use lib.ListN.{length}
use Rattle.bits.specs.Bits.{three_at}
use Rattle.bits.specs.Step.{step_at}
use Rattle.bits.specs.declared.Step.{Step}
use Rattle.bits.proofs.Bits.{length-bits, bits-bits}
use Rattle.bits.proofs.Read.{step-short, step-moves}
use Rattle.bit_reader.specs.declared.ImageReader.{ImageReader}
use Rattle.bit_reader.specs.Reader.{reader_bits, step_of, placed, stepped, after}

-- ---- one step

module _ (r : ImageReader) where
  -- with three bits left they are given, a number from 0 to 7, and the reader moves by 3
  pub three-given : r.position + 3 ≤ length (reader_bits r) → (step_of r).value ≡ three_at (reader_bits r) r.position
  unfolding step_at
  three-given h = rw (le-leb (r.position + 3) (length (reader_bits r)) h)

  pub three-lt : r.position + 3 ≤ length (reader_bits r) → (step_of r).value < 8
  three-lt h = let bit = bits-bits r.image.now in omega (arith, three-given h, bit r.position, bit (r.position + 1), bit (r.position + 2))

  pub three-moves : r.position + 3 ≤ length (reader_bits r) → r.position + 3 < 2 ^ 64 → stepped r ≡ placed r (r.position + 3)
  three-moves h fits = ap (λ (s : Step). placed r s.next) (sym (step-moves (reader_bits r) r.position (three_at (reader_bits r) r.position) h fits refl))

  -- with fewer than three left 8 is given, and the reader stays
  pub eight-given : length (reader_bits r) < r.position + 3 → (step_of r).value ≡ 8
  eight-given h = ap (λ (s : Step). s.value) (sym (step-short (reader_bits r) r.position h))

  pub eight-stays : length (reader_bits r) < r.position + 3 → stepped r ≡ r
  eight-stays h = ap (λ (s : Step). placed r s.next) (sym (step-short (reader_bits r) r.position h))

-- ---- k steps

module _ (r : ImageReader) where
  -- where fewer than three bits are left, no step changes anything
  pub stays-for-ever : length (reader_bits r) < r.position + 3 → (k : ℕ) → after k r ≡ r
  unfolding after
  stays-for-ever h zero = refl
  stays-for-ever h (suc k) = ap stepped (stays-for-ever h k) ∙ eight-stays r h

  pub eight-for-ever : length (reader_bits r) < r.position + 3 → (k : ℕ) → (step_of (after k r)).value ≡ 8
  eight-for-ever h k = ap (λ (q : ImageReader). (step_of q).value) (stays-for-ever h k) ∙ eight-given r h

module _ (r : ImageReader) where
  -- while there are bits, k steps lead 3 k bits on
  pub groups-passed : (k : ℕ) → r.position + 3 * k ≤ length (reader_bits r) → r.position + 3 * k < 2 ^ 64 → after k r ≡ placed r (r.position + 3 * k)
  unfolding after
  groups-passed zero h fits = ap (placed r) (omega arith)
  groups-passed (suc k) h fits =
      let p : ℕ = r.position + 3 * k in
      ap stepped (groups-passed k (omega arith) (omega arith)) ∙ three-moves (placed r p) (omega arith) (omega arith) ∙ ap (placed r) (omega arith)

  -- and the next step gives the group that stands there
  pub group-given : (k : ℕ) → r.position + 3 * k + 3 ≤ length (reader_bits r) → r.position + 3 * k < 2 ^ 64 → (step_of (after k r)).value ≡ three_at (reader_bits r) (r.position + 3 * k)
  group-given k h fits = ap (λ (q : ImageReader). (step_of q).value) (groups-passed k (omega arith) fits) ∙ three-given (placed r (r.position + 3 * k)) h

  after-add : (k j : ℕ) → after (k + j) r ≡ after j (after k r)
  unfolding after
  after-add k zero = ap (λ (n : ℕ). after n r) (add-zero k)
  after-add k (suc j) = let next : k + suc j ≡ suc (k + j) = omega arith in ap (λ (n : ℕ). after n r) next ∙ ap stepped (after-add k j)

  -- m groups and fewer than three bits behind them: from step m on every step gives 8
  pub then-eight : (m k : ℕ) → r.position + 3 * m ≤ length (reader_bits r) → length (reader_bits r) < r.position + 3 * m + 3 → r.position + 3 * m < 2 ^ 64 → m ≤ k → (step_of (after k r)).value ≡ 8
  then-eight m k h short fits later =
      let split : k ≡ m + (k - m) = omega arith in
      let end = placed r (r.position + 3 * m) in
      ap (λ (n : ℕ). (step_of (after n r)).value) split
      ∙ ap (λ (q : ImageReader). (step_of q).value) (after-add m (k - m) ∙ ap (after (k - m)) (groups-passed m h fits))
      ∙ eight-for-ever end short (k - m)

  -- the 958,304 bits of an image are 319,434 groups and two bits
  pub image-groups : r.position ≡ 0 → length r.image.now ≡ 119788 → (k : ℕ) → k < 319434 → (step_of (after k r)).value ≡ three_at (reader_bits r) (3 * k)
  image-groups start size k h =
      let at : r.position + 3 * k ≡ 3 * k = omega arith in
      group-given k (omega (arith, length-bits r.image.now)) (omega arith) ∙ ap (three_at (reader_bits r)) at

  pub image-ends : r.position ≡ 0 → length r.image.now ≡ 119788 → (k : ℕ) → 319434 ≤ k → (step_of (after k r)).value ≡ 8
  image-ends start size k h = then-eight 319434 k (omega (arith, length-bits r.image.now)) (omega (arith, length-bits r.image.now)) (omega arith) h
