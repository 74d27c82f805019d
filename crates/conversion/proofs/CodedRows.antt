-- The rows as the code's table has them, by tests over the sixteen. Assumes nothing.
use mathlib.Core.Bool.{false, beq}
use mathlib.Core.Path.{◌≡◌, refl, sym, ap, ap₂, subst, ◌∙◌}
use Prim.Native.Nat.{ℕ, ◌+◌, ◌*◌, ◌-◌, ◌/◌, ◌%◌, ◌^◌, ◌<◌}
use native.Mathlib.Nat.{lt_of_lt_of_le}
use native.Mathlib.Omega.{arith}
use lib.Dec.{eqb, leb, leb→le}
use lib.ListN.{length}
use lib.Pow.{shl_lt, shl_exact, pow_mono}
use Rattle.laws.proofs.Finite.{all, all-at, equal-below, bounded-below}
use Rattle.bits.specs.Bits.{number}
use Rattle.modulation.specs.Modulation.{When, always, after_one, after-zero, before-010, at-end, row_at, starts_with010, last_bit}
use Rattle.modulation.specs.Bits.{bits}
use Rattle.modulation.proofs.Bits.{length-bits}
use Rattle.laws.proofs.Booleans.{beq_same}
use Rattle.conversion.specs.declared.Row.{Row as CodeRow}
use Rattle.conversion.specs.declared.When.{When as CodeWhen}
use Rattle.conversion.specs.declared.When.TheVariants.{Always, AfterOne, AfterZero, Before010, AtEnd}
use Rattle.conversion.specs.steps.Rows.{IsRow, Sized, coded_when}

row_sized : (k : ℕ) → k < 16 → Sized k (length (row_at k).pairs)
unfolding all
row_sized k h =
    record {
      pairs-are = omega arith;
      groups-are = equal-below 16 (λ k. length (row_at k).pairs) (λ k. length (row_at k).groups) tt k h;
      some = leb→le 1 (length (row_at k).pairs) (all-at 16 (λ k. leb 1 (length (row_at k).pairs)) tt k h);
      most = bounded-below 16 5 (λ k. length (row_at k).pairs) tt k h;
    }

abbrev pub when_of : CodeWhen → When
when_of Always = always
when_of AfterOne = after_one
when_of AfterZero = after-zero
when_of Before010 = before-010
when_of AtEnd = at-end

when-back : (w : When) → when_of (coded_when w) ≡ w
when-back always = refl
when-back after_one = refl
when-back after-zero = refl
when-back before-010 = refl
when-back at-end = refl

groups-lt : (k : ℕ) → k < 16 → number (bits (row_at k).groups) < 4096
unfolding all number
groups-lt k h = bounded-below 16 4096 (λ k. number (bits (row_at k).groups)) tt k h

-- row k of the code's table
module _ {k : ℕ} {r : CodeRow} (row : IsRow k r) where
  pub code-sized : Sized k r.pairs
  code-sized = subst (Sized k) (sym (ap (λ (s : CodeRow). s.pairs) row.is)) (row_sized k row.below)

  pub code-leads : eqb (r.modulation_bits / 2 ^ (3 * (r.pairs - 1))) 0b010 ≡ starts_with010 (row_at k).groups
  unfolding all number
  code-leads =
      ap (λ (s : CodeRow). eqb (s.modulation_bits / 2 ^ (3 * (s.pairs - 1))) 0b010) row.is
      ∙ beq_same (eqb (number (bits (row_at k).groups) / 2 ^ (3 * (length (row_at k).pairs - 1))) 0b010) (starts_with010 (row_at k).groups)
      (all-at 16 (λ k. beq (eqb (number (bits (row_at k).groups) / 2 ^ (3 * (length (row_at k).pairs - 1))) 0b010) (starts_with010 (row_at k).groups)) tt k row.below)

  -- its modulation bits behind those of v
  module _ (v : ℕ) (small : v < 262144) where
    shifted : v * 2 ^ (3 * r.pairs) % 2 ^ 32 ≡ v * 2 ^ (3 * r.pairs)
    shifted = shl_exact {a = v} 18 (3 * r.pairs) 32 small (omega (arith, code-sized.most))

    pub code-bits : v * 2 ^ (3 * r.pairs) % 2 ^ 32 + r.modulation_bits ≡ v * 2 ^ length (bits (row_at k).groups) + number (bits (row_at k).groups)
    code-bits =
        let place : 3 * r.pairs ≡ length (bits (row_at k).groups) = omega (arith, code-sized.groups-are, length-bits (row_at k).groups) in
        ap₂ ◌+◌ (shifted ∙ ap (λ (n : ℕ). v * 2 ^ n) place) (ap (λ (s : CodeRow). s.modulation_bits) row.is)

    pub code_fits : v * 2 ^ (3 * r.pairs) % 2 ^ 32 + r.modulation_bits < 2 ^ 32
    code_fits =
        let below : v * 2 ^ (3 * r.pairs) < 2 ^ 30 = lt_of_lt_of_le (shl_lt {a = v} 18 (3 * r.pairs) small) (pow_mono {i = 18 + 3 * r.pairs} {j = 30} (omega (arith, code-sized.most))) in
        let few : r.modulation_bits < 4096 = rw (ap (λ (s : CodeRow). s.modulation_bits) row.is) (groups-lt k row.below) in
        omega (arith, shifted)

  pub code-last : eqb (r.modulation_bits % 2) 1 ≡ last_bit false (row_at k).groups
  unfolding all number
  code-last =
      ap (λ (s : CodeRow). eqb (s.modulation_bits % 2) 1) row.is
      ∙ beq_same (eqb (number (bits (row_at k).groups) % 2) 1) (last_bit false (row_at k).groups)
      (all-at 16 (λ k. beq (eqb (number (bits (row_at k).groups) % 2) 1) (last_bit false (row_at k).groups)) tt k row.below)

  -- when it may be taken
  pub code-when : (row_at k).when ≡ when_of r.when
  code-when = sym (when-back (row_at k).when) ∙ ap (λ (s : CodeRow). when_of s.when) (sym row.is)
