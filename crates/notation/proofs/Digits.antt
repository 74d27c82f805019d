-- Hexadecimal digits, and the number that they give. Assumes nothing.
use mathlib.Core.Path.{◌≡◌}
use mathlib.Core.Bool.{true, false}
use mathlib.Core.List.{List}
use Prim.Native.Nat.{ℕ, zero, suc, ◌+◌, ◌*◌, ◌^◌, ◌<◌}
use native.Mathlib.Numerals.{add-one}
use native.Mathlib.Omega.{arith}
use borrow.Author.Tests.{eq-eqb, ne_eqb, lt-ltb, le-leb, lt-leb, leb-false}
use lib.ListN.{length, get_or}
use Rattle.laws.proofs.First.{Passed, first-at, first-none}
use Rattle.laws.proofs.Finite.{all, bounded-below}
use Rattle.std.specs.Prelude.{Some, None}
use Rattle.notation.specs.Psn.{digit_of, value_to, no_digit, psn_of}

-- ---- a text; d is the digit at k

module _ (text : List ℕ) (k : ℕ) where
  pub no-digit : (digit_of (get_or text k 0) < 16 → ⊥) → no_digit text k ≡ true
  unfolding no_digit
  no-digit h = le-leb 16 (digit_of (get_or text k 0)) (omega (arith, h))

  module _ (d : ℕ) (hd : d ≡ digit_of (get_or text k 0)) where
    pub a-digit : d < 16 → no_digit text k ≡ false
    unfolding no_digit
    a-digit h = lt-leb 16 (digit_of (get_or text k 0)) (omega arith)

    pub value-more : (value : ℕ) → value ≡ value_to text k → value * 16 + d ≡ value_to text (k + 1)
    unfolding value_to
    value-more value e = rw (add-one k, hd, e)

value-bound : (text : List ℕ) (k : ℕ) → Passed (no_digit text) k → value_to text k < 16 ^ k
unfolding value_to no_digit
value-bound text zero passed = omega arith
value-bound text (suc k) passed =
    let rest = value-bound text k (record { fails = λ j h. passed.fails j (omega arith) }) in
    let digit : digit_of (get_or text k 0) < 16 = leb-false 16 (digit_of (get_or text k 0)) (passed.fails k (omega arith)) in
    omega arith

-- seven digits leave room for one more
pub value-small : (text : List ℕ) (k value : ℕ) → Passed (no_digit text) k → value ≡ value_to text k → k < 8 → value < 268435456
unfolding all
value-small text k value passed e h =
    let power : 16 ^ k < 268435457 = bounded-below 8 268435457 (λ j. 16 ^ j) tt k h in
    let bound = value-bound text k passed in
    omega arith

-- ---- the whole text

module _ (text : List ℕ) where
  pub another-length : (length text ≡ 8 → ⊥) → None ≡ psn_of text
  unfolding psn_of
  another-length h = rw (ne_eqb (length text) 8 h)

  pub another-byte : (k : ℕ) → length text ≡ 8 → k < 8 → Passed (no_digit text) k → no_digit text k ≡ true → None ≡ psn_of text
  unfolding psn_of
  another-byte k s h passed e = rw (eq-eqb (length text) 8 s, first-at 8 (no_digit text) k h passed e, lt-ltb k 8 h)

  pub eight-digits : (value k : ℕ) → length text ≡ 8 → k ≡ 8 → Passed (no_digit text) k → value ≡ value_to text k → Some (record { 0 = value }) ≡ psn_of text
  unfolding psn_of
  eight-digits value k s all passed e =
      let eight : Passed (no_digit text) 8 = rw all at passed in
      let whole : value ≡ value_to text 8 = rw all at e in
      rw (eq-eqb (length text) 8 s, first-none 8 (no_digit text) eight, whole)
