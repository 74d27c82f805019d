-- A bit of a byte replaced, and a byte of a list. Assumes nothing.
use mathlib.Core.Path.{◌≡◌, sym, ap, ◌∙◌}
use mathlib.Core.Bool.{Bool, cond}
use mathlib.Core.List.{List, [], ◌∷◌}
use Prim.Native.Nat.{ℕ, suc, ◌+◌, ◌*◌, ◌-◌, ◌/◌, ◌%◌, ◌^◌, ◌<◌, ◌≤◌}
use native.Mathlib.Decide.{ℕ_discrete}
use native.Mathlib.Omega.{arith}
use borrow.Author.Tests.{eq-eqb, ne_eqb}
use lib.Dec.{eqb, eqb→eq, ltb, ltb→lt, leb, leb→le}
use lib.ListN.{length, get_or, set, length-set}
use lib.Seq.{sets, ext_get_or, get_or-set_same, get_or-set_other, set_out}
use Rattle.laws.proofs.Finite.{all, all₂, all₂-at, all₃, all₃-at}
use Rattle.bits.specs.Bits.{bits_of, three_of}
use Rattle.bits.proofs.Bits.{length-bits, bit_in}

-- ---- a bit of a byte

-- the weight of a byte's bit `place`, as a shift of 1 gives it
abbrev pub weight : ℕ → ℕ
weight place = 1 * 2 ^ (7 - place) % 256

-- the byte x with b as its bit `place`: what the bit counted is taken off, what b counts is added
abbrev pub replaced : ℕ → ℕ → ℕ → ℕ
replaced place b x = x - x / 2 ^ (7 - place) % 2 * weight place + b * weight place

-- bit k of the byte x, where bit `place` is b
abbrev other : ℕ → ℕ → ℕ → ℕ → ℕ
other place b x k = cond (eqb k place) b (x / 2 ^ (7 - k) % 2)

module _ (place b x : ℕ) (hp : place < 8) (hb : b < 2) (hx : x < 256) where
  pub taken-lt : x / 2 ^ (7 - place) % 2 * weight place < 256
  unfolding all all₂
  taken-lt = ltb→lt _ _ (all₂-at 8 256 (λ place x. ltb (x / 2 ^ (7 - place) % 2 * weight place) 256) tt place x hp hx)

  pub taken-le : x / 2 ^ (7 - place) % 2 * weight place ≤ x
  unfolding all all₂
  taken-le = leb→le _ _ (all₂-at 8 256 (λ place x. leb (x / 2 ^ (7 - place) % 2 * weight place) x) tt place x hp hx)

  pub added-lt : b * weight place < 256
  unfolding all all₂
  added-lt = ltb→lt _ _ (all₂-at 8 2 (λ place b. ltb (b * weight place) 256) tt place b hp hb)

  pub replaced-lt : replaced place b x < 256
  unfolding all all₂ all₃
  replaced-lt = ltb→lt _ _ (all₃-at 8 2 256 (λ place b x. ltb (replaced place b x) 256) tt place b x hp hb hx)

  pub replaced-bit : (k : ℕ) → k < 8 → replaced place b x / 2 ^ (7 - k) % 2 ≡ other place b x k
  unfolding all all₂ all₃
  replaced-bit k hk =
      eqb→eq _ _
      (all₂-at 256 8 (λ x k. eqb (replaced place b x / 2 ^ (7 - k) % 2) (other place b x k))
      (all₂-at 8 2 (λ place b. all₂ 256 8 (λ x k. eqb (replaced place b x / 2 ^ (7 - k) % 2) (other place b x k))) tt place b hp hb) x k hx hk)

-- as a byte of its own
pub replaced-bits : (place b x : ℕ) → place < 8 → b < 2 → x < 256 → bits_of (replaced place b x ∷ []) ≡ set (bits_of (x ∷ [])) place b
replaced-bits place b x hp hb hx =
    ext_get_or 0 (bits_of (y ∷ [])) (set (bits_of (x ∷ [])) place b) (length-bits (y ∷ []) ∙ sym (length-set (bits_of (x ∷ [])) place b ∙ length-bits (x ∷ []))) at
  where
    y : ℕ
    y = replaced place b x

    at : (k : ℕ) → k < length (bits_of (y ∷ [])) → get_or (bits_of (y ∷ [])) k 0 ≡ get_or (set (bits_of (x ∷ [])) place b) k 0
    at k h =
        let hk : k < 8 = omega (arith, length-bits (y ∷ [])) in
        bit_in (y ∷ []) k 0 k (omega arith) (omega arith) hk
        ∙ replaced-bit place b x hp hb hx k hk
        ∙ elim (ℕ_discrete k place) [
          | yes e ↦
              ap (λ (t : Bool). cond t b (x / 2 ^ (7 - k) % 2)) (eq-eqb k place e)
              ∙ sym (ap (λ (q : ℕ). get_or (set (bits_of (x ∷ [])) place b) q 0) e ∙ get_or-set_same (bits_of (x ∷ [])) place b 0 (omega (arith, length-bits (x ∷ []))))
          | no e ↦
              ap (λ (t : Bool). cond t b (x / 2 ^ (7 - k) % 2)) (ne_eqb k place e)
              ∙ sym (get_or-set_other (bits_of (x ∷ [])) place k b 0 e ∙ bit_in (x ∷ []) k 0 k (omega arith) (omega arith) hk)
        ]

-- ---- a byte of a list

-- byte i of l gives way to y, which has b as its bit `place` and is otherwise the same
pub put-bits : (l : List ℕ) (i place b y : ℕ) → i < length l → place < 8 → bits_of (y ∷ []) ≡ set (bits_of (get_or l i 0 ∷ [])) place b
    → bits_of (set l i y) ≡ set (bits_of l) (8 * i + place) b
put-bits l i place b y hi hp e =
    ext_get_or 0 (bits_of (set l i y)) (set (bits_of l) (8 * i + place) b)
    (length-bits (set l i y) ∙ ap (λ (n : ℕ). 8 * n) (length-set l i y) ∙ sym (length-set (bits_of l) (8 * i + place) b ∙ length-bits l)) at
  where
    x : ℕ
    x = get_or l i 0

    -- bit k of byte i
    inside : (k : ℕ) → k < 8 → get_or (bits_of (set l i y)) (8 * i + k) 0 ≡ get_or (set (bits_of l) (8 * i + place) b) (8 * i + k) 0
    inside k hk =
        bit_in (set l i y) (8 * i + k) i k (omega arith) (omega (arith, length-set l i y)) hk
        ∙ ap (λ (v : ℕ). v / 2 ^ (7 - k) % 2) (get_or-set_same l i y 0 hi)
        ∙ sym (bit_in (y ∷ []) k 0 k (omega arith) (omega arith) hk)
        ∙ ap (λ (m : List ℕ). get_or m k 0) e
        ∙ elim (ℕ_discrete k place) [
          | yes q ↦
              ap (λ (j : ℕ). get_or (set (bits_of (x ∷ [])) place b) j 0) q
              ∙ get_or-set_same (bits_of (x ∷ [])) place b 0 (omega (arith, length-bits (x ∷ [])))
              ∙ sym (ap (λ (j : ℕ). get_or (set (bits_of l) (8 * i + place) b) (8 * i + j) 0) q ∙ get_or-set_same (bits_of l) (8 * i + place) b 0 (omega (arith, length-bits l)))
          | no q ↦
              get_or-set_other (bits_of (x ∷ [])) place k b 0 q
              ∙ bit_in (x ∷ []) k 0 k (omega arith) (omega arith) hk
              ∙ sym (get_or-set_other (bits_of l) (8 * i + place) (8 * i + k) b 0 (λ r. q (omega arith)) ∙ bit_in l (8 * i + k) i k (omega arith) hi hk)
        ]

    -- a bit of another byte
    outside : (p : ℕ) → p < 8 * length l → (p / 8 ≡ i → ⊥) → get_or (bits_of (set l i y)) p 0 ≡ get_or (set (bits_of l) (8 * i + place) b) p 0
    outside p hp' q =
        bit_in (set l i y) p (p / 8) (p % 8) (omega arith) (omega (arith, length-set l i y)) (omega arith)
        ∙ ap (λ (v : ℕ). v / 2 ^ (7 - p % 8) % 2) (get_or-set_other l i (p / 8) y 0 q)
        ∙ sym (get_or-set_other (bits_of l) (8 * i + place) p b 0 (λ r. q (omega arith)) ∙ bit_in l p (p / 8) (p % 8) (omega arith) (omega arith) (omega arith))

    at : (p : ℕ) → p < length (bits_of (set l i y)) → get_or (bits_of (set l i y)) p 0 ≡ get_or (set (bits_of l) (8 * i + place) b) p 0
    at p h =
        let within : p < 8 * length l = omega (arith, length-bits (set l i y), length-set l i y) in
        elim (ℕ_discrete (p / 8) i) [
          | yes q ↦
              let whole : p ≡ 8 * i + p % 8 = omega arith in
              ap (λ (j : ℕ). get_or (bits_of (set l i y)) j 0) whole
              ∙ inside (p % 8) (omega arith)
              ∙ sym (ap (λ (j : ℕ). get_or (set (bits_of l) (8 * i + place) b) j 0) whole)
          | no q ↦ outside p within q
        ]

-- past the end nothing changes
pub put-past : (l : List ℕ) (i place b : ℕ) → length l ≤ i → bits_of l ≡ set (bits_of l) (8 * i + place) b
put-past l i place b h = sym (set_out (bits_of l) (8 * i + place) b (omega (arith, length-bits l)))

-- ---- positions in a list

-- the bit at a position is bit at % 8 of byte at / 8
pub bit-written : (b c : List ℕ) (at v : ℕ) → c ≡ set b (8 * (at / 8) + at % 8) v → c ≡ set b at v
bit-written b c at v e = let whole : 8 * (at / 8) + at % 8 ≡ at = omega arith in e ∙ ap (λ (p : ℕ). set b p v) whole

-- three bits, one after the other
pub three-written : (b c d e : List ℕ) (at v : ℕ) → c ≡ set b (8 * (at / 8) + at % 8) (v / 4 % 2)
    → d ≡ set c (8 * (at / 8 + (at % 8 + 1) / 8) + (at % 8 + 1) % 8) (v / 2 % 2)
    → e ≡ set d (8 * (at / 8 + (at % 8 + 2) / 8) + (at % 8 + 2) % 8) (v % 2)
    → e ≡ sets b at (three_of v)
three-written b c d e at v first second third =
    let at0 : 8 * (at / 8) + at % 8 ≡ at = omega arith in
    let at1 : 8 * (at / 8 + (at % 8 + 1) / 8) + (at % 8 + 1) % 8 ≡ suc at = omega arith in
    let at2 : 8 * (at / 8 + (at % 8 + 2) / 8) + (at % 8 + 2) % 8 ≡ suc (suc at) = omega arith in
    rw (third, second, first, at0, at1, at2)
