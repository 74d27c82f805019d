-- Bytes put one after the other are the bits of a number. Assumes nothing.
use mathlib.Core.List.{List, [], ◌∷◌, ◌++◌}
use mathlib.Core.Path.{◌≡◌, refl, sym, ap, ap₂, ◌∙◌}
use Prim.Native.Nat.{ℕ, suc, ◌+◌, ◌*◌, ◌/◌, ◌%◌, ◌^◌, ◌≤◌}
use native.Mathlib.Omega.{arith}
use lib.ListN.{length, set, take}
use lib.Seq.{sets, length-sets}
use lib.Pow.{mod-pow-add}
use Rattle.laws.proofs.Fill.{sets-front}
use Rattle.bits.specs.Bits.{bits_of, number, bits_of_number}
use Rattle.bits.proofs.Bits.{length-bits, bits-bits}
use Rattle.bits.proofs.Number.{length-bits-of, number-of-bits, bits-of-number}
use Rattle.bits.proofs.Concat.{bits-append, number-byte, number-first, number-bits}
use Rattle.modulator.specs.steps.Put.{Put}

-- bytes that make v, modulo 2 to the number of their bits, are its bits
bytes-are : (vs : List ℕ) (n v : ℕ) → 8 * length vs ≡ n → number (bits_of vs) ≡ v % 2 ^ n → bits_of vs ≡ bits_of_number n v
bytes-are vs n v size e =
    sym (bits-of-number (bits_of vs) (bits-bits vs))
    ∙ ap₂ bits_of_number (length-bits vs ∙ size) e
    ∙ sym (ap₂ bits_of_number (length-bits-of n v) (number-of-bits n v))
    ∙ bits-of-number (bits_of_number n v) (number-bits n v)

-- the bytes of a number, one more in front
byte-in : (x : ℕ) (l : List ℕ) (v : ℕ) → x ≡ v / 2 ^ (8 * length l) % 256 → number (bits_of l) ≡ v % 2 ^ (8 * length l)
    → number (bits_of (x ∷ l)) ≡ v % 2 ^ (8 * suc (length l))
byte-in x l v ex e =
    let top : x % 256 ≡ v / 2 ^ (8 * length l) % 2 ^ 8 = small x (v / 2 ^ (8 * length l)) ex in
    let more : 8 * suc (length l) ≡ 8 + 8 * length l = omega arith in
    number-first x l
    ∙ ap₂ (λ (a b : ℕ). a * 2 ^ (8 * length l) + b) top e
    ∙ sym (ap (λ (k : ℕ). v % 2 ^ k) more ∙ mod-pow-add v 8 (8 * length l))
  where
    small : (x y : ℕ) → x ≡ y % 256 → x % 256 ≡ y % 256
    small x y e = omega arith

last-in : (x v : ℕ) → x ≡ v % 256 → number (bits_of (x ∷ [])) ≡ v % 2 ^ 8
last-in x v e = number-byte x ∙ omega arith

put_all : (l vs : List ℕ) (at n v : ℕ) → length vs ≡ n → at + n ≤ length l → number (bits_of vs) ≡ v % 2 ^ (8 * n) → Put l at n v (sets l at vs)
put_all l vs at n v size h e =
    record {
      size = length-sets l at vs;
      front =
          ap bits_of (sets-front l vs at (at + n) (omega arith) h)
          ∙ bits-append (take at l) vs
          ∙ ap (λ (b : List ℕ). bits_of (take at l) ++ b) (bytes-are vs (8 * n) v (omega arith) e);
    }

pub put_three : (l : List ℕ) (at v a b c : ℕ) → at + 3 ≤ length l → a ≡ v / 65536 % 256 → b ≡ v / 256 % 256 → c ≡ v % 256
    → Put l at 3 v (set (set (set l at a) (at + 1) b) (at + 2) c)
put_three l at v a b c h ea eb ec =
    let one : at + 1 ≡ suc at = omega arith in
    let two : at + 2 ≡ suc (suc at) = omega arith in
    rw (one, two) (put_all l (a ∷ b ∷ c ∷ []) at 3 v refl h (byte-in a (b ∷ c ∷ []) v ea (byte-in b (c ∷ []) v eb (last-in c v ec))))

pub put_five : (l : List ℕ) (at v a b c d e : ℕ) → at + 5 ≤ length l → a ≡ v / 4294967296 % 256 → b ≡ v / 16777216 % 256 → c ≡ v / 65536 % 256 → d ≡ v / 256 % 256 → e ≡ v % 256
    → Put l at 5 v (set (set (set (set (set l at a) (at + 1) b) (at + 2) c) (at + 3) d) (at + 4) e)
put_five l at v a b c d e h ea eb ec ed ee =
    let one : at + 1 ≡ suc at = omega arith in
    let two : at + 2 ≡ suc (suc at) = omega arith in
    let three : at + 3 ≡ suc (suc (suc at)) = omega arith in
    let four : at + 4 ≡ suc (suc (suc (suc at))) = omega arith in
    rw (one, two, three, four)
    (put_all l (a ∷ b ∷ c ∷ d ∷ e ∷ []) at 5 v refl h
    (byte-in a (b ∷ c ∷ d ∷ e ∷ []) v ea (byte-in b (c ∷ d ∷ e ∷ []) v eb (byte-in c (d ∷ e ∷ []) v ec (byte-in d (e ∷ []) v ed (last-in e v ee))))))
