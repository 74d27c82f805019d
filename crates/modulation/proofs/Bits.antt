-- Laws of bits, pairs and groups: lengths, and that each is had back from the other. Assumes nothing.
use mathlib.Core.List.{List, [], ◌∷◌, ◌++◌}
use mathlib.Core.Path.{◌≡◌, refl, sym, ap, ap₂, ◌∙◌}
use Prim.Native.Nat.{ℕ, zero, suc, ◌+◌, ◌*◌, ◌<◌, ◌/◌, ◌%◌}
use native.Mathlib.Omega.{arith}
use lib.ListN.{length, get_or, take, drop}
use lib.Seq.{take-nil, drop-nil}
use Rattle.laws.proofs.Finite.{all, all₂, equal-below₂}
use Rattle.bits.specs.Bits.{Bits, three_of}
use Rattle.modulation.specs.Modulation.{Two, d00, d01, d10, d11, two_number, Three, m000, m001, m010, m011, m100, m101, m110, m111, three_number}
use Rattle.modulation.specs.Bits.{two, pairs, data_bits, groups, bits, ones}

-- ---- modulation bits

pub bits-append : (a c : List Three) → bits (a ++ c) ≡ bits a ++ bits c
bits-append [] c = refl
bits-append (m ∷ a) c = ap (λ (l : List ℕ). three_of (three_number m) ++ l) (bits-append a c)

pub length-bits : (ms : List Three) → length (bits ms) ≡ 3 * length ms
length-bits [] = refl
length-bits (m ∷ ms) = omega (arith, length-bits ms)

pub three-more : (n : ℕ) → 3 * suc n ≡ suc (suc (suc (3 * n)))
three-more n = omega arith

-- the first n groups, and those behind them
pub bits-take : (n : ℕ) (ms : List Three) → take (3 * n) (bits ms) ≡ bits (take n ms)
bits-take zero ms = refl
bits-take (suc n) [] = take-nil (3 * suc n)
bits-take (suc n) (m ∷ ms) = ap (λ (k : ℕ). take k (bits (m ∷ ms))) (three-more n) ∙ ap (λ (l : List ℕ). three_of (three_number m) ++ l) (bits-take n ms)

pub bits-drop : (n : ℕ) (ms : List Three) → drop (3 * n) (bits ms) ≡ bits (drop n ms)
bits-drop zero ms = refl
bits-drop (suc n) [] = drop-nil (3 * suc n)
bits-drop (suc n) (m ∷ ms) = ap (λ (k : ℕ). drop k (bits (m ∷ ms))) (three-more n) ∙ bits-drop n ms

pub groups-bits : (ms : List Three) → groups (bits ms) ≡ ms
groups-bits [] = refl
groups-bits (m000 ∷ ms) = ap (λ (l : List Three). m000 ∷ l) (groups-bits ms)
groups-bits (m001 ∷ ms) = ap (λ (l : List Three). m001 ∷ l) (groups-bits ms)
groups-bits (m010 ∷ ms) = ap (λ (l : List Three). m010 ∷ l) (groups-bits ms)
groups-bits (m011 ∷ ms) = ap (λ (l : List Three). m011 ∷ l) (groups-bits ms)
groups-bits (m100 ∷ ms) = ap (λ (l : List Three). m100 ∷ l) (groups-bits ms)
groups-bits (m101 ∷ ms) = ap (λ (l : List Three). m101 ∷ l) (groups-bits ms)
groups-bits (m110 ∷ ms) = ap (λ (l : List Three). m110 ∷ l) (groups-bits ms)
groups-bits (m111 ∷ ms) = ap (λ (l : List Three). m111 ∷ l) (groups-bits ms)

pub bits-injective : (a c : List Three) → bits a ≡ bits c → a ≡ c
bits-injective a c e = sym (groups-bits a) ∙ ap groups e ∙ groups-bits c

-- ---- data bits

pub length-data_bits : (ds : List Two) → length (data_bits ds) ≡ 2 * length ds
length-data_bits [] = refl
length-data_bits (d ∷ ds) = omega (arith, length-data_bits ds)

pub length_pairs : (l : List ℕ) → length (pairs l) ≡ length l / 2
length_pairs [] = refl
length_pairs (x ∷ []) = refl
length_pairs (x ∷ y ∷ l) = omega (arith, length_pairs l)

pub two_back : (d : Two) → two (two_number d / 2) (two_number d % 2) ≡ d
two_back d00 = refl
two_back d01 = refl
two_back d10 = refl
two_back d11 = refl

pub pairs-data_bits : (ds : List Two) → pairs (data_bits ds) ≡ ds
pairs-data_bits [] = refl
pairs-data_bits (d ∷ ds) = ap₂ ◌∷◌ (two_back d) (pairs-data_bits ds)

pub two-number : (x y : ℕ) → x < 2 → y < 2 → two_number (two x y) ≡ 2 * x + y
unfolding all all₂
two-number x y hx hy = equal-below₂ 2 2 (λ x y. two_number (two x y)) (λ x y. 2 * x + y) tt x y hx hy

-- ---- pairs of a part

twice : (n : ℕ) → 2 * suc n ≡ suc (suc (2 * n))
twice n = omega arith

pub pairs-take : (n : ℕ) (l : List ℕ) → take n (pairs l) ≡ pairs (take (2 * n) l)
pairs-take zero l = refl
pairs-take (suc n) [] = ap pairs (sym (take-nil (2 * suc n)))
pairs-take (suc n) (x ∷ []) = sym (ap (λ (k : ℕ). pairs (take k (x ∷ []))) (twice n) ∙ ap (λ (l : List ℕ). pairs (x ∷ l)) (take-nil (suc (2 * n))))
pairs-take (suc n) (x ∷ y ∷ l) = ap (λ (m : List Two). two x y ∷ m) (pairs-take n l) ∙ sym (ap (λ (k : ℕ). pairs (take k (x ∷ y ∷ l))) (twice n))

pub pairs-drop : (n : ℕ) (l : List ℕ) → drop n (pairs l) ≡ pairs (drop (2 * n) l)
pairs-drop zero l = refl
pairs-drop (suc n) [] = ap pairs (sym (drop-nil (2 * suc n)))
pairs-drop (suc n) (x ∷ []) = sym (ap (λ (k : ℕ). pairs (drop k (x ∷ []))) (twice n) ∙ ap pairs (drop-nil (suc (2 * n))))
pairs-drop (suc n) (x ∷ y ∷ l) = pairs-drop n l ∙ sym (ap (λ (k : ℕ). pairs (drop k (x ∷ y ∷ l))) (twice n))

pub get_d-pairs : (l : List ℕ) (p : ℕ) → 2 * p + 1 < length l → get_or (pairs l) p d00 ≡ two (get_or l (2 * p) 0) (get_or l (2 * p + 1) 0)
get_d-pairs [] p h = absurd (omega arith)
get_d-pairs (x ∷ []) p h = absurd (omega arith)
get_d-pairs (x ∷ y ∷ l) zero h = refl
get_d-pairs (x ∷ y ∷ l) (suc p) h =
    let even : suc (suc (2 * p)) ≡ 2 * suc p = omega arith in
    let odd : suc (suc (2 * p + 1)) ≡ 2 * suc p + 1 = omega arith in
    get_d-pairs l p (omega arith)
    ∙ ap₂ two (ap (λ (k : ℕ). get_or (x ∷ y ∷ l) k 0) even) (ap (λ (k : ℕ). get_or (x ∷ y ∷ l) k 0) odd)

-- ---- and back

-- an even number of bits comes back from its pairs
pub data_bits-pairs : (l : List ℕ) → length l % 2 ≡ 0 → Bits l → data_bits (pairs l) ≡ l
data_bits-pairs [] e h = refl
data_bits-pairs (x ∷ []) e h = absurd (omega arith)
data_bits-pairs (x ∷ y ∷ l) e h =
    ap₂ ◌∷◌ (omega (arith, two-number x y (h 0) (h 1), h 1))
    (ap₂ ◌∷◌ (omega (arith, two-number x y (h 0) (h 1), h 1)) (data_bits-pairs l (omega arith) (λ i. h (suc (suc i)))))

pub pairs-injective : (l k : List ℕ) → length l % 2 ≡ 0 → length k % 2 ≡ 0 → Bits l → Bits k
    → pairs l ≡ pairs k → l ≡ k
pairs-injective l k el ek hl hk e = sym (data_bits-pairs l el hl) ∙ ap data_bits e ∙ data_bits-pairs k ek hk

-- ---- ones

pub ones-append : (a c : List ℕ) → ones (a ++ c) ≡ ones a + ones c
ones-append [] c = omega arith
ones-append (x ∷ a) c = omega (arith, ones-append a c)

pub data_bits-append : (a c : List Two) → data_bits (a ++ c) ≡ data_bits a ++ data_bits c
data_bits-append [] c = refl
data_bits-append (d ∷ a) c = ap (λ (l : List ℕ). two_number d / 2 ∷ two_number d % 2 ∷ l) (data_bits-append a c)
