-- The error-detection code of eight bytes more, and of one byte more. Assumes nothing.
use mathlib.Core.Path.{◌≡◌, sym, ap, ap₂, subst, ◌∙◌}
use mathlib.Core.List.{List, [], ◌∷◌, ◌++◌}
use Prim.Native.Nat.{ℕ, ◌+◌, ◌*◌, ◌-◌, ◌/◌, ◌%◌, ◌^◌, ◌<◌}
use native.Mathlib.Nat.{mod-lt, mod-eq_of_lt}
use native.Mathlib.Omega.{arith}
use lib.Arith.{digits_mod}
use lib.Bits.{bit_xor, xor_comm, xor_self, xor_lt, xor_mod, xor_shifted}
use lib.Pow.{pow_pos}
use Rattle.laws.proofs.Xor.{xor_assoc, xor-left, xor-twice, xor-scaled, raised}
use Rattle.bits.specs.Bits.{bits_of, number}
use Rattle.bits.proofs.Concat.{number-bytes, number-byte}
use Rattle.big_endian.specs.Words.{eight_bytes}
use Rattle.big_endian.proofs.Words.{number-of-eight}
use Rattle.edc.specs.Edc.{edc_of}
use Rattle.edc.proofs.Division.{Leaves, leaves-self, leaves-add, leaves-one, leaves-multiple, multiple-leaves, multiple-scaled}
use Rattle.edc.proofs.Detection.{edc-leaves, edc-lt}
use Rattle.bit_sums.proofs.Folded.{folded, folded-xor, folded_low, unsummed}
use Rattle.edc.proofs.Quotient.{sums_raised, raised-sums, low_of, high_of, low-leaves, high_small, carried, carried_twice, quotient_by_g, quotient-high}

-- the bytes l and their code, k bits higher, are a multiple of G(x)
over : (l : List ℕ) (k : ℕ) → Leaves (bit_xor (number (bits_of l) * 2 ^ 32) (edc_of l) * 2 ^ k) 0
over l k = multiple-leaves (multiple-scaled k (leaves-multiple (edc-leaves l)))

-- ---- eight bytes more

-- bytes that make n, and eight behind them that make w: the code r of the former cancels out
eight-behind : (n r w : ℕ) → w < 2 ^ 64 → bit_xor (bit_xor (n * 2 ^ 32) r * 2 ^ 64) (bit_xor (r * 2 ^ 32) w * 2 ^ 32) ≡ (n * 2 ^ 64 + w) * 2 ^ 32
eight-behind n r w h =
    let high : n * 2 ^ 32 * 2 ^ 32 ≡ n * 2 ^ 64 = omega arith in
    let first : bit_xor (n * 2 ^ 32) r * 2 ^ 32 ≡ bit_xor (n * 2 ^ 64) (r * 2 ^ 32) = xor-scaled (n * 2 ^ 32) r 32 ∙ ap (λ (x : ℕ). bit_xor x (r * 2 ^ 32)) high in
    let both : bit_xor (bit_xor (n * 2 ^ 32) r * 2 ^ 32) (bit_xor (r * 2 ^ 32) w) ≡ n * 2 ^ 64 + w =
    ap (λ (x : ℕ). bit_xor x (bit_xor (r * 2 ^ 32) w)) first
    ∙ xor_assoc (n * 2 ^ 64) (r * 2 ^ 32) (bit_xor (r * 2 ^ 32) w)
    ∙ ap (bit_xor (n * 2 ^ 64)) (xor-twice (r * 2 ^ 32) w)
    ∙ xor_shifted n 64 w h in
    let raise : bit_xor (n * 2 ^ 32) r * 2 ^ 64 ≡ bit_xor (n * 2 ^ 32) r * 2 ^ 32 * 2 ^ 32 = omega arith in
    ap (λ (x : ℕ). bit_xor x (bit_xor (r * 2 ^ 32) w * 2 ^ 32)) raise
    ∙ sym (xor-scaled (bit_xor (n * 2 ^ 32) r * 2 ^ 32) (bit_xor (r * 2 ^ 32) w) 32)
    ∙ ap (λ (x : ℕ). x * 2 ^ 32) both

edc-eight-more : (l : List ℕ) (w q : ℕ) → w < 2 ^ 64 → high_of q ≡ bit_xor (edc_of l * 2 ^ 32) w → low_of (q % 2 ^ 32) ≡ edc_of (l ++ eight_bytes w)
edc-eight-more l w q h e =
    let n : ℕ = number (bits_of l) in
    let whole : number (bits_of (l ++ eight_bytes w)) ≡ n * 2 ^ 64 + w = number-bytes l (eight_bytes w) ∙ ap (λ (x : ℕ). n * 2 ^ 64 + x) (number-of-eight w h) in
    leaves-one
    (subst (λ (p : ℕ). Leaves p (low_of (q % 2 ^ 32))) (ap (λ (x : ℕ). bit_xor (bit_xor (n * 2 ^ 32) (edc_of l) * 2 ^ 64) (x * 2 ^ 32)) e ∙ eight-behind n (edc_of l) w h ∙ ap (λ (x : ℕ). x * 2 ^ 32) (sym whole))
    (leaves-add (over l 64) (low-leaves q)))
    (edc-leaves (l ++ eight_bytes w))

-- `eight_more`: s are the sums of w, o those of the register below it
pub eight-taken : (l : List ℕ) (r w wide s a o b d : ℕ) → r ≡ edc_of l → w < 2 ^ 64 → wide ≡ r → folded 1 s ≡ w → a ≡ s % 2 ^ 32
    → ((x : ℕ) → folded 1 x ≡ r → o ≡ x % 2 * (2 ^ 32 - 1)) → b ≡ carried (bit_xor (wide * 2 ^ 32) w) % 2 ^ 32 → d ≡ carried_twice (bit_xor (wide * 2 ^ 32) w) % 2 ^ 32
    → low_of (bit_xor (bit_xor (bit_xor a o) b) d) ≡ edc_of (l ++ eight_bytes w)
eight-taken l r w wide s a o b d er hw ew es ea eo eb ed =
    ap low_of (sym low) ∙ edc-eight-more l w q hw (quotient-high v (bit_xor s t) v-lt sums ∙ ap (λ (x : ℕ). bit_xor (x * 2 ^ 32) w) er)
  where
    r-lt : r < 2 ^ 32
    r-lt = omega (arith, er, edc-lt l)

    v : ℕ
    v = bit_xor (r * 2 ^ 32) w

    v-lt : v < 2 ^ 64
    v-lt = xor_lt 64 (r * 2 ^ 32) w (omega (arith, r-lt)) hw

    x : ℕ
    x = folded 32 (folded 16 (folded 8 (folded 4 (folded 2 (folded 1 r)))))

    of-register : folded 1 x ≡ r
    of-register = unsummed r (omega (arith, r-lt))

    t : ℕ
    t = sums_raised x

    sums : folded 1 (bit_xor s t) ≡ v
    sums = folded-xor 1 s t ∙ ap₂ bit_xor es (raised-sums x ∙ ap (λ (y : ℕ). y * 2 ^ 32) of-register) ∙ xor_comm w (r * 2 ^ 32)

    q : ℕ
    q = quotient_by_g v (bit_xor s t)

    below : t % 2 ^ 32 ≡ o
    below = unfold sums_raised in digits_mod x {r = x % 2 * (2 ^ 32 - 1)} (omega arith) ∙ sym (eo x of-register)

    same : bit_xor (wide * 2 ^ 32) w ≡ v
    same = ap (λ (y : ℕ). bit_xor (y * 2 ^ 32) w) ew

    low : q % 2 ^ 32 ≡ bit_xor (bit_xor (bit_xor a o) b) d
    low =
        unfold quotient_by_g in
        xor_mod (bit_xor (bit_xor s t) (carried v)) (carried_twice v) 32
        ∙ ap₂ bit_xor
        (xor_mod (bit_xor s t) (carried v) 32 ∙ ap₂ bit_xor (xor_mod s t 32 ∙ ap₂ bit_xor (sym ea) below) (sym (eb ∙ ap (λ (y : ℕ). carried y % 2 ^ 32) same)))
        (sym (ed ∙ ap (λ (y : ℕ). carried_twice y % 2 ^ 32) same))

-- ---- one byte more

cancel : (a b c d : ℕ) → bit_xor (bit_xor a (bit_xor b d)) (bit_xor (bit_xor b c) d) ≡ bit_xor a c
cancel a b c d = simp (xor_assoc, xor_comm, xor-left, xor-twice, xor_self)

-- bytes that make n, and x behind them: the code r of the former cancels out
byte-behind : (n r x h w : ℕ) → r * 2 ^ 8 ≡ bit_xor (h * 2 ^ 32) w → x < 256
    → bit_xor (bit_xor (n * 2 ^ 32) r * 2 ^ 8) (bit_xor (bit_xor h x * 2 ^ 32) w) ≡ (n * 2 ^ 8 + x) * 2 ^ 32
byte-behind n r x h w e hx =
    let high : n * 2 ^ 32 * 2 ^ 8 ≡ n * 2 ^ 40 = omega arith in
    rw (xor-scaled (n * 2 ^ 32) r 8, e, xor-scaled h x 32, cancel (n * 2 ^ 32 * 2 ^ 8) (h * 2 ^ 32) (x * 2 ^ 32) w, high)
    (xor_shifted n 40 (x * 2 ^ 32) (omega arith) ∙ omega arith)

edc-byte-more : (l : List ℕ) (x q : ℕ) → x < 256 → high_of q ≡ bit_xor (edc_of l / 2 ^ 24) x → bit_xor (low_of (q % 2 ^ 32)) (edc_of l * 2 ^ 8 % 2 ^ 32) ≡ edc_of (l ++ (x ∷ []))
edc-byte-more l x q h e =
    let r : ℕ = edc_of l in
    let w : ℕ = r * 2 ^ 8 % 2 ^ 32 in
    let n : ℕ = number (bits_of l) in
    let whole : number (bits_of (l ++ (x ∷ []))) ≡ n * 2 ^ 8 + x = number-bytes l (x ∷ []) ∙ ap (λ (b : ℕ). n * 2 ^ 8 + b) (number-byte x ∙ mod-eq_of_lt h) in
    leaves-one
    (subst (λ (p : ℕ). Leaves p (bit_xor (low_of (q % 2 ^ 32)) w)) (ap (λ (y : ℕ). bit_xor (bit_xor (n * 2 ^ 32) r * 2 ^ 8) (bit_xor (y * 2 ^ 32) w)) e ∙ byte-behind n r x (r / 2 ^ 24) w (raised r 24 8) h ∙ ap (λ (p : ℕ). p * 2 ^ 32) (sym whole))
    (leaves-add (over l 8) (leaves-add (low-leaves q) (leaves-self w (mod-lt (r * 2 ^ 8) (pow_pos 32))))))
    (edc-leaves (l ++ (x ∷ [])))

-- `byte_more`: s are the sums of the register's highest byte and x
pub byte-taken : (l : List ℕ) (r x top s a : ℕ) → r ≡ edc_of l → x < 256 → top ≡ r / 2 ^ 24 → folded 1 s ≡ bit_xor top x → a ≡ s % 2 ^ 32
    → bit_xor (low_of a) (r * 2 ^ 8 % 2 ^ 32) ≡ edc_of (l ++ (x ∷ []))
byte-taken l r x top s a er hx et es ea =
    ap₂ (λ (y z : ℕ). bit_xor (low_of y) (z * 2 ^ 8 % 2 ^ 32)) ea er ∙ edc-byte-more l x s hx (high ∙ es ∙ ap (λ (y : ℕ). bit_xor y x) (et ∙ ap (λ (y : ℕ). y / 2 ^ 24) er))
  where
    s-lt : s < 2 ^ 8
    s-lt = folded_low 8 s (subst (λ (y : ℕ). y < 2 ^ 8) (sym es) (xor_lt 8 top x (omega (arith, et, er, edc-lt l)) hx))

    high : high_of s ≡ folded 1 s
    high = high_small s (omega (arith, s-lt))
