-- Lists of one length combined by exclusive or: their length, their numbers, and that a list combined twice goes. Assumes nothing.
use mathlib.Core.Path.{◌≡◌, refl, sym, ap, ap₂, ◌∙◌}
use mathlib.Core.List.{List, [], ◌∷◌, ◌++◌}
use Prim.Native.Nat.{ℕ, zero, suc, ◌<◌}
use native.Mathlib.Nat.{suc_inj}
use native.Mathlib.Omega.{arith}
use lib.Bits.{bit_xor, xor_comm, xor_lt}
use lib.ListN.{length, get_or}
use lib.Seq.{ext_get_or}
use Rattle.laws.specs.Bytes.{Bytes}
use Rattle.laws.specs.Combined.{combined}
use Rattle.laws.specs.Tabulate.{tabulate}
use Rattle.laws.proofs.Bytes.{bytes-none, bytes-cons}
use Rattle.laws.proofs.Xor.{xor-twice}

-- ---- length and numbers

pub length-combined : (a b : List ℕ) → length a ≡ length b → length (combined a b) ≡ length a
unfolding combined
length-combined [] b e = refl
length-combined (x ∷ a) [] e = sym e
length-combined (x ∷ a) (y ∷ b) e = ap suc (length-combined a b (suc_inj e))

pub get_d-combined : (a b : List ℕ) (k : ℕ) → length a ≡ length b → get_or (combined a b) k 0 ≡ bit_xor (get_or a k 0) (get_or b k 0)
unfolding combined
get_d-combined [] [] k e = refl
get_d-combined [] (y ∷ b) k e = absurd (omega arith)
get_d-combined (x ∷ a) [] k e = absurd (omega arith)
get_d-combined (x ∷ a) (y ∷ b) zero e = refl
get_d-combined (x ∷ a) (y ∷ b) (suc k) e = get_d-combined a b k (suc_inj e)

-- a list of that length with these numbers is the combination
pub is-combined : (l a b : List ℕ) → length l ≡ length a → length a ≡ length b → ((k : ℕ) → k < length a → get_or l k 0 ≡ bit_xor (get_or a k 0) (get_or b k 0))
    → l ≡ combined a b
is-combined l a b size e at = ext_get_or 0 l (combined a b) (size ∙ sym (length-combined a b e)) (λ k h. at k (omega arith) ∙ sym (get_d-combined a b k e))

pub bytes-combined : (a b : List ℕ) → Bytes a → Bytes b → Bytes (combined a b)
unfolding combined
bytes-combined [] b ha hb = bytes-none
bytes-combined (x ∷ a) [] ha hb = bytes-none
bytes-combined (x ∷ a) (y ∷ b) ha hb =
    bytes-cons (bit_xor x y) (combined a b) (xor_lt 8 x y (ha 0) (hb 0)) (bytes-combined a b (λ j. ha (suc j)) (λ j. hb (suc j)))

-- ---- lists put together

pub combined-append : (a b c d : List ℕ) → length a ≡ length b → combined (a ++ c) (b ++ d) ≡ combined a b ++ combined c d
unfolding combined
combined-append [] [] c d e = refl
combined-append [] (y ∷ b) c d e = absurd (omega arith)
combined-append (x ∷ a) [] c d e = absurd (omega arith)
combined-append (x ∷ a) (y ∷ b) c d e = ap (λ (l : List ℕ). bit_xor x y ∷ l) (combined-append a b c d (suc_inj e))

pub combined-tabulate : (n : ℕ) (f g : ℕ → ℕ) → combined (tabulate n f) (tabulate n g) ≡ tabulate n (λ k. bit_xor (f k) (g k))
unfolding combined tabulate
combined-tabulate zero f g = refl
combined-tabulate (suc n) f g = ap (λ (l : List ℕ). bit_xor (f 0) (g 0) ∷ l) (combined-tabulate n (λ k. f (suc k)) (λ k. g (suc k)))

-- ---- order, and what is combined twice

pub combined-comm : (a b : List ℕ) → combined a b ≡ combined b a
unfolding combined
combined-comm [] [] = refl
combined-comm [] (y ∷ b) = refl
combined-comm (x ∷ a) [] = refl
combined-comm (x ∷ a) (y ∷ b) = ap₂ ◌∷◌ (xor_comm x y) (combined-comm a b)

pub combined-twice : (a b : List ℕ) → length a ≡ length b → combined a (combined a b) ≡ b
unfolding combined
combined-twice [] [] e = refl
combined-twice [] (y ∷ b) e = absurd (omega arith)
combined-twice (x ∷ a) [] e = absurd (omega arith)
combined-twice (x ∷ a) (y ∷ b) e = ap₂ ◌∷◌ (xor-twice x y) (combined-twice a b (suc_inj e))

-- so a list that gives the same with a is the same
pub combined-inj : (a b c : List ℕ) → length a ≡ length b → length a ≡ length c → combined a b ≡ combined a c → b ≡ c
combined-inj a b c hb hc e = sym (combined-twice a b hb) ∙ ap (combined a) e ∙ combined-twice a c hc
