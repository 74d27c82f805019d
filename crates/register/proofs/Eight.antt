-- The step: the register behind eight bytes, or behind one, holds the sum of what each of them leaves (Linear). Assumes nothing.
use mathlib.Core.Path.{◌≡◌, refl, sym, ap, ap₂, ◌∙◌, subst⁻¹}
use mathlib.Core.List.{List, [], ◌∷◌, ◌++◌}
use Prim.Native.Nat.{ℕ, zero, suc, ◌+◌, ◌-◌, ◌<◌, ◌≤◌}
use native.Mathlib.Nat.{not-suc-le-zero}
use native.Mathlib.Decide.{dec_lt}
use native.Mathlib.Numerals.{add-one}
use native.Mathlib.Omega.{arith}
use borrow.Author.Count.{below_more}
use lib.ListN.{length, get_or, set, take, drop, length-set, length-drop, get_or-eq_default}
use lib.Seq.{ext_get_or, get_or-take, get_or-drop, length-take-le, get_or-set_same, get_or-set_other}
use Rattle.laws.specs.Bytes.{Bytes}
use Rattle.laws.specs.Tabulate.{tabulate}
use Rattle.laws.proofs.Bytes.{bytes-tabulate}
use Rattle.laws.proofs.Fill.{Upto, upto-none, upto-more, upto_all}
use Rattle.laws.proofs.Tabulate.{length-tabulate, get_d_tabulate, is-tabulate}
use Rattle.galois.specs.Field.{sum}
use Rattle.column.specs.Column.{sums, remainder, parity}
use Rattle.register.specs.steps.Register.{leaves, divisor, Padded, front, leaves_added}
use Rattle.column.proofs.Sums.{length-snoc, snoc-at, sums_at}
use Rattle.column.proofs.Generator.{coefficients-length}
use Rattle.column.proofs.Division.{length-remainder}
use Rattle.column.proofs.Register.{Divided, divided-all, divided-parity}
use Rattle.column.proofs.Parity.{parity-length}
use Rattle.column.proofs.Linear.{left, first-in}

pub length-divisor : length divisor ≡ 32
length-divisor = coefficients-length 32

left-leaves : (k b : ℕ) → left divisor k b ≡ leaves k b
unfolding left leaves parity
left-leaves k b = ap (λ (n : ℕ). remainder divisor (tabulate n (λ _. 0)) (b ∷ tabulate k (λ _. 0))) length-divisor

pub length-leaves : (k b : ℕ) → length (leaves k b) ≡ 32
unfolding leaves
length-leaves k b = parity-length 32 (b ∷ tabulate k (λ _. 0))

-- ---- the bytes of a message, each with what it leaves

-- byte j behind the bytes of a message, where byte k of the register was at k
unfoldable gathered : (ℕ → ℕ) → List ℕ → ℕ → ℕ
gathered at [] j = at j
gathered at (m ∷ ms) j = sum (gathered (λ k. at (suc k)) ms j) (get_or (leaves (length ms) (sum m (at zero))) j 0)

gathers : (r ms : List ℕ) (at : ℕ → ℕ) → length r ≡ length divisor → ((k : ℕ) → get_or r k 0 ≡ at k) → (j : ℕ)
    → get_or (remainder divisor r ms) j 0 ≡ gathered at ms j
unfolding gathered remainder
gathers r [] at e same j = same j
gathers [] (m ∷ ms) at e same j = absurd (omega (arith, length-divisor))
gathers (c ∷ cs) (m ∷ ms) at e same j =
    ap (λ (l : List ℕ). get_or l j 0) (first-in divisor cs ms c m e ∙ ap (sums (remainder divisor (cs ++ 0 ∷ []) ms)) (left-leaves (length ms) (sum m c)))
    ∙ sums_at (remainder divisor (cs ++ 0 ∷ []) ms) (leaves (length ms) (sum m c)) j
    (length-remainder divisor (cs ++ 0 ∷ []) ms (length-snoc cs ∙ e) ∙ length-divisor ∙ sym (length-leaves (length ms) (sum m c)))
    ∙ ap₂ sum (gathers (cs ++ 0 ∷ []) ms (λ k. at (suc k)) (length-snoc cs ∙ e) (λ k. snoc-at cs k ∙ same (suc k)) j)
    (ap (λ (u : ℕ). get_or (leaves (length ms) (sum m u)) j 0) (same zero))

-- ---- the register's 32 bytes: the eight zeros behind them say nothing

module _ {was : List ℕ} (padded : Padded was) where
  pub register-length : length (take 32 was) ≡ length divisor
  register-length = length-take-le 32 was (omega (arith, padded.size)) ∙ sym length-divisor

  register-at : (k : ℕ) → get_or (take 32 was) k 0 ≡ get_or was k 0
  register-at k =
      elim (dec_lt k 32) [
        | yes h ↦ get_or-take 32 was k 0 h
        | no h ↦ get_or-eq_default (take 32 was) 0 {n = k} (omega (arith, h, register-length, length-divisor)) ∙ sym (padded.zeros k (omega (arith, h)))
      ]

pub padded-zeros : {l : List ℕ} → l ≡ tabulate 40 (λ _. 0) → Padded l
padded-zeros {l} e =
    record {
      size = ap length e ∙ length-tabulate 40 (λ _. 0);
      zeros = λ k h. ap (λ (m : List ℕ). get_or m k 0) e ∙ zero-at 40 k;
    }
  where
    zero-at : (n k : ℕ) → get_or {A = ℕ} (tabulate n (λ _. 0)) k 0 ≡ 0
    zero-at n k =
        elim (dec_lt k n) [
          | yes q ↦ get_d_tabulate n (λ _. 0) k 0 q
          | no q ↦ get_or-eq_default (tabulate n (λ _. 0)) 0 {n = k} (omega (arith, q, length-tabulate {A = ℕ} n (λ _. 0)))
        ]

pub register-bytes : {l out : List ℕ} → Padded l → out ≡ tabulate 32 (λ k. get_or l k 0) → out ≡ take 32 l
register-bytes {l} {out} padded e =
    e ∙ sym (is-tabulate 0 32 (λ k. get_or l k 0) (take 32 l) (length-take-le 32 l (omega (arith, padded.size))) (λ k q. get_or-take 32 l k 0 q))

-- ---- a loop that fills the register

-- the first j of the 32 bytes are h, and the eight behind them zeros
pub record Filling (h : ℕ → ℕ) (j : ℕ) (l : List ℕ) : Type 0 where
  pub within : j ≤ 32
  pub padded : Padded l
  pub below : (k : ℕ) → k < j → get_or l k 0 ≡ h k

pub filling-none : {h : ℕ → ℕ} {l : List ℕ} → Padded l → Filling h 0 l
filling-none padded = record { within = omega arith; padded = padded; below = λ k q. absurd (not-suc-le-zero q) }

pub filling-more : {h : ℕ → ℕ} {j v : ℕ} {l : List ℕ} → j < 32 → v ≡ h j → Filling h j l → Filling h (j + 1) (set l j v)
filling-more {h} {j} {v} {l} small e filling =
    record {
      within = omega arith;
      padded =
          record {
            size = length-set l j v ∙ filling.padded.size;
            zeros = λ k q. get_or-set_other l j k v 0 (λ s. omega (arith, s)) ∙ filling.padded.zeros k q;
          };
      below =
          below_more (λ k. get_or (set l j v) k 0 ≡ h k) j
          (λ k lt. get_or-set_other l j k v 0 (λ q. omega (arith, q)) ∙ filling.below k lt)
          (get_or-set_same l j v 0 (omega (arith, filling.padded.size)) ∙ e);
    }

-- what it holds at the end, where h is what the bytes of a message leave
filling-all : {h : ℕ → ℕ} {j : ℕ} {was next : List ℕ} (ms : List ℕ) → 32 ≤ j → Padded was → ((k : ℕ) → h k ≡ gathered (λ i. get_or was i 0) ms k)
    → Filling h j next → take 32 next ≡ remainder divisor (take 32 was) ms
filling-all {h} {j} {was} {next} ms large padded leave filling =
    ext_get_or 0 (take 32 next) (remainder divisor (take 32 was) ms)
    (register-length filling.padded ∙ sym (length-remainder divisor (take 32 was) ms (register-length padded)))
    (λ k q. at k (omega (arith, q, register-length filling.padded, length-divisor)))
  where
    at : (k : ℕ) → k < 32 → get_or (take 32 next) k 0 ≡ get_or (remainder divisor (take 32 was) ms) k 0
    at k q =
        get_or-take 32 next k 0 q
        ∙ filling.below k (omega arith)
        ∙ leave k
        ∙ sym (gathers (take 32 was) ms (λ i. get_or was i 0) (register-length padded) (register-at padded) k)

-- ---- eight bytes that stand in a message

part : (n a : ℕ) (l : List ℕ) → a + n ≤ length l → take n (drop a l) ≡ tabulate n (λ k. get_or l (a + k) 0)
part n a l h =
    is-tabulate 0 n (λ k. get_or l (a + k) 0) (take n (drop a l)) (length-take-le n (drop a l) (omega (arith, length-drop a l)))
    (λ k q. get_or-take n (drop a l) k 0 q ∙ get_or-drop a l k 0)

-- the first k of the eight bytes in front are right
pub record Fronts (was message : List ℕ) (at k : ℕ) (eight : List ℕ) : Type 0 where
  pub done : Upto 0 (front was message at) 8 k eight
  pub small : (i : ℕ) → i < k → front was message at i < 256

pub fronts-none : {was message eight : List ℕ} {at : ℕ} → length eight ≡ 8 → Fronts was message at 0 eight
fronts-none e = record { done = upto-none e; small = λ i h. absurd (not-suc-le-zero h) }

pub fronts-more : {was message eight : List ℕ} {at k v : ℕ} → k < 8 → v ≡ sum (get_or message (at + k) 0) (get_or was k 0) → v < 256 → Fronts was message at k eight
    → Fronts was message at (k + 1) (set eight k v)
unfolding front
fronts-more {was} {message} {eight} {at} {k} h e small fronts =
    record { done = upto-more h e fronts.done; small = below_more (λ i. front was message at i < 256) k fronts.small (rw e at small) }

pub fronts-all : {was message eight : List ℕ} {at k : ℕ} → 8 ≤ k → Fronts was message at k eight → (eight ≡ tabulate 8 (front was message at)) × Bytes eight
fronts-all {was} {message} {eight} {at} h fronts =
    let whole : eight ≡ tabulate 8 (front was message at) = upto_all h fronts.done in
    (whole, subst⁻¹ Bytes whole (bytes-tabulate 8 (front was message at) (λ i q. fronts.small i (omega arith))))

pub added_more : (eight : List ℕ) (j byte k : ℕ) {v u w : ℕ} → v ≡ leaves_added eight j byte k → u ≡ get_or (leaves k (get_or eight (7 - k) 0)) j 0 → w ≡ sum v u
    → w ≡ leaves_added eight j byte (k + 1)
unfolding leaves_added
added_more eight j byte k ev eu ew = ew ∙ ap₂ sum ev eu ∙ ap (leaves_added eight j byte) (sym (add-one k))

-- what the code adds up is what the eight leave
eight-leave : (was message : List ℕ) (at j : ℕ)
    → leaves_added (tabulate 8 (front was message at)) j (get_or was (j + 8) 0) 8
    ≡ gathered (λ i. get_or was i 0) (tabulate 8 (λ k. get_or message (at + k) 0)) j
unfolding gathered leaves_added tabulate front
eight-leave was message at j = ap (λ (i : ℕ). leaves_added (tabulate 8 (front was message at)) j (get_or was i 0) 8) up
  where
    up : j + 8 ≡ suc (suc (suc (suc (suc (suc (suc (suc j)))))))
    up = omega arith

pub eight-in : {was eight next : List ℕ} {j : ℕ} (message : List ℕ) (at : ℕ) → 32 ≤ j → Padded was → at + 8 ≤ length message → eight ≡ tabulate 8 (front was message at)
    → Filling (λ k. leaves_added eight k (get_or was (k + 8) 0) 8) j next → take 32 next ≡ remainder divisor (take 32 was) (take 8 (drop at message))
eight-in {was} {eight} {next} message at large padded h e filling =
    filling-all (tabulate 8 (λ k. get_or message (at + k) 0)) large padded
    (λ k. ap (λ (l : List ℕ). leaves_added l k (get_or was (k + 8) 0) 8) e ∙ eight-leave was message at k) filling
    ∙ ap (remainder divisor (take 32 was)) (sym (part 8 at message h))

-- ---- one byte

pub byte-in : {was next : List ℕ} {out j : ℕ} (byte : ℕ) → 32 ≤ j → Padded was → out ≡ sum byte (get_or was 0 0)
    → Filling (λ k. sum (get_or was (k + 1) 0) (get_or (leaves 0 out) k 0)) j next → take 32 next ≡ remainder divisor (take 32 was) (byte ∷ [])
unfolding gathered
byte-in {was} {next} {out} byte large padded e filling =
    filling-all (byte ∷ []) large padded
    (λ k. ap₂ sum (ap (λ (i : ℕ). get_or was i 0) (add-one k)) (ap (λ (u : ℕ). get_or (leaves 0 u) k 0) e)) filling

-- ---- the loop over a message

pub divided-zeros : (message : List ℕ) {l : List ℕ} → l ≡ tabulate 40 (λ _. 0) → Divided divisor message 0 (take 32 l)
unfolding tabulate remainder
divided-zeros message {l} e =
    record {
      within = omega arith;
      size = register-length (padded-zeros e);
      right = ap (take 32) e ∙ sym (ap (λ (n : ℕ). tabulate n (λ _. 0)) length-divisor);
    }

pub divided-parity-32 : (message : List ℕ) {now : List ℕ} {i : ℕ} → length message ≤ i → Divided divisor message i now → now ≡ parity 32 message
divided-parity-32 message h divided =
    divided-parity message refl length-divisor (divided-all message divisor refl h divided)
