-- The tables: what stands where, and how large. Assumes nothing.
use mathlib.Core.Path.{◌≡◌, sym, ap, ap₂, subst, subst₂, ◌∙◌}
use mathlib.Core.List.{List}
use Prim.Native.Nat.{ℕ, ◌+◌, ◌*◌, ◌-◌, ◌/◌, ◌%◌, ◌^◌, ◌<◌, ◌≤◌}
use native.Mathlib.Nat.{lt_of_lt_of_le}
use native.Mathlib.Omega.{arith}
use borrow.Author.Tests.{lt-ltb, le-ltb}
use lib.ListN.{length, get_or}
use lib.Pow.{shl_exact, shl_lt, pow_mono}
use Rattle.laws.specs.Tabulate.{tabulate}
use Rattle.laws.proofs.Tabulate.{get_d_tabulate}
use Rattle.laws.proofs.Finite.{all, bounded-below}
use Rattle.bits.specs.Bits.{number}
use Rattle.bits.proofs.Number.{number_lt}
use Rattle.modulation.specs.Modulation.{Two}
use Rattle.modulation.specs.Bits.{bits}
use Rattle.modulation.proofs.Bits.{length-bits}
use Rattle.modulation.proofs.Fronts.{bits-groups}
use Rattle.modulator.specs.steps.Table.{waits, step_entry, stop_entry, joined, nibble_entry, byte_entry, last_entry, entry_at, step_table, stop_table, nibble_table, lent_table}
use Rattle.modulator.proofs.Runs.{Moves, moves-on, step-moves, nibble-moves}
use Rattle.modulator.proofs.Holding.{few-wait}

-- ---- bounds

pub step-state : (s d : ℕ) → s < 20 → d < 4 → step_entry s d % 32 < 20
step-state s d hs hd = (step-moves s d hs hd).below

pub nibble-state : (s x : ℕ) → s < 20 → x < 16 → nibble_entry s x % 32 < 20
nibble-state s x hs hx = (nibble-moves s x hs hx).below

-- a group for each pair taken and for each of at most five that waited
moves-lt : {s v t : ℕ} {ds : List Two} → s < 20 → Moves s ds v t → v < 2 ^ (3 * (5 + length ds))
moves-lt {s} {v} {t} {ds} hs m =
    let size : length (bits m.out) + 3 * waits t ≡ 3 * (waits s + length ds) = omega (arith, length-bits m.out, m.sized) in
    let below : v < 2 ^ (3 * (waits s + length ds)) =
    subst₂ (λ (x k : ℕ). x < 2 ^ k) (sym m.valued) size (shl_lt (length (bits m.out)) (3 * waits t) (number_lt (bits m.out) (bits-groups m.out))) in
    lt_of_lt_of_le below (pow_mono {i = 3 * (waits s + length ds)} {j = 3 * (5 + length ds)} (omega (arith, few-wait s hs)))

pub step_small : (s d : ℕ) → s < 20 → d < 4 → step_entry s d < 8388608
step_small s d hs hd =
    let below : step_entry s d / 32 < 262144 = moves-lt hs (step-moves s d hs hd) in
    omega arith

pub nibble-small : (s x : ℕ) → s < 20 → x < 16 → nibble_entry s x < 67108864
nibble-small s x hs hx =
    let below : nibble_entry s x / 32 < 2097152 = moves-lt hs (nibble-moves s x hs hx) in
    omega arith

-- both nibbles of a byte
pub byte_fits : (s x : ℕ) → s < 20 → x < 256 → nibble_entry s (x / 16) / 32 * 64 + nibble_entry (nibble_entry s (x / 16) % 32) (x % 16) / 32 < 134217728
byte_fits s x hs hx =
    let first = nibble-moves s (x / 16) hs (omega arith) in
    moves-lt hs (moves-on first (nibble-moves (nibble_entry s (x / 16) % 32) (x % 16) first.below (omega arith)))

pub stop-small : (s : ℕ) → s < 20 → stop_entry s < 16384
unfolding all stop_entry number
stop-small s hs = bounded-below 20 16384 (λ s. stop_entry s) tt s hs

-- ---- places

-- entry c x + s of a table in rows of c
grid : (n c : ℕ) (f : ℕ → ℕ → ℕ) (k s x : ℕ) → k < n → k % c ≡ s → k / c ≡ x → get_or (tabulate n (λ k. f (k % c) (k / c))) k 0 ≡ f s x
grid n c f k s x h es ex = get_d_tabulate n (λ k. f (k % c) (k / c)) k 0 h ∙ ap₂ f es ex

pub step-read : (l : List ℕ) (s d : ℕ) → l ≡ step_table → s < 20 → d < 4 → get_or l (4 * s + d) 0 ≡ step_entry s d
unfolding step_table
step-read l s d e hs hd = ap (λ (m : List ℕ). get_or m (4 * s + d) 0) e ∙ grid 80 4 (λ d s. step_entry s d) (4 * s + d) d s (omega arith) (omega arith) (omega arith)

pub nibble-read : (l : List ℕ) (s x : ℕ) → l ≡ nibble_table → s < 20 → x < 16 → get_or l (20 * x + s) 0 ≡ nibble_entry s x
unfolding nibble_table
nibble-read l s x e hs hx = ap (λ (m : List ℕ). get_or m (20 * x + s) 0) e ∙ grid 320 20 nibble_entry (20 * x + s) s x (omega arith) (omega arith) (omega arith)

pub stop-read : (l : List ℕ) (s : ℕ) → l ≡ stop_table → s < 20 → get_or l s 0 ≡ stop_entry s
unfolding stop_table
stop-read l s e hs = ap (λ (m : List ℕ). get_or m s 0) e ∙ get_d_tabulate 20 stop_entry s 0 hs

entry_read : (l : List ℕ) (s x : ℕ) → l ≡ lent_table → s < 20 → x < 272 → get_or l (20 * x + s) 0 ≡ entry_at s x
unfolding lent_table
entry_read l s x e hs hx = ap (λ (m : List ℕ). get_or m (20 * x + s) 0) e ∙ grid 5440 20 entry_at (20 * x + s) s x (omega arith) (omega arith) (omega arith)

pub byte-entry : (s x : ℕ) → x < 256 → byte_entry s x ≡ entry_at s x
unfolding entry_at
byte-entry s x h = rw (lt-ltb x 256 h)

pub last-entry : (s x : ℕ) → 256 ≤ x → last_entry s (x - 256) ≡ entry_at s x
unfolding entry_at
last-entry s x h = rw (le-ltb x 256 h)

pub byte-read : (l : List ℕ) (s x : ℕ) → l ≡ lent_table → s < 20 → x < 256 → get_or l (20 * x + s) 0 ≡ byte_entry s x
byte-read l s x e hs hx = entry_read l s x e hs (omega arith) ∙ sym (byte-entry s x hx)

pub last-read : (l : List ℕ) (s x : ℕ) → l ≡ lent_table → s < 20 → x < 16 → get_or l (20 * (x + 256) + s) 0 ≡ last_entry s x
last-read l s x e hs hx =
    let back : x + 256 - 256 ≡ x = omega arith in
    entry_read l s (x + 256) e hs (omega arith) ∙ sym (last-entry s (x + 256) (omega arith)) ∙ ap (last_entry s) back

-- ---- as the code has it

pub step_in : (l : List ℕ) (s d : ℕ) → l ≡ step_table → s < 20 → d < 4
    → (get_or l (4 * s + d) 0 ≡ step_entry s d) × ((get_or l (4 * s + d) 0 % 32 < 20) × (get_or l (4 * s + d) 0 < 8388608))
step_in l s d e hs hd =
    let is = step-read l s d e hs hd in
    (is, (rw is (step-state s d hs hd), rw is (step_small s d hs hd)))

pub nibble-in : (l : List ℕ) (s x : ℕ) → l ≡ nibble_table → s < 20 → x < 16
    → (get_or l (20 * x + s) 0 ≡ nibble_entry s x) × ((get_or l (20 * x + s) 0 % 32 < 20) × (get_or l (20 * x + s) 0 < 67108864))
nibble-in l s x e hs hx =
    let is = nibble-read l s x e hs hx in
    (is, (rw is (nibble-state s x hs hx), rw is (nibble-small s x hs hx)))

module _ (s x : ℕ) {a b t : ℕ} where
  pub nibble-made : {r : ℕ} → a ≡ step_entry s (x / 4) → t ≡ a % 32 → b ≡ step_entry t (x % 4) → r ≡ joined a b 8 → r ≡ nibble_entry s x
  unfolding nibble_entry
  nibble-made ea et eb er = rw (er, eb, et, ea)

  pub byte-made : {r : ℕ} → a ≡ nibble_entry s (x / 16) → t ≡ a % 32 → b ≡ nibble_entry t (x % 16) → r ≡ joined a b 64 → r ≡ byte_entry s x
  unfolding byte_entry
  byte-made ea et eb er = rw (er, eb, et, ea)

  pub byte-within : s < 20 → x < 256 → a ≡ nibble_entry s (x / 16) → t ≡ a % 32 → b ≡ nibble_entry t (x % 16) → a / 32 * 64 + b / 32 < 134217728
  byte-within hs hx ea et eb = rw (eb, et, ea) (byte_fits s x hs hx)

  pub last_made : a ≡ nibble_entry s x → t ≡ a % 32 → b ≡ stop_entry t → a / 32 * 2 + b ≡ last_entry s x
  unfolding last_entry
  last_made ea et eb = rw (eb, et, ea)

-- ---- a shifted 1

-- bits put k places higher, where there is room
module _ (v lag last : ℕ) (h : v < 2 ^ (lag + 6)) (few : lag ≤ 34) where
  pub shifted_up : v * 2 ^ (34 - lag) % 2 ^ 64 ≡ v * 2 ^ (34 - lag)
  shifted_up = shl_exact {a = v} (lag + 6) (34 - lag) 64 h (omega arith)

  pub shifted_fits : last < 256 → v * 2 ^ (34 - lag) % 2 ^ 64 + last < 2 ^ 64
  shifted_fits small =
      let whole : lag + 6 + (34 - lag) ≡ 40 = omega arith in
      let below : v * 2 ^ (34 - lag) < 2 ^ 40 = subst (λ (k : ℕ). v * 2 ^ (34 - lag) < 2 ^ k) whole (shl_lt {a = v} (lag + 6) (34 - lag) h) in
      rw shifted_up (omega arith)
