-- The constants of modulator_states, and the table's entries for one pair and for the end, by what the rows give. Assumes nothing.
use mathlib.Core.Bool.{Bool, true, false, cond}
use mathlib.Core.List.{List, [], ◌∷◌, ◌++◌, append-nil}
use mathlib.Core.Path.{◌≡◌, sym, ap, ap₂, subst, ◌∙◌}
use Prim.Native.Nat.{ℕ, ◌+◌, ◌*◌, ◌/◌, ◌%◌, ◌^◌, ◌<◌, ◌≤◌}
use native.Mathlib.Nat.{mod-eq_of_lt, div-mul-le_self}
use native.Mathlib.Omega.{arith}
use lib.Dec.{ltb, ltb→lt}
use lib.ListN.{length, get_or, length-append}
use lib.Pow.{high, pow-add}
use Rattle.laws.proofs.Finite.{all, all-at, all₂, equal-below, equal-below₂, bounded-below, bounded-below₂}
use Rattle.bits.specs.Bits.{number}
use Rattle.bits.proofs.Concat.{number_append}
use Rattle.bits.proofs.Number.{number_lt}
use Rattle.modulation.specs.Modulation.{Two, Modulated, modulate}
use Rattle.modulation.specs.Bits.{data_bits, bits}
use Rattle.modulation.specs.steps.Pairs.{two_of}
use Rattle.modulation.proofs.Bits.{bits-append, length-bits}
use Rattle.modulation.proofs.Fronts.{bits-groups}
use Rattle.modulation.specs.Machine.{waiting, stop, put}
use Rattle.modulation.proofs.Machine.{machine-is}
use Rattle.conversion.specs.steps.Few.{few_pairs, BitsGiven}
use Rattle.modulator.specs.steps.Table.{wait_of, state_bit, waits, WaitingNumber, step_entry, stop_entry}
use Rattle.conversion.proofs.FewPairs.{few-back}
use Rattle.modulator.proofs.Runs.{step-moves}
use Rattle.modulator.proofs.Holding.{stop-sized}

-- ---- the constants

abbrev pub waitings : List (ℕ × ℕ)
waitings =
    (0, 0) ∷ (1, 0b00) ∷ (2, 0b00_00) ∷ (3, 0b00_00_00) ∷ (3, 0b00_00_10) ∷ (1, 0b11) ∷ (2, 0b11_01) ∷ (3, 0b11_01_11) ∷ (4, 0b11_01_11_00)
    ∷ (5, 0b11_01_11_00_00) ∷ []

-- how many wait in state s, and their number
abbrev count_at : ℕ → ℕ
count_at s = (get_or waitings (s / 2) (0, 0)).0

abbrev number_at : ℕ → ℕ
number_at s = (get_or waitings (s / 2) (0, 0)).1

pub count-is : (s : ℕ) → s < 20 → (count_at s ≡ waits s) × (count_at s < 6)
unfolding all waits
count-is s h = (equal-below 20 count_at waits tt s h, bounded-below 20 6 count_at tt s h)

pub waiting-is : (s : ℕ) → s < 20 → WaitingNumber s (number_at s)
unfolding all waits number
waiting-is s h =
    record {
      is = equal-below 20 number_at (λ s. number (data_bits (waiting (wait_of s)))) tt s h;
      small = ltb→lt (number_at s) (2 ^ (2 * waits s)) (all-at 20 (λ s. ltb (number_at s) (2 ^ (2 * waits s))) tt s h);
      fits = bounded-below 20 1024 number_at tt s h;
    }

abbrev pub nexts : List (List ℕ)
nexts =
    (2 ∷ 0 ∷ 1 ∷ 10 ∷ []) ∷ (3 ∷ 0 ∷ 1 ∷ 11 ∷ []) ∷ (4 ∷ 0 ∷ 0 ∷ 0 ∷ []) ∷ (5 ∷ 0 ∷ 0 ∷ 0 ∷ [])
    ∷ (6 ∷ 0 ∷ 8 ∷ 0 ∷ []) ∷ (7 ∷ 0 ∷ 9 ∷ 0 ∷ []) ∷ (0 ∷ 0 ∷ 1 ∷ 10 ∷ []) ∷ (0 ∷ 0 ∷ 1 ∷ 10 ∷ [])
    ∷ (0 ∷ 0 ∷ 1 ∷ 10 ∷ []) ∷ (0 ∷ 0 ∷ 1 ∷ 10 ∷ []) ∷ (3 ∷ 12 ∷ 1 ∷ 11 ∷ []) ∷ (2 ∷ 13 ∷ 1 ∷ 10 ∷ [])
    ∷ (2 ∷ 0 ∷ 1 ∷ 14 ∷ []) ∷ (2 ∷ 0 ∷ 1 ∷ 15 ∷ []) ∷ (16 ∷ 0 ∷ 1 ∷ 11 ∷ []) ∷ (17 ∷ 0 ∷ 1 ∷ 11 ∷ [])
    ∷ (18 ∷ 0 ∷ 0 ∷ 0 ∷ []) ∷ (19 ∷ 0 ∷ 0 ∷ 0 ∷ []) ∷ (6 ∷ 0 ∷ 9 ∷ 0 ∷ []) ∷ (6 ∷ 0 ∷ 9 ∷ 0 ∷ []) ∷ []

abbrev next_at : ℕ → ℕ → ℕ
next_at s d = get_or (get_or nexts s []) d 0

pub next-is : (s d : ℕ) → s < 20 → d < 4 → (next_at s d ≡ step_entry s d % 32) × (next_at s d < 20)
unfolding all all₂ step_entry number
next-is s d hs hd = (equal-below₂ 20 4 next_at (λ s d. step_entry s d % 32) tt s d hs hd, bounded-below₂ 20 4 20 next_at tt s d hs hd)

-- ---- the entries

pub step-made : (s d v t k : ℕ) → s < 20 → d < 4 → v ≡ number (bits (modulate (state_bit s) (waiting (wait_of s) ++ (two_of d ∷ []))).groups) → t ≡ step_entry s d % 32 → k ≡ 3 * waits t
    → v / 2 ^ k * 2 ^ k * 32 + t ≡ step_entry s d
step-made s d v t k hs hd ev et ek =
    let m = step-moves s d hs hd in
    let u : ℕ = step_entry s d % 32 in
    let o = bits m.out in
    let g = bits (stop (wait_of u) (state_bit u)).groups in
    let given : modulate (state_bit s) (waiting (wait_of s) ++ (two_of d ∷ [])) ≡ put m.out (stop (wait_of u) (state_bit u)) = sym (machine-is (two_of d ∷ []) (wait_of s) (state_bit s)) ∙ m.gives [] in
    let size : length g ≡ 3 * waits u = length-bits (stop (wait_of u) (state_bit u)).groups ∙ ap (λ (j : ℕ). 3 * j) (stop-sized u m.below) in
    let value : v ≡ number o * 2 ^ (3 * waits u) + number g =
    ev
    ∙ ap (λ (f : Modulated). number (bits f.groups)) given
    ∙ ap number (bits-append m.out (stop (wait_of u) (state_bit u)).groups)
    ∙ number_append o g
    ∙ ap (λ (j : ℕ). number o * 2 ^ j + number g) size in
    let small : number g < 2 ^ (3 * waits u) = subst (λ (j : ℕ). number g < 2 ^ j) size (number_lt g (bits-groups (stop (wait_of u) (state_bit u)).groups)) in
    let place : k ≡ 3 * waits u = ek ∙ ap (λ (j : ℕ). 3 * waits j) et in
    let clear : v / 2 ^ k * 2 ^ k ≡ step_entry s d / 32 =
    ap (λ (j : ℕ). v / 2 ^ j * 2 ^ j) place ∙ ap (λ (x : ℕ). x * 2 ^ (3 * waits u)) (ap (λ (x : ℕ). x / 2 ^ (3 * waits u)) value ∙ high (number o) (3 * waits u) small) ∙ sym m.valued in
    ap₂ (λ (a b : ℕ). a * 32 + b) clear et ∙ omega arith

pub stop-made : (s v : ℕ) (b : Bool) → v ≡ number (bits (modulate (state_bit s) (waiting (wait_of s))).groups) → b ≡ (modulate (state_bit s) (waiting (wait_of s))).terminated
    → 2 * v + cond b 1 0 ≡ stop_entry s
unfolding stop_entry
stop-made s v b ev eb =
    let given : modulate (state_bit s) (waiting (wait_of s)) ≡ stop (wait_of s) (state_bit s) = sym (machine-is [] (wait_of s) (state_bit s) ∙ ap (modulate (state_bit s)) (append-nil (waiting (wait_of s)))) in
    ap₂ (λ (x : ℕ) (c : Bool). 2 * x + cond c 1 0) (ev ∙ ap (λ (f : Modulated). number (bits f.groups)) given) (eb ∙ ap (λ (f : Modulated). f.terminated) given)

-- ---- as the code has it

count-more : (s d : ℕ) → length (waiting (wait_of s) ++ (two_of d ∷ [])) ≡ waits s + 1
unfolding waits
count-more s d = length-append (waiting (wait_of s)) (two_of d ∷ [])

number_more : (s d : ℕ) → s < 20 → d < 4 → number (data_bits (waiting (wait_of s) ++ (two_of d ∷ []))) ≡ 4 * number (data_bits (waiting (wait_of s))) + d
unfolding all all₂ number
number_more s d hs hd =
    equal-below₂ 20 4 (λ s d. number (data_bits (waiting (wait_of s) ++ (two_of d ∷ [])))) (λ s d. 4 * number (data_bits (waiting (wait_of s))) + d) tt s d hs hd

module _ (s n v : ℕ) (en : n ≡ waits s) (w : WaitingNumber s v) where
  -- the pairs that wait
  few-wait : few_pairs n v ≡ waiting (wait_of s)
  unfolding waits
  few-wait = ap₂ few_pairs en w.is ∙ few-back (waiting (wait_of s))

  pub wait-small : v < 2 ^ (2 * n)
  wait-small = subst (λ (k : ℕ). v < 2 ^ (2 * k)) (sym en) w.small

  -- one more
  module _ (d : ℕ) (hs : s < 20) (hd : d < 4) where
    few-more : few_pairs (n + 1) (4 * v + d) ≡ waiting (wait_of s) ++ (two_of d ∷ [])
    few-more =
        let ds = waiting (wait_of s) ++ (two_of d ∷ []) in
        ap₂ few_pairs (ap (λ (k : ℕ). k + 1) en ∙ sym (count-more s d)) (ap (λ (x : ℕ). 4 * x + d) w.is ∙ sym (number_more s d hs hd)) ∙ few-back ds

    pub more-small : 4 * v + d < 2 ^ (2 * (n + 1))
    more-small =
        let two : 2 * (n + 1) ≡ 2 * n + 2 = omega arith in
        let whole : 2 ^ (2 * (n + 1)) ≡ 2 ^ (2 * n) * 4 = ap (λ (k : ℕ). 2 ^ k) two ∙ pow-add 2 (2 * n) 2 in
        omega (arith, wait-small)

    pub step-coded : {x t j r : ℕ} {b : Bool} → BitsGiven (modulate (state_bit s) (few_pairs (n + 1) (4 * v + d))) x b → t ≡ step_entry s d % 32 → j ≡ waits t → r ≡ x / 2 ^ (3 * j) * 2 ^ (3 * j)
        → r * 32 + t ≡ step_entry s d
    step-coded {x} {t} {j} {r} g et ej er =
        ap (λ (y : ℕ). y * 32 + t) er
        ∙ step-made s d x t (3 * j) hs hd (g.value-is ∙ ap (λ (ds : List Two). number (bits (modulate (state_bit s) ds).groups)) few-more) et (ap (λ (k : ℕ). 3 * k) ej)

  -- the end
  module _ {x : ℕ} {b : Bool} (g : BitsGiven (modulate (state_bit s) (few_pairs n v)) x b) where
    stop-coded : 2 * x + cond b 1 0 ≡ stop_entry s
    stop-coded =
        stop-made s x b (g.value-is ∙ ap (λ (ds : List Two). number (bits (modulate (state_bit s) ds).groups)) few-wait) (g.ends ∙ ap (λ (ds : List Two). (modulate (state_bit s) ds).terminated) few-wait)

    pub stop-one : b ≡ true → 2 * x + 1 ≡ stop_entry s
    stop-one e = ap (λ (c : Bool). 2 * x + cond c 1 0) (sym e) ∙ stop-coded

    pub stop-zero : b ≡ false → 2 * x ≡ stop_entry s
    stop-zero e = (let none : 2 * x ≡ 2 * x + 0 = omega arith in none) ∙ ap (λ (c : Bool). 2 * x + cond c 1 0) (sym e) ∙ stop-coded

pub cleared-is : (v k : ℕ) → v < 4294967296 → (v / 2 ^ k * 2 ^ k % 4294967296 ≡ v / 2 ^ k * 2 ^ k) × (v / 2 ^ k * 2 ^ k % 4294967296 ≤ v)
cleared-is v k h =
    let below : v / 2 ^ k * 2 ^ k ≤ v = div-mul-le_self v (2 ^ k) in
    let same-value : v / 2 ^ k * 2 ^ k % 4294967296 ≡ v / 2 ^ k * 2 ^ k = mod-eq_of_lt (omega arith) in
    (same-value, rw same-value below)
