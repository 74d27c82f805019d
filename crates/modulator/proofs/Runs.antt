-- The machine's runs on numbers: what one entry says of the pairs that it takes, and entries one after the other. Assumes nothing.
use mathlib.Core.Bool.{Bool, true, false}
use mathlib.Core.List.{List, [], ◌∷◌, ◌++◌, append_assoc}
use mathlib.Core.Path.{◌≡◌, refl, sym, ap, ap₂, subst₂, ◌∙◌}
use Prim.Native.Nat.{ℕ, ◌+◌, ◌*◌, ◌/◌, ◌%◌, ◌^◌, ◌<◌}
use native.Mathlib.Nat.{add-mul, mul_assoc}
use native.Mathlib.Omega.{arith}
use lib.ListN.{length, length-append}
use lib.Pow.{pow-add}
use Rattle.laws.proofs.Finite.{all, all₂, equal-below₂}
use Rattle.bits.specs.Bits.{number}
use Rattle.bits.proofs.Concat.{number_append}
use Rattle.modulation.specs.Modulation.{Two, Three, Modulated}
use Rattle.modulation.specs.Bits.{bits}
use Rattle.modulation.specs.steps.Pairs.{two_of, nibble_pairs, byte_pairs}
use Rattle.modulation.proofs.Bits.{bits-append, length-bits}
use Rattle.modulation.specs.Machine.{Wait, w, w00, w0000, w000000, w000010, w11, w1101, w110111, w11011100, w1101110000, waiting, Step, step, put, machine}
use Rattle.modulator.specs.steps.Table.{wait_of, state_bit, state_number, waits, step_entry, joined, nibble_entry, byte_entry}

-- ---- numbers with groups behind them

-- a number of bits a with k bits to come, and v, the bits o with u to come, which fill those k and n more
pub shifted : (a o : List ℕ) (k n u acc v : ℕ) → length o + u ≡ k + n → acc ≡ number a * 2 ^ k → v ≡ number o * 2 ^ u
    → acc * 2 ^ n + v ≡ number (a ++ o) * 2 ^ u
shifted a o k n u acc v e ea ev =
    ap₂ (λ (x y : ℕ). x * 2 ^ n + y) ea ev
    ∙ ap (λ (x : ℕ). x + number o * 2 ^ u) moved
    ∙ sym (ap (λ (x : ℕ). x * 2 ^ u) (number_append a o) ∙ add-mul (number a * 2 ^ length o) (number o) (2 ^ u))
  where
    moved : number a * 2 ^ k * 2 ^ n ≡ number a * 2 ^ length o * 2 ^ u
    moved =
        mul_assoc (number a) (2 ^ k) (2 ^ n)
        ∙ ap (λ (x : ℕ). number a * x) (sym (pow-add 2 k n) ∙ ap (λ (j : ℕ). 2 ^ j) (sym e) ∙ pow-add 2 (length o) u)
        ∙ sym (mul_assoc (number a) (2 ^ length o) (2 ^ u))

-- ---- runs

-- what the pairs ds give from state s on
abbrev pub from : ℕ → List Two → Modulated
from s ds = machine ds (wait_of s) (state_bit s)

-- from state s the pairs ds lead to t and decide groups; v is their number, with a group to come for each pair that waits in t
pub record Moves (s : ℕ) (ds : List Two) (v t : ℕ) : Type 0 where
  pub below : t < 20
  pub out : List Three
  pub gives : (rest : List Two) → from s (ds ++ rest) ≡ put out (from t rest)
  pub sized : length out + waits t ≡ waits s + length ds
  pub valued : v ≡ number (bits out) * 2 ^ (3 * waits t)

pub put-put : (a b : List Three) (m : Modulated) → put a (put b m) ≡ put (a ++ b) m
put-put a b m = ap (λ (g : List Three). record { groups = g; terminated = m.terminated }) (sym (append_assoc a b m.groups))

module _ {s t u : ℕ} {ds es : List Two} {v x : ℕ} (m : Moves s ds v t) (n : Moves t es x u) where
  pub runs_on : (rest : List Two) → from s ((ds ++ es) ++ rest) ≡ put (m.out ++ n.out) (from u rest)
  runs_on rest =
      ap (from s) (append_assoc ds es rest)
      ∙ m.gives (es ++ rest)
      ∙ ap (put m.out) (n.gives rest)
      ∙ put-put m.out n.out (from u rest)

  unfoldable pub moves-on : Moves s (ds ++ es) (v * 2 ^ (3 * length es) + x) u
  moves-on =
      record {
        below = n.below;
        out = m.out ++ n.out;
        gives = runs_on;
        sized = omega (arith, length-append m.out n.out, length-append ds es, m.sized, n.sized);
        valued =
            shifted (bits m.out) (bits n.out) (3 * waits t) (3 * length es) (3 * waits u) v x (omega (arith, n.sized, length-bits n.out)) m.valued n.valued
            ∙ ap (λ (l : List ℕ). number l * 2 ^ (3 * waits u)) (sym (bits-append m.out n.out));
      }

-- ---- one pair

state-lt : (a : Wait) (b : Bool) → state_number a b < 20
state-lt w true = omega arith
state-lt w false = omega arith
state-lt w00 true = omega arith
state-lt w00 false = omega arith
state-lt w0000 true = omega arith
state-lt w0000 false = omega arith
state-lt w000000 true = omega arith
state-lt w000000 false = omega arith
state-lt w000010 true = omega arith
state-lt w000010 false = omega arith
state-lt w11 true = omega arith
state-lt w11 false = omega arith
state-lt w1101 true = omega arith
state-lt w1101 false = omega arith
state-lt w110111 true = omega arith
state-lt w110111 false = omega arith
state-lt w11011100 true = omega arith
state-lt w11011100 false = omega arith
state-lt w1101110000 true = omega arith
state-lt w1101110000 false = omega arith

state-back : (a : Wait) (b : Bool) → (wait_of (state_number a b) ≡ a) × (state_bit (state_number a b) ≡ b)
state-back w true = (refl, refl)
state-back w false = (refl, refl)
state-back w00 true = (refl, refl)
state-back w00 false = (refl, refl)
state-back w0000 true = (refl, refl)
state-back w0000 false = (refl, refl)
state-back w000000 true = (refl, refl)
state-back w000000 false = (refl, refl)
state-back w000010 true = (refl, refl)
state-back w000010 false = (refl, refl)
state-back w11 true = (refl, refl)
state-back w11 false = (refl, refl)
state-back w1101 true = (refl, refl)
state-back w1101 false = (refl, refl)
state-back w110111 true = (refl, refl)
state-back w110111 false = (refl, refl)
state-back w11011100 true = (refl, refl)
state-back w11011100 false = (refl, refl)
state-back w1101110000 true = (refl, refl)
state-back w1101110000 false = (refl, refl)

from-state : (a : Wait) (b : Bool) (rest : List Two) → machine rest a b ≡ from (state_number a b) rest
from-state a b rest = sym (ap₂ (machine rest) (state-back a b).0 (state-back a b).1)

step-sized : (s d : ℕ) → s < 20 → d < 4
    → length (step (wait_of s) (state_bit s) (two_of d)).out + length (waiting (step (wait_of s) (state_bit s) (two_of d)).to) ≡ length (waiting (wait_of s)) + 1
unfolding all all₂
step-sized s d hs hd =
    equal-below₂ 20 4 (λ s d. length (step (wait_of s) (state_bit s) (two_of d)).out + length (waiting (step (wait_of s) (state_bit s) (two_of d)).to))
    (λ s d. length (waiting (wait_of s)) + 1) tt s d hs hd

module _ (s d : ℕ) (hs : s < 20) (hd : d < 4) where
  abbrev st : Step
  st = step (wait_of s) (state_bit s) (two_of d)

  abbrev to : ℕ
  to = state_number st.to st.bit

  step-to : Moves s (two_of d ∷ []) (number (bits st.out) * 2 ^ (3 * length (waiting st.to))) to
  unfolding waits
  step-to =
      let there : waits to ≡ length (waiting st.to) = ap (λ (a : Wait). length (waiting a)) (state-back st.to st.bit).0 in
      record {
        below = state-lt st.to st.bit;
        out = st.out;
        gives = λ rest. ap (put st.out) (from-state st.to st.bit rest);
        sized = ap (λ (n : ℕ). length st.out + n) there ∙ step-sized s d hs hd;
        valued = ap (λ (n : ℕ). number (bits st.out) * 2 ^ (3 * n)) (sym there);
      }

  pub step-moves : Moves s (two_of d ∷ []) (step_entry s d / 32) (step_entry s d % 32)
  unfolding step_entry
  step-moves =
      let small = state-lt st.to st.bit in
      let v : ℕ = number (bits st.out) * 2 ^ (3 * length (waiting st.to)) in
      let value : v ≡ (32 * v + to) / 32 = omega arith in
      let state : to ≡ (32 * v + to) % 32 = omega arith in
      subst₂ (Moves s (two_of d ∷ [])) value state step-to

-- ---- two pairs, four pairs

joined-moves : (a b : ℕ) {s shift : ℕ} {ds es : List Two} → shift ≡ 2 ^ (3 * length es) → Moves s ds (a / 32) (a % 32) → Moves (a % 32) es (b / 32) (b % 32)
    → Moves s (ds ++ es) (joined a b shift / 32) (joined a b shift % 32)
unfolding joined
joined-moves a b {s} {shift} {ds} {es} e m n =
    let v : ℕ = a / 32 * shift + b / 32 in
    let same : a / 32 * 2 ^ (3 * length es) + b / 32 ≡ v = ap (λ (k : ℕ). a / 32 * k + b / 32) (sym e) in
    let value : v ≡ (v * 32 + b % 32) / 32 = omega arith in
    let state : b % 32 ≡ (v * 32 + b % 32) % 32 = omega arith in
    subst₂ (Moves s (ds ++ es)) (same ∙ value) state (moves-on m n)

pub nibble-moves : (s x : ℕ) → s < 20 → x < 16 → Moves s (nibble_pairs x) (nibble_entry s x / 32) (nibble_entry s x % 32)
unfolding nibble_entry
nibble-moves s x hs hx =
    let one = step-moves s (x / 4) hs (omega arith) in
    joined-moves (step_entry s (x / 4)) (step_entry (step_entry s (x / 4) % 32) (x % 4)) refl one (step-moves (step_entry s (x / 4) % 32) (x % 4) one.below (omega arith))

pub byte-moves : (s x : ℕ) → s < 20 → x < 256 → Moves s (byte_pairs x) (byte_entry s x / 32) (byte_entry s x % 32)
unfolding byte_entry
byte-moves s x hs hx =
    let one = nibble-moves s (x / 16) hs (omega arith) in
    joined-moves (nibble_entry s (x / 16)) (nibble_entry (nibble_entry s (x / 16) % 32) (x % 16)) refl one (nibble-moves (nibble_entry s (x / 16) % 32) (x % 16) one.below (omega arith))
