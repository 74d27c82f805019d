-- The table's entries, by tests over states and groups; several groups read at once. Assumes nothing.
use mathlib.Core.Bool.{Bool, true, false, cond}
use mathlib.Core.List.{List, [], ◌∷◌, ◌++◌}
use mathlib.Core.Path.{◌≡◌, refl, sym, ap, ap₂, subst, ◌∙◌}
use Prim.Native.Nat.{ℕ, ◌+◌, ◌*◌, ◌-◌, ◌/◌, ◌%◌, ◌^◌, ◌<◌, ◌≤◌}
use native.Mathlib.Nat.{add-mul, mul_assoc, mul_comm, pow-suc, mul-le-mul_left, mul-le-mul_right, pow-le-pow_right}
use native.Mathlib.Omega.{arith}
use borrow.Author.Tests.{lt-ltb, le-ltb}
use mir.Val.{bool_byte as from_bool}
use lib.Dec.{T, eqb, eqb→eq, ltb, ltb→lt, leb, leb→le}
use lib.ListN.{length, get_or}
use Rattle.laws.proofs.Finite.{both, both_left, both_right, all, all-at, all₂, all₂-at}
use Rattle.laws.proofs.Fill.{Upto}
use Rattle.laws.proofs.Tabulate.{get_d_tabulate}
use Rattle.modulation.specs.Modulation.{Three, three_number}
use Rattle.modulation.proofs.Fronts.{three-below}
use Rattle.automaton.specs.Automaton.{transitions, start, next, value_added, state_after, number_after}
use Rattle.automaton.specs.steps.Table.{two_groups, three_groups, read_from, more, table_entry, table, Twos, After, limit}
use Rattle.automaton.proofs.Complete.{after-append}
use Rattle.automaton.proofs.Sound.{shifted, plain}

-- ---- one group

abbrev entry : ℕ → ℕ → ℕ
entry s g = get_or transitions (8 * s + g) 0

entry-small : (s g : ℕ) → s < 18 → g < 8 → T (both (ltb (entry s g) 2950) (ltb (entry s g % 32) 18))
unfolding all all₂ transitions
entry-small = all₂-at 18 8 (λ s g. both (ltb (entry s g) 2950) (ltb (entry s g % 32) 18)) tt

pub entry-bound : (s g : ℕ) → s < 18 → g < 8 → entry s g < 2950
entry-bound s g hs hg = ltb→lt (entry s g) 2950 (both_left (ltb (entry s g) 2950) _ (entry-small s g hs hg))

pub entry-state : (s g : ℕ) → s < 18 → g < 8 → entry s g % 32 < 18
entry-state s g hs hg = ltb→lt (entry s g % 32) 18 (both_right (ltb (entry s g) 2950) _ (entry-small s g hs hg))

pub more-bound : (s g : ℕ) → s < 18 → g < 8 → more s g < 2950
more-bound s g hs hg =
    let none : s / 32 ≡ 0 = omega arith in
    let state : s % 32 < 18 = omega arith in
    omega (arith, none, entry-bound (s % 32) g state hg)

pub more-state : (a g : ℕ) → a % 32 < 18 → g < 8 → more a g % 32 < 18
more-state a g h hg =
    let whole : more a g % 32 ≡ entry (a % 32) g % 32 = low (a / 32) (entry (a % 32) g) in
    subst (λ (n : ℕ). n < 18) (sym whole) (entry-state (a % 32) g h hg)
  where
    low : (n e : ℕ) → (n * 128 + e) % 32 ≡ e % 32
    low n e = omega arith

-- ---- two and three groups

two-test : (s v : ℕ) → s < 18 → v < 64
    → T (both (eqb (more (more s (v / 8)) (v % 8)) (read_from s (two_groups v))) (both (ltb (read_from s (two_groups v)) 14752) (ltb (read_from s (two_groups v) % 32) 18)))
unfolding all all₂ transitions read_from number_after state_after
two-test =
    all₂-at 18 64
    (λ s v. both (eqb (more (more s (v / 8)) (v % 8)) (read_from s (two_groups v))) (both (ltb (read_from s (two_groups v)) 14752) (ltb (read_from s (two_groups v) % 32) 18))) tt

module _ (s v : ℕ) (hs : s < 18) (hv : v < 64) where
  two_is : more (more s (v / 8)) (v % 8) ≡ read_from s (two_groups v)
  two_is = eqb→eq _ _ (both_left (eqb (more (more s (v / 8)) (v % 8)) (read_from s (two_groups v))) _ (two-test s v hs hv))

  two-bound : read_from s (two_groups v) < 14752
  two-bound =
      ltb→lt (read_from s (two_groups v)) 14752
      (both_left (ltb (read_from s (two_groups v)) 14752) _ (both_right (eqb (more (more s (v / 8)) (v % 8)) (read_from s (two_groups v))) _ (two-test s v hs hv)))

  two-state : read_from s (two_groups v) % 32 < 18
  two-state =
      ltb→lt (read_from s (two_groups v) % 32) 18
      (both_right (ltb (read_from s (two_groups v)) 14752) _ (both_right (eqb (more (more s (v / 8)) (v % 8)) (read_from s (two_groups v))) _ (two-test s v hs hv)))

three-test : (s v : ℕ) → s < 18 → v < 512 → T (eqb (more (read_from s (two_groups (v / 8))) (v % 8)) (read_from s (three_groups v)))
unfolding all all₂ transitions read_from number_after state_after
three-test = all₂-at 18 512 (λ s v. eqb (more (read_from s (two_groups (v / 8))) (v % 8)) (read_from s (three_groups v))) tt

three-is : (s v : ℕ) → s < 18 → v < 512 → more (read_from s (two_groups (v / 8))) (v % 8) ≡ read_from s (three_groups v)
three-is s v hs hv = eqb→eq _ _ (three-test s v hs hv)

-- ---- the table's places

entry-two : (k : ℕ) → k < 1152 → read_from (k % 18) (two_groups (k / 18)) ≡ table_entry k
unfolding table_entry
entry-two k h = rw (lt-ltb k 1152 h)

entry-three : (k : ℕ) → 1152 ≤ k → read_from ((k - 1152) % 18) (three_groups ((k - 1152) / 18)) ≡ table_entry k
unfolding table_entry
entry-three k h = rw (le-ltb k 1152 h)

pub table-two : (v s : ℕ) → v < 64 → s < 18 → get_or table (18 * v + s) 0 ≡ read_from s (two_groups v)
unfolding table
table-two v s hv hs =
    let k : ℕ = 18 * v + s in
    let quotient : k / 18 ≡ v = omega arith in
    let rest : k % 18 ≡ s = omega arith in
    get_d_tabulate 10368 table_entry k 0 (omega arith)
    ∙ sym (entry-two k (omega arith))
    ∙ ap₂ (λ (x y : ℕ). read_from x (two_groups y)) rest quotient

pub table-three : (v s : ℕ) → v < 512 → s < 18 → get_or table (1152 + 18 * v + s) 0 ≡ read_from s (three_groups v)
unfolding table
table-three v s hv hs =
    let k : ℕ = 1152 + 18 * v + s in
    let quotient : (k - 1152) / 18 ≡ v = omega arith in
    let rest : (k - 1152) % 18 ≡ s = omega arith in
    get_d_tabulate 10368 table_entry k 0 (omega arith)
    ∙ sym (entry-three k (omega arith))
    ∙ ap₂ (λ (x y : ℕ). read_from x (three_groups y)) rest quotient

-- ---- the table filled

pub two_made : (k : ℕ) → k < 1152 → more (more (k % 18) (k / 144)) (k / 18 % 8) ≡ table_entry k
two_made k h =
    let eighth : k / 144 ≡ k / 18 / 8 = omega arith in
    ap (λ (g : ℕ). more (more (k % 18) g) (k / 18 % 8)) eighth ∙ two_is (k % 18) (k / 18) (omega arith) (omega arith) ∙ entry-two k h

module _ {l : List ℕ} (twos : Twos l) where
  two-there : (k : ℕ) → k < 1152 → get_or l k 0 ≡ read_from (k % 18) (two_groups (k / 18))
  two-there k h = twos.each k h ∙ sym (entry-two k h)

  pub there-bound : (k : ℕ) → k < 1152 → get_or l k 0 < 14752
  there-bound k h = subst (λ (n : ℕ). n < 14752) (sym (two-there k h)) (two-bound (k % 18) (k / 18) (omega arith) (omega arith))

  pub there-state : (k : ℕ) → k < 1152 → get_or l k 0 % 32 < 18
  there-state k h = subst (λ (n : ℕ). n % 32 < 18) (sym (two-there k h)) (two-state (k % 18) (k / 18) (omega arith) (omega arith))

  pub three_made : (k : ℕ) → 1152 ≤ k → k < 10368 → more (get_or l ((k - 1152) / 144 * 18 + (k - 1152) % 18) 0) ((k - 1152) / 18 % 8) ≡ table_entry k
  three_made k h below =
      let j : ℕ = k - 1152 in
      let at : ℕ = j / 144 * 18 + j % 18 in
      let state : at % 18 ≡ j % 18 = omega arith in
      let groups : at / 18 ≡ j / 18 / 8 = omega arith in
      ap (λ (a : ℕ). more a (j / 18 % 8)) (two-there at (omega arith) ∙ ap₂ (λ (s v : ℕ). read_from s (two_groups v)) state groups)
      ∙ three-is (j % 18) (j / 18) (omega arith) (omega arith)
      ∙ entry-three k h

pub twos-all : {l : List ℕ} {k : ℕ} → 1152 ≤ k → Upto 0 table_entry 10368 k l → Twos l
twos-all h u = record { size = u.size; each = λ j below. u.below j (omega arith) }

pub twos-upto : {l : List ℕ} → Twos l → Upto 0 table_entry 10368 1152 l
twos-upto twos = record { within = omega arith; size = twos.size; below = twos.each }

-- ---- several groups behind one another

pub number_after_append : (s a : ℕ) (x y : List Three) → number_after s a (x ++ y) ≡ number_after (state_after s x) (number_after s a x) y
unfolding number_after state_after
number_after_append s a [] y = refl
number_after_append s a (g ∷ x) y = number_after_append (next s (three_number g)) (4 * a + value_added s (three_number g)) x y

pub number-shift : (s a : ℕ) (gs : List Three) → number_after s a gs ≡ a * 4 ^ length gs + number_after s 0 gs
unfolding number_after
number-shift s a [] = omega arith
number-shift s a (g ∷ gs) =
    let d : ℕ = value_added s (three_number g) in
    let t : ℕ = next s (three_number g) in
    let rest : ℕ = number_after t 0 gs in
    number-shift t (4 * a + d) gs
    ∙ shifted a d (4 ^ length gs) rest
    ∙ ap₂ (λ (x y : ℕ). a * x + y) (sym (pow-suc 4 (length gs)))
    (sym (number-shift t (4 * 0 + d) gs ∙ ap (λ (x : ℕ). x * 4 ^ length gs + rest) (plain d)))

pub state-small : (s : ℕ) (gs : List Three) → s < 18 → state_after s gs < 18
unfolding state_after
state-small s [] h = h
state-small s (g ∷ gs) h = state-small (next s (three_number g)) gs (entry-state s (three_number g) h (three-below g))

pub start_small : (before : Bool) → start before < 18
start_small true = omega arith
start_small false = omega arith

-- std's number of a Boolean, as the definitions have it
pub from-bool : (b : Bool) → from_bool b ≡ cond b 1 0
from-bool true = refl
from-bool false = refl

-- x with the groups read whose entry is e
pub after-entry : (gs : List Three) (x e : ℕ) (w : ℕ) → w ≡ 32 * 4 ^ length gs → x % 32 < 18 → e ≡ read_from (x % 32) gs → After gs x (x / 32 * w + e)
unfolding read_from
after-entry gs x e w ew hx ee =
    record {
      number = q ∙ sym (number-shift (x % 32) (x / 32) gs);
      state = r;
      small = subst (λ (n : ℕ). n < 18) (sym r) (state-small (x % 32) gs hx);
    }
  where
    weight : x / 32 * w ≡ 32 * (x / 32 * 4 ^ length gs)
    weight =
        ap (λ (y : ℕ). x / 32 * y) ew
        ∙ sym (mul_assoc (x / 32) 32 (4 ^ length gs))
        ∙ ap (λ (y : ℕ). y * 4 ^ length gs) (mul_comm (x / 32) 32)
        ∙ mul_assoc 32 (x / 32) (4 ^ length gs)

    r : (x / 32 * w + e) % 32 ≡ state_after (x % 32) gs
    r = omega (arith, weight, ee, state-small (x % 32) gs hx)

    q : (x / 32 * w + e) / 32 ≡ x / 32 * 4 ^ length gs + number_after (x % 32) 0 gs
    q = omega (arith, weight, ee, state-small (x % 32) gs hx)

pub after_more : {gs hs : List Three} {x y r : ℕ} → After gs x y → After hs y r → After (gs ++ hs) x r
after_more {gs} {hs} {x} {y} {r} a b =
    record {
      number = b.number ∙ ap₂ (λ (s n : ℕ). number_after s n hs) a.state a.number ∙ sym (number_after_append (x % 32) (x / 32) gs hs);
      state = b.state ∙ ap (λ (s : ℕ). state_after s hs) a.state ∙ sym (after-append (x % 32) gs hs);
      small = b.small;
    }

-- ---- how large the number grows

grows-within : (s g : ℕ) → s < 18 → g < 8 → T (leb (value_added s g + limit (next s g)) (4 * limit s))
unfolding all all₂ transitions
grows-within = all₂-at 18 8 (λ s g. leb (value_added s g + limit (next s g)) (4 * limit s)) tt

pub number-limit : (s : ℕ) (gs : List Three) → s < 18 → number_after s 0 gs + limit (state_after s gs) ≤ limit s * 4 ^ length gs
unfolding number_after state_after
number-limit s [] h = omega arith
number-limit s (g ∷ gs) h =
    let d : ℕ = value_added s (three_number g) in
    let t : ℕ = next s (three_number g) in
    let p : ℕ = 4 ^ length gs in
    let rest = number-limit t gs (entry-state s (three_number g) h (three-below g)) in
    let test = leb→le (d + limit t) (4 * limit s) (grows-within s (three_number g) h (three-below g)) in
    let shift = number-shift t (4 * 0 + d) gs ∙ ap (λ (x : ℕ). x * p + number_after t 0 gs) (plain d) in
    let whole = mul-le-mul_right p test in
    let one = add-mul d (limit t) p in
    let two : 4 * limit s * p ≡ limit s * 4 ^ length (g ∷ gs) =
    ap (λ (x : ℕ). x * p) (mul_comm 4 (limit s)) ∙ mul_assoc (limit s) 4 p ∙ ap (λ (x : ℕ). limit s * x) (mul_comm 4 p ∙ sym (pow-suc 4 (length gs))) in
    omega (arith, rest, shift, whole, one, two)

limit-small : (s : ℕ) → s < 18 → limit s ≤ 32
unfolding all
limit-small s h = leb→le (limit s) 32 (all-at 18 (λ s. leb (limit s) 32) tt s h)

pub limit-pos : (s : ℕ) → s < 18 → 1 ≤ limit s
unfolding all
limit-pos s h = leb→le 1 (limit s) (all-at 18 (λ s. leb 1 (limit s)) tt s h)

-- a bound that does not name the state
pub number_bound : (s n : ℕ) (gs : List Three) → s < 18 → length gs ≤ n → number_after s 0 gs < 32 * 4 ^ n
number_bound s n gs h l =
    let a = number-limit s gs h in
    let b = limit-pos (state_after s gs) (state-small s gs h) in
    let c = mul-le-mul_right (4 ^ length gs) (limit-small s h) in
    let d = mul-le-mul_left 32 (pow-le-pow_right {n = 4} (omega arith) l) in
    omega (arith, a, b, c, d)
