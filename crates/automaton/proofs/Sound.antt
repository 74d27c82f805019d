-- What is accepted is given by data bits, and the automaton's number is theirs: the automaton beside the modulating machine, which is fed the
-- pairs that are decided, by a test over the states that meet. Assumes nothing.
use mathlib.Core.Bool.{Bool, true, false, cond, beq, false≢true}
use mathlib.Core.List.{List, [], ◌∷◌, ◌++◌, append_assoc, append-nil}
use mathlib.Core.Path.{◌≡◌, refl, sym, ap, ap₂, subst, ◌∙◌}
use Prim.Native.Nat.{ℕ, zero, suc, ◌+◌, ◌*◌, ◌-◌, ◌/◌, ◌%◌, ◌^◌}
use native.Mathlib.Nat.{add-mul, mul_assoc, mul_comm, pow-suc}
use native.Mathlib.Omega.{arith}
use lib.Dec.{T, eqb, eqb→eq}
use lib.ListN.{length, get_or, drop}
use Rattle.laws.proofs.Finite.{both, both_left, both_right}
use Rattle.modulation.specs.Modulation.{Two, two_number, Three, m000, m001, m010, m011, m100, m101, m110, m111, three_number, starts, Modulated, modulate}
use Rattle.modulation.specs.steps.Pairs.{two_of}
use Rattle.modulation.specs.Machine.{Wait, w, w00, w0000, w000000, w000010, w11, w1101, w110111, w11011100, w1101110000, wait_number, wait_at, Step, step, stop, put, machine}
use Rattle.modulation.proofs.Machine.{machine-is, wait-back}
use Rattle.laws.proofs.Booleans.{T_true, true-T, beq_same, implies, given}
use Rattle.modulation.proofs.Fronts.{three-injective, starts-split}
use Rattle.automaton.specs.Automaton.{transitions, ends, start, next, value_added, ending, state_after, number_after, accepts, number_read, onto}
use Rattle.automaton.proofs.Complete.{each, among, each_at}

-- ---- pairs as digits

pub shifted : (a d p r : ℕ) → (4 * a + d) * p + r ≡ a * (p * 4) + (d * p + r)
shifted a d p r =
    let one = add-mul (4 * a) d p in
    let two : 4 * a * p ≡ a * (p * 4) = ap (λ (x : ℕ). x * p) (mul_comm 4 a) ∙ mul_assoc a 4 p ∙ ap (λ (x : ℕ). a * x) (mul_comm 4 p) in
    omega (arith, one, two)

pub plain : (d : ℕ) → 4 * 0 + d ≡ d
plain d = omega arith

pub onto-shift : (a : ℕ) (ds : List Two) → onto a ds ≡ a * 4 ^ length ds + onto 0 ds
unfolding onto
onto-shift a [] = omega arith
onto-shift a (d ∷ ds) =
    onto-shift (4 * a + two_number d) ds
    ∙ shifted a (two_number d) (4 ^ length ds) (onto 0 ds)
    ∙ ap₂ (λ (x y : ℕ). a * x + y) (sym (pow-suc 4 (length ds)))
    (sym (onto-shift (4 * 0 + two_number d) ds ∙ ap (λ (x : ℕ). x * 4 ^ length ds + onto 0 ds) (plain (two_number d))))

onto-append : (a : ℕ) (x y : List Two) → onto a (x ++ y) ≡ onto (onto a x) y
unfolding onto
onto-append a [] y = refl
onto-append a (d ∷ x) y = onto-append (4 * a + two_number d) x y

-- n pairs that make v
abbrev digits : ℕ → ℕ → List Two
digits zero v = []
digits (suc n) v = two_of (v / 4 ^ n % 4) ∷ digits n v

-- ---- the machine, fed several pairs

abbrev feed : List Two → Wait → Bool → Step
feed [] x b = record { out = []; to = x; bit = b }
feed (d ∷ ds) x b =
    let s = step x b d in
    let t = feed ds s.to s.bit in
    record { out = s.out ++ t.out; to = t.to; bit = t.bit }

fed : (xs ds : List Two) (x : Wait) (b : Bool) → machine (xs ++ ds) x b ≡ put (feed xs x b).out (machine ds (feed xs x b).to (feed xs x b).bit)
fed [] ds x b = refl
fed (d ∷ xs) ds x b =
    let s = step x b d in
    let t = feed xs s.to s.bit in
    ap (put s.out) (fed xs ds s.to s.bit)
    ∙ λ i. record { groups = sym (append_assoc s.out t.out (machine ds t.to t.bit).groups) i; terminated = (machine ds t.to t.bit).terminated }

-- ---- where the two meet

-- the automaton's state; the machine's; the number of the decided data bits that it was not fed; and the groups that it has not given yet
record Met : Type 0 where
  state : ℕ
  wait : Wait
  bit : Bool
  base : ℕ
  lag : List Three

abbrev at : ℕ → Wait → Bool → ℕ → List Three → Met
at s x b n l = record { state = s; wait = x; bit = b; base = n; lag = l }

abbrev meetings : List Met
meetings =
    at 0 w false 0 ([]) ∷
    at 1 w true 0 ([]) ∷
    at 3 w00 false 0 (m000 ∷ []) ∷
    at 4 w false 2 (m001 ∷ []) ∷
    at 4 w true 2 (m001 ∷ []) ∷
    at 4 w000000 false 2 (m010 ∷ m100 ∷ m000 ∷ m001 ∷ []) ∷
    at 4 w000000 true 2 (m010 ∷ m100 ∷ m000 ∷ m001 ∷ []) ∷
    at 4 w000010 false 2 (m000 ∷ m100 ∷ m000 ∷ m001 ∷ []) ∷
    at 4 w000010 true 2 (m000 ∷ m100 ∷ m000 ∷ m001 ∷ []) ∷
    at 4 w11 false 2 (m101 ∷ m001 ∷ []) ∷
    at 4 w11 true 2 (m000 ∷ m001 ∷ []) ∷
    at 4 w110111 false 2 (m101 ∷ m010 ∷ m101 ∷ m001 ∷ []) ∷
    at 4 w110111 true 2 (m000 ∷ m010 ∷ m101 ∷ m001 ∷ []) ∷
    at 5 w false 0 (m010 ∷ []) ∷
    at 5 w true 0 (m010 ∷ []) ∷
    at 5 w1101 false 0 (m101 ∷ m010 ∷ m010 ∷ []) ∷
    at 5 w1101 true 0 (m000 ∷ m010 ∷ m010 ∷ []) ∷
    at 5 w110111 false 0 (m001 ∷ m000 ∷ m000 ∷ m010 ∷ []) ∷
    at 5 w110111 true 0 (m001 ∷ m000 ∷ m000 ∷ m010 ∷ []) ∷
    at 6 w11 false 0 (m101 ∷ []) ∷
    at 7 w true 0 (m000 ∷ []) ∷
    at 7 w11 false 0 (m101 ∷ m000 ∷ []) ∷
    at 7 w110111 false 0 (m101 ∷ m010 ∷ m101 ∷ m000 ∷ []) ∷
    at 7 w110111 true 0 (m000 ∷ m010 ∷ m101 ∷ m000 ∷ []) ∷
    at 8 w00 false 0 (m000 ∷ m100 ∷ []) ∷
    at 8 w00 true 0 (m000 ∷ m100 ∷ []) ∷
    at 8 w11011100 false 0 (m101 ∷ m010 ∷ m101 ∷ m000 ∷ m100 ∷ []) ∷
    at 8 w11011100 true 0 (m000 ∷ m010 ∷ m101 ∷ m000 ∷ m100 ∷ []) ∷
    at 9 w false 8 (m001 ∷ m000 ∷ []) ∷
    at 9 w true 8 (m001 ∷ m000 ∷ []) ∷
    at 9 w000000 false 8 (m010 ∷ m100 ∷ m000 ∷ m001 ∷ m000 ∷ []) ∷
    at 9 w000000 true 8 (m010 ∷ m100 ∷ m000 ∷ m001 ∷ m000 ∷ []) ∷
    at 9 w000010 false 8 (m000 ∷ m100 ∷ m000 ∷ m001 ∷ m000 ∷ []) ∷
    at 9 w000010 true 8 (m000 ∷ m100 ∷ m000 ∷ m001 ∷ m000 ∷ []) ∷
    at 9 w11 false 8 (m101 ∷ m001 ∷ m000 ∷ []) ∷
    at 9 w11 true 8 (m000 ∷ m001 ∷ m000 ∷ []) ∷
    at 9 w110111 false 8 (m101 ∷ m010 ∷ m101 ∷ m001 ∷ m000 ∷ []) ∷
    at 9 w110111 true 8 (m000 ∷ m010 ∷ m101 ∷ m001 ∷ m000 ∷ []) ∷
    at 10 w false 0 (m010 ∷ m000 ∷ []) ∷
    at 10 w true 0 (m010 ∷ m000 ∷ []) ∷
    at 10 w11 false 0 (m101 ∷ m010 ∷ m000 ∷ []) ∷
    at 10 w11 true 0 (m000 ∷ m010 ∷ m000 ∷ []) ∷
    at 10 w1101 false 0 (m101 ∷ m010 ∷ m010 ∷ m000 ∷ []) ∷
    at 10 w1101 true 0 (m000 ∷ m010 ∷ m010 ∷ m000 ∷ []) ∷
    at 10 w110111 false 0 (m001 ∷ m000 ∷ m000 ∷ m010 ∷ m000 ∷ []) ∷
    at 10 w110111 true 0 (m001 ∷ m000 ∷ m000 ∷ m010 ∷ m000 ∷ []) ∷
    at 11 w00 false 0 (m010 ∷ m100 ∷ []) ∷
    at 11 w00 true 0 (m010 ∷ m100 ∷ []) ∷
    at 11 w11011100 false 0 (m001 ∷ m000 ∷ m000 ∷ m010 ∷ m100 ∷ []) ∷
    at 11 w11011100 true 0 (m001 ∷ m000 ∷ m000 ∷ m010 ∷ m100 ∷ []) ∷
    at 12 w11 false 0 (m101 ∷ m010 ∷ []) ∷
    at 12 w11 true 0 (m000 ∷ m010 ∷ []) ∷
    at 13 w00 false 0 (m000 ∷ m100 ∷ m000 ∷ []) ∷
    at 13 w00 true 0 (m000 ∷ m100 ∷ m000 ∷ []) ∷
    at 13 w11011100 false 0 (m101 ∷ m010 ∷ m101 ∷ m000 ∷ m100 ∷ m000 ∷ []) ∷
    at 13 w11011100 true 0 (m000 ∷ m010 ∷ m101 ∷ m000 ∷ m100 ∷ m000 ∷ []) ∷
    at 14 w0000 false 0 (m010 ∷ m100 ∷ m100 ∷ []) ∷
    at 14 w0000 false 2 (m000 ∷ m100 ∷ m100 ∷ []) ∷
    at 14 w0000 true 0 (m010 ∷ m100 ∷ m100 ∷ []) ∷
    at 14 w0000 true 2 (m000 ∷ m100 ∷ m100 ∷ []) ∷
    at 14 w1101110000 false 0 (m001 ∷ m000 ∷ m000 ∷ m010 ∷ m100 ∷ m100 ∷ []) ∷
    at 14 w1101110000 false 2 (m101 ∷ m010 ∷ m101 ∷ m000 ∷ m100 ∷ m100 ∷ []) ∷
    at 14 w1101110000 true 0 (m001 ∷ m000 ∷ m000 ∷ m010 ∷ m100 ∷ m100 ∷ []) ∷
    at 14 w1101110000 true 2 (m000 ∷ m010 ∷ m101 ∷ m000 ∷ m100 ∷ m100 ∷ []) ∷
    at 15 w false 32 (m001 ∷ m000 ∷ m000 ∷ []) ∷
    at 15 w true 32 (m001 ∷ m000 ∷ m000 ∷ []) ∷
    at 15 w000000 false 32 (m010 ∷ m100 ∷ m000 ∷ m001 ∷ m000 ∷ m000 ∷ []) ∷
    at 15 w000000 true 32 (m010 ∷ m100 ∷ m000 ∷ m001 ∷ m000 ∷ m000 ∷ []) ∷
    at 15 w000010 false 32 (m000 ∷ m100 ∷ m000 ∷ m001 ∷ m000 ∷ m000 ∷ []) ∷
    at 15 w000010 true 32 (m000 ∷ m100 ∷ m000 ∷ m001 ∷ m000 ∷ m000 ∷ []) ∷
    at 15 w11 false 32 (m101 ∷ m001 ∷ m000 ∷ m000 ∷ []) ∷
    at 15 w11 true 32 (m000 ∷ m001 ∷ m000 ∷ m000 ∷ []) ∷
    at 15 w110111 false 32 (m101 ∷ m010 ∷ m101 ∷ m001 ∷ m000 ∷ m000 ∷ []) ∷
    at 15 w110111 true 32 (m000 ∷ m010 ∷ m101 ∷ m001 ∷ m000 ∷ m000 ∷ []) ∷
    at 16 w00 false 0 (m010 ∷ m100 ∷ m000 ∷ []) ∷
    at 16 w00 true 0 (m010 ∷ m100 ∷ m000 ∷ []) ∷
    at 16 w11011100 false 0 (m001 ∷ m000 ∷ m000 ∷ m010 ∷ m100 ∷ m000 ∷ []) ∷
    at 16 w11011100 true 0 (m001 ∷ m000 ∷ m000 ∷ m010 ∷ m100 ∷ m000 ∷ []) ∷
    at 17 w110111 false 0 (m101 ∷ m010 ∷ m101 ∷ []) ∷
    at 17 w110111 true 0 (m000 ∷ m010 ∷ m101 ∷ []) ∷
    []

-- how many pairs are not wholly decided in a state
abbrev unfed : ℕ → ℕ
unfed s = get_or (0 ∷ 0 ∷ 0 ∷ 0 ∷ 1 ∷ 1 ∷ 0 ∷ 1 ∷ 1 ∷ 2 ∷ 2 ∷ 1 ∷ 1 ∷ 2 ∷ 1 ∷ 3 ∷ 2 ∷ 0 ∷ []) s 0

-- the number with one group more, its pairs that are decided now, and what the machine gives for them
abbrev grown : Met → Three → ℕ
grown m g = 4 * m.base + value_added m.state (three_number g)

abbrev to : Met → Three → ℕ
to m g = next m.state (three_number g)

abbrev decided : Met → Three → List Two
decided m g = digits (unfed m.state + 1 - unfed (to m g)) (grown m g / 4 ^ unfed (to m g))

abbrev given-now : Met → Three → Step
given-now m g = feed (decided m g) m.wait m.bit

abbrev moved : Met → Three → Met
moved m g = at (to m g) (given-now m g).to (given-now m g).bit (grown m g % 4 ^ unfed (to m g)) (drop (length (given-now m g).out) (m.lag ++ g ∷ []))

-- ---- meetings compared

wait-injective : (x y : Wait) → wait_number x ≡ wait_number y → x ≡ y
wait-injective x y e = sym (wait-back x) ∙ ap wait_at e ∙ wait-back y

abbrev sames : List Three → List Three → Bool
sames [] [] = true
sames [] (y ∷ ys) = false
sames (x ∷ xs) [] = false
sames (x ∷ xs) (y ∷ ys) = both (eqb (three_number x) (three_number y)) (sames xs ys)

sames-is : (xs ys : List Three) → T (sames xs ys) → xs ≡ ys
sames-is [] [] t = refl
sames-is [] (y ∷ ys) t = absurd t
sames-is (x ∷ xs) [] t = absurd t
sames-is (x ∷ xs) (y ∷ ys) t =
    ap₂ ◌∷◌ (three-injective x y (eqb→eq (three_number x) (three_number y) (both_left (eqb (three_number x) (three_number y)) (sames xs ys) t)))
    (sames-is xs ys (both_right (eqb (three_number x) (three_number y)) (sames xs ys) t))

abbrev same : Met → Met → Bool
same m n =
    both (eqb m.state n.state)
    (both (eqb (wait_number m.wait) (wait_number n.wait)) (both (beq m.bit n.bit) (both (eqb m.base n.base) (sames m.lag n.lag))))

same-is : (m n : Met) → T (same m n) → m ≡ n
same-is m n t =
    let a = eqb m.state n.state in
    let b = eqb (wait_number m.wait) (wait_number n.wait) in
    let c = beq m.bit n.bit in
    let d = eqb m.base n.base in
    let e = sames m.lag n.lag in
    let tb = both_right a (both b (both c (both d e))) t in
    let tc = both_right b (both c (both d e)) tb in
    let td = both_right c (both d e) tc in
    let pa = eqb→eq m.state n.state (both_left a (both b (both c (both d e))) t) in
    let pb = wait-injective m.wait n.wait (eqb→eq (wait_number m.wait) (wait_number n.wait) (both_left b (both c (both d e)) tb)) in
    let pc = beq_same m.bit n.bit (both_left c (both d e) tc) in
    let pd = eqb→eq m.base n.base (both_left d e td) in
    let pe = sames-is m.lag n.lag (both_right d e td) in
    λ i. record { state = pa i; wait = pb i; bit = pc i; base = pd i; lag = pe i }

-- ---- the test

-- a group that is right leads to a meeting again, and what the machine gives is what was read
abbrev front-right : Met → Three → Bool
front-right m g = starts three_number (given-now m g).out (m.lag ++ g ∷ [])

abbrev sum-right : Met → Three → Bool
sum-right m g = eqb (onto 0 (decided m g) * 4 ^ unfed (to m g) + grown m g % 4 ^ unfed (to m g)) (grown m g)

abbrev weight-right : Met → Three → Bool
weight-right m g = eqb (4 ^ length (decided m g) * 4 ^ unfed (to m g)) (4 * 4 ^ unfed m.state)

abbrev going : Met → Three → Bool
going m g = both (front-right m g) (both (sum-right m g) (both (weight-right m g) (among same (moved m g) meetings)))

goes : Met → Three → Bool
goes m g = cond (eqb (to m g) 2) true (going m g)

abbrev groups : List Three
groups = m000 ∷ m001 ∷ m010 ∷ m011 ∷ m100 ∷ m101 ∷ m110 ∷ m111 ∷ []

all_go : T (each (λ m. each (goes m) groups) meetings)
unfolding goes transitions onto
all_go = tt

-- the last pairs, and the frame that ends with them
abbrev last : Met → Bool → List Two
last m hash = digits (unfed m.state) (m.base + ending m.state hash / 2)

abbrev ended : Met → Bool → Modulated
ended m hash =
    let t = feed (last m hash) m.wait m.bit in
    put t.out (stop t.to t.bit)

abbrev groups-right : Met → Bool → Bool
groups-right m hash = sames (ended m hash).groups m.lag

abbrev end-right : Met → Bool → Bool
end-right m hash = beq (ended m hash).terminated hash

abbrev last-right : Met → Bool → Bool
last-right m hash = eqb (onto 0 (last m hash)) (m.base + ending m.state hash / 2)

abbrev ending-right : Met → Bool → Bool
ending-right m hash =
    both (groups-right m hash) (both (end-right m hash) (both (last-right m hash) (eqb (4 ^ length (last m hash)) (4 ^ unfed m.state))))

finishes : Bool → Met → Bool
finishes hash m = implies (eqb (ending m.state hash % 2) 0) (ending-right m hash)

all-finish : (hash : Bool) → T (each (finishes hash) meetings)
unfolding finishes transitions ends onto
all-finish true = tt
all-finish false = tt

-- ---- the induction

going-at : (m : Met) (g : Three) → T (among same m meetings) → eqb (to m g) 2 ≡ false → T (going m g)
unfolding goes
going-at m g t e =
    subst (λ (b : Bool). T (cond b true (going m g))) e
    (each_at three-same three-is (goes m) g groups (each_at same same-is (λ m. each (goes m) groups) m meetings all_go t) (listed g))
  where
    three-same : Three → Three → Bool
    three-same x y = eqb (three_number x) (three_number y)

    three-is : (x y : Three) → T (three-same x y) → x ≡ y
    three-is x y s = three-injective x y (eqb→eq (three_number x) (three_number y) s)

    listed : (g : Three) → T (among three-same g groups)
    listed m000 = tt
    listed m001 = tt
    listed m010 = tt
    listed m011 = tt
    listed m100 = tt
    listed m101 = tt
    listed m110 = tt
    listed m111 = tt

finishes-at : (m : Met) (hash : Bool) → T (among same m meetings) → eqb (ending m.state hash % 2) 0 ≡ true → T (ending-right m hash)
unfolding finishes
finishes-at m hash t e =
    given (eqb (ending m.state hash % 2) 0) (ending-right m hash) (each_at same same-is (finishes hash) m meetings (all-finish hash) t) e

-- in state 2 nothing is right any more
dead : (gs : List Three) → state_after 2 gs ≡ 2
unfolding state_after transitions
dead [] = refl
dead (m000 ∷ gs) = dead gs
dead (m001 ∷ gs) = dead gs
dead (m010 ∷ gs) = dead gs
dead (m011 ∷ gs) = dead gs
dead (m100 ∷ gs) = dead gs
dead (m101 ∷ gs) = dead gs
dead (m110 ∷ gs) = dead gs
dead (m111 ∷ gs) = dead gs

dead_not : (gs : List Three) (hash : Bool) → accepts 2 gs hash ≡ true → ⊥
unfolding ends
dead_not gs true e = false≢true (sym (ap (λ (s : ℕ). eqb (ending s true % 2) 0) (dead gs)) ∙ e)
dead_not gs false e = false≢true (sym (ap (λ (s : ℕ). eqb (ending s false % 2) 0) (dead gs)) ∙ e)

-- the groups read and those that follow are given by the pairs ds, which behind the number n make the automaton's
record Back (m : Met) (n : ℕ) (gs : List Three) (hash : Bool) : Type 0 where
  ds : List Two
  gives : machine ds m.wait m.bit ≡ record { groups = m.lag ++ gs; terminated = hash }
  number : onto n ds ≡ number_read m.state (n * 4 ^ unfed m.state + m.base) gs hash

-- the number grows by a group as its pairs are decided: n before c at weight p is n, f and r at weight q
numbers-meet : (n p c out f x q r : ℕ) → f * q + r ≡ 4 * c + out → x * q ≡ 4 * p → 4 * (n * p + c) + out ≡ (n * x + f) * q + r
numbers-meet n p c out f x q r e h =
    let one = add-mul (n * x) f q in
    let two : n * x * q ≡ 4 * (n * p) = mul_assoc n x q ∙ ap (λ (y : ℕ). n * y) h ∙ sym (mul_assoc n 4 p) ∙ ap (λ (y : ℕ). y * p) (mul_comm n 4) ∙ mul_assoc 4 n p in
    omega (arith, one, two)

step_back : (m : Met) (n : ℕ) (g : Three) (gs : List Three) (hash : Bool) → T (going m g)
    → Back (moved m g) (onto n (decided m g)) gs hash → Back m n (g ∷ gs) hash
unfolding state_after number_after
step_back m n g gs hash t back =
    record {
      ds = decided m g ++ back.ds;
      gives = fed (decided m g) back.ds m.wait m.bit ∙ ap (put (given-now m g).out) back.gives ∙ λ i. record { groups = read i; terminated = hash };
      number = onto-append n (decided m g) back.ds ∙ back.number ∙ ap (λ (a : ℕ). number_read (to m g) a gs hash) (sym grows);
    }
  where
    front : m.lag ++ g ∷ [] ≡ (given-now m g).out ++ drop (length (given-now m g).out) (m.lag ++ g ∷ [])
    front = starts-split three_number three-injective (given-now m g).out (m.lag ++ g ∷ []) (T_true (front-right m g) (both_left (front-right m g) _ t))

    read : (given-now m g).out ++ (drop (length (given-now m g).out) (m.lag ++ g ∷ []) ++ gs) ≡ m.lag ++ g ∷ gs
    read =
        sym (append_assoc (given-now m g).out (drop (length (given-now m g).out) (m.lag ++ g ∷ [])) gs)
        ∙ ap (λ (l : List Three). l ++ gs) (sym front)
        ∙ append_assoc m.lag (g ∷ []) gs

    grows : 4 * (n * 4 ^ unfed m.state + m.base) + value_added m.state (three_number g)
        ≡ onto n (decided m g) * 4 ^ unfed (to m g) + grown m g % 4 ^ unfed (to m g)
    grows =
        numbers-meet n (4 ^ unfed m.state) m.base (value_added m.state (three_number g)) (onto 0 (decided m g)) (4 ^ length (decided m g)) (4 ^ unfed (to m g))
        (grown m g % 4 ^ unfed (to m g))
        (eqb→eq _ _ (both_left (sum-right m g) _ (both_right (front-right m g) _ t)))
        (eqb→eq _ _ (both_left (weight-right m g) _ (both_right (sum-right m g) _ (both_right (front-right m g) _ t))))
        ∙ ap (λ (a : ℕ). a * 4 ^ unfed (to m g) + grown m g % 4 ^ unfed (to m g)) (sym (onto-shift n (decided m g)))

listed_next : (m : Met) (g : Three) → T (going m g) → T (among same (moved m g) meetings)
listed_next m g t =
    both_right (weight-right m g) _ (both_right (sum-right m g) _ (both_right (front-right m g) _ t))

end_back : (m : Met) (n : ℕ) (hash : Bool) → T (ending-right m hash) → Back m n [] hash
unfolding state_after number_after
end_back m n hash t =
    record {
      ds = last m hash;
      gives =
          ap (λ (l : List Two). machine l m.wait m.bit) (sym (append-nil (last m hash)))
          ∙ fed (last m hash) [] m.wait m.bit
          ∙ λ i. record { groups = (sames-is (ended m hash).groups m.lag (both_left (groups-right m hash) _ t) ∙ sym (append-nil m.lag)) i; terminated = beq_same (ended m hash).terminated hash (both_left (end-right m hash) _ (both_right (groups-right m hash) _ t)) i };
      number = onto-shift n (last m hash) ∙ ap₂ (λ (x y : ℕ). n * x + y) weight sum ∙ flat (n * 4 ^ unfed m.state) m.base (ending m.state hash / 2);
    }
  where
    sum : onto 0 (last m hash) ≡ m.base + ending m.state hash / 2
    sum = eqb→eq _ _ (both_left (last-right m hash) _ (both_right (end-right m hash) _ (both_right (groups-right m hash) _ t)))

    weight : 4 ^ length (last m hash) ≡ 4 ^ unfed m.state
    weight = eqb→eq _ _ (both_right (last-right m hash) _ (both_right (end-right m hash) _ (both_right (groups-right m hash) _ t)))

    flat : (x y z : ℕ) → x + (y + z) ≡ x + y + z
    flat x y z = omega arith

sound-from : (gs : List Three) (m : Met) (n : ℕ) (hash : Bool) → T (among same m meetings) → accepts m.state gs hash ≡ true → Back m n gs hash
unfolding state_after
sound-from [] m n hash t e = end_back m n hash (finishes-at m hash t e)
sound-from (g ∷ gs) m n hash t e = by (eqb (to m g) 2) refl (λ u. sound-from gs (moved m g) (onto n (decided m g)) hash (listed_next m g u) e)
  where
    by : (b : Bool) → eqb (to m g) 2 ≡ b → (T (going m g) → Back (moved m g) (onto n (decided m g)) gs hash) → Back m n (g ∷ gs) hash
    by true f rest = absurd (dead_not gs hash (ap (λ (s : ℕ). accepts s gs hash) (sym (eqb→eq (to m g) 2 (true-T _ f))) ∙ e))
    by false f rest = step_back m n g gs hash (going-at m g t f) (rest (going-at m g t f))

-- what is accepted is given by data bits, and they make the automaton's number
pub record Sound (before : Bool) (gs : List Three) (hash : Bool) : Type 0 where
  pub ds : List Two
  pub gives : modulate before ds ≡ record { groups = gs; terminated = hash }
  pub number : onto 0 ds ≡ number_read (start before) 0 gs hash

pub sound : (before : Bool) (gs : List Three) (hash : Bool) → accepts (start before) gs hash ≡ true → Sound before gs hash
sound before gs hash e = from before e
  where
    with : (b : Bool) → Back (at (start b) w b 0 []) 0 gs hash → number_read (start b) (0 * 4 ^ unfed (start b) + 0) gs hash ≡ number_read (start b) 0 gs hash → Sound b gs hash
    with b back z = record { ds = back.ds; gives = sym (machine-is back.ds w b) ∙ back.gives; number = back.number ∙ z }

    from : (b : Bool) → accepts (start b) gs hash ≡ true → Sound b gs hash
    from true e = with true (sound-from gs (at 1 w true 0 []) 0 hash tt e) refl
    from false e = with false (sound-from gs (at 0 w false 0 []) 0 hash tt e) refl
