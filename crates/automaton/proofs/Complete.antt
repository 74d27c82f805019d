-- What data bits give is accepted: the modulating machine beside the automaton, by a test over the states that meet. Assumes nothing.
use mathlib.Core.Bool.{Bool, true, false}
use mathlib.Core.List.{List, [], ◌∷◌, ◌++◌}
use mathlib.Core.Path.{◌≡◌, refl, sym, subst}
use Prim.Native.Nat.{ℕ, ◌+◌, ◌%◌}
use lib.Dec.{T, eqb, eqb→eq}
use Rattle.laws.proofs.Finite.{both, both_left, both_right}
use Rattle.modulation.specs.Modulation.{Two, d00, d01, d10, d11, Three, three_number, Modulated, modulate}
use Rattle.modulation.specs.Machine.{Wait, w, w00, w0000, w000000, w000010, w11, w1101, w110111, w11011100, w1101110000, Step, step, stop, machine}
use Rattle.modulation.proofs.Machine.{machine-is}
use Rattle.laws.proofs.Booleans.{T_true}
use Rattle.automaton.specs.Automaton.{transitions, ends, start, next, ending, state_after, accepts}

-- p holds of each of the list
abbrev pub each : {A : Type 0} → (A → Bool) → List A → Bool
each p [] = true
each p (x ∷ xs) = both (p x) (each p xs)

abbrev either : Bool → Bool → Bool
either true b = true
either false b = b

-- x is one of them, by the test same
abbrev pub among : {A : Type 0} → (A → A → Bool) → A → List A → Bool
among same x [] = false
among same x (y ∷ ys) = either (same x y) (among same x ys)

pub each_at : {A : Type 0} (same : A → A → Bool) (is : (x y : A) → T (same x y) → x ≡ y) (p : A → Bool) (x : A) (l : List A)
    → T (each p l) → T (among same x l) → T (p x)
each_at same is p x [] t m = absurd m
each_at same is p x (y ∷ ys) t m = by (same x y) refl m (λ n. each_at same is p x ys (both_right (p y) (each p ys) t) n)
  where
    by : (b : Bool) → same x y ≡ b → T (either b (among same x ys)) → (T (among same x ys) → T (p x)) → T (p x)
    by true e m rest = subst (λ z. T (p z)) (sym (is x y (subst T (sym e) tt))) (both_left (p y) (each p ys) t)
    by false e m rest = rest m

-- the automaton's states when the machine has these pairs waiting after this bit
abbrev partners : Wait → Bool → List ℕ
partners w false = 0 ∷ 5 ∷ 8 ∷ 10 ∷ 11 ∷ 14 ∷ []
partners w true = 1 ∷ 4 ∷ []
partners w00 false = 0 ∷ 5 ∷ 7 ∷ 8 ∷ 9 ∷ 10 ∷ 11 ∷ 12 ∷ 14 ∷ []
partners w00 true = 1 ∷ 4 ∷ 6 ∷ []
partners w0000 false = 0 ∷ 5 ∷ 7 ∷ 8 ∷ 9 ∷ 10 ∷ 11 ∷ 12 ∷ 14 ∷ []
partners w0000 true = 1 ∷ 4 ∷ 6 ∷ []
partners w000000 false = 0 ∷ 5 ∷ 7 ∷ 8 ∷ 9 ∷ 10 ∷ 11 ∷ 12 ∷ 14 ∷ 15 ∷ []
partners w000000 true = 1 ∷ 4 ∷ 6 ∷ []
partners w000010 false = 0 ∷ 5 ∷ 7 ∷ 8 ∷ 9 ∷ 10 ∷ 11 ∷ 12 ∷ 14 ∷ []
partners w000010 true = 1 ∷ 4 ∷ 6 ∷ 17 ∷ []
partners w11 false = 0 ∷ 5 ∷ 7 ∷ 8 ∷ 9 ∷ 10 ∷ 11 ∷ 13 ∷ 14 ∷ 16 ∷ []
partners w11 true = 1 ∷ 4 ∷ 6 ∷ 17 ∷ []
partners w1101 false = 0 ∷ 5 ∷ 7 ∷ 8 ∷ 9 ∷ 10 ∷ 11 ∷ 13 ∷ 14 ∷ 16 ∷ []
partners w1101 true = 1 ∷ 4 ∷ 6 ∷ 17 ∷ []
partners w110111 false = 0 ∷ 5 ∷ 7 ∷ 8 ∷ 9 ∷ 10 ∷ 11 ∷ 13 ∷ 14 ∷ 16 ∷ []
partners w110111 true = 1 ∷ 4 ∷ 6 ∷ 17 ∷ []
partners w11011100 false = 0 ∷ 5 ∷ 7 ∷ 8 ∷ 9 ∷ 10 ∷ 11 ∷ 13 ∷ 14 ∷ 16 ∷ []
partners w11011100 true = 1 ∷ 4 ∷ 6 ∷ 17 ∷ []
partners w1101110000 false = 0 ∷ 5 ∷ 7 ∷ 8 ∷ 9 ∷ 10 ∷ 11 ∷ 13 ∷ 14 ∷ 16 ∷ []
partners w1101110000 true = 1 ∷ 4 ∷ 6 ∷ 17 ∷ []

pub after-append : (s : ℕ) (a c : List Three) → state_after s (a ++ c) ≡ state_after (state_after s a) c
unfolding state_after
after-append s [] c = refl
after-append s (g ∷ a) c = after-append (next s (three_number g)) a c

-- one more pair leads to partners
follows : Step → ℕ → Bool
follows t s = among eqb (state_after s t.out) (partners t.to t.bit)

one_more : (x : Wait) (b : Bool) (d : Two) → T (each (follows (step x b d)) (partners x b))
unfolding follows state_after transitions
one_more w true d00 = tt
one_more w true d01 = tt
one_more w true d10 = tt
one_more w true d11 = tt
one_more w false d00 = tt
one_more w false d01 = tt
one_more w false d10 = tt
one_more w false d11 = tt
one_more w00 true d00 = tt
one_more w00 true d01 = tt
one_more w00 true d10 = tt
one_more w00 true d11 = tt
one_more w00 false d00 = tt
one_more w00 false d01 = tt
one_more w00 false d10 = tt
one_more w00 false d11 = tt
one_more w0000 true d00 = tt
one_more w0000 true d01 = tt
one_more w0000 true d10 = tt
one_more w0000 true d11 = tt
one_more w0000 false d00 = tt
one_more w0000 false d01 = tt
one_more w0000 false d10 = tt
one_more w0000 false d11 = tt
one_more w000000 true d00 = tt
one_more w000000 true d01 = tt
one_more w000000 true d10 = tt
one_more w000000 true d11 = tt
one_more w000000 false d00 = tt
one_more w000000 false d01 = tt
one_more w000000 false d10 = tt
one_more w000000 false d11 = tt
one_more w000010 true d00 = tt
one_more w000010 true d01 = tt
one_more w000010 true d10 = tt
one_more w000010 true d11 = tt
one_more w000010 false d00 = tt
one_more w000010 false d01 = tt
one_more w000010 false d10 = tt
one_more w000010 false d11 = tt
one_more w11 true d00 = tt
one_more w11 true d01 = tt
one_more w11 true d10 = tt
one_more w11 true d11 = tt
one_more w11 false d00 = tt
one_more w11 false d01 = tt
one_more w11 false d10 = tt
one_more w11 false d11 = tt
one_more w1101 true d00 = tt
one_more w1101 true d01 = tt
one_more w1101 true d10 = tt
one_more w1101 true d11 = tt
one_more w1101 false d00 = tt
one_more w1101 false d01 = tt
one_more w1101 false d10 = tt
one_more w1101 false d11 = tt
one_more w110111 true d00 = tt
one_more w110111 true d01 = tt
one_more w110111 true d10 = tt
one_more w110111 true d11 = tt
one_more w110111 false d00 = tt
one_more w110111 false d01 = tt
one_more w110111 false d10 = tt
one_more w110111 false d11 = tt
one_more w11011100 true d00 = tt
one_more w11011100 true d01 = tt
one_more w11011100 true d10 = tt
one_more w11011100 true d11 = tt
one_more w11011100 false d00 = tt
one_more w11011100 false d01 = tt
one_more w11011100 false d10 = tt
one_more w11011100 false d11 = tt
one_more w1101110000 true d00 = tt
one_more w1101110000 true d01 = tt
one_more w1101110000 true d10 = tt
one_more w1101110000 true d11 = tt
one_more w1101110000 false d00 = tt
one_more w1101110000 false d01 = tt
one_more w1101110000 false d10 = tt
one_more w1101110000 false d11 = tt

-- a frame's end is accepted
finishes : Modulated → ℕ → Bool
finishes f s = accepts s f.groups f.terminated

at-the-end : (x : Wait) (b : Bool) → T (each (finishes (stop x b)) (partners x b))
unfolding finishes state_after transitions ends
at-the-end w true = tt
at-the-end w false = tt
at-the-end w00 true = tt
at-the-end w00 false = tt
at-the-end w0000 true = tt
at-the-end w0000 false = tt
at-the-end w000000 true = tt
at-the-end w000000 false = tt
at-the-end w000010 true = tt
at-the-end w000010 false = tt
at-the-end w11 true = tt
at-the-end w11 false = tt
at-the-end w1101 true = tt
at-the-end w1101 false = tt
at-the-end w110111 true = tt
at-the-end w110111 false = tt
at-the-end w11011100 true = tt
at-the-end w11011100 false = tt
at-the-end w1101110000 true = tt
at-the-end w1101110000 false = tt

given-accepted : (ds : List Two) (x : Wait) (b : Bool) (s : ℕ) → T (among eqb s (partners x b)) → T (accepts s (machine ds x b).groups (machine ds x b).terminated)
unfolding finishes follows
given-accepted [] x b s m = each_at eqb eqb→eq (finishes (stop x b)) s (partners x b) (at-the-end x b) m
given-accepted (d ∷ ds) x b s m =
    let t = step x b d in
    let f = machine ds t.to t.bit in
    subst (λ (z : ℕ). T (eqb (ending z f.terminated % 2) 0)) (sym (after-append s t.out f.groups))
    (given-accepted ds t.to t.bit (state_after s t.out) (each_at eqb eqb→eq (follows t) s (partners x b) (one_more x b d) m))

-- what data bits give is accepted
pub complete : (b : Bool) (ds : List Two) → accepts (start b) (modulate b ds).groups (modulate b ds).terminated ≡ true
complete b ds =
    T_true _ (subst (λ (f : Modulated). T (accepts (start b) f.groups f.terminated)) (machine-is ds w b) (given-accepted ds w b (start b) (elim b as (λ (k : Bool). T (among eqb (start k) (partners w k))) [ true ↦ tt | false ↦ tt ])))
