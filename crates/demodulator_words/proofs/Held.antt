-- What is held between two words: its pending bits are zeros, and what later groups add to them does not carry out of the word.
-- Assumes nothing.
use mathlib.Core.List.{List, [], ◌∷◌}
use mathlib.Core.Bool.{Bool, true, false, true≢false}
use mathlib.Core.Path.{◌≡◌, refl, sym, ap, ap₂, subst, ◌∙◌}
use Prim.Native.Nat.{ℕ, ◌+◌, ◌*◌, ◌/◌, ◌%◌, ◌^◌, ◌<◌, ◌≤◌}
use native.Mathlib.Omega.{arith}
use borrow.Author.Tests.{eq-eqb, eqb-true}
use lib.Dec.{T, eqb, eqb→eq, leb, leb→le, ltb, ltb→lt}
use lib.ListN.{length}
use Rattle.std.specs.Prelude.{Option, Some, None}
use Rattle.std.specs.Bool.{then_some}
use Rattle.laws.proofs.Finite.{all, all-at, all₂, all₂-at, all₃, all₃-at}
use Rattle.modulation.specs.Modulation.{Three, three_number}
use Rattle.laws.proofs.Booleans.{implies, given}
use Rattle.modulation.proofs.Fronts.{three-below}
use Rattle.automaton.specs.Automaton.{transitions, ends, next, value_added, ending, state_after, number_after}
use Rattle.automaton.specs.steps.Table.{After, limit}
use Rattle.demodulator_words.specs.steps.Held.{Held, NextWord, LastWord}
use Rattle.automaton.proofs.Entries.{entry-state, limit-pos, number-limit, number-shift, state-small}

-- the pending bits of a are zeros
abbrev Aligned : ℕ → ℕ → Type 0
Aligned s a = a % 32 % limit s ≡ 0

step-test : (s g r : ℕ) → s < 18 → g < 8 → r < 32 → T (implies (eqb (r % limit s) 0) (eqb ((4 * r + value_added s g) % 32 % limit (next s g)) 0))
unfolding all all₂ all₃ transitions
step-test = all₃-at 18 8 32 (λ s g r. implies (eqb (r % limit s) 0) (eqb ((4 * r + value_added s g) % 32 % limit (next s g)) 0)) tt

aligned-step : (s g a : ℕ) → s < 18 → g < 8 → Aligned s a → Aligned (next s g) (4 * a + value_added s g)
aligned-step s g a hs hg h =
    let low : (4 * a + value_added s g) % 32 ≡ (4 * (a % 32) + value_added s g) % 32 = cut a (value_added s g) in
    ap (λ (x : ℕ). x % limit (next s g)) low
    ∙ eqb→eq _ 0 (given (eqb (a % 32 % limit s) 0) _ (step-test s g (a % 32) hs hg (omega arith)) (eq-eqb (a % 32 % limit s) 0 h))
  where
    cut : (a d : ℕ) → (4 * a + d) % 32 ≡ (4 * (a % 32) + d) % 32
    cut a d = omega arith

aligned : (s a : ℕ) (gs : List Three) → s < 18 → Aligned s a → Aligned (state_after s gs) (number_after s a gs)
unfolding state_after number_after
aligned s a [] hs h = h
aligned s a (g ∷ gs) hs h =
    aligned (next s (three_number g)) (4 * a + value_added s (three_number g)) gs (entry-state s (three_number g) hs (three-below g)) (aligned-step s (three_number g) a hs (three-below g) h)

aligned-zero : (s : ℕ) → s < 18 → Aligned s 0
unfolding all
aligned-zero s h = eqb→eq (0 % 32 % limit s) 0 (all-at 18 (λ s. eqb (0 % 32 % limit s) 0) tt s h)

room-test : (s r : ℕ) → s < 18 → r < 32 → T (implies (eqb (r % limit s) 0) (leb (r + limit s) 32))
unfolding all all₂
room-test = all₂-at 18 32 (λ s r. implies (eqb (r % limit s) 0) (leb (r + limit s) 32)) tt

-- there is room for them
aligned-room : (s a : ℕ) → s < 18 → a < 70368744177664 → Aligned s a → a + limit s ≤ 70368744177664
aligned-room s a hs ha h =
    let low = leb→le (a % 32 + limit s) 32 (given (eqb (a % 32 % limit s) 0) _ (room-test s (a % 32) hs (omega arith)) (eq-eqb (a % 32 % limit s) 0 h)) in
    omega (arith, low)

-- what the end adds
ending-room : (s : ℕ) (hash : Bool) → s < 18 → ending s hash / 2 < limit s
unfolding all ends
ending-room s true h = ltb→lt (ending s true / 2) (limit s) (all-at 18 (λ s. ltb (ending s true / 2) (limit s)) tt s h)
ending-room s false h = ltb→lt (ending s false / 2) (limit s) (all-at 18 (λ s. ltb (ending s false / 2) (limit s)) tt s h)

-- ---- groups read from a bare state

module _ {gs : List Three} {s y : ℕ} (hs : s < 18) (a : After gs s y) where
  pub read_number : y / 32 ≡ number_after s 0 gs
  read_number =
      let state : s % 32 ≡ s = omega arith in
      let none : s / 32 ≡ 0 = omega arith in
      a.number ∙ ap₂ (λ (t n : ℕ). number_after t n gs) state none

  pub read-state : y % 32 ≡ state_after s gs
  read-state = let state : s % 32 ≡ s = omega arith in a.state ∙ ap (λ (t : ℕ). state_after t gs) state

  read-aligned : Aligned (y % 32) (y / 32)
  read-aligned =
      subst (λ (n : ℕ). Aligned (y % 32) n) (sym read_number)
      (subst (λ (t : ℕ). Aligned t (number_after s 0 gs)) (sym read-state) (aligned s 0 gs hs (aligned-zero s hs)))

  read-limit : y / 32 < limit s * 4 ^ length gs
  read-limit = omega (arith, read_number, number-limit s gs hs, limit-pos (state_after s gs) (state-small s gs hs))

  pub held_first : y < 2251799813685248 → Held y
  held_first h = record { state = a.small; below = h; pending = read-aligned }

-- 23 groups more give a word
pub next_word : {gs : List Three} {x y : ℕ} → Held x → length gs ≡ 23 → After gs (x % 32) y
    → NextWord gs x (x / 32 + y / 2251799813685248) (y % 2251799813685248)
next_word {gs} {x} {y} h long a =
    record {
      number = flat (x / 32) y ∙ ap₂ (λ (n m : ℕ). x / 32 * n + m) (sym weight) (read_number h.state a) ∙ sym (number-shift (x % 32) (x / 32) gs);
      state = low-state y ∙ read-state h.state a;
      below = omega (arith, overflow, h.below, aligned-room (x % 32) (x / 32) h.state (omega (arith, h.below)) h.pending);
      holds = record { state = subst (λ (n : ℕ). n < 18) (sym (low-state y)) a.small; below = omega arith; pending = rest };
    }
  where
    weight : 4 ^ length gs ≡ 70368744177664
    weight = ap (λ (n : ℕ). 4 ^ n) long

    overflow : y / 2251799813685248 < limit (x % 32)
    overflow =
        let bound : y / 32 < limit (x % 32) * 70368744177664 = subst (λ (p : ℕ). y / 32 < limit (x % 32) * p) weight (read-limit h.state a) in
        omega (arith, bound)

    low-state : (y : ℕ) → y % 2251799813685248 % 32 ≡ y % 32
    low-state y = omega arith

    low-number : (y : ℕ) → y % 2251799813685248 / 32 % 32 ≡ y / 32 % 32
    low-number y = omega arith

    rest : Aligned (y % 2251799813685248 % 32) (y % 2251799813685248 / 32)
    rest =
        subst (λ (t : ℕ). Aligned t (y % 2251799813685248 / 32)) (sym (low-state y))
        (ap (λ (n : ℕ). n % limit (y % 32)) (low-number y) ∙ read-aligned h.state a)

    flat : (p y : ℕ) → (p + y / 2251799813685248) * 70368744177664 + y % 2251799813685248 / 32 ≡ p * 70368744177664 + y / 32
    flat p y = omega arith

-- the end gives the last one
pub last_word : {x e : ℕ} {hash : Bool} {answer : Option ℕ} → Held x → e ≡ ending (x % 32) hash → answer ≡ then_some (eqb (e % 2) 0) (x / 32 + e / 2) → LastWord x hash answer
last_word {x} {e} {hash} {answer} h is given = by (eqb (e % 2) 0) refl
  where
    room : e / 2 < limit (x % 32)
    room = subst (λ (n : ℕ). n / 2 < limit (x % 32)) (sym is) (ending-room (x % 32) hash h.state)

    by : (b : Bool) → eqb (e % 2) 0 ≡ b → LastWord x hash answer
    by true t =
        let some : answer ≡ Some (x / 32 + e / 2) = given ∙ rw t in
        rw some (record {
          word = (omega (arith, is, eqb-true (e % 2) 0 t), ap (λ (n : ℕ). x / 32 + n / 2) is);
          below = omega (arith, room, aligned-room (x % 32) (x / 32) h.state (omega (arith, h.below)) h.pending);
        })
    by false f =
        let none : answer ≡ None = given ∙ rw f in
        rw none (record { word = λ even. true≢false (sym (eq-eqb (e % 2) 0 (omega (arith, is, even))) ∙ f); below = tt })
