-- What is printed for the bytes of a frame, and what it tells: the answer and the number of bits. Assumes nothing.
use mathlib.Core.Path.{◌≡◌, refl, sym, ap, ◌∙◌}
use mathlib.Core.Bool.{Bool, true, false, cond}
use mathlib.Core.List.{List, [], ◌∷◌, ◌++◌, append_assoc}
use Prim.Native.Nat.{ℕ, ◌^◌, ◌<◌}
use native.Mathlib.Decide.{ℕ_discrete}
use native.Mathlib.Omega.{arith}
use borrow.Author.Tests.{eq-eqb}
use lib.ListN.{length, length-append}
use Rattle.answer.specs.declared.Answer.{Answer}
use Rattle.answer.specs.declared.Answer.TheVariants.{WrongRow}
use Rattle.answer.specs.Answer.{number_of, place_of, is_done}
use Rattle.answer.proofs.Tests.{number-zero, done-is, done-not}
use Rattle.sizes.specs.Sizes.{row_size}
use Rattle.big_endian.specs.Words.{word_at, four_bytes}
use Rattle.big_endian.proofs.Words.{word_back}
use Rattle.texts.specs.Text.{the}
use Rattle.texts.specs.Numbers.{decimal}
use Rattle.texts.proofs.Distinct.{decimal-digits, split, decimal-same}
use Rattle.report.specs.Words.{meaning, answer_text}
use Rattle.report.proofs.Statements.{answers-differ}
use Rattle.look_ahead.specs.Outcome.{Outcome, outcome}
use Rattle.look_ahead.proofs.Statements.{reports-exactly}
use Rattle.ahead_report.specs.Said.{outcome_text, ahead_text}

-- FOR A DC WORD AND A ROW THE OPERATION'S OUTCOME IS PRINTED
pub frame-text : (b : Bool) (row : List ℕ) (dc : ℕ) → length row ≡ row_size → dc < 2 ^ 32 → ahead_text b (four_bytes dc ++ row) ≡ outcome_text (outcome b row dc)
unfolding ahead_text
frame-text b row dc size small =
    ap (λ (t : Bool). cond t (outcome_text (outcome b row (word_at (four_bytes dc ++ row) 0))) (answer_text WrongRow)) (eq-eqb (length (four_bytes dc ++ row)) 159 (omega (arith, size)))
    ∙ ap (λ (d : ℕ). outcome_text (outcome b row d)) (word_back dc small)

-- ---- what it tells

-- a refusal's number stands before the first space
abbrev from_place : Answer → List ℕ
from_place a = decimal (place_of a) ++ (10 ∷ meaning a)

from-number : (a : Answer) → decimal (number_of a) ++ (32 ∷ from_place a) ≡ answer_text a
unfolding answer_text
from-number a = simp append_assoc

-- a number alone is no refusal's text
no-refusal : (n : ℕ) (a : Answer) → decimal n ++ (10 ∷ []) ≡ answer_text a → ⊥
no-refusal n a e =
    let both = split (decimal-digits 20 n) (decimal-digits 20 (number_of a)) 10 32 [] (from_place a) (omega arith) (omega arith) (e ∙ sym (from-number a)) in
    omega (arith, ap length both.1, length-append (decimal (place_of a)) (10 ∷ meaning a))

-- of numbers that have room
outcome-told : (o p : Outcome) → place_of o.answer < 10 ^ 20 → place_of p.answer < 10 ^ 20 → o.bits < 10 ^ 20 → p.bits < 10 ^ 20 → outcome_text o ≡ outcome_text p
    → (o.answer ≡ p.answer) × (number_of o.answer ≡ 0 → o.bits ≡ p.bits)
outcome-told o p place place' few few' e = by (is_done o.answer) (is_done p.answer) refl refl e
  where
    by : (s t : Bool) → is_done o.answer ≡ s → is_done p.answer ≡ t
        → cond s (decimal o.bits ++ the "\n") (answer_text o.answer) ≡ cond t (decimal p.bits ++ the "\n") (answer_text p.answer)
        → (o.answer ≡ p.answer) × (number_of o.answer ≡ 0 → o.bits ≡ p.bits)
    by true true hs ht e = (
      done-is o.answer hs ∙ sym (done-is p.answer ht),
      λ z. decimal-same 20 o.bits p.bits few few' (split (decimal-digits 20 o.bits) (decimal-digits 20 p.bits) 10 10 [] [] (omega arith) (omega arith) e).0,
    )
    by true false hs ht e = absurd (no-refusal o.bits p.answer e)
    by false true hs ht e = absurd (no-refusal p.bits o.answer (sym e))
    by false false hs ht e = (answers-differ o.answer p.answer place place' e, λ z. absurd (done-not o.answer hs (number-zero o.answer z)))

-- the place is 0, and the bits are 12 at most
place-small : (b : Bool) (row : List ℕ) (dc : ℕ) → place_of (outcome b row dc).answer < 10 ^ 20
place-small b row dc = omega (arith, (reports-exactly b row dc).no_place)

bits_small : (b : Bool) (row : List ℕ) (dc : ℕ) → (outcome b row dc).bits < 10 ^ 20
bits_small b row dc =
    elim (ℕ_discrete (number_of (outcome b row dc).answer) 0) [
      | yes e ↦ omega (arith, ((reports-exactly b row dc).reported e).1.1)
      | no e ↦ omega (arith, (reports-exactly b row dc).refused e)
    ]

-- THE TEXT TELLS THE ANSWER AND THE NUMBER OF BITS
pub text-tells : (b : Bool) (row row' : List ℕ) (dc dc' : ℕ) → outcome_text (outcome b row dc) ≡ outcome_text (outcome b row' dc')
    → ((outcome b row dc).answer ≡ (outcome b row' dc').answer) × ((outcome b row dc).bits ≡ (outcome b row' dc').bits)
text-tells b row row' dc dc' e =
    let both = outcome-told (outcome b row dc) (outcome b row' dc') (place-small b row dc) (place-small b row' dc') (bits_small b row dc) (bits_small b row' dc') e in (
      both.0,
      elim (ℕ_discrete (number_of (outcome b row dc).answer) 0) [
        | yes z ↦ both.1 z
        | no z ↦ (reports-exactly b row dc).refused z ∙ sym ((reports-exactly b row' dc').refused (λ y. z (ap number_of both.0 ∙ y)))
      ],
    )
