-- What is printed for a frame: how it is put together. Assumes nothing.
use mathlib.Core.Path.{◌≡◌, sym, ap, ap₂, ◌∙◌}
use mathlib.Core.Bool.{Bool, true, false, cond}
use mathlib.Core.List.{List, ◌++◌}
use Prim.Native.Nat.{ℕ, ◌-◌, ◌≤◌}
use native.Mathlib.Omega.{arith}
use borrow.Author.Tests.{eq-eqb, ne_eqb}
use lib.ListN.{length, length-append, take, drop, length-drop}
use lib.Seq.{take_all}
use Rattle.answer.specs.declared.Answer.{Answer}
use Rattle.answer.specs.declared.Answer.TheVariants.{WrongRow}
use Rattle.answer.specs.Answer.{is_done}
use Rattle.big_endian.specs.Words.{word_at}
use Rattle.texts.specs.declared.Text.{Text}
use Rattle.texts.specs.Text.{the, text_of, blank_text, added}
use Rattle.texts.specs.Numbers.{decimal}
use Rattle.texts.proofs.Texts.{from-blank}
use Rattle.texts.proofs.Numbers.{decimal-short}
use Rattle.report.specs.Words.{answer_text}
use Rattle.report.proofs.Words.{answer-short}
use Rattle.look_ahead.specs.Outcome.{Outcome, outcome}
use Rattle.ahead_report.specs.Said.{outcome_text, ahead_text}

bits-short : (n : ℕ) → length (decimal n ++ the "\n") ≤ 256
bits-short n = omega (arith, length-append (decimal n) (the "\n"), decimal-short 20 n)

-- it has room
pub outcome-short : (o : Outcome) → length (outcome_text o) ≤ 256
outcome-short o = by (is_done o.answer)
  where
    by : (t : Bool) → length (cond t (decimal o.bits ++ the "\n") (answer_text o.answer)) ≤ 256
    by true = bits-short o.bits
    by false = answer-short o.answer

-- ---- of an outcome; t is whether its answer is 0

module _ (a : Answer) (n : ℕ) {t : Bool} (ht : t ≡ is_done a) where
  abbrev own : Outcome
  own = record { answer = a; bits = n }

  own-text : (d : Bool) → t ≡ d → cond d (decimal n ++ the "\n") (answer_text a) ≡ outcome_text own
  own-text d e = ap (λ (d : Bool). cond d (decimal n ++ the "\n") (answer_text a)) (sym e ∙ ht)

  pub bits-said : {b r : Text} → t ≡ true → b ≡ blank_text → r ≡ added b (decimal n ++ the "\n") → r ≡ text_of (outcome_text own)
  bits-said {b} {r} e hb hr =
      from-blank (decimal n ++ the "\n") r (bits-short n) (hr ∙ ap (λ (x : Text). added x (decimal n ++ the "\n")) hb) ∙ ap text_of (own-text true e)

  pub refusal-said : {r : Text} → t ≡ false → r ≡ text_of (answer_text a) → r ≡ text_of (outcome_text own)
  refusal-said {r} e hr = hr ∙ ap text_of (own-text false e)

-- ---- of an input

module _ (b : Bool) (input : List ℕ) where
  -- where t says whether it has 159 bytes
  abbrev input-text : Bool → List ℕ
  input-text t = cond t (outcome_text (outcome b (drop 4 input) (word_at input 0))) (answer_text WrongRow)

  pub other_length : {r : Text} → (length input ≡ 159 → ⊥) → r ≡ text_of (answer_text WrongRow) → r ≡ text_of (ahead_text b input)
  unfolding ahead_text
  other_length {r} h hr = hr ∙ ap (λ (t : Bool). text_of (input-text t)) (sym (ne_eqb (length input) 159 h))

  -- the row is lent as bytes 4 to 158 of the input
  pub frame-said : {dc bits : ℕ} {a : Answer} {r : Text} → length input ≡ 159 → dc ≡ word_at input 0
      → record { answer = a; bits = bits } ≡ outcome b (take (159 - 4) (drop 4 input)) dc → r ≡ text_of (outcome_text (record { answer = a; bits = bits })) → r ≡ text_of (ahead_text b input)
  unfolding ahead_text
  frame-said {dc} {bits} {a} {r} size hd ho hr =
      let row : take (159 - 4) (drop 4 input) ≡ drop 4 input = take_all (159 - 4) (drop 4 input) (omega (arith, length-drop 4 input, size)) in
      hr
      ∙ ap (λ (o : Outcome). text_of (outcome_text o)) (ho ∙ ap₂ (outcome b) row hd)
      ∙ ap (λ (t : Bool). text_of (input-text t)) (sym (eq-eqb (length input) 159 size))
