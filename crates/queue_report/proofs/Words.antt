-- The line of a record that was handled: how long it is, and how it is put together. Assumes nothing.
use mathlib.Core.Path.{◌≡◌, sym, ap, ap₂, ◌∙◌}
use mathlib.Core.Bool.{Bool, true, false, cond}
use mathlib.Core.List.{◌++◌, append_assoc}
use Prim.Native.Nat.{ℕ, ◌≤◌}
use native.Mathlib.Omega.{arith}
use lib.ListN.{length, length-append}
use Rattle.answer.specs.declared.Answer.{Answer}
use Rattle.answer.specs.Answer.{number_of, place_of, is_done}
use Rattle.texts.specs.declared.Text.{Text}
use Rattle.texts.specs.Text.{the, text_of, blank_text, added}
use Rattle.texts.specs.Numbers.{decimal, hexadecimal}
use Rattle.texts.proofs.Texts.{added-two, added-three, from-blank}
use Rattle.texts.proofs.Numbers.{decimal-short, length-hexadecimal}
use Rattle.report.specs.Words.{meaning}
use Rattle.report.proofs.Words.{meaning-short}
use Rattle.order_queue.specs.declared.Handled.{Handled}
use Rattle.queue_report.specs.Said.{handled_words, handled_text}

-- ---- the words; t is whether the answer is 0

module _ (a : Answer) (text : Text) {t : Bool} (ht : t ≡ is_done a) where
  words : (d : Bool) → t ≡ d → cond d (the "\n") (the " " ++ meaning a) ≡ handled_words a
  words d e = ap (λ (d : Bool). cond d (the "\n") (the " " ++ meaning a)) (sym e ∙ ht)

  pub words-done : {r : Text} → t ≡ true → r ≡ added text (the "\n") → r ≡ added text (handled_words a)
  words-done e hr = hr ∙ ap (added text) (words true e)

  pub words-refused : {u r : Text} → t ≡ false → u ≡ added text (the " ") → r ≡ added u (meaning a) → r ≡ added text (handled_words a)
  words-refused {u} {r} e hu hr = added-two text (the " ") (meaning a) u r hu hr ∙ ap (added text) (words false e)

-- ---- the whole line

words-short : (a : Answer) → length (handled_words a) ≤ 67
words-short a = by (is_done a)
  where
    by : (d : Bool) → length (cond d (the "\n") (the " " ++ meaning a)) ≤ 67
    by true = omega arith
    by false = omega (arith, meaning-short a)

pub handled-short : (h : Handled) → length (handled_text h) ≤ 256
unfolding handled_text
handled-short h =
    simp length-append
    (omega (
      arith,
      decimal-short 20 (number_of h.answer),
      decimal-short 20 (place_of h.answer),
      decimal-short 20 h.bench,
      length-hexadecimal h.psn.0,
      words-short h.answer,
    ))

-- b is the blank text that is begun with
pub handled-is : (h : Handled) {number place : ℕ} {b t u v w x : Text} → b ≡ blank_text → number ≡ number_of h.answer → t ≡ added b (decimal number) → place ≡ place_of h.answer
    → u ≡ added t (the " " ++ decimal place ++ the " ") → v ≡ added u (decimal h.bench ++ the " ") → w ≡ added v (hexadecimal h.psn.0) → x ≡ added w (handled_words h.answer)
    → x ≡ text_of (handled_text h)
unfolding handled_text
handled-is h {number} {place} {b} {t} {u} {v} {w} {x} hb hn ht hp hu hv hw hx =
    let bench = decimal h.bench ++ the " " in
    let psn = hexadecimal h.psn.0 in
    let words = handled_words h.answer in
    let front = decimal number ++ (the " " ++ decimal place ++ the " ") in
    let placed : u ≡ added b front = added-two b (decimal number) (the " " ++ decimal place ++ the " ") t u ht hu in
    let named : w ≡ added b (front ++ bench ++ psn) = added-three b front bench psn u v w placed hv hw in
    let whole : x ≡ added b ((front ++ bench ++ psn) ++ words) = added-two b (front ++ bench ++ psn) words w x named hx in
    let same : (front ++ bench ++ psn) ++ words ≡ handled_text h =
    ap₂ (λ (m n : ℕ). ((decimal m ++ (the " " ++ decimal n ++ the " ")) ++ bench ++ psn) ++ words) hn hp ∙ simp append_assoc in
    from-blank (handled_text h) x (handled-short h) (whole ∙ ap₂ added hb same)
