-- What decode leaves is that of the reader's outcome. Assumes nothing.
use mathlib.Core.Path.{◌≡◌, refl, sym, ap, ◌∙◌}
use mathlib.Core.Bool.{Bool, true, false, cond}
use mathlib.Core.List.{List, []}
use Prim.Native.Nat.{ℕ}
use native.Mathlib.Omega.{arith}
use lib.Dec.{eqb}
use lib.ListN.{length, take}
use lib.Seq.{take_all}
use Rattle.laws.specs.Zeros.{zeros}
use Rattle.laws.proofs.Zeros.{length-zeros}
use Rattle.answer.specs.declared.Answer.{Answer}
use Rattle.answer.specs.Answer.{is_done}
use Rattle.notation.specs.Words.{word_count, bytes_read}
use Rattle.reader.specs.Outcome as reader
use Rattle.texts.specs.declared.Text.{Text}
use Rattle.texts.specs.Text.{text_of}
use Rattle.report.specs.Words.{answer_text, read_text}
use Rattle.decoding.specs.Decoded.{SaidOf, Decoded, decoded_by, decoded_words, decoded}

-- ---- what is said

pub said-done : (a : Answer) (psn : ℕ) (first : Bool) (words before dc : List ℕ) (done : Bool) (t : Text) → done ≡ is_done a → done ≡ true → dc ≡ bytes_read words before → t ≡ text_of (read_text psn first)
    → SaidOf a psn first words before true t dc
said-done a psn first words before dc done t hd e hb ht =
    let is : is_done a ≡ true = sym hd ∙ e in
    record { keep-is = sym is; text-is = ht ∙ rw is; dc-is = hb ∙ rw is }

pub said-refused : (a : Answer) (psn : ℕ) (first : Bool) (words before : List ℕ) (done : Bool) (t : Text) → done ≡ is_done a → done ≡ false → t ≡ text_of (answer_text a)
    → SaidOf a psn first words before false t before
said-refused a psn first words before done t hd e ht =
    let is : is_done a ≡ false = sym hd ∙ e in
    record { keep-is = sym is; text-is = ht ∙ rw is; dc-is = rw is }

-- ---- of what was read, with a work slice of zeros

pub words-decoded : (image user side dc words work user' side' dc' words' work' : List ℕ) (a : Answer) (psn : ℕ) (first keep : Bool) (t : Text)
    → work ≡ zeros 76880
    → record { answer = a; psn = psn; first = first; lent = record { user = user'; side = side'; dc = words'; work = work' } } ≡ reader.outcome image (record { user = user; side = side; dc = words; work = work })
    → SaidOf a psn first words' dc keep t dc'
    → record { keep = keep; text = t; user = user'; side = side'; dc = dc' } ≡ decoded_words image user side words dc
words-decoded image user side dc words work user' side' dc' words' work' a psn first keep t hk ho s =
    let said : record { keep = keep; text = t; user = user'; side = side'; dc = dc' } ≡ decoded_by (record { answer = a; psn = psn; first = first; lent = record { user = user'; side = side'; dc = words'; work = work' } }) dc =
    λ i. record { keep = s.keep-is i; text = s.text-is i; user = user'; side = side'; dc = s.dc-is i } in
    said
    ∙ ap (λ (o : reader.Outcome). decoded_by o dc) ho
    ∙ ap (λ (m : List ℕ). decoded_by (reader.outcome image (record { user = user; side = side; dc = words; work = m })) dc) hk

-- ---- room for the words

-- the first words of 496: all, or none
front : (t : Bool) → take (cond t 496 0) (zeros 496) ≡ cond t (zeros 496) []
front true = take_all 496 (zeros 496) (omega (arith, length-zeros 496))
front false = refl

pub decode-words : (image user side dc words : List ℕ) (n : ℕ) (r : Decoded) → words ≡ zeros 496 → n ≡ word_count (length dc)
    → r ≡ decoded_words image user side (take n words) dc → r ≡ decoded image user side dc
unfolding decoded
decode-words image user side dc words n r hw hn h =
    h ∙ ap (λ (l : List ℕ). decoded_words image user side l dc) (ap (take n) hw ∙ ap (λ (k : ℕ). take k (zeros 496)) hn ∙ front (eqb (length dc) 1984))
