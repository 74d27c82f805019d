-- What encode leaves is that of the writer's outcome. Assumes nothing.
use mathlib.Core.Path.{◌≡◌, refl, ap, ap₂, ◌∙◌}
use mathlib.Core.Bool.{Bool, true, false, cond}
use mathlib.Core.List.{List, []}
use Prim.Native.Nat.{ℕ}
use native.Mathlib.Omega.{arith}
use borrow.Author.Tests.{eq-eqb}
use lib.Dec.{eqb}
use lib.ListN.{length, take}
use lib.Seq.{take_all}
use Rattle.laws.specs.Zeros.{zeros}
use Rattle.laws.proofs.Zeros.{length-zeros}
use Rattle.answer.specs.declared.Answer.{Answer}
use Rattle.answer.specs.Answer.{is_done}
use Rattle.notation.specs.Words.{word_count, words_of, words_read}
use Rattle.notation.proofs.Words.{length-words}
use Rattle.writer.specs.Outcome as writer
use Rattle.texts.specs.declared.Text.{Text}
use Rattle.texts.specs.Text.{text_of}
use Rattle.report.specs.Words.{answer_text}
use Rattle.encoding.specs.Encoded.{Encoded, encoded_by, encoded_words, encoded}

pub words-encoded : (psn : ℕ) (user side words : List ℕ) (first : Bool) (image image' work work' : List ℕ) (a : Answer) (keep : Bool) (t : Text)
    → work ≡ zeros 76880
    → record { answer = a; image = image'; work = work' } ≡ writer.outcome (record { user = user; psn = psn; side = side; dc = words; first = first }) image work
    → keep ≡ is_done a → t ≡ text_of (answer_text a)
    → record { keep = keep; text = t; image = image' } ≡ encoded_words psn user side words first image
words-encoded psn user side words first image image' work work' a keep t hk ho hd ht =
    ap₂ (λ (b : Bool) (x : Text). record { keep = b; text = x; image = image' }) hd ht
    ∙ ap encoded_by ho
    ∙ ap (λ (m : List ℕ). encoded_by (writer.outcome (record { user = user; psn = psn; side = side; dc = words; first = first }) image m)) hk

-- the first words of those that were read: all, or none
front : (dc words : List ℕ) → length words ≡ 496 → (t : Bool) → take (cond t 496 0) (cond t (cond (eqb (length words) 496) (words_of dc) words) words) ≡ cond t (words_of dc) []
front dc words size true = rw (eq-eqb (length words) 496 size) (take_all 496 (words_of dc) (omega (arith, length-words dc)))
front dc words size false = refl

pub encode-words : (psn : ℕ) (user side dc : List ℕ) (first : Bool) (image words words' : List ℕ) (n : ℕ) (r : Encoded) → words ≡ zeros 496 → words' ≡ words_read dc words → n ≡ word_count (length dc)
    → r ≡ encoded_words psn user side (take n words') first image → r ≡ encoded psn user side dc first image
unfolding encoded words_read
encode-words psn user side dc first image words words' n r hw hr hn h =
    h ∙ ap (λ (l : List ℕ). encoded_words psn user side l first image) (ap₂ (λ (k : ℕ) (l : List ℕ). take k l) hn hr ∙ front dc words (ap length hw ∙ length-zeros 496) (eqb (length dc) 1984))
