-- What is promised of a text: which lines it has, which records stand on them, and that each gets one line. Assumes nothing.
use mathlib.Core.Path.{◌≡◌, refl, ap, ap₂, ◌∙◌}
use mathlib.Core.Bool.{Bool, true, false, cond, ◌&&◌, false≢true}
use mathlib.Core.List.{List, [], ◌∷◌, ◌++◌, map, append_assoc}
use Prim.Native.Nat.{ℕ, suc, ◌/◌, ◌%◌, ◌<◌}
use native.Mathlib.Omega.{arith}
use borrow.Author.Tests.{eqb-true, eqb-false, lt-ltb}
use lib.Dec.{eqb}
use lib.ListN.{length}
use Rattle.laws.specs.Bytes.{Bytes}
use Rattle.laws.proofs.Booleans.{and-true}
use Rattle.io.specs.Digits.{hex_digit_ascii}
use Rattle.notation.specs.Psn.{digit_of}
use Rattle.notation.proofs.Statements.{digit-back}
use Rattle.texts.specs.Text.{the}
use Rattle.order_queue.specs.declared.Queue.{Queue}
use Rattle.order_queue.specs.Queue.{empty_queue, handled}
use Rattle.queue_report.specs.Said.{handled_text, is_line}
use Rattle.queue_report.proofs.Statements.{handled-line}
use Rattle.queue_lines.specs.Lines.{begun_by, lines_of, is_digit, is_record_text, pair_bytes, record_on, said_of, text_said}
use Rattle.queue_lines.specs.steps.Reading.{unbroken}
use Rattle.queue_lines.proofs.Lines.{lines-byte, lines-feed, line-ended, line-last}

-- ---- lines

-- each with a line feed behind it
abbrev joined : List (List ℕ) → List ℕ
joined [] = []
joined (line ∷ lines) = line ++ (10 ∷ joined lines)

-- no line feed stands in any of them
pub data EachUnbroken : List (List ℕ) → Type 0 where
  no_lines : EachUnbroken []
  a-line : {line : List ℕ} {lines : List (List ℕ)} → unbroken line ≡ true → EachUnbroken lines → EachUnbroken (line ∷ lines)

-- LINES THAT ARE WRITTEN ARE READ, AND ONE THAT HAS NO LINE FEED BEHIND THEM
pub lines-back : {lines : List (List ℕ)} → EachUnbroken lines → lines_of (joined lines) ≡ lines
unfolding lines_of
lines-back no_lines = refl
lines-back (a-line {line} {lines} e rest) = line-ended line (joined lines) 10 refl e ∙ ap (λ (l : List (List ℕ)). line ∷ l) (lines-back rest)

pub last-line-back : {lines : List (List ℕ)} (last : List ℕ) → EachUnbroken lines → unbroken last ≡ true → (length last ≡ 0 → ⊥) → lines_of (joined lines ++ last) ≡ lines ++ (last ∷ [])
last-line-back last no_lines e some = line-last last e some
last-line-back last (a-line {line} {lines} f rest) e some =
    ap lines_of (append_assoc line (10 ∷ joined lines) last)
    ∙ line-ended line (joined lines ++ last) 10 refl f
    ∙ ap (λ (l : List (List ℕ)). line ∷ l) (last-line-back last rest e some)

-- ---- records

-- two digits a byte
abbrev written : List ℕ → List ℕ
written [] = []
written (b ∷ bytes) = hex_digit_ascii (b / 16) ∷ (hex_digit_ascii (b % 16) ∷ written bytes)

written-bytes : (bytes : List ℕ) → Bytes bytes → (is_record_text (written bytes) ≡ true) × (pair_bytes (written bytes) ≡ bytes)
unfolding is_record_text pair_bytes
written-bytes [] small = (refl, refl)
written-bytes (b ∷ bytes) small =
    let byte : b < 256 = small 0 in
    let high = digit-back (b / 16) (omega (arith, byte)) in
    let low = digit-back (b % 16) (omega arith) in
    let rest = written-bytes bytes (λ i. small (suc i)) in
    let digits : (is_digit (hex_digit_ascii (b / 16)) ≡ true) × (is_digit (hex_digit_ascii (b % 16)) ≡ true) =
    (lt-ltb (digit_of (hex_digit_ascii (b / 16))) 16 (omega (arith, high, byte)), lt-ltb (digit_of (hex_digit_ascii (b % 16))) 16 (omega (arith, low))) in (
      and-true (is_digit (hex_digit_ascii (b / 16))) (is_digit (hex_digit_ascii (b % 16)) && is_record_text (written bytes)) digits.0
          (and-true (is_digit (hex_digit_ascii (b % 16))) (is_record_text (written bytes)) digits.1 rest.0),
      ap₂ (λ (n : ℕ) (l : List ℕ). n ∷ l) (omega (arith, high, low)) rest.1,
    )

-- A RECORD THAT IS WRITTEN IS READ
pub record-back : (bytes : List ℕ) → Bytes bytes → record_on (written bytes) ≡ bytes
unfolding record_on
record-back bytes small =
    let is = written-bytes bytes small in
    ap (λ (t : Bool). cond t (pair_bytes (written bytes)) []) is.0 ∙ is.1

-- ---- examples: an ended line and one that is not, an empty line, no line; letters, a carriage return, a digit alone

pub examples :
    (lines_of (the "02\n0a") ≡ the "02" ∷ the "0a" ∷ [])
    × (lines_of (the "\n02\n") ≡ [] ∷ the "02" ∷ [])
    × (lines_of [] ≡ [])
    × (record_on (the "0a1Bff") ≡ 10 ∷ 27 ∷ 255 ∷ [])
    × (record_on (the "02\r") ≡ [])
    × (record_on (the "2") ≡ [])
unfolding lines_of record_on is_record_text pair_bytes digit_of
examples = (refl, refl, refl, refl, refl, refl)

-- ---- each line gets one

-- a line more
line-counts : (l rest : List ℕ) → is_line l ≡ true → length (lines_of (l ++ rest)) ≡ suc (length (lines_of rest))
unfolding is_line
line-counts [] rest e = absurd (false≢true e)
line-counts (b ∷ l) rest e = by (eqb b 10) refl e (line-counts l rest)
  where
    begun : (lines : List (List ℕ)) (n : ℕ) → length lines ≡ suc n → length (begun_by b lines) ≡ suc n
    begun [] n h = absurd (omega (arith, h))
    begun (line ∷ lines) n h = h

    none : (l : List ℕ) → length l ≡ 0 → l ≡ []
    none [] h = refl
    none (c ∷ l) h = absurd (omega (arith, h))

    by : (t : Bool) → eqb b 10 ≡ t → cond t (eqb (length l) 0) (is_line l) ≡ true → (is_line l ≡ true → length (lines_of (l ++ rest)) ≡ suc (length (lines_of rest)))
        → length (lines_of (b ∷ (l ++ rest))) ≡ suc (length (lines_of rest))
    by true t e more =
        ap length (lines-feed b (l ++ rest) (eqb-true b 10 t))
        ∙ ap (λ (m : List ℕ). suc (length (lines_of (m ++ rest)))) (none l (eqb-true (length l) 0 e))
    by false t e more = ap length (lines-byte b (l ++ rest) (eqb-false b 10 t)) ∙ begun (lines_of (l ++ rest)) (length (lines_of rest)) (more e)

said-lines : (queue : Queue) (lines : List (List ℕ)) → length (lines_of (said_of queue (map record_on lines))) ≡ length lines
unfolding said_of lines_of
said-lines queue [] = refl
said-lines queue (line ∷ lines) =
    let h = handled queue (record_on line) in
    line-counts (handled_text h) (said_of h.queue (map record_on lines)) (handled-line h) ∙ ap suc (said-lines h.queue lines)

-- AS MANY LINES ARE PRINTED AS ARE READ
pub each-one-line : (text : List ℕ) → length (lines_of (text_said text)) ≡ length (lines_of text)
unfolding text_said
each-one-line text = said-lines empty_queue (lines_of text)
