-- The record on a line: its bytes, pair by pair, and that other text and longer lines get 26. Assumes nothing.
use mathlib.Core.Path.{◌≡◌, refl, sym, ap, ap₂, ◌∙◌}
use mathlib.Core.Bool.{Bool, true, false, cond, ◌&&◌, false≢true}
use mathlib.Core.List.{List, [], ◌∷◌, ◌++◌, append-nil, append_assoc}
use Prim.Native.Nat.{ℕ, suc, ◌+◌, ◌*◌, ◌/◌, ◌%◌, ◌<◌, ◌≤◌}
use native.Mathlib.Numerals.{add-one}
use native.Mathlib.Decide.{dec_lt}
use native.Mathlib.Omega.{arith}
use borrow.Author.Tests.{ltb-true, le-leb, lt-leb}
use lib.ListN.{length, get_or, take, drop, set, length-set, drop_of_length-le}
use lib.Seq.{drop-cons, get_or-take, length-take-le, take-suc-set}
use Rattle.laws.proofs.Booleans.{and_left, and_right, and-false}
use Rattle.answer.specs.declared.Answer.TheVariants.{WrongRecord}
use Rattle.notation.specs.Psn.{digit_of}
use Rattle.order_queue.specs.declared.Queue.{Queue}
use Rattle.order_queue.specs.declared.Handled.{Handled}
use Rattle.order_queue.specs.Queue.{quiet, answered_to, handled}
use Rattle.order_queue.proofs.Records.{other-size}
use Rattle.queue_lines.specs.declared.RecordLine.{RecordLine}
use Rattle.queue_lines.specs.Lines.{is_digit, is_record_text, pair_bytes, record_on}
use Rattle.queue_lines.specs.steps.Reading.{pair_of, shown_record, HoldsRecordLine, HoldsRecord}

-- ---- a text of digits

module _ (line : List ℕ) where
  text-record : is_record_text line ≡ true → record_on line ≡ pair_bytes line
  unfolding record_on
  text-record e = ap (λ (t : Bool). cond t (pair_bytes line) []) e

  other-record : is_record_text line ≡ false → record_on line ≡ []
  unfolding record_on
  other-record e = ap (λ (t : Bool). cond t (pair_bytes line) []) e

odd-text : (line : List ℕ) → length line % 2 ≡ 1 → is_record_text line ≡ false
unfolding is_record_text
odd-text [] e = absurd (omega (arith, e))
odd-text (high ∷ []) e = refl
odd-text (high ∷ (low ∷ line)) e = and-false (is_digit high) (is_digit low && is_record_text line) (and-false (is_digit low) (is_record_text line) (odd-text line (omega (arith, e))))

not-all : (a b c : Bool) → (a && b) ≡ false → (a && (b && c)) ≡ false
not-all true true c e = absurd (false≢true (sym e))
not-all true false c e = refl
not-all false b c e = refl

-- ---- what is held of a line

module _ (text : List ℕ) (size : ℕ) where
  shown-short : size ≤ 12 → shown_record text size ≡ record_on (take size text)
  unfolding shown_record
  shown-short h = ap (λ (t : Bool). cond t (record_on (take size text)) []) (le-leb size 12 h)

  pub shown-long : 12 < size → shown_record text size ≡ []
  unfolding shown_record
  shown-long h = ap (λ (t : Bool). cond t (record_on (take size text)) []) (lt-leb size 12 h)

  held-other : size ≤ 12 → is_record_text (take size text) ≡ false → shown_record text size ≡ []
  held-other h e = shown-short h ∙ other-record (take size text) e

  pub held-odd : length text ≡ 12 → size ≤ 12 → (size % 2 ≡ 0 → ⊥) → shown_record text size ≡ []
  held-odd room h odd = held-other h (odd-text (take size text) (omega (arith, length-take-le size text (omega (arith, room, h)), odd)))

-- in a loop: k bytes are read, and the rest of the line decides
pub record PairsRead (text : List ℕ) (size k : ℕ) (bytes : List ℕ) : Type 0 where
  pub held : length text ≡ 12
  pub short : size ≤ 12
  pub even : size % 2 ≡ 0
  pub room : length bytes ≡ 6
  pub within : 2 * k ≤ size
  pub right : is_record_text (drop (2 * k) (take size text)) ≡ is_record_text (take size text)
  pub read : take k bytes ++ pair_bytes (drop (2 * k) (take size text)) ≡ pair_bytes (take size text)

pub pairs-none : {text bytes : List ℕ} {size : ℕ} → length text ≡ 12 → size ≤ 12 → size % 2 ≡ 0 → length bytes ≡ 6 → PairsRead text size 0 bytes
pairs-none held short even room = record { held = held; short = short; even = even; room = room; within = omega arith; right = refl; read = refl }

module _ {text : List ℕ} {size k : ℕ} {bytes : List ℕ} (p : PairsRead text size k bytes) where
  abbrev line : List ℕ
  line = take size text

  line-size : length line ≡ size
  line-size = length-take-le size text (omega (arith, p.held, p.short))

  -- byte is what the next two give
  module _ {byte : ℕ} (more : k < size / 2) (hb : byte ≡ pair_of (get_or text (2 * k) 0) (get_or text (2 * k + 1) 0)) where
    abbrev high : ℕ
    high = get_or line (2 * k) 0

    abbrev low : ℕ
    low = get_or line (2 * k + 1) 0

    abbrev rest : List ℕ
    rest = drop (2 * (k + 1)) line

    is-pair : byte ≡ pair_of high low
    is-pair = hb ∙ sym (ap₂ pair_of (get_or-take size text (2 * k) 0 (omega arith)) (get_or-take size text (2 * k + 1) 0 (omega arith)))

    next : drop (2 * k) line ≡ high ∷ (low ∷ rest)
    next =
        let one : suc (2 * k) ≡ 2 * k + 1 = omega arith in
        let two : suc (2 * k + 1) ≡ 2 * (k + 1) = omega arith in
        drop-cons line (2 * k) 0 (omega (arith, line-size))
        ∙ ap (λ (l : List ℕ). high ∷ l)
        (ap (λ (n : ℕ). drop n line) one ∙ drop-cons line (2 * k + 1) 0 (omega (arith, line-size)) ∙ ap (λ (n : ℕ). low ∷ drop n line) two)

    both-digits : byte < 256 → (is_digit high && is_digit low) ≡ true
    both-digits small = by (is_digit high && is_digit low) is-pair
      where
        by : (t : Bool) → byte ≡ cond t (digit_of high * 16 + digit_of low) 256 → t ≡ true
        by true e = refl
        by false e = absurd (omega (arith, small, e))

    pub pairs-more : byte < 256 → PairsRead text size (k + 1) (set bytes k byte)
    unfolding is_record_text pair_bytes
    pairs-more small =
        let both = both-digits small in
        let is : byte ≡ digit_of high * 16 + digit_of low = is-pair ∙ ap (λ (t : Bool). cond t (digit_of high * 16 + digit_of low) 256) both in
        let here : is_record_text (high ∷ (low ∷ rest)) ≡ is_record_text rest =
        ap₂ (λ (t u : Bool). t && (u && is_record_text rest)) (and_left (is_digit high) (is_digit low) both) (and_right (is_digit high) (is_digit low) both) in
        let front : take (k + 1) (set bytes k byte) ≡ take k bytes ++ (byte ∷ []) =
        ap (λ (n : ℕ). take n (set bytes k byte)) (add-one k) ∙ take-suc-set bytes k byte (omega (arith, more, p.short, p.room)) in
        record {
          held = p.held;
          short = p.short;
          even = p.even;
          room = length-set bytes k byte ∙ p.room;
          within = omega (arith, more);
          right = sym here ∙ sym (ap is_record_text next) ∙ p.right;
          read =
              ap (λ (l : List ℕ). l ++ pair_bytes rest) front
              ∙ append_assoc (take k bytes) (byte ∷ []) (pair_bytes rest)
              ∙ ap (λ (n : ℕ). take k bytes ++ (n ∷ pair_bytes rest)) is
              ∙ sym (ap (λ (l : List ℕ). take k bytes ++ pair_bytes l) next)
              ∙ p.read;
        }

    not-both : 256 ≤ byte → (is_digit high && is_digit low) ≡ false
    not-both large = by (is_digit high && is_digit low) refl is-pair
      where
        by : (t : Bool) → (is_digit high && is_digit low) ≡ t → byte ≡ cond t (digit_of high * 16 + digit_of low) 256 → t ≡ false
        by true both e =
            let a = ltb-true (digit_of high) 16 (and_left (is_digit high) (is_digit low) both) in
            let b = ltb-true (digit_of low) 16 (and_right (is_digit high) (is_digit low) both) in
            absurd (omega (arith, large, e, a, b))
        by false both e = refl

    -- a byte that is no digit
    pub pairs-other : 256 ≤ byte → shown_record text size ≡ []
    unfolding is_record_text
    pairs-other large =
        held-other text size p.short
        (sym p.right ∙ ap is_record_text next ∙ not-all (is_digit high) (is_digit low) (is_record_text rest) (not-both large))

  pub pairs-all : size / 2 ≤ k → HoldsRecord (shown_record text size) (record { bytes = bytes; count = size / 2 })
  unfolding is_record_text pair_bytes
  pairs-all h =
      let all : size / 2 ≡ k = omega (arith, h, p.within) in
      let none : drop (2 * k) line ≡ [] = drop_of_length-le line {i = 2 * k} (omega (arith, line-size, h, p.even)) in
      let right : is_record_text line ≡ true = sym p.right ∙ ap is_record_text none in
      record {
        room = p.room;
        within = omega (arith, all, p.within, p.short);
        first-ones =
            ap (λ (n : ℕ). take n bytes) all
            ∙ sym (append-nil (take k bytes))
            ∙ sym (ap (λ (l : List ℕ). take k bytes ++ pair_bytes l) none)
            ∙ p.read
            ∙ sym (shown-short text size p.short ∙ text-record line right);
      }

-- ---- 26

size-26 : (queue : Queue) (bytes : List ℕ) → (length bytes ≡ 1 → ⊥) → (length bytes ≡ 6 → ⊥) → handled queue bytes ≡ quiet queue WrongRecord
unfolding handled
size-26 queue bytes h i = ap (answered_to queue) (sym (other-size bytes h i))

no_bytes : (queue : Queue) → handled queue [] ≡ quiet queue WrongRecord
no_bytes queue = size-26 queue [] (λ e. omega (arith, e)) (λ e. omega (arith, e))

pair-count : (line : List ℕ) → is_record_text line ≡ true → 2 * length (pair_bytes line) ≡ length line
unfolding is_record_text pair_bytes
pair-count [] e = refl
pair-count (high ∷ []) e = absurd (false≢true e)
pair-count (high ∷ (low ∷ line)) e =
    omega (arith, pair-count line (and_right (is_digit low) (is_record_text line) (and_right (is_digit high) (is_digit low && is_record_text line) e)))

module _ (queue : Queue) (line : List ℕ) where
  -- OTHER TEXT THAN AN EVEN NUMBER OF DIGITS GETS 26
  pub other-26 : is_record_text line ≡ false → handled queue (record_on line) ≡ quiet queue WrongRecord
  other-26 e = ap (handled queue) (other-record line e) ∙ no_bytes queue

  -- AND SO DO DIGITS THAT ARE NOT 2 OR 12
  pub text-26 : is_record_text line ≡ true → (length line ≡ 2 → ⊥) → (length line ≡ 12 → ⊥) → handled queue (record_on line) ≡ quiet queue WrongRecord
  text-26 e h i =
      let count = pair-count line e in
      ap (handled queue) (text-record line e) ∙ size-26 queue (pair_bytes line) (λ z. h (omega (arith, z, count))) (λ z. i (omega (arith, z, count)))

  long-26 : 12 < length line → handled queue (record_on line) ≡ quiet queue WrongRecord
  long-26 h = by (is_record_text line) refl
    where
      by : (t : Bool) → is_record_text line ≡ t → handled queue (record_on line) ≡ quiet queue WrongRecord
      by true e = text-26 e (λ z. omega (arith, h, z)) (λ z. omega (arith, h, z))
      by false e = other-26 e

-- what is held of a line is handled as the line is
pub line-handled : (queue : Queue) {begun bytes : List ℕ} {line : RecordLine} {h : Handled} → h ≡ handled queue bytes
    → bytes ≡ shown_record line.text line.size → HoldsRecordLine begun line → h ≡ handled queue (record_on begun)
line-handled queue {begun} {line = line} hh held holds =
    hh
    ∙ ap (handled queue) held
    ∙ elim (dec_lt 12 (length begun)) [
      | yes long ↦ ap (handled queue) (shown-long line.text line.size (omega (arith, long, holds.size))) ∙ no_bytes queue ∙ sym (long-26 queue begun long)
      | no short ↦
          let all : line.size ≡ length begun = omega (arith, short, holds.size) in
          ap (handled queue)
          (shown-short line.text line.size (omega (arith, short, all)) ∙ ap record_on (ap (λ (n : ℕ). take n line.text) all ∙ holds.bytes (omega (arith, short))))
    ]
