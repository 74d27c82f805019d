-- What the line of a record tells: its answer, bench and PSN; and that it is one line. Assumes nothing.
use mathlib.Core.Path.{◌≡◌, refl, sym, ap, ◌∙◌}
use mathlib.Core.Bool.{Bool, true, false, cond}
use mathlib.Core.List.{List, [], ◌∷◌, ◌++◌, append_assoc}
use Prim.Native.Nat.{ℕ, zero, suc, ◌+◌, ◌/◌, ◌%◌, ◌^◌, ◌≤◌, ◌<◌}
use native.Mathlib.Omega.{arith}
use borrow.Author.Tests.{ne_eqb}
use lib.Dec.{eqb, ltb}
use lib.ListN.{length, take}
use lib.Seq.{take_at}
use Rattle.answer.specs.declared.Answer.{Answer}
use Rattle.answer.specs.declared.Answer.TheVariants.{Done, WrongUser, WrongSide, WrongDc, WrongImage, WrongWork, NoMultiple, NoZone, DcWord, LastBits, Sync, Frame, BisColumn, AddressUnit, NoPsn, LdcColumn, Sector, WrongRow, WrongColumn, WrongCount, Repeated, WrongRecord, NoBench, BenchWaiting}
use Rattle.answer.specs.Answer.{number_of, place_of}
use Rattle.io.specs.Digits.{hex_digit_ascii, last_digits}
use Rattle.std.specs.Prelude.{Option, Some, None}
use Rattle.address.specs.declared.Psn.{Psn}
use Rattle.notation.specs.Psn.{psn_of}
use Rattle.notation.proofs.Statements.{printed-back}
use Rattle.texts.specs.Text.{the}
use Rattle.texts.specs.Numbers.{decimal, hexadecimal}
use Rattle.texts.proofs.Numbers.{length-hexadecimal}
use Rattle.texts.proofs.Distinct.{Digits, no-digit, a-digit, decimal-digits, split, decimal-same}
use Rattle.report.proofs.Statements.{number_small, same_answer}
use Rattle.order_queue.specs.declared.Handled.{Handled}
use Rattle.queue_report.specs.Said.{handled_words, handled_text, is_line}

-- ---- answer, bench and PSN

-- number, place and bench stand before the first three spaces
abbrev own_place : Handled → ℕ
own_place h = place_of h.answer

abbrev from_psn : Handled → List ℕ
from_psn h = hexadecimal h.psn.0 ++ handled_words h.answer

abbrev from_bench : Handled → List ℕ
from_bench h = decimal h.bench ++ (32 ∷ from_psn h)

abbrev from_place : Handled → List ℕ
from_place h = decimal (own_place h) ++ (32 ∷ from_bench h)

from-number : (h : Handled) → decimal (number_of h.answer) ++ (32 ∷ from_place h) ≡ handled_text h
unfolding handled_text
from-number h = simp append_assoc

hexadecimal-same : (n m : ℕ) → n < 2 ^ 32 → m < 2 ^ 32 → hexadecimal n ≡ hexadecimal m → n ≡ m
unfolding hexadecimal
hexadecimal-same n m hn hm e = ap number (sym (printed-back n (omega arith)) ∙ ap psn_of e ∙ printed-back m (omega arith))
  where
    number : Option Psn → ℕ
    number (Some psn) = psn.0
    number None = 0

eight-first : (h : Handled) → take 8 (from_psn h) ≡ hexadecimal h.psn.0
eight-first h = take_at (hexadecimal h.psn.0) (handled_words h.answer) 8 (length-hexadecimal h.psn.0)

-- what can be told: numbers that have room
pub record Printable (h : Handled) : Type 0 where
  pub place-small : place_of h.answer < 10 ^ 20
  pub bench-small : h.bench < 10 ^ 20
  pub psn-small : h.psn.0 < 2 ^ 32

-- DIFFERENT ANSWERS, BENCHES AND PSNS HAVE DIFFERENT LINES
pub handled-differ : (h k : Handled) → Printable h → Printable k → handled_text h ≡ handled_text k → (h.answer ≡ k.answer) × (h.bench ≡ k.bench) × (h.psn.0 ≡ k.psn.0)
handled-differ h k hh hk e =
    let one = split (decimal-digits 20 (number_of h.answer)) (decimal-digits 20 (number_of k.answer)) 32 32 (from_place h) (from_place k) (omega arith) (omega arith) (from-number h ∙ e ∙ sym (from-number k)) in
    let two = split (decimal-digits 20 (own_place h)) (decimal-digits 20 (own_place k)) 32 32 (from_bench h) (from_bench k) (omega arith) (omega arith) one.1 in
    let three = split (decimal-digits 20 h.bench) (decimal-digits 20 k.bench) 32 32 (from_psn h) (from_psn k) (omega arith) (omega arith) two.1 in (
      same_answer h.answer k.answer
          (decimal-same 20 (number_of h.answer) (number_of k.answer) (number_small h.answer) (number_small k.answer) one.0)
          (decimal-same 20 (own_place h) (own_place k) hh.place-small hk.place-small two.0),
      decimal-same 20 h.bench k.bench hh.bench-small hk.bench-small three.0,
      hexadecimal-same h.psn.0 k.psn.0 hh.psn-small hk.psn-small (sym (eight-first h) ∙ ap (take 8) three.1 ∙ eight-first k),
    )

-- ---- one line

-- behind a digit
digit-line : (d : ℕ) (m : List ℕ) → 48 ≤ d → is_line m ≡ true → is_line (d ∷ m) ≡ true
unfolding is_line
digit-line d m h e = ap (λ (t : Bool). cond t (eqb (length m) 0) (is_line m)) (ne_eqb d 10 (λ z. omega (arith, z))) ∙ e

line-behind : {l : List ℕ} (m : List ℕ) → Digits l → is_line m ≡ true → is_line (l ++ m) ≡ true
line-behind m no-digit e = e
line-behind m (a-digit {d} {l} h ds) e = digit-line d (l ++ m) h (line-behind m ds e)

line-behind-psn : (k n : ℕ) (m : List ℕ) → is_line m ≡ true → is_line (last_digits 16 k n ++ m) ≡ true
line-behind-psn zero n m e = e
line-behind-psn (suc k) n m e =
    ap is_line (append_assoc (last_digits 16 k (n / 16)) (hex_digit_ascii (n % 16) ∷ []) m) ∙ line-behind-psn k (n / 16) (hex_digit_ascii (n % 16) ∷ m) (digit-line (hex_digit_ascii (n % 16)) m (by (ltb (n % 16) 10)) e)
  where
    by : (t : Bool) → 48 ≤ cond t (48 + n % 16) (87 + n % 16)
    by true = omega arith
    by false = omega arith

words-line : (a : Answer) → is_line (handled_words a) ≡ true
unfolding is_line
words-line Done = refl
words-line (WrongUser n) = refl
words-line WrongSide = refl
words-line WrongDc = refl
words-line WrongImage = refl
words-line WrongWork = refl
words-line (NoMultiple n) = refl
words-line (NoZone n) = refl
words-line (DcWord n) = line-behind (the " is above 0FFFFFFF\n") (decimal-digits 20 n) refl
words-line LastBits = refl
words-line (Sync n) = line-behind (the " is wrong\n") (decimal-digits 20 n) refl
words-line (Frame n) = line-behind (the " and the # behind it\n") (decimal-digits 20 n) refl
words-line (BisColumn n) = line-behind (the " has a wrong parity\n") (decimal-digits 20 n) refl
words-line (AddressUnit n) = line-behind (the " has a wrong parity\n") (decimal-digits 20 n) refl
words-line NoPsn = refl
words-line (LdcColumn n) = line-behind (the " has a wrong parity\n") (decimal-digits 20 n) refl
words-line (Sector n) = line-behind (the " has a wrong error-detection code\n") (decimal-digits 20 n) refl
words-line WrongRow = refl
words-line WrongColumn = refl
words-line WrongCount = refl
words-line (Repeated n) = refl
words-line WrongRecord = refl
words-line NoBench = refl
words-line BenchWaiting = refl

-- A RECORD GETS ONE LINE
pub handled-line : (h : Handled) → is_line (handled_text h) ≡ true
unfolding is_line hexadecimal
handled-line h =
    let psn : is_line (from_psn h) ≡ true = line-behind-psn 8 h.psn.0 (handled_words h.answer) (words-line h.answer) in
    let bench : is_line (from_bench h) ≡ true = line-behind (32 ∷ from_psn h) (decimal-digits 20 h.bench) psn in
    let place : is_line (from_place h) ≡ true = line-behind (32 ∷ from_bench h) (decimal-digits 20 (own_place h)) bench in
    sym (ap is_line (from-number h)) ∙ line-behind (32 ∷ from_place h) (decimal-digits 20 (number_of h.answer)) place
