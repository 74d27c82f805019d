-- The words of an answer, of what was read and of a verdict: how long they are, and how they are put together. Assumes nothing.
use mathlib.Core.Path.{◌≡◌, refl, sym, ap, ap₂, ◌∙◌}
use mathlib.Core.Bool.{Bool, true, false}
use mathlib.Core.List.{List, ◌++◌, append_assoc}
use Prim.Native.Nat.{ℕ, ◌≤◌}
use native.Mathlib.Omega.{arith}
use lib.ListN.{length, length-append}
use Rattle.answer.specs.declared.Answer.{Answer}
use Rattle.answer.specs.declared.Answer.TheVariants.{Done, WrongUser, WrongSide, WrongDc, WrongImage, WrongWork, NoMultiple, NoZone, DcWord, LastBits, Sync, Frame, BisColumn, AddressUnit, NoPsn, LdcColumn, Sector, WrongRow, WrongColumn, WrongCount, Repeated, WrongRecord, NoBench, BenchWaiting}
use Rattle.answer.specs.Answer.{number_of, place_of}
use Rattle.verdict.specs.declared.Verdict.{Verdict}
use Rattle.verdict.specs.declared.Verdict.TheVariants.{Pass, Refused, OtherPsn, OtherUser, OtherSide}
use Rattle.texts.specs.declared.Text.{Text}
use Rattle.texts.specs.Text.{the, text_of, blank_text, added}
use Rattle.texts.specs.Numbers.{decimal, hexadecimal}
use Rattle.texts.specs.Pieces.{piece}
use Rattle.texts.proofs.Texts.{added-two, added-three, from-blank}
use Rattle.texts.proofs.Numbers.{decimal-short}
use Rattle.report.specs.Words.{meaning, answer_text, psn_text, first_text, read_text, verdict_text}

-- ---- every text has room

pub meaning-short : (a : Answer) → length (meaning a) ≤ 66
meaning-short Done = omega arith
meaning-short (WrongUser n) = omega arith
meaning-short WrongSide = omega arith
meaning-short WrongDc = omega arith
meaning-short WrongImage = omega arith
meaning-short WrongWork = omega arith
meaning-short (NoMultiple n) = omega arith
meaning-short (NoZone n) = omega arith
meaning-short (DcWord n) = simp length-append (omega (arith, decimal-short 20 n))
meaning-short LastBits = omega arith
meaning-short (Sync n) = simp length-append (omega (arith, decimal-short 20 n))
meaning-short (Frame n) = simp length-append (omega (arith, decimal-short 20 n))
meaning-short (BisColumn n) = simp length-append (omega (arith, decimal-short 20 n))
meaning-short (AddressUnit n) = simp length-append (omega (arith, decimal-short 20 n))
meaning-short NoPsn = omega arith
meaning-short (LdcColumn n) = simp length-append (omega (arith, decimal-short 20 n))
meaning-short (Sector n) = simp length-append (omega (arith, decimal-short 20 n))
meaning-short WrongRow = omega arith
meaning-short WrongColumn = omega arith
meaning-short WrongCount = omega arith
meaning-short (Repeated n) = omega arith
meaning-short WrongRecord = omega arith
meaning-short NoBench = omega arith
meaning-short BenchWaiting = omega arith

pub answer-short : (a : Answer) → length (answer_text a) ≤ 256
unfolding answer_text
answer-short a = simp length-append (omega (arith, decimal-short 20 (number_of a), decimal-short 20 (place_of a), meaning-short a))

pub psn-short : (psn : ℕ) → length (psn_text psn) ≡ 9
unfolding psn_text hexadecimal
psn-short psn = refl

pub read_short : (psn : ℕ) (first : Bool) → length (read_text psn first) ≡ 19
unfolding read_text
read_short psn true = omega (arith, length-append (psn_text psn) (first_text true), psn-short psn)
read_short psn false = omega (arith, length-append (psn_text psn) (first_text false), psn-short psn)

pub verdict-short : (v : Verdict) → length (verdict_text v) ≤ 256
unfolding verdict_text
verdict-short Pass = omega arith
verdict-short (Refused a) = answer-short a
verdict-short (OtherPsn psn) = omega (arith, psn-short psn.0)
verdict-short (OtherUser n) = simp length-append (omega (arith, decimal-short 20 n))
verdict-short (OtherSide n) = simp length-append (omega (arith, decimal-short 20 n))

-- ---- answers and verdicts; b is the blank text that is begun with

-- a piece of l was put; each answer's piece of l says what the answer means
abbrev pub EachMeans : (text t : Text) (number place : ℕ) (l : List ℕ) → t ≡ added text (piece number place l) → Type 0
EachMeans text t number place l h = (a : Answer) → piece (number_of a) (place_of a) l ≡ meaning a

pub means : (text t : Text) (a : Answer) (number place : ℕ) (l : List ℕ) (h : t ≡ added text (piece number place l)) → number ≡ number_of a → place ≡ place_of a
    → EachMeans text t number place l h → t ≡ added text (meaning a)
means text t a number place l h hn hp each = h ∙ ap (added text) (ap₂ (λ (n p : ℕ). piece n p l) hn hp ∙ each a)

pub answer-is : (a : Answer) (number place : ℕ) (b t u v : Text) → b ≡ blank_text → number ≡ number_of a → t ≡ added b (decimal number) → place ≡ place_of a
    → u ≡ added t (the " " ++ decimal place ++ the "\n") → v ≡ added u (meaning a) → v ≡ text_of (answer_text a)
unfolding answer_text
answer-is a number place b t u v hb hn ht hp hu hv =
    let whole = added-three b (decimal number) (the " " ++ decimal place ++ the "\n") (meaning a) t u v ht hu hv in
    let same : decimal number ++ (the " " ++ decimal place ++ the "\n") ++ meaning a ≡ answer_text a =
    ap₂ (λ (m n : ℕ). decimal m ++ (the " " ++ decimal n ++ the "\n") ++ meaning a) hn hp ∙ simp append_assoc in
    from-blank (answer_text a) v (answer-short a) (whole ∙ ap₂ added hb same)

pub psn-behind-is : (words : List ℕ) (psn : ℕ) (b t u v : Text) → b ≡ blank_text → t ≡ added b words → u ≡ added t (hexadecimal psn) → v ≡ added u (the "\n")
    → v ≡ added blank_text (words ++ psn_text psn)
unfolding psn_text
psn-behind-is words psn b t u v hb ht hu hv =
    added-three b words (hexadecimal psn) (the "\n") t u v ht hu hv ∙ ap₂ added hb (append_assoc words (hexadecimal psn) (the "\n"))

-- of a first # that is known to be h
pub read-text-is : (psn : ℕ) (first h : Bool) (t u : Text) → first ≡ h → t ≡ added blank_text (psn_text psn) → u ≡ added t (first_text h) → u ≡ text_of (read_text psn first)
unfolding read_text
read-text-is psn first h t u e ht hu =
    from-blank (read_text psn first) u (omega (arith, read_short psn first))
    (added-two blank_text (psn_text psn) (first_text h) t u ht hu ∙ ap (λ (f : Bool). added blank_text (psn_text psn ++ first_text f)) (sym e))

-- of a verdict that is known to be k
pub verdict-is : (v k : Verdict) (b t : Text) → v ≡ k → b ≡ blank_text → t ≡ added b (verdict_text k) → t ≡ text_of (verdict_text v)
verdict-is v k b t e hb h = from-blank (verdict_text v) t (verdict-short v) (h ∙ ap₂ (λ (x : Text) (w : Verdict). added x (verdict_text w)) hb (sym e))

pub refused-is : (v : Verdict) (a : Answer) (t : Text) → v ≡ Refused a → t ≡ text_of (answer_text a) → t ≡ text_of (verdict_text v)
unfolding verdict_text
refused-is v a t e h = h ∙ ap (λ (w : Verdict). text_of (verdict_text w)) (sym e)
