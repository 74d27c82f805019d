-- What a text tells: for an answer its number and place; `pass` for a pass alone. Assumes nothing.
use mathlib.Core.Path.{◌≡◌, refl, sym, ap, ap₂, ◌∙◌}
use mathlib.Core.List.{List, [], ◌∷◌, ◌++◌, append_assoc}
use Prim.Native.Nat.{ℕ, ◌^◌, ◌<◌}
use native.Mathlib.Omega.{arith}
use lib.ListN.{get_or}
use Rattle.answer.specs.declared.Answer.{Answer}
use Rattle.answer.specs.declared.Answer.TheVariants.{Done, WrongUser, WrongSide, WrongDc, WrongImage, WrongWork, NoMultiple, NoZone, DcWord, LastBits, Sync, Frame, BisColumn, AddressUnit, NoPsn, LdcColumn, Sector, WrongRow, WrongColumn, WrongCount, Repeated, WrongRecord, NoBench, BenchWaiting}
use Rattle.answer.specs.Answer.{number_of, place_of}
use Rattle.verdict.specs.declared.Verdict.{Verdict}
use Rattle.verdict.specs.declared.Verdict.TheVariants.{Pass, Refused, OtherPsn, OtherUser, OtherSide}
use Rattle.texts.specs.Text.{the}
use Rattle.texts.specs.Numbers.{decimal}
use Rattle.texts.proofs.Distinct.{decimal-digits, split, decimal-same, digit-first}
use Rattle.report.specs.Words.{meaning, answer_text, verdict_text}

-- an answer's text begins with a digit
answer-first : (a : Answer) → get_or (answer_text a) 0 0 < 58
unfolding answer_text
answer-first a = simp append_assoc (digit-first 19 (number_of a) _)

-- `pass` IS PRINTED FOR A PASS ALONE
pub pass-only : (v : Verdict) → verdict_text v ≡ the "pass\n" → v ≡ Pass
unfolding verdict_text
pass-only Pass e = refl
pass-only (Refused a) e = absurd (omega (arith, answer-first a, ap (λ (l : List ℕ). get_or l 0 0) e))
pass-only (OtherPsn psn) e = absurd (omega (arith, ap (λ (l : List ℕ). get_or l 0 0) e))
pass-only (OtherUser n) e = absurd (omega (arith, ap (λ (l : List ℕ). get_or l 0 0) e))
pass-only (OtherSide n) e = absurd (omega (arith, ap (λ (l : List ℕ). get_or l 0 0) e))

-- ---- answers: number and place tell the answer

-- by number; no answer has 17 to 20 or 25
abbrev answers : ℕ → List Answer
answers n =
    Done ∷ WrongUser n ∷ WrongSide ∷ WrongDc ∷ WrongImage ∷ WrongWork ∷ NoMultiple n ∷ NoZone n ∷ DcWord n ∷ LastBits ∷ Sync n ∷ Frame n ∷ BisColumn n ∷ AddressUnit n ∷ NoPsn ∷ LdcColumn n ∷ Sector n ∷ Done ∷ Done ∷ Done ∷ Done ∷ WrongRow ∷ WrongColumn ∷ WrongCount ∷ Repeated n ∷ Done ∷ WrongRecord ∷ NoBench ∷ BenchWaiting ∷ []

told : (a : Answer) → (get_or (answers (place_of a)) (number_of a) Done ≡ a) × (number_of a < 10 ^ 20)
told Done = (refl, omega arith)
told (WrongUser n) = (refl, omega arith)
told WrongSide = (refl, omega arith)
told WrongDc = (refl, omega arith)
told WrongImage = (refl, omega arith)
told WrongWork = (refl, omega arith)
told (NoMultiple n) = (refl, omega arith)
told (NoZone n) = (refl, omega arith)
told (DcWord n) = (refl, omega arith)
told LastBits = (refl, omega arith)
told (Sync n) = (refl, omega arith)
told (Frame n) = (refl, omega arith)
told (BisColumn n) = (refl, omega arith)
told (AddressUnit n) = (refl, omega arith)
told NoPsn = (refl, omega arith)
told (LdcColumn n) = (refl, omega arith)
told (Sector n) = (refl, omega arith)
told WrongRow = (refl, omega arith)
told WrongColumn = (refl, omega arith)
told WrongCount = (refl, omega arith)
told (Repeated n) = (refl, omega arith)
told WrongRecord = (refl, omega arith)
told NoBench = (refl, omega arith)
told BenchWaiting = (refl, omega arith)

pub number_small : (a : Answer) → number_of a < 10 ^ 20
number_small a = (told a).1

pub same_answer : (a b : Answer) → number_of a ≡ number_of b → place_of a ≡ place_of b → a ≡ b
same_answer a b hn hp = sym (told a).0 ∙ ap₂ (λ (n p : ℕ). get_or (answers p) n Done) hn hp ∙ (told b).0

-- the first line is number and place
number-and-place : (a : Answer) → answer_text a ≡ decimal (number_of a) ++ (32 ∷ (decimal (place_of a) ++ (10 ∷ meaning a)))
unfolding answer_text
number-and-place a = simp append_assoc

-- DIFFERENT ANSWERS HAVE DIFFERENT TEXTS
pub answers-differ : (a b : Answer) → place_of a < 10 ^ 20 → place_of b < 10 ^ 20 → answer_text a ≡ answer_text b → a ≡ b
answers-differ a b ha hb e =
    let lines = sym (number-and-place a) ∙ e ∙ number-and-place b in
    let one = split (decimal-digits 20 (number_of a)) (decimal-digits 20 (number_of b)) 32 32 (decimal (place_of a) ++ (10 ∷ meaning a)) (decimal (place_of b) ++ (10 ∷ meaning b)) (omega arith) (omega arith) lines in
    let two = split (decimal-digits 20 (place_of a)) (decimal-digits 20 (place_of b)) 10 10 (meaning a) (meaning b) (omega arith) (omega arith) one.1 in
    same_answer a b (decimal-same 20 (number_of a) (number_of b) (number_small a) (number_small b) one.0)
    (decimal-same 20 (place_of a) (place_of b) ha hb two.0)
