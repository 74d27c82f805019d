-- Tests one after the other: what is passed, and what refuses. Assumes nothing.
use mathlib.Core.Path.{◌≡◌, refl, sym, ap, ◌∙◌}
use mathlib.Core.Bool.{Bool, true, false, cond}
use Prim.Native.Nat.{ℕ, ◌<◌, ◌≤◌}
use native.Mathlib.Decide.{dec_lt}
use native.Mathlib.Omega.{arith}
use borrow.Author.Tests.{ne_eqb, eqb-true, lt-ltb, le-ltb, ltb-true}
use lib.Dec.{ltb}
use Rattle.answer.specs.declared.Answer.{Answer}
use Rattle.answer.specs.declared.Answer.TheVariants.{Done, WrongUser, WrongSide, WrongDc, WrongImage, WrongWork, NoMultiple, NoZone, DcWord, LastBits, Sync, Frame, BisColumn, AddressUnit, NoPsn, LdcColumn, Sector, WrongRow, WrongColumn, WrongCount, Repeated, WrongRecord, NoBench, BenchWaiting}
use Rattle.answer.specs.Answer.{number_of, place_of, is_done, and_then, lowest}

-- the answer whose number is 0 is `Done`
pub number-zero : (a : Answer) → number_of a ≡ 0 → a ≡ Done
number-zero Done e = refl
number-zero (WrongUser n) e = absurd (omega arith)
number-zero WrongSide e = absurd (omega arith)
number-zero WrongDc e = absurd (omega arith)
number-zero WrongImage e = absurd (omega arith)
number-zero WrongWork e = absurd (omega arith)
number-zero (NoMultiple n) e = absurd (omega arith)
number-zero (NoZone n) e = absurd (omega arith)
number-zero (DcWord n) e = absurd (omega arith)
number-zero LastBits e = absurd (omega arith)
number-zero (Sync n) e = absurd (omega arith)
number-zero (Frame n) e = absurd (omega arith)
number-zero (BisColumn n) e = absurd (omega arith)
number-zero (AddressUnit n) e = absurd (omega arith)
number-zero NoPsn e = absurd (omega arith)
number-zero (LdcColumn n) e = absurd (omega arith)
number-zero (Sector n) e = absurd (omega arith)
number-zero WrongRow e = absurd (omega arith)
number-zero WrongColumn e = absurd (omega arith)
number-zero WrongCount e = absurd (omega arith)
number-zero (Repeated n) e = absurd (omega arith)
number-zero WrongRecord e = absurd (omega arith)
number-zero NoBench e = absurd (omega arith)
number-zero BenchWaiting e = absurd (omega arith)

pub done-is : (a : Answer) → is_done a ≡ true → a ≡ Done
done-is a e = number-zero a (eqb-true (number_of a) 0 e)

-- as the code has it: r is what was answered, d whether it is `Done`
pub done-told : {a r : Answer} {d : Bool} → r ≡ a → d ≡ is_done r → d ≡ true → a ≡ Done
done-told {r = r} hr hd e = sym hr ∙ done-is r (sym hd ∙ e)

pub done-or-not : (a : Answer) → (number_of a ≡ 0 → ⊥) → is_done a ≡ false
done-or-not a h = ne_eqb (number_of a) 0 h

pub done-not : (a : Answer) → is_done a ≡ false → a ≡ Done → ⊥
done-not a f e = let z : ◌≡◌ {A = Bool} false true = sym f ∙ ap is_done e in let n : ◌≡◌ {A = ℕ} 0 1 = cc in omega arith

-- ---- two tests

module _ (a next : Answer) where
  pub then_next : a ≡ Done → and_then a next ≡ next
  then_next e = ap (λ (x : Answer). and_then x next) e

  pub then-both : a ≡ Done → next ≡ Done → and_then a next ≡ Done
  then-both e f = then_next e ∙ f

  pub then-here : is_done a ≡ false → and_then a next ≡ a
  then-here e = ap (λ (t : Bool). cond t next a) e

  -- both are passed
  pub then-done : and_then a next ≡ Done → (a ≡ Done) × (next ≡ Done)
  then-done e = by (is_done a) refl
    where
      by : (t : Bool) → is_done a ≡ t → (a ≡ Done) × (next ≡ Done)
      by true t = (done-is a t, sym (then_next (done-is a t)) ∙ e)
      by false t = let no = sym (then-here t) ∙ e in (no, sym (then_next no) ∙ e)

-- tests made in groups
pub then-assoc : (a b c : Answer) → and_then (and_then a b) c ≡ and_then a (and_then b c)
then-assoc a b c = by (is_done a) refl
  where
    by : (t : Bool) → is_done a ≡ t → and_then (cond t b a) c ≡ cond t (and_then b c) a
    by true e = refl
    by false e = then-here a c e

-- as the code has them: r is what the first test answered, d whether it is `Done`
module _ (a next r : Answer) (d : Bool) (hr : r ≡ a) (hd : d ≡ is_done r) where
  pub goes_on : (n : Answer) → d ≡ true → n ≡ next → n ≡ and_then a next
  goes_on n e hn = hn ∙ sym (then_next a next (sym hr ∙ done-is r (sym hd ∙ e)))

  pub stops : d ≡ false → r ≡ and_then a next
  stops e = hr ∙ sym (then-here a next (sym (ap is_done hr) ∙ sym hd ∙ e))

-- ---- a test with a place

module _ (refusal : ℕ → Answer) {n i : ℕ} where
  pub lowest-here : i < n → lowest refusal n i ≡ refusal i
  lowest-here h = rw (lt-ltb i n h)

  pub lowest-none : n ≤ i → lowest refusal n i ≡ Done
  lowest-none h = rw (le-ltb i n h)

  pub lowest-end : i ≡ n → lowest refusal n i ≡ Done
  lowest-end e = lowest-none (omega (arith, e))

  pub lowest-done : ((k : ℕ) → is_done (refusal k) ≡ false) → lowest refusal n i ≡ Done → n ≤ i
  lowest-done r e =
      elim (dec_lt i n) [
        | yes h ↦ absurd (done-not (refusal i) (r i) (sym (lowest-here h) ∙ e))
        | no h ↦ omega arith
      ]

-- ---- the places of refusals, below n

pub lowest-within : (refusal : ℕ → Answer) (n i : ℕ) → place_of (refusal i) ≡ i → is_done (lowest refusal n i) ≡ false → place_of (lowest refusal n i) < n
lowest-within refusal n i own e = by (ltb i n) refl e
  where
    by : (t : Bool) → ltb i n ≡ t → is_done (cond t (refusal i) Done) ≡ false → place_of (cond t (refusal i) Done) < n
    by true t e = omega (arith, own, ltb-true i n t)
    by false t e = absurd (done-not Done e refl)

pub then-within : (a next : Answer) (n : ℕ) → (is_done a ≡ false → place_of a < n) → (is_done next ≡ false → place_of next < n)
    → is_done (and_then a next) ≡ false → place_of (and_then a next) < n
then-within a next n ha hn e = by (is_done a) refl e
  where
    by : (t : Bool) → is_done a ≡ t → is_done (cond t next a) ≡ false → place_of (cond t next a) < n
    by true t e = hn e
    by false t e = ha t
