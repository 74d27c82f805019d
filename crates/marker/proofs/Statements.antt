-- What a pass says: some dc words and some first # make an accepted input whose image this is. From what is promised of the reader. Assumes nothing.
use mathlib.Core.Path.{◌≡◌, refl, sym, ap, subst, ◌∙◌}
use mathlib.Core.Logic.{◌↔◌}
use mathlib.Core.Bool.{Bool, true, false, cond}
use mathlib.Core.List.{List}
use Prim.Native.Nat.{ℕ, ◌≤◌}
use native.Mathlib.Omega.{arith}
use borrow.Author.Tests.{eqb-true, not-false, ltb-false}
use lib.Dec.{eqb, ltb}
use lib.ListN.{length, get_or}
use lib.Seq.{ext_get_or}
use Rattle.laws.specs.Bytes.{Bytes}
use Rattle.laws.specs.Differing.{differs_at}
use Rattle.laws.proofs.Differing.{agrees}
use Rattle.laws.proofs.First.{first-none, first-all}
use Rattle.answer.specs.declared.Answer.{Answer}
use Rattle.answer.specs.declared.Answer.TheVariants.{Done, WrongUser, WrongSide}
use Rattle.answer.specs.Answer.{number_of, is_done, and_then}
use Rattle.answer.proofs.Tests.{done-is, then-both}
use Rattle.lengths.specs.Lengths.{sized}
use Rattle.lengths.proofs.RightLengths.{sized-right}
use Rattle.image.specs.Image as Image
use Rattle.image.specs.Image.{Input, IsAccepted}
use Rattle.reader.specs.Outcome.{Lent, Outcome, outcome}
use Rattle.reader.specs.Promise.{RightSlices}
use Rattle.reader.proofs.Statements.{returned, read-back, nothing-else}
use Rattle.verdict.specs.declared.Verdict.{Verdict}
use Rattle.verdict.specs.declared.Verdict.TheVariants.{Pass, Refused, OtherPsn, OtherUser, OtherSide}
use Rattle.marker.specs.Marked.{IsImageOf, verdict_of, marked_read, Marked, marked}
use Rattle.comparison.specs.Compared.{first_other, compared}
use Rattle.marker.proofs.Judging.{given-done}
use Rattle.comparison.proofs.Compared.{all_same}

-- ---- lists without a difference

-- no difference is found in two lists of n elements exactly where they are the same
no_other : (n : ℕ) (a b : List ℕ) → length a ≡ n → length b ≡ n → n ≤ first_other n a b → a ≡ b
unfolding first_other differs_at
no_other n a b ha hb h = ext_get_or 0 a b (ha ∙ sym hb) (λ k lt. eqb-true (get_or a k 0) (get_or b k 0) (not-false _ (first-all n (differs_at a b) h k (omega arith))))

same_none : (n : ℕ) (a : List ℕ) → n ≤ first_other n a a
unfolding first_other
same_none n a = let none = first-none n (differs_at a a) (record { fails = λ k h. agrees a a k refl }) in omega arith

-- ---- the verdict that is `Pass`

record Same (psn : ℕ) (user side : List ℕ) (found : ℕ) (bytes control : List ℕ) : Type 0 where
  psn-same : found ≡ psn
  user-same : 65536 ≤ first_other 65536 user bytes
  side_same : 592 ≤ first_other 592 side control

compared-pass : (psn : ℕ) (user side : List ℕ) (found : ℕ) (bytes control : List ℕ) → compared psn user side found bytes control ≡ Pass → Same psn user side found bytes control
unfolding compared
compared-pass psn user side found bytes control e = by (eqb found psn) (ltb (first_other 65536 user bytes) 65536) (ltb (first_other 592 side control) 592) refl refl refl e
  where
    by : (p u s : Bool) → eqb found psn ≡ p → ltb (first_other 65536 user bytes) 65536 ≡ u → ltb (first_other 592 side control) 592 ≡ s
        → cond p (cond u (OtherUser (first_other 65536 user bytes)) (cond s (OtherSide (first_other 592 side control)) Pass)) (OtherPsn (record { 0 = found })) ≡ Pass
        → Same psn user side found bytes control
    by true false false hp hu hs e = record { psn-same = eqb-true found psn hp; user-same = ltb-false _ _ hu; side_same = ltb-false _ _ hs }
    by true false true hp hu hs e = let z : ◌≡◌ {A = ℕ} 0 1 = cc in absurd (omega arith)
    by true true s hp hu hs e = let z : ◌≡◌ {A = ℕ} 0 1 = cc in absurd (omega arith)
    by false u s hp hu hs e = let z : ◌≡◌ {A = ℕ} 0 1 = cc in absurd (omega arith)

module _ (psn : ℕ) (user side image : List ℕ) (before : Lent) where
  abbrev read : Outcome
  read = outcome image before

  abbrev given : Answer
  given = and_then (sized (length user) 65536 (WrongUser 0)) (sized (length side) 592 WrongSide)

  verdict-pass : verdict_of psn user side read ≡ Pass → (read.answer ≡ Done) × Same psn user side read.psn read.lent.user read.lent.side
  verdict-pass e = by (is_done read.answer) refl e
    where
      by : (t : Bool) → is_done read.answer ≡ t → cond t (compared psn user side read.psn read.lent.user read.lent.side) (Refused read.answer) ≡ Pass
          → (read.answer ≡ Done) × Same psn user side read.psn read.lent.user read.lent.side
      by true t e = (done-is read.answer t, compared-pass psn user side read.psn read.lent.user read.lent.side e)
      by false t e = let z : ◌≡◌ {A = ℕ} 0 1 = cc in absurd (omega arith)

  marked-pass : (marked psn user side image before).verdict ≡ Pass → (given ≡ Done) × (verdict_of psn user side read ≡ Pass)
  unfolding marked
  marked-pass e = by given (is_done given) refl e
    where
      by : (g : Answer) (t : Bool) → is_done g ≡ t → (cond t (marked_read psn user side read) (record { verdict = Refused g; lent = before })).verdict ≡ Pass
          → (g ≡ Done) × (verdict_of psn user side read ≡ Pass)
      by g true t e = (done-is g t, e)
      by g false t e = let z : ◌≡◌ {A = ℕ} 0 1 = cc in absurd (omega arith)

  -- what passes is an image of what is given
  passed : Bytes image → (marked psn user side image before).verdict ≡ Pass → IsImageOf psn user side image
  passed bytes e =
      let both = marked-pass e in
      let lengths = given-done (length user) (length side) both.0 in
      let pass = verdict-pass both.1 in
      let same = pass.1 in
      let made = nothing-else image before bytes (ap number_of pass.0) in
      let user-is : user ≡ read.lent.user = no_other 65536 user read.lent.user lengths.0 made.0.user.size same.user-same in
      let side-is : side ≡ read.lent.side = no_other 592 side read.lent.side lengths.1 made.0.side.size same.side_same in
      let is : returned read ≡ record { user = user; psn = psn; side = side; dc = read.lent.dc; first = read.first } =
      λ i. record { user = sym user-is i; psn = same.psn-same i; side = sym side-is i; dc = read.lent.dc; first = read.first } in
      record { dc = read.lent.dc; first = read.first; accepted = subst IsAccepted is made.0; image-is = made.1 ∙ ap Image.image is }

  -- and every image of what is given passes
  passing : RightSlices before → IsImageOf psn user side image → (marked psn user side image before).verdict ≡ Pass
  unfolding marked
  passing f is =
      let input : Input = record { user = user; psn = psn; side = side; dc = is.dc; first = is.first } in
      let back = ap (λ (l : List ℕ). outcome l before) is.image-is ∙ read-back input is.accepted before f in
      let right : given ≡ Done =
      then-both (sized (length user) 65536 (WrongUser 0)) (sized (length side) 592 WrongSide) (sized-right (WrongUser 0) is.accepted.user.size)
      (sized-right WrongSide is.accepted.side.size) in
      ap (λ (g : Answer). (cond (is_done g) (marked_read psn user side read) (record { verdict = Refused g; lent = before })).verdict) right
      ∙ ap (verdict_of psn user side) back
      ∙ sym (all_same psn user side psn user side _ _ refl refl (same_none 65536 user) refl (same_none 592 side))

  -- PASS IF AND ONLY IF some dc words and some first # make an accepted input whose image this is
  pub pass-iff : Bytes image → RightSlices before → ((marked psn user side image before).verdict ≡ Pass) ↔ IsImageOf psn user side image
  pass-iff bytes f = (passed bytes, passing f)

  -- as the contract has it: r and l are the verdict and what it leaves
  pub with-pass : (r : Verdict) (l : Lent) → Bytes image → record { verdict = r; lent = l } ≡ marked psn user side image before
      → (record { verdict = r; lent = l } ≡ marked psn user side image before) × (RightSlices before → (r ≡ Pass) ↔ IsImageOf psn user side image)
  with-pass r l bytes e =
      let is : r ≡ (marked psn user side image before).verdict = ap (λ (m : Marked). m.verdict) e in
      (e, λ f. (λ p. passed bytes (sym is ∙ p), λ i. is ∙ passing f i))
