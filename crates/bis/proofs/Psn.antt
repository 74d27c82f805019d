-- The PSN of a block: the search finds the accepted PSN that has the sixteen AUNs, and finds none where there is none. Assumes nothing.
use mathlib.Core.Path.{◌≡◌, refl, sym, ap, ◌∙◌}
use mathlib.Core.Bool.{Bool, true, false, cond, not}
use mathlib.Core.List.{List}
use Prim.Native.Nat.{ℕ, ◌≤◌}
use native.Mathlib.Omega.{arith}
use borrow.Author.Tests.{eq-eqb, eqb-true, ltb-false, not-false}
use lib.Dec.{eqb, ltb}
use Rattle.laws.proofs.First.{first-none, first-all}
use Rattle.answer.specs.Answer.{is_done}
use Rattle.answer.proofs.Tests.{done-is}
use Rattle.address.specs.declared.Psn.{Psn}
use Rattle.address.specs.Judged.{judged}
use Rattle.address.specs.Conversions.{aun_of, aun_to_psn}
use Rattle.address.proofs.Accepted.{unit-zero, answered-back, answered-accepted}
use Rattle.bis.specs.declared.PsnFound.TheVariants.{Found, NotFound}
use Rattle.bis.specs.Reading.{aun_at, IsPsnOf, other_unit, first_other_unit, found_if, psn_in}

-- ---- what is found

is_found : (t b : Bool) (p q : Psn) → cond t (cond b NotFound (Found p)) NotFound ≡ Found q → (t ≡ true) × (b ≡ false) × (p ≡ q)
is_found true true p q e = let no : ◌≡◌ {A = ℕ} 0 1 = cc in absurd (omega arith)
is_found true false p q e = (refl, refl, cc)
is_found false b p q e = let no : ◌≡◌ {A = ℕ} 0 1 = cc in absurd (omega arith)

module _ (block : List (List ℕ)) (psn : ℕ) where
  pub found-is : psn_in block ≡ Found (record { 0 = psn }) → IsPsnOf block psn
  unfolding psn_in first_other_unit other_unit
  found-is e =
      let answer = aun_to_psn (aun_at block 0) in
      let found = is_found (is_done answer.answer) (ltb (first_other_unit block answer.psn.0) 16) answer.psn (record { 0 = psn }) e in
      let same : answer.psn.0 ≡ psn = ap (λ (p : Psn). p.0) found.2 in
      let all : 16 ≤ first_other_unit block psn = ltb-false (first_other_unit block psn) 16 (ap (λ (p : ℕ). ltb (first_other_unit block p) 16) (sym same) ∙ found.1) in
      record {
        accepted = ap judged (sym same) ∙ answered-accepted (aun_at block 0) refl (done-is answer.answer found.0);
        auns = λ y h. eqb-true (aun_at block y) (aun_of psn y) (not-false (eqb (aun_at block y) (aun_of psn y)) (first-all 16 (other_unit block psn) all y h));
      }

  pub is-there : IsPsnOf block psn → psn_in block ≡ Found (record { 0 = psn })
  unfolding psn_in first_other_unit other_unit
  is-there is =
      let zero-unit : aun_at block 0 ≡ psn = is.auns 0 (omega arith) ∙ unit-zero psn is.accepted in
      let none : first_other_unit block psn ≡ 16 = first-none 16 (other_unit block psn) (record { fails = λ y h. ap not (eq-eqb (aun_at block y) (aun_of psn y) (is.auns y h)) }) in
      ap (found_if block) (ap aun_to_psn zero-unit ∙ answered-back psn is.accepted)
      ∙ ap (λ (u : ℕ). cond (ltb u 16) NotFound (Found (record { 0 = psn }))) none
