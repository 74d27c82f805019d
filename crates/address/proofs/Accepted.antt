-- An accepted PSN, its AUNs, and the way back. Assumes nothing.
use mathlib.Core.Path.{◌≡◌, refl, ap, ◌∙◌, sym}
use mathlib.Core.Bool.{Bool, true, false, cond}
use Prim.Native.Nat.{ℕ, ◌*◌, ◌/◌, ◌%◌, ◌^◌, ◌<◌}
use native.Mathlib.Decide.{dec_lt}
use native.Mathlib.Omega.{arith}
use borrow.Author.Tests.{eq-eqb, eqb-true, le-leb}
use lib.Dec.{eqb}
use Rattle.answer.specs.declared.Answer.{Answer}
use Rattle.answer.specs.declared.Answer.TheVariants.{Done, NoMultiple, NoZone}
use Rattle.address.specs.declared.AunAnswer.{AunAnswer}
use Rattle.address.specs.Zones.{in_data_zone, first_of_cluster}
use Rattle.address.specs.Judged.{judged, if_done}
use Rattle.address.specs.Conversions.{aun_of, psn_to_aun, aun_to_psn}
use Rattle.address.proofs.Judging.{past-zones}
use Rattle.address.specs.declared.PsnAnswer.{PsnAnswer}

both-accept : (m z : Bool) → cond m (cond z Done (NoZone 0)) (NoMultiple 0) ≡ Done → (m ≡ true) × (z ≡ true)
both-accept true true e = (refl, refl)
both-accept true false e = let no : ◌≡◌ {A = ℕ} 0 1 = cc in absurd (omega arith)
both-accept false z e = let no : ◌≡◌ {A = ℕ} 0 1 = cc in absurd (omega arith)

module _ (psn : ℕ) (accepted : judged psn ≡ Done) where
  pub accepted-multiple : psn % 32 ≡ 0
  unfolding judged
  accepted-multiple = eqb-true (psn % 32) 0 (both-accept (first_of_cluster psn) (in_data_zone psn) accepted).0

  pub accepted-lt : psn < 0x2000_0000
  unfolding judged
  accepted-lt =
      elim (dec_lt psn 0x2000_0000) [
        | yes h ↦ h
        | no h ↦
            let in-zone : in_data_zone psn ≡ true = (both-accept (first_of_cluster psn) (in_data_zone psn) accepted).1 in
            let past : in_data_zone psn ≡ false = past-zones psn (omega arith) in
            let no : ◌≡◌ {A = ℕ} 0 1 = cc in
            absurd (omega arith)
      ]

  -- the AUN of unit 0 is the PSN
  pub unit-zero : aun_of psn 0 ≡ psn
  unit-zero = omega (arith, accepted-multiple)

  pub aun-lt : (y : ℕ) → y < 16 → aun_of psn y < 2 ^ 32
  aun-lt y h = omega (arith, accepted-lt)

  -- and leads back to it
  pub answered-back : aun_to_psn psn ≡ record { answer = Done; psn = record { 0 = psn } }
  unfolding aun_to_psn
  answered-back =
      let multiple = accepted-multiple in
      let even : eqb (psn % 2) 0 ≡ true = eq-eqb (psn % 2) 0 (omega arith) in
      let cluster : psn / 32 * 32 ≡ psn = omega arith in
      rw (even, cluster, accepted)

-- what is answered for a unit
pub aun-answered : (psn y : ℕ) {unit : AunAnswer} → y < 16 → judged psn ≡ Done → unit ≡ psn_to_aun psn y → unit.aun.0 ≡ aun_of psn y
unfolding psn_to_aun
aun-answered psn y h accepted e =
    ap (λ (u : AunAnswer). u.aun.0) e
    ∙ ap (λ (b : Bool). cond b (if_done (judged psn) (aun_of psn y)) 0) (le-leb y 15 (omega arith))
    ∙ ap (λ (a : Answer). if_done a (aun_of psn y)) accepted

even-accepted : (even : Bool) (a : Answer) → cond even a (NoMultiple 0) ≡ Done → a ≡ Done
even-accepted true a e = e
even-accepted false a e = let no : ◌≡◌ {A = ℕ} 0 1 = cc in absurd (omega arith)

-- a PSN that is answered of an AUN, and accepted
pub answered-accepted : (a : ℕ) {answer : PsnAnswer} → answer ≡ aun_to_psn a → answer.answer ≡ Done → judged answer.psn.0 ≡ Done
unfolding aun_to_psn
answered-accepted a {answer} answered e =
    let done : cond (eqb (a % 2) 0) (judged (a / 32 * 32)) (NoMultiple 0) ≡ Done = sym (ap (λ (x : PsnAnswer). x.answer) answered) ∙ e in
    ap (λ (x : PsnAnswer). judged x.psn.0) answered
    ∙ ap (λ (x : Answer). judged (if_done x (a / 32 * 32))) done
    ∙ even-accepted (eqb (a % 2) 0) (judged (a / 32 * 32)) done
