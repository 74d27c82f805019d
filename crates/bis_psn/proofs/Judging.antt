-- The AUNs of a block, and its PSN. Assumes nothing.
use mathlib.Core.Path.{◌≡◌, refl, sym, ap, ap₂, ◌∙◌}
use mathlib.Core.Bool.{Bool, true, false, cond, not}
use mathlib.Core.List.{List}
use Prim.Native.Nat.{ℕ, ◌<◌}
use borrow.Author.Tests.{lt-ltb, le-ltb}
use native.Mathlib.Omega.{arith}
use lib.Dec.{eqb, ltb}
use lib.ListN.{get_or}
use Rattle.std.specs.Prelude.{Option, Some, None, is_some, SomeIff}
use Rattle.big_endian.specs.Words.{word_of}
use Rattle.answer.specs.declared.Answer.TheVariants.{Done}
use Rattle.answer.specs.Answer.{is_done}
use Rattle.answer.proofs.Tests.{done-is}
use Rattle.address.specs.declared.AunAnswer.{AunAnswer}
use Rattle.address.specs.declared.PsnAnswer.{PsnAnswer}
use Rattle.address.specs.Judged.{judged}
use Rattle.address.specs.Conversions.{psn_to_aun, aun_to_psn}
use Rattle.address.proofs.Accepted.{aun-answered, answered-accepted}
use Rattle.bis.specs.AddressField.{restored, aun_in}
use Rattle.bis.specs.Reading.{primary_in, aun_at, other_unit, first_other_unit, found_if, psn_in}
use Rattle.bis.specs.declared.PsnFound.TheVariants.{Found, NotFound}

-- n is the word of a primary address field's first bytes, the first restored
pub aun-read : (block : List (List ℕ)) (y : ℕ) {primary : List ℕ} {high n : ℕ} → primary ≡ primary_in block y → high ≡ restored (get_or primary 0 0)
    → n ≡ word_of high (get_or primary 1 0) (get_or primary 2 0) (get_or primary 3 0) → n ≡ aun_at block y
aun-read block y {primary} read first e =
    e ∙ ap (λ (h : ℕ). word_of h (get_or primary 1 0) (get_or primary 2 0) (get_or primary 3 0)) first ∙ ap aun_in read

-- a is the AUN that is read, and unit what is answered of the PSN
pub unit-judged : (block : List (List ℕ)) (psn y : ℕ) {a : ℕ} {unit : AunAnswer} → a ≡ aun_at block y → y < 16 → judged psn ≡ Done → unit ≡ psn_to_aun psn y
    → not (eqb a unit.aun.0) ≡ other_unit block psn y
unfolding other_unit
unit-judged block psn y read h accepted answered = ap₂ (λ (m n : ℕ). not (eqb m n)) read (aun-answered psn y h accepted answered)

-- ---- the PSN

-- a is the AUN of unit 0, answer what is answered of it, and d whether that is `Done`
module _ (block : List (List ℕ)) {a : ℕ} {answer : PsnAnswer} {d : Bool} (read : a ≡ aun_at block 0) (answered : answer ≡ aun_to_psn a) (hd : d ≡ is_done answer.answer) where
  found-by : (t b : Bool) → d ≡ t → ltb (first_other_unit block answer.psn.0) 16 ≡ b → cond t (cond b NotFound (Found answer.psn)) NotFound ≡ psn_in block
  unfolding psn_in
  found-by t b e differ =
      sym (ap₂ (λ (t b : Bool). cond t (cond b NotFound (Found answer.psn)) NotFound) (sym hd ∙ e) differ)
      ∙ ap (found_if block) (answered ∙ ap aun_to_psn read)

  pub psn-refused : d ≡ false → NotFound ≡ psn_in block
  psn-refused e = found-by false (ltb (first_other_unit block answer.psn.0) 16) e refl

  pub psn-accepted : d ≡ true → judged answer.psn.0 ≡ Done
  psn-accepted e = answered-accepted a answered (done-is answer.answer (sym hd ∙ e))

  module _ (e : d ≡ true) where
    pub psn-differs : (other : Option ℕ) → SomeIff other (first_other_unit block answer.psn.0 < 16) (first_other_unit block answer.psn.0) → is_some other ≡ true
        → NotFound ≡ psn_in block
    psn-differs (Some u) found some = found-by true true e (lt-ltb (first_other_unit block answer.psn.0) 16 found.0)
    psn-differs None found some = absurd cc

    pub psn-agrees : (other : Option ℕ) → SomeIff other (first_other_unit block answer.psn.0 < 16) (first_other_unit block answer.psn.0) → is_some other ≡ false
        → Found answer.psn ≡ psn_in block
    psn-agrees (Some u) found none = absurd cc
    psn-agrees None found none = found-by true false e (le-ltb (first_other_unit block answer.psn.0) 16 (omega (arith, found)))
