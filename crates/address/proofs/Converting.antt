-- What the conversions put together. Assumes nothing.
use mathlib.Core.Path.{◌≡◌, sym, ap, ◌∙◌}
use mathlib.Core.Bool.{Bool, cond}
use Prim.Native.Nat.{ℕ, ◌/◌, ◌<◌, ◌≤◌}
use borrow.Author.Tests.{le-leb, lt-leb}
use lib.Dec.{leb}
use Rattle.answer.specs.declared.Answer.{Answer}
use Rattle.address.specs.declared.PsnAnswer.{PsnAnswer}
use Rattle.address.specs.declared.AunAnswer.{AunAnswer}
use Rattle.address.specs.declared.PaaAnswer.{PaaAnswer}
use Rattle.address.specs.Judged.{judged, if_done}
use Rattle.address.specs.Conversions.{aun_of, psn_to_paa, psn_to_aun, with_psn}

-- a is what is answered of the PSN
module _ (psn : ℕ) (a : Answer) (answered : a ≡ judged psn) where
  -- a number that goes with the answer
  made : (x n : ℕ) → x ≡ if_done a n → x ≡ if_done (judged psn) n
  made x n e = e ∙ ap (λ (b : Answer). if_done b n) answered

  pub paa-made : (x : ℕ) → x ≡ if_done a (psn / 8) → ◌≡◌ {A = PaaAnswer} (record { answer = a; paa = record { 0 = x } }) (psn_to_paa psn)
  unfolding psn_to_paa
  paa-made x e i = record { answer = answered i; paa = record { 0 = made x (psn / 8) e i } }

  pub psn-made : (x : ℕ) → x ≡ if_done a psn → ◌≡◌ {A = PsnAnswer} (record { answer = a; psn = record { 0 = x } }) (with_psn (judged psn) psn)
  psn-made x e i = record { answer = answered i; psn = record { 0 = made x psn e i } }

  pub aun-made : (unit x : ℕ) → unit ≤ 15 → x ≡ if_done a (aun_of psn unit) → ◌≡◌ {A = AunAnswer} (record { answer = a; aun = record { 0 = x } }) (psn_to_aun psn unit)
  unfolding psn_to_aun
  aun-made unit x h e i =
      let number : x ≡ cond (leb unit 15) (if_done (judged psn) (aun_of psn unit)) 0 =
      made x (aun_of psn unit) e ∙ sym (ap (λ (t : Bool). cond t (if_done (judged psn) (aun_of psn unit)) 0) (le-leb unit 15 h)) in
      record { answer = answered i; aun = record { 0 = number i } }

  pub no-such-unit : (unit : ℕ) → 15 < unit → ◌≡◌ {A = AunAnswer} (record { answer = a; aun = record { 0 = 0 } }) (psn_to_aun psn unit)
  unfolding psn_to_aun
  no-such-unit unit h i =
      let number : 0 ≡ cond (leb unit 15) (if_done (judged psn) (aun_of psn unit)) 0 =
      sym (ap (λ (t : Bool). cond t (if_done (judged psn) (aun_of psn unit)) 0) (lt-leb unit 15 h)) in
      record { answer = answered i; aun = record { 0 = number i } }
