-- Address unit numbers (AUN, 13.9.2.3), groove addresses (PAA, 15.7.4.2), and what the conversions answer.
-- A value is 0 where its input is refused.
use Rattle.std.specs.Prelude.{◌≡◌, cond, ℕ, ◌+◌, ◌*◌, ◌/◌, ◌%◌, ◌<◌, leb, eqb}
use Rattle.answer.specs.declared.Answer.{Answer}
use Rattle.answer.specs.declared.Answer.TheVariants.{Done, NoMultiple}
use Rattle.address.specs.declared.PsnAnswer.{PsnAnswer}
use Rattle.address.specs.declared.AunAnswer.{AunAnswer}
use Rattle.address.specs.declared.PaaAnswer.{PaaAnswer}
use Rattle.address.specs.Judged.{judged, if_done}

-- AU31 to AU5 are PS31 to PS5, AU4 to AU1 count the address units of the cluster, AU0 is ZERO
abbrev pub aun_of : ℕ → ℕ → ℕ
aun_of psn unit = psn / 32 * 32 + unit * 2

-- The PAA of the cluster's first ADIP word, PSN ÷ 8 (document 01): AA24 to AA2 are PS27 to PS5, layer and sequence number, and AA1, AA0 are 00,
-- the first of the three words of a recording-unit block (proofs/Statements: paa-bits). Figure 90 is lost in our text.
abbrev pub paa_of : ℕ → ℕ
paa_of psn = psn / 8

-- PSN to PAA
unfoldable pub psn_to_paa : ℕ → PaaAnswer
psn_to_paa psn = record { answer = judged psn; paa = record { 0 = if_done (judged psn) (paa_of psn) } }

-- PSN and address unit to AUN; 0 for a unit above 15
unfoldable pub psn_to_aun : ℕ → ℕ → AunAnswer
psn_to_aun psn unit = record { answer = judged psn; aun = record { 0 = cond (leb unit 15) (if_done (judged psn) (aun_of psn unit)) 0 } }

-- an answer, with the PSN that it is given of
abbrev pub with_psn : Answer → ℕ → PsnAnswer
with_psn answer psn = record { answer = answer; psn = record { 0 = if_done answer psn } }

-- PAA to PSN: that of the cluster whose first word has the PAA
unfoldable pub paa_to_psn : ℕ → PsnAnswer
paa_to_psn paa = with_psn (judged (8 * paa)) (8 * paa)

-- AUN to the PSN of its cluster; 6 where AU0 is ONE
unfoldable pub aun_to_psn : ℕ → PsnAnswer
aun_to_psn aun = with_psn (cond (eqb (aun % 2) 0) (judged (aun / 32 * 32)) (NoMultiple 0)) (aun / 32 * 32)

-- ---- what the way back means (proofs/Statements: aun-leads, paa-leads)

-- the answer is an accepted PSN, this one
pub record Leads (answer : PsnAnswer) (psn : ℕ) : Type 0 where
  pub accepted : answer.answer ≡ Done
  pub number : answer.psn.0 ≡ psn

-- one of the sixteen AUNs of an accepted PSN
pub record IsAunOf (psn aun : ℕ) : Type 0 where
  pub accepted : judged psn ≡ Done
  pub unit : ℕ
  pub within : unit < 16
  pub number : aun ≡ aun_of psn unit

-- the PAA of an accepted PSN; a refused one has none
pub record IsPaaOf (psn paa : ℕ) : Type 0 where
  pub accepted : judged psn ≡ Done
  pub number : paa ≡ paa_of psn
