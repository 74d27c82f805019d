-- The cases of what is answered of a PSN. Assumes nothing.
use mathlib.Core.Path.{◌≡◌, refl, sym, ap, ◌∙◌}
use mathlib.Core.Bool.{Bool, true, false, cond}
use Prim.Native.Nat.{ℕ, ◌*◌, ◌/◌, ◌%◌, ◌<◌, ◌≤◌}
use native.Mathlib.Nat.{mul-mod_right}
use native.Mathlib.Omega.{arith}
use borrow.Author.Tests.{eq-eqb, ne_eqb, le-leb, lt-leb}
use lib.Dec.{leb}
use Rattle.answer.specs.declared.Answer.{Answer}
use Rattle.answer.specs.declared.Answer.TheVariants.{Done, NoMultiple, NoZone}
use Rattle.answer.specs.Answer.{number_of, is_done}
use Rattle.address.specs.declared.PsnAnswer.{PsnAnswer}
use Rattle.address.specs.Zones.{within, zone0, zone1, zone2, in_data_zone, first_of_cluster}
use Rattle.address.specs.Judged.{judged, if_done}
use Rattle.address.specs.Conversions.{with_psn, paa_to_psn, aun_to_psn}

-- ---- zones

pub before-zone : (first last psn : ℕ) → psn < first → false ≡ within (record { first = first; last = last }) psn
before-zone first last psn h = rw (lt-leb first psn h)

pub after_first : (first last psn : ℕ) → first ≤ psn → leb psn last ≡ within (record { first = first; last = last }) psn
after_first first last psn h = rw (le-leb first psn h)

-- r, s and t are what the tests of the three zones answer
module _ (psn : ℕ) (r s t : Bool) (hr : r ≡ within zone0 psn) where
  pub in-zone0 : r ≡ true → true ≡ in_data_zone psn
  in-zone0 e = let z0 : within zone0 psn ≡ true = cc in rw z0

  pub in-zone1 : r ≡ false → s ≡ within zone1 psn → s ≡ true → true ≡ in_data_zone psn
  in-zone1 e hs f = let z0 : within zone0 psn ≡ false = cc in let z1 : within zone1 psn ≡ true = cc in rw (z0, z1)

  pub in-zone2 : r ≡ false → s ≡ within zone1 psn → s ≡ false → t ≡ within zone2 psn → t ≡ in_data_zone psn
  in-zone2 e hs f ht = let z0 : within zone0 psn ≡ false = cc in let z1 : within zone1 psn ≡ false = cc in rw (z0, z1) ht

-- ---- the judgement

pub no-multiple : (psn : ℕ) → (psn % 32 ≡ 0 → ⊥) → NoMultiple 0 ≡ judged psn
unfolding judged
no-multiple psn h = rw (ne_eqb (psn % 32) 0 h)

-- r is what the test of the zones answers
module _ (psn : ℕ) (r : Bool) (h : psn % 32 ≡ 0) (hr : r ≡ in_data_zone psn) where
  pub no-zone : r ≡ false → NoZone 0 ≡ judged psn
  unfolding judged
  no-zone e = let zone : in_data_zone psn ≡ false = sym hr ∙ e in rw (eq-eqb (psn % 32) 0 h, zone)

  pub accepted : r ≡ true → Done ≡ judged psn
  unfolding judged
  accepted e = let zone : in_data_zone psn ≡ true = sym hr ∙ e in rw (eq-eqb (psn % 32) 0 h, zone)

-- what is answered neither by 6 nor by 7 is accepted
pub accepted-else : (psn : ℕ) → (number_of (judged psn) ≡ 6 → ⊥) → (number_of (judged psn) ≡ 7 → ⊥) → judged psn ≡ Done
unfolding judged
accepted-else psn = by (first_of_cluster psn) (in_data_zone psn)
  where
    by : (m z : Bool) → let a = cond m (cond z Done (NoZone 0)) (NoMultiple 0) in (number_of a ≡ 6 → ⊥) → (number_of a ≡ 7 → ⊥) → a ≡ Done
    by true true six seven = refl
    by true false six seven = absurd (seven refl)
    by false z six seven = absurd (six refl)

-- no zone reaches above 29 bits
pub past-zones : (psn : ℕ) → 0x2000_0000 ≤ psn → in_data_zone psn ≡ false
past-zones psn h =
    rw (le-leb 0x0010_0000 psn (omega arith), lt-leb psn 0x0108_9BFF (omega arith), le-leb 0x02F7_6400 psn (omega arith), lt-leb psn 0x03EF_FFFF (omega arith), le-leb 0x0410_0000 psn (omega arith), lt-leb psn 0x0508_9BFF (omega arith))

-- ---- a value is 0 on refusal; t is whether the answer is `Done`

module _ (a : Answer) (x : ℕ) (t : Bool) (ht : t ≡ is_done a) where
  pub value-given : t ≡ true → x ≡ if_done a x
  value-given e = let done : is_done a ≡ true = sym ht ∙ e in rw done

  pub value-zero : t ≡ false → 0 ≡ if_done a x
  value-zero e = let done : is_done a ≡ false = sym ht ∙ e in rw done

-- ---- the conversions

-- a PAA whose cluster's PSN would be no multiple of 32, or above every zone
pub paa-off-cluster : (paa : ℕ) → (paa % 4 ≡ 0 → ⊥) → record { answer = NoMultiple 0; psn = record { 0 = 0 } } ≡ paa_to_psn paa
unfolding paa_to_psn
paa-off-cluster paa h = rw (sym (no-multiple (8 * paa) (λ e. let quarter : paa ≡ 4 * (8 * paa / 32) = omega arith in h (ap (λ (x : ℕ). x % 4) quarter ∙ mul-mod_right 4 (8 * paa / 32)))))

pub paa-too-high : (paa : ℕ) → paa % 4 ≡ 0 → 0x1FFF_FFFF < paa → record { answer = NoZone 0; psn = record { 0 = 0 } } ≡ paa_to_psn paa
unfolding paa_to_psn
paa-too-high paa m h = rw (sym (no-zone (8 * paa) false (omega arith) (sym (past-zones (8 * paa) (omega arith))) refl))

pub aun-odd : (aun : ℕ) → (aun % 2 ≡ 0 → ⊥) → record { answer = NoMultiple 0; psn = record { 0 = 0 } } ≡ aun_to_psn aun
unfolding aun_to_psn
aun-odd aun h = rw (ne_eqb (aun % 2) 0 h)

pub aun-even : (aun : ℕ) (r : PsnAnswer) → aun % 2 ≡ 0 → r ≡ with_psn (judged (aun / 32 * 32)) (aun / 32 * 32) → r ≡ aun_to_psn aun
unfolding aun_to_psn
aun-even aun r h e = rw (eq-eqb (aun % 2) 0 h) e
