-- What is promised of the numberings, on their definitions. Assumes nothing.
use mathlib.Core.Path.{◌≡◌, refl, sym, ap, ◌∙◌}
use mathlib.Core.Bool.{Bool, true, false, cond, ◌&&◌}
use mathlib.Core.List.{[], ◌∷◌, map}
use mathlib.Core.Logic.{◌↔◌}
use Prim.Native.Nat.{ℕ, ◌+◌, ◌*◌, ◌-◌, ◌/◌, ◌%◌, ◌^◌, ◌<◌, ◌≤◌}
use native.Mathlib.Omega.{arith}
use borrow.Author.Tests.{eqb-true, eq-eqb, leb-true, le-leb}
use native.Mathlib.Nat.{mul-mod_right, mul-div_cancel_left}
use lib.Arith.{digits_mod}
use lib.Dec.{leb, eqb}
use Rattle.answer.specs.declared.Answer.{Answer}
use Rattle.answer.specs.declared.Answer.TheVariants.{Done, NoMultiple}
use Rattle.answer.specs.Answer.{number_of, is_done}
use Rattle.answer.proofs.Tests.{done-is}
use Rattle.address.specs.Zones.{Zone, zone0, zone1, zone2, within, first_of_cluster}
use Rattle.address.specs.Judged.{judged, if_done}
use Rattle.address.specs.Conversions.{aun_of, paa_of, psn_to_paa, paa_to_psn, aun_to_psn, Leads, IsAunOf, IsPaaOf}
use Rattle.address.proofs.Accepted.{accepted-multiple}

-- ---- document 01's examples

-- accepted, refused by 7, refused by 6
pub examples : map (λ (psn : ℕ). number_of (judged psn))
    (0x0010_0000 ∷ 0x0108_9BE0 ∷ 0x02F7_6400 ∷ 0x0508_9BE0 ∷ 0x000F_FFE0 ∷ 0x0108_9C00 ∷ 0x0600_0000 ∷ 0x0010_0010 ∷ 0x0600_0001 ∷ [])
    ≡ (0 ∷ 0 ∷ 0 ∷ 0 ∷ 7 ∷ 7 ∷ 7 ∷ 6 ∷ 6 ∷ [])
unfolding judged
examples = refl

-- ---- the first and the last PAA of each data zone, which 15.8.3.3 and 15.8.3.4 name (bytes 19 to 22, 23 to 26)

abbrev FAA : ℕ
FAA = 0x5E_EC80

abbrev LAA : ℕ
LAA = 0x21_137E

-- 15.7.4.3: in data zone 2
abbrev LAA2 : ℕ
LAA2 = LAA + 0x80_0000

pub first-paas : map paa_of (zone0.first ∷ zone1.first ∷ zone2.first ∷ []) ≡ 0x02_0000 ∷ FAA ∷ 0x82_0000 ∷ []
first-paas = refl

-- 17.2: the last PSN is 8 times the last PAA, and 15
pub last-psns : map (λ (paa : ℕ). 8 * paa + 15) (LAA ∷ 0x7D_FFFE ∷ LAA2 ∷ []) ≡ zone0.last ∷ zone1.last ∷ zone2.last ∷ []
last-psns = refl

pub last-laa2 : LAA2 ≡ 0xA1_137E
last-laa2 = refl

-- it belongs to the third ADIP word of the last cluster
pub last-words : map (λ (paa : ℕ). paa - 2) (LAA ∷ 0x7D_FFFE ∷ LAA2 ∷ []) ≡ map (λ (last : ℕ). paa_of (last - 31)) (zone0.last ∷ zone1.last ∷ zone2.last ∷ [])
last-words = refl

-- formulas 49 and 50: 25 bits inverted
pub inverted-paas : map (λ (paa : ℕ). 2 ^ 25 - 1 - (paa + 0x180_0001)) (0x02_0000 ∷ LAA ∷ []) ≡ 0x7D_FFFE ∷ FAA ∷ []
inverted-paas = refl

-- ---- how many clusters a zone holds

-- the PSNs of the clusters in z are first + 32 k for k below n, and no others
pub record Holds (z : Zone) (n : ℕ) : Type 0 where
  pub every : (k : ℕ) → k < n → (first_of_cluster (z.first + 32 * k) ≡ true) × (within z (z.first + 32 * k) ≡ true)
  pub only : (psn : ℕ) → first_of_cluster psn ≡ true → within z psn ≡ true → ((psn - z.first) / 32 < n) × (psn ≡ z.first + 32 * ((psn - z.first) / 32))

both_true : (a b : Bool) → (a && b) ≡ true → (a ≡ true) × (b ≡ true)
both_true true b e = (refl, e)
both_true false b e = let z : ◌≡◌ {A = Bool} false true = e in (cc, cc)

-- a zone that starts at a multiple of 32, 32 f, and ends 32 n - 1 behind it
holds : (f n : ℕ) → 0 < n → Holds (record { first = 32 * f; last = 32 * f + 32 * n - 1 }) n
holds f n h =
    record {
      every = λ k hk. (
        eq-eqb ((32 * f + 32 * k) % 32) 0 (ap (λ (x : ℕ). x % 32) {x = 32 * f + 32 * k} {y = 32 * (f + k)} (omega arith) ∙ mul-mod_right 32 (f + k)),
        rw (le-leb (32 * f) (32 * f + 32 * k) (omega arith), le-leb (32 * f + 32 * k) (32 * f + 32 * n - 1) (omega arith)),
      );
      only = λ psn m w.
          let low : 32 * f ≤ psn = leb-true (32 * f) psn (both_true (leb (32 * f) psn) (leb psn (32 * f + 32 * n - 1)) w).0 in
          let high : psn ≤ 32 * f + 32 * n - 1 = leb-true psn (32 * f + 32 * n - 1) (both_true (leb (32 * f) psn) (leb psn (32 * f + 32 * n - 1)) w).1 in
          let multiple : psn % 32 ≡ 0 = eqb-true (psn % 32) 0 m in
          let whole : psn ≡ 32 * (psn / 32) = omega arith in
          let shifted : (psn - 32 * f) / 32 ≡ psn / 32 - f = ap (λ (x : ℕ). x / 32) {x = psn - 32 * f} {y = 32 * (psn / 32 - f)} (omega arith) ∙ mul-div_cancel_left (psn / 32 - f) {n = 32} (omega arith) in
          (omega arith, omega arith);
    }

pub zone0-clusters : Holds zone0 509_152
zone0-clusters = holds 0x8000 509_152 (omega arith)

pub zone1-clusters : Holds zone1 509_152
zone1-clusters = holds 0x17_BB20 509_152 (omega arith)

pub zone2-clusters : Holds zone2 509_152
zone2-clusters = holds 0x20_8000 509_152 (omega arith)

-- ---- address unit numbers

-- the AUN of a cluster's unit is the PSN plus two for each unit before it
pub aun-is : (psn unit : ℕ) → psn % 32 ≡ 0 → aun_of psn unit ≡ psn + 2 * unit
aun-is psn unit m = omega arith

-- the bits that 13.9.2.3 names: AU31 to AU5, AU4 to AU1, AU0
pub aun-bits : (psn unit : ℕ) → unit < 16 → (aun_of psn unit / 32 ≡ psn / 32) × (aun_of psn unit / 2 % 16 ≡ unit) × (aun_of psn unit % 2 ≡ 0)
aun-bits psn unit h =
    let halved : aun_of psn unit / 2 ≡ psn / 32 * 16 + unit = omega arith in
    (omega arith, ap (λ (x : ℕ). x % 16) halved ∙ digits_mod (psn / 32) h, ap (λ (x : ℕ). x % 2) {x = aun_of psn unit} {y = 2 * (psn / 32 * 16 + unit)} (omega arith) ∙ mul-mod_right 2 (psn / 32 * 16 + unit))

-- the AUNs that the standard prints: the first of zones 0 and 2, the last of zone 1
pub printed-auns : (aun_of 0x0010_0000 0 ≡ 0x0010_0000) × (aun_of 0x0410_0000 0 ≡ 0x0410_0000) × (aun_of 0x03EF_FFE0 15 ≡ 0x03EF_FFFE)
printed-auns = (refl, refl, refl)

-- equal AUNs mean the same cluster and the same unit
pub aun-inj : (p q s t : ℕ) → p % 32 ≡ 0 → q % 32 ≡ 0 → s < 16 → t < 16 → aun_of p s ≡ aun_of q t → (p ≡ q) × (s ≡ t)
aun-inj p q s t hp hq hs ht e =
    let cluster : p / 32 ≡ q / 32 = sym (aun-bits p s hs).0 ∙ ap (λ (x : ℕ). x / 32) e ∙ (aun-bits q t ht).0 in
    (omega arith, sym (aun-bits p s hs).1 ∙ ap (λ (x : ℕ). x / 2 % 16) e ∙ (aun-bits q t ht).1)

-- ---- groove addresses

-- the bits that 15.7.4.2 names: the layer number, then the sequence number, then 00
pub paa-bits : (psn : ℕ) → psn % 32 ≡ 0 → (paa_of psn / 2 ^ 22 ≡ psn / 2 ^ 25) × (paa_of psn / 4 ≡ psn / 32) × (paa_of psn % 4 ≡ 0)
paa-bits psn m = (omega arith, omega arith, omega arith)

-- a refused PSN has no PAA, and gets that answer
pub paa-refused : (psn : ℕ) → (judged psn ≡ Done → ⊥) → psn_to_paa psn ≡ record { answer = judged psn; paa = record { 0 = 0 } }
unfolding psn_to_paa
paa-refused psn refused = ap (λ (x : ℕ). record { answer = judged psn; paa = record { 0 = x } }) (by (is_done (judged psn)) refl)
  where
    by : (t : Bool) → is_done (judged psn) ≡ t → cond t (paa_of psn) 0 ≡ 0
    by true e = absurd (refused (done-is (judged psn) e))
    by false e = refl

-- ---- back to the PSN

if-done : (a : Answer) (x : ℕ) → a ≡ Done → if_done a x ≡ x
if-done a x e = ap (λ (b : Answer). if_done b x) e

-- every PAA of an accepted PSN leads back to it, and nothing else leads to a PSN
pub paa-leads : (paa psn : ℕ) → Leads (paa_to_psn paa) psn ↔ IsPaaOf psn paa
unfolding paa_to_psn
paa-leads paa psn = (only, back)
  where
    only : Leads (paa_to_psn paa) psn → IsPaaOf psn paa
    only leads =
        let own : 8 * paa ≡ psn = sym (if-done (judged (8 * paa)) (8 * paa) leads.accepted) ∙ leads.number in
        record { accepted = ap judged (sym own) ∙ leads.accepted; number = omega (arith, own) }

    back : IsPaaOf psn paa → Leads (paa_to_psn paa) psn
    back is =
        let own : 8 * paa ≡ psn = omega (arith, is.number, accepted-multiple psn is.accepted) in
        let accepted : judged (8 * paa) ≡ Done = ap judged own ∙ is.accepted in
        record { accepted = accepted; number = if-done (judged (8 * paa)) (8 * paa) accepted ∙ own }

-- each of the sixteen AUNs of an accepted PSN leads back to it, and nothing else leads to a PSN
pub aun-leads : (aun psn : ℕ) → Leads (aun_to_psn aun) psn ↔ IsAunOf psn aun
unfolding aun_to_psn
aun-leads aun psn = (λ leads. only (eqb (aun % 2) 0) refl leads.accepted leads.number, back)
  where
    only : (even : Bool) → eqb (aun % 2) 0 ≡ even → cond even (judged (aun / 32 * 32)) (NoMultiple 0) ≡ Done
        → if_done (cond even (judged (aun / 32 * 32)) (NoMultiple 0)) (aun / 32 * 32) ≡ psn → IsAunOf psn aun
    only true t accepted number =
        let own : aun / 32 * 32 ≡ psn = sym (if-done (judged (aun / 32 * 32)) (aun / 32 * 32) accepted) ∙ number in
        let even : aun % 2 ≡ 0 = eqb-true (aun % 2) 0 t in
        record { accepted = ap judged (sym own) ∙ accepted; unit = aun / 2 % 16; within = omega arith; number = omega (arith, own, even) }
    only false t accepted number = let no : ◌≡◌ {A = ℕ} 6 0 = ap number_of accepted in absurd (omega arith)

    back : IsAunOf psn aun → Leads (aun_to_psn aun) psn
    back is =
        let bits = aun-bits psn is.unit is.within in
        let even : eqb (aun % 2) 0 ≡ true = eq-eqb (aun % 2) 0 (ap (λ (x : ℕ). x % 2) is.number ∙ bits.2) in
        let own : aun / 32 * 32 ≡ psn = omega (arith, ap (λ (x : ℕ). x / 32) is.number ∙ bits.0, accepted-multiple psn is.accepted) in
        let accepted : cond (eqb (aun % 2) 0) (judged (aun / 32 * 32)) (NoMultiple 0) ≡ Done = rw (even, own) is.accepted in
        record { accepted = accepted; number = if-done _ (aun / 32 * 32) accepted ∙ own }
