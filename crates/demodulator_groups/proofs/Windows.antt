-- Six and nine bits as two and three groups, and groups behind groups. Assumes nothing.
use mathlib.Core.List.{List, [], ◌∷◌, ◌++◌}
use mathlib.Core.Path.{◌≡◌, ap, ap₂, ◌∙◌}
use Prim.Native.Nat.{ℕ, zero, suc, ◌+◌, ◌*◌, ◌/◌, ◌%◌, ◌<◌}
use native.Mathlib.Omega.{arith}
use lib.Dec.{eqb, eqb→eq}
use lib.ListN.{get_or}
use Rattle.laws.proofs.Finite.{all, all₂, all₃, all₃-at}
use Rattle.bits.specs.Bits.{Bits, three_at}
use Rattle.bits.specs.steps.LowBits.{LowBits}
use Rattle.bits.proofs.Read.{eight-sum}
use Rattle.modulation.specs.Modulation.{Three, three_number}
use Rattle.modulation.specs.Bits.{three}
use Rattle.modulation.proofs.Fronts.{three-injective}
use Rattle.modulation.specs.steps.Groups.{groups_at}
use Rattle.automaton.specs.steps.Table.{group_numbered, two_groups, three_groups}

-- ---- groups by number

group-three : (x y z : ℕ) → x < 2 → y < 2 → z < 2 → group_numbered (4 * x + 2 * y + z) ≡ three x y z
unfolding all all₂ all₃
group-three x y z hx hy hz =
    three-injective (group_numbered (4 * x + 2 * y + z)) (three x y z)
    (eqb→eq _ _ (all₃-at 2 2 2 (λ x y z. eqb (three_number (group_numbered (4 * x + 2 * y + z))) (three_number (three x y z))) tt x y z hx hy hz))

module _ (b : List ℕ) (h : Bits b) where
  group-here : (p g : ℕ) → g ≡ three_at b p → group_numbered g ≡ three (get_or b p 0) (get_or b (p + 1) 0) (get_or b (p + 2) 0)
  group-here p g e = ap group_numbered e ∙ group-three (get_or b p 0) (get_or b (p + 1) 0) (get_or b (p + 2) 0) (h p) (h (p + 1)) (h (p + 2))

  three-below-8 : (p : ℕ) → three_at b p < 8
  three-below-8 p = omega (arith, h p, h (p + 1), h (p + 2))

  two-groups : (p v : ℕ) → v ≡ 8 * three_at b p + three_at b (p + 3) → two_groups v ≡ groups_at b p 2
  unfolding groups_at
  two-groups p v e =
      ap₂ (λ (x y : Three). x ∷ y ∷ []) (group-here p (v / 8) (omega (arith, three-below-8 (p + 3)))) (group-here (p + 3) (v % 8) (omega (arith, three-below-8 (p + 3))))

  three-groups : (p v : ℕ) → v ≡ 64 * three_at b p + 8 * three_at b (p + 3) + three_at b (p + 3 + 3) → three_groups v ≡ groups_at b p 3
  unfolding groups_at
  three-groups p v e =
      let one = group-here p (v / 64) (omega (arith, three-below-8 (p + 3), three-below-8 (p + 3 + 3))) in
      let two = group-here (p + 3) (v / 8 % 8) (omega (arith, three-below-8 p, three-below-8 (p + 3), three-below-8 (p + 3 + 3))) in
      let three = group-here (p + 3 + 3) (v % 8) (omega (arith, three-below-8 (p + 3 + 3))) in
      λ i. one i ∷ two i ∷ three i ∷ []

-- ---- low bits as groups

halves : (y a b c : ℕ) → y / a / 4 ≡ y / b → y / a / 2 ≡ y / c → 4 * (y / a / 4 % 2) + 2 * (y / a / 2 % 2) + y / a % 2 ≡ 4 * (y / b % 2) + 2 * (y / c % 2) + y / a % 2
halves y a b c e f = ap₂ (λ (u v : ℕ). 4 * (u % 2) + 2 * (v % 2) + y / a % 2) e f

eight-high : (y : ℕ) → y / 8 % 8 ≡ 4 * (y / 32 % 2) + 2 * (y / 16 % 2) + y / 8 % 2
eight-high y = eight-sum (y / 8) ∙ halves y 8 32 16 (omega arith) (omega arith)

eight-higher : (y : ℕ) → y / 64 % 8 ≡ 4 * (y / 256 % 2) + 2 * (y / 128 % 2) + y / 64 % 2
eight-higher y = eight-sum (y / 64) ∙ halves y 64 256 128 (omega arith) (omega arith)

six-parts : (y : ℕ) → y % 64 ≡ 8 * (y / 8 % 8) + y % 8
six-parts y = omega arith

nine-parts : (y : ℕ) → y % 512 ≡ 64 * (y / 64 % 8) + 8 * (y / 8 % 8) + y % 8
nine-parts y = omega arith

whole : (y : ℕ) → y % 2 ≡ y / 1 % 2
whole y = omega arith

module _ (b : List ℕ) (h : Bits b) (p v : ℕ) where
  abbrev bit : ℕ → ℕ
  bit q = get_or b q 0

  on : (q r : ℕ) → q ≡ r → bit q ≡ bit r
  on q r e = ap bit e

  pub six-groups : LowBits b p 6 v → two_groups (v % 64) ≡ groups_at b p 2
  six-groups low =
      let e0 = low.each 0 (omega arith) ∙ on (p + 0) p (omega arith) in
      let e1 = low.each 1 (omega arith) in
      let e2 = low.each 2 (omega arith) in
      let e3 = low.each 3 (omega arith) in
      let e4 = low.each 4 (omega arith) ∙ on (p + 4) (p + 3 + 1) (omega arith) in
      let e5 = whole v ∙ low.each 5 (omega arith) ∙ on (p + 5) (p + 3 + 2) (omega arith) in
      let one : v / 8 % 8 ≡ three_at b p = eight-high v ∙ λ i. 4 * e0 i + 2 * e1 i + e2 i in
      let two : v % 8 ≡ three_at b (p + 3) = eight-sum v ∙ λ i. 4 * e3 i + 2 * e4 i + e5 i in
      two-groups b h p (v % 64) (six-parts v ∙ ap₂ (λ (x y : ℕ). 8 * x + y) one two)

  pub nine-groups : LowBits b p 9 v → three_groups (v % 512) ≡ groups_at b p 3
  nine-groups low =
      let e0 = low.each 0 (omega arith) ∙ on (p + 0) p (omega arith) in
      let e1 = low.each 1 (omega arith) in
      let e2 = low.each 2 (omega arith) in
      let e3 = low.each 3 (omega arith) in
      let e4 = low.each 4 (omega arith) ∙ on (p + 4) (p + 3 + 1) (omega arith) in
      let e5 = low.each 5 (omega arith) ∙ on (p + 5) (p + 3 + 2) (omega arith) in
      let e6 = low.each 6 (omega arith) ∙ on (p + 6) (p + 3 + 3) (omega arith) in
      let e7 = low.each 7 (omega arith) ∙ on (p + 7) (p + 3 + 3 + 1) (omega arith) in
      let e8 = whole v ∙ low.each 8 (omega arith) ∙ on (p + 8) (p + 3 + 3 + 2) (omega arith) in
      let one : v / 64 % 8 ≡ three_at b p = eight-higher v ∙ λ i. 4 * e0 i + 2 * e1 i + e2 i in
      let two : v / 8 % 8 ≡ three_at b (p + 3) = eight-high v ∙ λ i. 4 * e3 i + 2 * e4 i + e5 i in
      let three : v % 8 ≡ three_at b (p + 3 + 3) = eight-sum v ∙ λ i. 4 * e6 i + 2 * e7 i + e8 i in
      three-groups b h p (v % 512) (nine-parts v ∙ λ i. 64 * one i + 8 * two i + three i)

-- ---- groups behind groups

pub groups-append : (b : List ℕ) (p m n : ℕ) → groups_at b p (m + n) ≡ groups_at b p m ++ groups_at b (p + 3 * m) n
unfolding groups_at
groups-append b p zero n = ap₂ (groups_at b) (here p) (none n)
  where
    here : (p : ℕ) → p ≡ p + 3 * 0
    here p = omega arith

    none : (n : ℕ) → 0 + n ≡ n
    none n = omega arith
groups-append b p (suc m) n = ap (groups_at b p) (one m n) ∙ ap (λ (gs : List Three). three (get_or b p 0) (get_or b (p + 1) 0) (get_or b (p + 2) 0) ∷ gs) (groups-append b (p + 3) m n ∙ ap (λ (q : ℕ). groups_at b (p + 3) m ++ groups_at b q n) (on p m))
  where
    one : (m n : ℕ) → suc m + n ≡ suc (m + n)
    one m n = omega arith

    on : (p m : ℕ) → p + 3 + 3 * m ≡ p + 3 * suc m
    on p m = omega arith
