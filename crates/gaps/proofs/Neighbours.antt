-- The gap lengths that are counted are those between neighbouring ones (demand 3's), as often as there are such, and no others. Assumes nothing.
use mathlib.Core.Path.{◌≡◌, refl, sym, ap, ap₂, subst, ◌∙◌}
use mathlib.Core.Logic.{◌↔◌}
use mathlib.Core.Bool.{true, ◌&&◌, cond}
use mathlib.Core.List.{List, [], ◌∷◌}
use Prim.Native.Nat.{ℕ, zero, suc, ◌+◌, ◌-◌, ◌<◌}
use native.Mathlib.Nat.{not-suc-le-zero}
use native.Mathlib.Decide.{dec_lt}
use native.Mathlib.Omega.{arith}
use borrow.Author.Tests.{eqb-true, eq-eqb}
use lib.Dec.{eqb}
use lib.ListN.{length, get_or, drop, get_or-eq_default}
use lib.Seq.{get_or-drop}
use Rattle.laws.specs.HowMany.{how_many}
use Rattle.laws.proofs.HowMany.{some-passes, passes-some}
use Rattle.laws.proofs.Tabulate.{get_d_tabulate}
use Rattle.bits.specs.Bits.{Bits}
use Rattle.modulation.specs.Gaps.{Neighbours}
use Rattle.laws.proofs.Booleans.{and_left, and_right}
use Rattle.gaps.specs.Gaps.{gaps_after, gaps, count, gap_counts, ends_gap, gap_at}

-- ---- the first one of a list

record Leads (l : List ℕ) (k : ℕ) : Type 0 where
  one : get_or l k 0 ≡ 1
  zeros : (i : ℕ) → i < k → get_or l i 0 ≡ 0

leads-behind : (l : List ℕ) (k : ℕ) → Leads l k → Leads (0 ∷ l) (suc k)
leads-behind l k h = record { one = h.one; zeros = zeros }
  where
    zeros : (i : ℕ) → i < suc k → get_or (0 ∷ l) i 0 ≡ 0
    zeros zero g = refl
    zeros (suc i) g = h.zeros i (omega arith)

leads-ahead : (x : ℕ) (l : List ℕ) (k : ℕ) → Leads (x ∷ l) (suc k) → Leads l k
leads-ahead x l k h = record { one = h.one; zeros = λ i g. h.zeros (suc i) (omega arith) }

tail-bits : (x : ℕ) (l : List ℕ) → Bits (x ∷ l) → Bits l
tail-bits x l b i = b (suc i)

-- it ends a gap of the zeros in front of it, with z more
ends-leads : (l : List ℕ) → Bits l → (n z : ℕ) → ends_gap z n l ≡ true → (k : ℕ) × (Leads l k × (n ≡ z + k))
ends-leads [] b n z e = let no : ◌≡◌ {A = ℕ} 0 1 = cc in absurd (omega arith)
ends-leads (zero ∷ l) b n z e = let p = ends-leads l (tail-bits 0 l b) n (suc z) e in (suc p.0, (leads-behind l p.0 p.1.0, omega (arith, p.1.1)))
ends-leads (suc x ∷ l) b n z e = (0, (record { one = omega (arith, b 0); zeros = λ i g. absurd (not-suc-le-zero g) }, omega (arith, eqb-true z n e)))

leads-ends : (l : List ℕ) (z k n : ℕ) → Leads l k → n ≡ z + k → ends_gap z n l ≡ true
leads-ends [] z k n h e = let no : ◌≡◌ {A = ℕ} 0 1 = h.one in absurd (omega arith)
leads-ends (zero ∷ l) z zero n h e = let no : ◌≡◌ {A = ℕ} 0 1 = h.one in absurd (omega arith)
leads-ends (zero ∷ l) z (suc k) n h e = leads-ends l (suc z) k n (leads-ahead 0 l k h) (omega arith)
leads-ends (suc x ∷ l) z zero n h e = eq-eqb z n (omega arith)
leads-ends (suc x ∷ l) z (suc k) n h e = let no : suc x ≡ 0 = h.zeros 0 (omega arith) in absurd (omega arith)

-- ---- the test is demand 3's proposition

module _ (l : List ℕ) (n i : ℕ) where
  leads-neighbours : get_or l i 0 ≡ 1 → Leads (drop (suc i) l) n → Neighbours l i (i + suc n)
  leads-neighbours e h = record { before = omega arith; one-i = e; one-j = at (i + suc n) n (omega arith) ∙ h.one; zeros = λ k f g. at k (k - suc i) (omega arith) ∙ h.zeros (k - suc i) (omega arith) }
    where
      at : (k j : ℕ) → suc i + j ≡ k → get_or l k 0 ≡ get_or (drop (suc i) l) j 0
      at k j e = sym (get_or-drop (suc i) l j 0 ∙ ap (λ (m : ℕ). get_or l m 0) e)

  neighbours-leads : Neighbours l i (i + suc n) → Leads (drop (suc i) l) n
  neighbours-leads s = record { one = at n ∙ ap (λ (m : ℕ). get_or l m 0) last ∙ s.one-j; zeros = λ k h. at k ∙ s.zeros (suc i + k) (omega arith) (omega arith) }
    where
      at : (j : ℕ) → get_or (drop (suc i) l) j 0 ≡ get_or l (suc i + j) 0
      at j = get_or-drop (suc i) l j 0

      last : suc i + n ≡ i + suc n
      last = omega arith

  -- ones at i and at i + n + 1, and zeros between them
  pub gap-at-iff : Bits l → (gap_at l n i ≡ true) ↔ Neighbours l i (i + suc n)
  gap-at-iff b = (to, from)
    where
      bits-behind : Bits (drop (suc i) l)
      bits-behind k = rw (get_or-drop (suc i) l k 0) (b (suc i + k))

      to : gap_at l n i ≡ true → Neighbours l i (i + suc n)
      to e =
          let p = ends-leads (drop (suc i) l) bits-behind n 0 (and_right (eqb (get_or l i 0) 1) _ e) in
          let k-is : p.0 ≡ n = omega (arith, p.1.1) in
          leads-neighbours (eqb-true (get_or l i 0) 1 (and_left (eqb (get_or l i 0) 1) _ e)) (subst (Leads (drop (suc i) l)) k-is p.1.0)

      from : Neighbours l i (i + suc n) → gap_at l n i ≡ true
      from s = ap₂ ◌&&◌ (eq-eqb (get_or l i 0) 1 s.one-i) (leads-ends (drop (suc i) l) 0 n n (neighbours-leads s) (omega arith))

-- ---- how often

-- behind z zeros of a gap that has begun
begun-often : (l : List ℕ) → Bits l → (n z : ℕ) → count n (gaps_after z l) ≡ cond (ends_gap z n l) (suc (how_many (length l) (gap_at l n))) (how_many (length l) (gap_at l n))
unfolding how_many
begun-often [] b n z = refl
begun-often (zero ∷ l) b n z = begun-often l (tail-bits 0 l b) n (suc z)
begun-often (suc zero ∷ l) b n z = ap (λ (c : ℕ). cond (eqb z n) (suc c) c) (begun-often l (tail-bits 1 l b) n 0)
begun-often (suc (suc x) ∷ l) b n z = absurd (omega (arith, b 0))

-- the count of a gap length is the number of places i with neighbouring ones at i and i + n + 1
counted-often : (l : List ℕ) → Bits l → (n : ℕ) → count n (gaps l) ≡ how_many (length l) (gap_at l n)
unfolding how_many
counted-often [] b n = refl
counted-often (zero ∷ l) b n = counted-often l (tail-bits 0 l b) n
counted-often (suc zero ∷ l) b n = begun-often l (tail-bits 1 l b) n 0
counted-often (suc (suc x) ∷ l) b n = absurd (omega (arith, b 0))

-- of the lengths 1 to 8
pub counts-often : (l : List ℕ) → Bits l → (k : ℕ) → k < 8 → get_or (gap_counts l) k 0 ≡ how_many (length l) (gap_at l (suc k))
unfolding gap_counts
counts-often l b k h = get_d_tabulate 8 (λ k. count (suc k) (gaps l)) k 0 h ∙ counted-often l b (suc k)

-- ---- whether at all

-- a gap of n zeros stands between ones that are neighbours
pub record Stands (l : List ℕ) (n : ℕ) : Type 0 where
  pub place : ℕ
  pub neighbours : Neighbours l place (place + suc n)

one_inside : (l : List ℕ) (i : ℕ) → get_or l i 0 ≡ 1 → i < length l
one_inside l i e = elim (dec_lt i (length l)) [ yes h ↦ h | no h ↦ absurd (omega (arith, e, get_or-eq_default {A = ℕ} l 0 {n = i} (omega arith))) ]

-- a gap length is counted if and only if it is that of two neighbouring ones
pub counted-iff : (l : List ℕ) → Bits l → (n : ℕ) → (0 < count n (gaps l)) ↔ Stands l n
counted-iff l b n = (
  λ h. let some = some-passes (length l) (gap_at l n) (subst (λ (c : ℕ). 0 < c) (counted-often l b n) h) in record { place = some.0; neighbours = (gap-at-iff l n some.0 b).0 some.2 },
  λ s. subst (λ (c : ℕ). 0 < c) (sym (counted-often l b n))
      (passes-some (length l) (gap_at l n) s.place (one_inside l s.place s.neighbours.one-i) ((gap-at-iff l n s.place b).1 s.neighbours)),
)
