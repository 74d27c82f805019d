-- Gap lengths counted bit by bit: what is counted and what the bits left still give make the whole count. Assumes nothing.
use mathlib.Core.Path.{◌≡◌, refl, sym, ap, ◌∙◌}
use mathlib.Core.List.{List, [], ◌∷◌}
use Prim.Native.Nat.{ℕ, zero, suc, ◌+◌, ◌*◌, ◌-◌, ◌<◌, ◌≤◌}
use native.Mathlib.Decide.{dec_lt, ℕ_discrete}
use native.Mathlib.Numerals.{add-one}
use native.Mathlib.Omega.{arith}
use borrow.Author.Tests.{eq-eqb, ne_eqb}
use lib.ListN.{length, get_or, set, length-set, take, drop, drop_of_length-le, replicate, get_or-replicate, get_or-eq_default}
use lib.Seq.{get_or-set_same, get_or-set_other, drop-cons, get_or-take, length-take-le}
use Rattle.laws.proofs.Tabulate.{is-tabulate}
use Rattle.bits.specs.Bits.{bits_of}
use Rattle.bits.proofs.Bits.{length-bits}
use Rattle.gaps.specs.Gaps.{gaps_after, gaps, count, gap_counts}
use Rattle.gaps.specs.steps.Counted.{BitCounted, Counts}

count_same : (n x : ℕ) (l : List ℕ) → x ≡ n → count n (x ∷ l) ≡ suc (count n l)
count_same n x l e = rw (eq-eqb x n e)

count-other : (n x : ℕ) (l : List ℕ) → (x ≡ n → ⊥) → count n (x ∷ l) ≡ count n l
count-other n x l e = rw (ne_eqb x n e)

-- ---- a bit more

pub zero-counted : (bit zeros : ℕ) (c : List ℕ) → bit ≡ 0 → BitCounted bit zeros c c (zeros + 1)
zero-counted bit zeros c e =
    record {
      size = refl;
      zeros-are = omega arith;
      most = λ k. omega arith;
      counts-are = λ l k h. ap (λ (g : List ℕ). get_or c k 0 + count (suc k) g) (ap (λ (z : ℕ). gaps_after z l) (add-one zeros) ∙ sym (ap (λ (x : ℕ). gaps_after zeros (x ∷ l)) e));
    }

-- no gap, or one of another length
other-counted : (bit zeros : ℕ) (c : List ℕ) → (bit ≡ 0 → ⊥) → ((k : ℕ) → k < 8 → zeros ≡ suc k → ⊥) → BitCounted bit zeros c c 0
other-counted zero zeros c e f = absurd (e refl)
other-counted (suc b) zeros c e f =
    record {
      size = refl;
      zeros-are = omega arith;
      most = λ k. omega arith;
      counts-are = λ l k h. sym (ap (λ (n : ℕ). get_or c k 0 + n) (count-other (suc k) zeros (gaps_after 0 l) (f k h)));
    }

pub empty-counted : (bit zeros : ℕ) (c : List ℕ) → (bit ≡ 0 → ⊥) → zeros ≡ 0 → BitCounted bit zeros c c 0
empty-counted bit zeros c e f = other-counted bit zeros c e (λ k h q. omega arith)

pub long-counted : (bit zeros : ℕ) (c : List ℕ) → (bit ≡ 0 → ⊥) → 8 < zeros → BitCounted bit zeros c c 0
long-counted bit zeros c e f = other-counted bit zeros c e (λ k h q. omega arith)

pub gap-counted : (bit zeros : ℕ) (c : List ℕ) → (bit ≡ 0 → ⊥) → (zeros ≡ 0 → ⊥) → zeros ≤ 8 → length c ≡ 8
    → BitCounted bit zeros c (set c (zeros - 1) (get_or c (zeros - 1) 0 + 1)) 0
gap-counted zero zeros c e f g s = absurd (e refl)
gap-counted (suc b) zeros c e f g s =
    record {
      size = length-set c i v;
      zeros-are = omega arith;
      most = λ k. elim (ℕ_discrete k i) [
        | yes q ↦ omega (arith, same k q, ap (λ (j : ℕ). get_or c j 0) q)
        | no q ↦ omega (arith, get_or-set_other c i k v 0 q)
      ];
      counts-are = λ l k h. elim (ℕ_discrete k i) [
        | yes q ↦ omega (arith, same k q, ap (λ (j : ℕ). get_or c j 0) q, count_same (suc k) zeros (gaps_after 0 l) (omega arith))
        | no q ↦ omega (arith, get_or-set_other c i k v 0 q, count-other (suc k) zeros (gaps_after 0 l) (λ r. q (omega arith)))
      ];
    }
  where
    i : ℕ
    i = zeros - 1

    v : ℕ
    v = get_or c i 0 + 1

    same : (k : ℕ) → k ≡ i → get_or (set c i v) k 0 ≡ get_or c i 0 + 1
    same k q = ap (λ (j : ℕ). get_or (set c i v) j 0) q ∙ get_or-set_same c i v 0 (omega arith)

-- ---- the loop

-- i of the first n bits of the bytes l are passed. At first the zeros count as more than 8, so that the first one ends no gap that is counted
pub record Counting (l : List ℕ) (n i : ℕ) (c : List ℕ) (zeros : ℕ) : Type 0 where
  pub within : i ≤ n
  pub few : Counts i c
  pub zeros-are : zeros ≤ i + 9
  pub counts-are : (k : ℕ) → k < 8 → get_or c k 0 + count (suc k) (gaps_after zeros (drop i (take n (bits_of l)))) ≡ count (suc k) (gaps (take n (bits_of l)))

-- what stands in front of the first one is no gap
before-first : (l : List ℕ) (n z : ℕ) → n < z → count n (gaps_after z l) ≡ count n (gaps l)
before-first [] n z h = refl
before-first (zero ∷ l) n z h = before-first l n (suc z) (omega arith)
before-first (suc x ∷ l) n z h = count-other n z (gaps_after 0 l) (λ e. omega arith)

pub counting-none : {l : List ℕ} {n : ℕ} → Counting l n 0 (replicate 8 0) 9
counting-none {l} {n} =
    record {
      within = omega arith;
      few = record { size = refl; most = none };
      zeros-are = omega arith;
      counts-are = λ k h. omega (arith, none k, before-first (take n (bits_of l)) (suc k) 9 (omega arith));
    }
  where
    none : (k : ℕ) → get_or (replicate 8 0) k 0 ≤ 0
    none k =
        elim (dec_lt k 8) [
          | yes h ↦ omega (arith, get_or-replicate {A = ℕ} 8 k 0 0 h)
          | no h ↦ omega (arith, get_or-eq_default {A = ℕ} (replicate 8 0) 0 {n = k} (omega arith))
        ]

module _ {l : List ℕ} {n i : ℕ} {c : List ℕ} {zeros : ℕ} (u : Counting l n i c zeros) where
  -- no count is full yet
  pub counting-few : i < n → n < 4294967296 → Counts 4294967294 c × (zeros < 18446744073709551615)
  counting-few h small = (record { size = u.few.size; most = λ k. omega (arith, u.few.most k) }, omega (arith, u.zeros-are))

  pub counting_more : {bit r : ℕ} {after : List ℕ} → i < n → n ≤ 8 * length l → bit ≡ get_or (bits_of l) i 0 → BitCounted bit zeros c after r → Counting l n (i + 1) after r
  counting_more {bit} {r} {after} h fits e w =
      record {
        within = omega arith;
        few = record { size = w.size ∙ u.few.size; most = λ k. omega (arith, w.most k, u.few.most k) };
        zeros-are = omega (arith, w.zeros-are, u.zeros-are);
        counts-are = λ k hk.
            ap (λ (j : ℕ). get_or after k 0 + count (suc k) (gaps_after r (drop j (take n (bits_of l))))) (add-one i)
            ∙ w.counts-are (drop (suc i) (take n (bits_of l))) k hk
            ∙ ap (λ (m : List ℕ). get_or c k 0 + count (suc k) (gaps_after zeros m)) (sym front)
            ∙ u.counts-are k hk;
      }
    where
      size : length (take n (bits_of l)) ≡ n
      size = length-take-le n (bits_of l) (omega (arith, length-bits l))

      front : drop i (take n (bits_of l)) ≡ bit ∷ drop (suc i) (take n (bits_of l))
      front =
          drop-cons (take n (bits_of l)) i 0 (omega (arith, size))
          ∙ ap (λ (x : ℕ). x ∷ drop (suc i) (take n (bits_of l))) (get_or-take n (bits_of l) i 0 h ∙ sym e)

  pub counting-all : n ≤ i → n ≤ 8 * length l → c ≡ gap_counts (take n (bits_of l))
  unfolding gap_counts
  counting-all h fits =
      is-tabulate 0 8 (λ k. count (suc k) (gaps (take n (bits_of l)))) c u.few.size
      (λ k hk. omega (arith, u.counts-are k hk, ap (λ (m : List ℕ). count (suc k) (gaps_after zeros m)) (drop_of_length-le (take n (bits_of l)) {i = i} (omega (arith, size)))))
    where
      size : length (take n (bits_of l)) ≡ n
      size = length-take-le n (bits_of l) (omega (arith, length-bits l))
