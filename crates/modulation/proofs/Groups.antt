-- Groups read from bits: how many they are, each of them, those behind the first, and their bits. Assumes nothing.
use mathlib.Core.Bool.{Bool, true, cond}
use mathlib.Core.List.{List, [], ◌∷◌, ◌++◌}
use mathlib.Core.Path.{◌≡◌, refl, sym, ap, ap₂, ◌∙◌}
use Prim.Native.Nat.{ℕ, zero, suc, ◌+◌, ◌*◌, ◌<◌, ◌≤◌}
use native.Mathlib.Nat.{not-suc-le-zero, le_of_suc-le-suc}
use native.Mathlib.Numerals.{add-one, add-two, add-three}
use native.Mathlib.Omega.{arith}
use borrow.Author.Tests.{le-leb}
use lib.Dec.{eqb, eqb→eq}
use lib.ListN.{length, get_or, take, drop}
use lib.Seq.{drop-cons}
use Rattle.laws.proofs.Finite.{all, all₂, all₃, all₃-at}
use Rattle.bits.specs.declared.Step.{Step}
use Rattle.bits.specs.Bits.{Bits, bits_of, three_at, three_of}
use Rattle.bits.specs.Step.{enough, step_at}
use Rattle.bits.proofs.Bits.{length-bits as length-bits_of, bits-bits}
use Rattle.modulation.specs.Modulation.{m000, three_number}
use Rattle.modulation.specs.Bits.{three, bits}
use Rattle.modulation.proofs.Bits.{three-more}
use Rattle.modulation.proofs.Fronts.{three-below}
use Rattle.modulation.specs.steps.Groups.{Inside, groups_at}

pub length-groups_at : (b : List ℕ) (p n : ℕ) → length (groups_at b p n) ≡ n
unfolding groups_at
length-groups_at b p zero = refl
length-groups_at b p (suc n) = ap suc (length-groups_at b (p + 3) n)

three-number : (x y z : ℕ) → x < 2 → y < 2 → z < 2 → three_number (three x y z) ≡ 4 * x + 2 * y + z
unfolding all all₂ all₃
three-number x y z hx hy hz =
    eqb→eq (three_number (three x y z)) (4 * x + 2 * y + z)
    (all₃-at 2 2 2 (λ x y z. eqb (three_number (three x y z)) (4 * x + 2 * y + z)) tt x y z hx hy hz)

-- group j as a number
pub group_at : (b : List ℕ) (p n j : ℕ) → Bits b → j < n → three_at b (p + 3 * j) ≡ three_number (get_or (groups_at b p n) j m000)
unfolding groups_at
group_at b p zero j h l = absurd (not-suc-le-zero l)
group_at b p (suc n) zero h l =
    ap (three_at b) (here p) ∙ sym (three-number (get_or b p 0) (get_or b (p + 1) 0) (get_or b (p + 2) 0) (h p) (h (p + 1)) (h (p + 2)))
  where
    here : (p : ℕ) → p + 3 * 0 ≡ p
    here p = omega arith
group_at b p (suc n) (suc j) h l = ap (three_at b) (on p j) ∙ group_at b (p + 3) n j h (le_of_suc-le-suc l)
  where
    on : (p j : ℕ) → p + 3 * suc j ≡ p + 3 + 3 * j
    on p j = omega arith

three-bits : (x y z : ℕ) → x < 2 → y < 2 → z < 2 → three_of (three_number (three x y z)) ≡ x ∷ y ∷ z ∷ []
three-bits x y z hx hy hz =
    let v = three-number x y z hx hy hz in
    ap₂ ◌∷◌ (omega arith) (ap₂ ◌∷◌ (omega arith) (ap (λ (a : ℕ). a ∷ []) (omega arith)))

-- three bits in front
take-three : (b : List ℕ) (p n : ℕ) → p + 3 ≤ length b
    → take (3 * suc n) (drop p b) ≡ (get_or b p 0 ∷ get_or b (p + 1) 0 ∷ get_or b (p + 2) 0 ∷ []) ++ take (3 * n) (drop (p + 3) b)
take-three b p n h =
    ap (λ (k : ℕ). take k (drop p b)) (three-more n)
    ∙ rw (add-one, add-two, add-three) (ap (take (suc (suc (suc (3 * n))))) front)
  where
    front : drop p b ≡ get_or b p 0 ∷ get_or b (suc p) 0 ∷ get_or b (suc (suc p)) 0 ∷ drop (suc (suc (suc p))) b
    front =
        drop-cons b p 0 (omega arith)
        ∙ ap (λ (l : List ℕ). get_or b p 0 ∷ l) (drop-cons b (suc p) 0 (omega arith) ∙ ap (λ (l : List ℕ). get_or b (suc p) 0 ∷ l) (drop-cons b (suc (suc p)) 0 (omega arith)))

-- the bits of the groups are those that were read
pub bits-groups_at : (b : List ℕ) (p n : ℕ) → Bits b → p + 3 * n ≤ length b → bits (groups_at b p n) ≡ take (3 * n) (drop p b)
unfolding groups_at
bits-groups_at b p zero h l = refl
bits-groups_at b p (suc n) h l =
    ap₂ (λ (k m : List ℕ). k ++ m) (three-bits (get_or b p 0) (get_or b (p + 1) 0) (get_or b (p + 2) 0) (h p) (h (p + 1)) (h (p + 2))) (bits-groups_at b (p + 3) n h (omega arith))
    ∙ sym (take-three b p n (omega arith))

-- group j, as `read_three` reads it
pub group-read : {l : List ℕ} {at left : ℕ} (j : ℕ) {s : Step} → s ≡ step_at (bits_of l) (at + 3 * j) → Inside l at left → j < left
    → (s.value ≡ three_number (get_or (groups_at (bits_of l) at left) j m000)) × (s.value < 8)
unfolding step_at
group-read {l} {at} {left} j {s} e h below = (value, omega (arith, three-below (get_or (groups_at (bits_of l) at left) j m000), value))
  where
    there : enough (bits_of l) (at + 3 * j) ≡ true
    there = le-leb (at + 3 * j + 3) (length (bits_of l)) (omega (arith, length-bits_of l))

    value : s.value ≡ three_number (get_or (groups_at (bits_of l) at left) j m000)
    value =
        ap (λ (t : Step). t.value) e
        ∙ ap (λ (b : Bool). cond b (three_at (bits_of l) (at + 3 * j)) 8) there
        ∙ group_at (bits_of l) at left j (bits-bits l) below
