-- A test that goes through a list of bits once: a list that passes has gaps of 1 to 7 zeros and no seven gaps of a single zero in a row.
-- Assumes nothing.
use mathlib.Core.Bool.{Bool, true, false}
use mathlib.Core.List.{List, [], ◌∷◌, ◌++◌}
use mathlib.Core.Path.{◌≡◌, sym, ap, subst, ◌∙◌}
use Prim.Native.Nat.{ℕ, zero, suc, ◌+◌, ◌<◌, ◌≤◌}
use native.Mathlib.Nat.{le_of_suc-le-suc, not-suc-le-zero}
use native.Mathlib.Omega.{arith}
use lib.Dec.{T, leb, leb→le}
use lib.ListN.{get_or, take, drop, take-append-drop}
use Rattle.laws.proofs.Finite.{both, both_left, both_right}
use Rattle.modulation.specs.Gaps.{Neighbours, NoSeven}
use Rattle.modulation.proofs.Joined.{seven}

-- z zeros since the last one; r gaps of a single zero may still follow one another, of six
abbrev single : ℕ → ℕ → Bool
single zero r = false
single (suc zero) zero = false
single (suc zero) (suc r) = true
single (suc (suc z)) r = true

abbrev room : ℕ → ℕ → ℕ
room zero r = 6
room (suc zero) zero = 6
room (suc zero) (suc r) = r
room (suc (suc z)) r = 6

-- a one may stand here
abbrev gap : ℕ → ℕ → Bool
gap z r = both (leb z 7) (single z r)

abbrev pub fine : List ℕ → ℕ → ℕ → Bool
fine [] z r = true
fine (zero ∷ bs) z r = fine bs (suc z) r
fine (suc x ∷ bs) z r = both (gap z r) (fine bs 0 (room z r))

-- ---- of two lists

-- where the test stands behind a list
pub record Place : Type 0 where
  pub zeros : ℕ
  pub singles : ℕ

abbrev pub after : List ℕ → ℕ → ℕ → Place
after [] z r = record { zeros = z; singles = r }
after (zero ∷ bs) z r = after bs (suc z) r
after (suc x ∷ bs) z r = after bs 0 (room z r)

both-in : (a b : Bool) → T a → T b → T (both a b)
both-in true b t u = u
both-in false b t u = t

pub fine-append : (a c : List ℕ) (z r : ℕ) → T (fine a z r) → T (fine c (after a z r).zeros (after a z r).singles) → T (fine (a ++ c) z r)
fine-append [] c z r t u = u
fine-append (zero ∷ a) c z r t u = fine-append a c (suc z) r t u
fine-append (suc x ∷ a) c z r t u =
    both-in (gap z r) (fine (a ++ c) 0 (room z r)) (both_left (gap z r) (fine a 0 (room z r)) t)
    (fine-append a c 0 (room z r) (both_right (gap z r) (fine a 0 (room z r)) t) u)

-- ---- the gaps

gap-bounds : (z r : ℕ) → T (gap z r) → (1 ≤ z) × (z ≤ 7)
gap-bounds zero r t = absurd (both_right (leb 0 7) (single 0 r) t)
gap-bounds (suc z) r t = (omega arith, leb→le (suc z) 7 (both_left (leb (suc z) 7) (single (suc z) r) t))

module _ (x : ℕ) (bs : List ℕ) (z r : ℕ) (t : T (fine (suc x ∷ bs) z r)) where
  at_one : T (gap z r)
  at_one = both_left (gap z r) (fine bs 0 (room z r)) t

  behind-one : T (fine bs 0 (room z r))
  behind-one = both_right (gap z r) (fine bs 0 (room z r)) t

-- the first one to come
first_one : (bs : List ℕ) (z r j : ℕ) → T (fine bs z r) → get_or bs j 0 ≡ 1 → ((k : ℕ) → k < j → get_or bs k 0 ≡ 0) → (1 ≤ z + j) × (z + j ≤ 7)
first_one [] z r j t e h = absurd (omega arith)
first_one (zero ∷ bs) z r zero t e h = absurd (omega arith)
first_one (suc x ∷ bs) z r zero t e h = omega (arith, gap-bounds z r (at_one x bs z r t))
first_one (zero ∷ bs) z r (suc j) t e h = omega (arith, first_one bs (suc z) r j t e (λ k q. h (suc k) (omega arith)))
first_one (suc x ∷ bs) z r (suc j) t e h = absurd (omega (arith, h 0 (omega arith)))

in_tail : {b : ℕ} {bs : List ℕ} {i j : ℕ} → Neighbours (b ∷ bs) (suc i) (suc j) → Neighbours bs i j
in_tail n =
    record { before = le_of_suc-le-suc n.before; one-i = n.one-i; one-j = n.one-j; zeros = λ k p q. n.zeros (suc k) (omega arith) (omega arith) }

pub fine-gaps : (bs : List ℕ) (z r : ℕ) → T (fine bs z r) → (i j : ℕ) → Neighbours bs i j → (i + 2 ≤ j) × (j ≤ i + 8)
fine-gaps [] z r t i j n = absurd (omega (arith, n.one-i))
fine-gaps (b ∷ bs) z r t i zero n = absurd (not-suc-le-zero n.before)
fine-gaps (zero ∷ bs) z r t zero (suc j) n = absurd (omega (arith, n.one-i))
fine-gaps (suc x ∷ bs) z r t zero (suc j) n =
    omega (arith, first_one bs 0 (room z r) j (behind-one x bs z r t) n.one-j (λ k q. n.zeros (suc k) (omega arith) (omega arith)))
fine-gaps (zero ∷ bs) z r t (suc i) (suc j) n = omega (arith, fine-gaps bs (suc z) r t i j (in_tail n))
fine-gaps (suc x ∷ bs) z r t (suc i) (suc j) n = omega (arith, fine-gaps bs 0 (room z r) (behind-one x bs z r t) i j (in_tail n))

-- ---- no seven gaps of a single zero

-- n times a zero and a one
abbrev alternating : ℕ → List ℕ → List ℕ
alternating zero l = l
alternating (suc n) l = 0 ∷ 1 ∷ alternating n l

at_most : (n : ℕ) (l : List ℕ) (r : ℕ) → T (fine (alternating n l) 0 r) → n ≤ r
at_most zero l r t = omega arith
at_most (suc n) l zero t = absurd (both_right (leb 1 7) false (at_one 0 (alternating n l) 1 0 t))
at_most (suc n) l (suc r) t = omega (arith, at_most n l r (behind-one 0 (alternating n l) 1 (suc r) t))

room_most : (z r : ℕ) → r ≤ 6 → room z r ≤ 6
room_most zero r h = omega arith
room_most (suc zero) zero h = omega arith
room_most (suc zero) (suc r) h = omega arith
room_most (suc (suc z)) r h = omega arith

not-empty : (i : ℕ) → take 15 (drop i []) ≡ seven → ⊥
not-empty zero e = omega (arith, ap (λ (l : List ℕ). get_or l 0 0) e)
not-empty (suc i) e = omega (arith, ap (λ (l : List ℕ). get_or l 0 0) e)

pub fine-no-seven : (bs : List ℕ) (z r : ℕ) → r ≤ 6 → T (fine bs z r) → NoSeven bs
fine-no-seven [] z r h t i e = not-empty i e
fine-no-seven (zero ∷ bs) z r h t zero e = omega (arith, ap (λ (l : List ℕ). get_or l 0 0) e)
fine-no-seven (suc x ∷ bs) z r h t zero e =
    omega (
      arith,
      room_most z r h,
      at_most 7 (drop 15 (suc x ∷ bs)) (room z r) (behind-one 0 (alternating 7 (drop 15 (suc x ∷ bs))) z r (subst (λ (l : List ℕ). T (fine l z r)) whole t)),
    )
  where
    whole : suc x ∷ bs ≡ 1 ∷ alternating 7 (drop 15 (suc x ∷ bs))
    whole = sym (take-append-drop 15 (suc x ∷ bs)) ∙ ap (λ (l : List ℕ). l ++ drop 15 (suc x ∷ bs)) e
fine-no-seven (zero ∷ bs) z r h t (suc i) e = fine-no-seven bs (suc z) r h t i e
fine-no-seven (suc x ∷ bs) z r h t (suc i) e = fine-no-seven bs 0 (room z r) (room_most z r h) (behind-one x bs z r t) i e
