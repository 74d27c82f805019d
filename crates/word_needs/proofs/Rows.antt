-- The rows by what stands in front: pairs that fix the row taken whatever follows, and pairs behind which two rows are still open.
-- Assumes nothing.
use mathlib.Core.Path.{◌≡◌, refl, sym, ap, ◌∙◌}
use mathlib.Core.Bool.{Bool, true, false, cond, false≢true}
use mathlib.Core.List.{List, [], ◌∷◌, ◌++◌, append_assoc}
use Prim.Native.Nat.{ℕ, ◌+◌, ◌-◌, ◌<◌, ◌≤◌}
use native.Mathlib.Omega.{arith}
use lib.ListN.{length, length-append, replicate, length-replicate}
use Rattle.laws.specs.Same.{same}
use Rattle.laws.proofs.Same.{same_refl}
use Rattle.modulation.specs.Modulation.{Two, d00, d01, d10, d11, Row, row_at, starts_with010, modulate_from, modulate}
use Rattle.modulation.specs.Machine.{Wait, w, w00, w0000, w000000, w000010, w11, w1101, w110111, w11011100, w1101110000, waiting}
use Rattle.modulation.specs.Bits.{bits}
use Rattle.modulation.proofs.Machine.{next-000000, next-000010, next-11}
use Rattle.word_needs.specs.Needed.{row_taken, word_bits}
use Rattle.word_needs.specs.steps.Walk.{Told, wait, word_of, told, size_at_end}

-- ---- pairs that fix the row

-- whatever follows l, the row is the same, of m pairs
pub record Fixed (l : List Two) (m : ℕ) : Type 0 where
  pub row : Bool → Row
  pub taken : (b : Bool) (more : List Two) → row_taken b (l ++ more) ≡ row b
  pub size : (b : Bool) → length (row b).pairs ≡ m

longer : {l : List Two} {m : ℕ} → Fixed l m → (k : List Two) → Fixed (l ++ k) m
longer {l} f k =
    record {
      row = f.row;
      taken = λ b more. ap (row_taken b) (append_assoc l k more) ∙ f.taken b (k ++ more);
      size = f.size;
    }

abbrev row-11 : Bool → Row
row-11 b = cond b (row_at 12) (row_at 13)

-- a row that the bit before does not choose
always-row : {l : List Two} {m : ℕ} (k : ℕ) → ((b : Bool) (more : List Two) → row_taken b (l ++ more) ≡ row_at k) → length (row_at k).pairs ≡ m → Fixed l m
always-row k taken size = record { row = λ b. row_at k; taken = taken; size = λ b. size }

row-of-11 : {l : List Two} → ((b : Bool) (more : List Two) → row_taken b (l ++ more) ≡ row-11 b) → Fixed l 1
row-of-11 taken = record { row = row-11; taken = taken; size = λ b. elim b as (λ (k : Bool). length (row-11 k).pairs ≡ 1) [ true ↦ refl | false ↦ refl ] }

-- 110111 where 010 follows, and where it does not
row-substituted : (b : Bool) (ds : List Two) → starts_with010 (modulate false ds).groups ≡ true → row_taken b (d11 ∷ d01 ∷ d11 ∷ ds) ≡ row_at 6
unfolding modulate_from
row-substituted b ds e = rw e

row_plain : (b : Bool) (ds : List Two) → starts_with010 (modulate false ds).groups ≡ false → row_taken b (d11 ∷ d01 ∷ d11 ∷ ds) ≡ row-11 b
unfolding modulate_from
row_plain true ds e = rw e
row_plain false ds e = rw e

-- 11 before all other pairs
other-11 : (b : Bool) (ds : List Two) → (row_taken b (d11 ∷ d00 ∷ ds) ≡ row-11 b) × (row_taken b (d11 ∷ d10 ∷ ds) ≡ row-11 b) × (row_taken b (d11 ∷ d11 ∷ ds) ≡ row-11 b)
unfolding modulate_from
other-11 true ds = (refl, refl, refl)
other-11 false ds = (refl, refl, refl)

other-1101 : (b : Bool) (ds : List Two) → (row_taken b (d11 ∷ d01 ∷ d00 ∷ ds) ≡ row-11 b) × (row_taken b (d11 ∷ d01 ∷ d01 ∷ ds) ≡ row-11 b) × (row_taken b (d11 ∷ d01 ∷ d10 ∷ ds) ≡ row-11 b)
unfolding modulate_from
other-1101 true ds = (refl, refl, refl)
other-1101 false ds = (refl, refl, refl)

-- 11 where two pairs or fewer are behind it
pub plain_end : (b : Bool) (ds : List Two) → length ds < 3 → row_taken b (d11 ∷ ds) ≡ row-11 b
unfolding modulate_from
plain_end true [] h = refl
plain_end false [] h = refl
plain_end b (d00 ∷ ds) h = (other-11 b ds).0
plain_end b (d10 ∷ ds) h = (other-11 b ds).1
plain_end b (d11 ∷ ds) h = (other-11 b ds).2
plain_end true (d01 ∷ []) h = refl
plain_end false (d01 ∷ []) h = refl
plain_end b (d01 ∷ d00 ∷ ds) h = (other-1101 b ds).0
plain_end b (d01 ∷ d01 ∷ ds) h = (other-1101 b ds).1
plain_end b (d01 ∷ d10 ∷ ds) h = (other-1101 b ds).2
plain_end b (d01 ∷ d11 ∷ []) h = row_plain b [] refl
plain_end b (d01 ∷ d11 ∷ d ∷ ds) h = absurd (omega arith)

-- ---- a pair more

-- how many pairs have to be behind those that wait, so that the frame's end does not decide
abbrev pub left_behind : Wait → ℕ
left_behind w = 4
left_behind w00 = 0
left_behind w0000 = 0
left_behind w000000 = 0
left_behind w000010 = 0
left_behind w11 = 3
left_behind w1101 = 2
left_behind w110111 = 1
left_behind w11011100 = 0
left_behind w1101110000 = 0

pub record WaitsOn (s t : Wait) (d : Two) : Type 0 where
  pub front : waiting t ≡ waiting s ++ d ∷ []
  pub less : left_behind t ≤ left_behind s - 1

-- the same of what a pair more tells
abbrev pub left_told : Told → ℕ
left_told (wait t) = left_behind t
left_told (word_of m) = 0

-- what the table tells is so
abbrev pub Tells : Told → Wait → Two → Type 0
Tells (wait t) s d = WaitsOn s t d
Tells (word_of m) s d = Fixed (waiting s ++ d ∷ []) m

waits-on : {s t : Wait} {d : Two} → waiting t ≡ waiting s ++ d ∷ [] → left_behind t ≤ left_behind s - 1 → WaitsOn s t d
waits-on e h = record { front = e; less = h }

pub tells : (s : Wait) (d : Two) → Tells (told s d) s d
unfolding modulate_from
tells w d00 = waits-on refl (omega arith)
tells w d01 = always-row 10 (λ b more. refl) refl
tells w d10 = always-row 11 (λ b more. refl) refl
tells w d11 = waits-on refl (omega arith)
tells w00 d00 = waits-on refl (omega arith)
tells w00 d01 = always-row 7 (λ b more. refl) refl
tells w00 d10 = always-row 8 (λ b more. refl) refl
tells w00 d11 = always-row 9 (λ b more. refl) refl
tells w0000 d00 = waits-on refl (omega arith)
tells w0000 d01 = always-row 3 (λ b more. refl) refl
tells w0000 d10 = waits-on refl (omega arith)
tells w0000 d11 = always-row 5 (λ b more. refl) refl
tells w000000 d00 = always-row 0 (λ b more. refl) refl
tells w000000 d01 = always-row 2 (λ b more. refl) refl
tells w000000 d10 = always-row 2 (λ b more. refl) refl
tells w000000 d11 = always-row 2 (λ b more. refl) refl
tells w000010 d00 = always-row 1 (λ b more. refl) refl
tells w000010 d01 = always-row 4 (λ b more. refl) refl
tells w000010 d10 = always-row 4 (λ b more. refl) refl
tells w000010 d11 = always-row 4 (λ b more. refl) refl
tells w11 d00 = row-of-11 (λ b more. (other-11 b more).0)
tells w11 d01 = waits-on refl (omega arith)
tells w11 d10 = row-of-11 (λ b more. (other-11 b more).1)
tells w11 d11 = row-of-11 (λ b more. (other-11 b more).2)
tells w1101 d00 = row-of-11 (λ b more. (other-1101 b more).0)
tells w1101 d01 = row-of-11 (λ b more. (other-1101 b more).1)
tells w1101 d10 = row-of-11 (λ b more. (other-1101 b more).2)
tells w1101 d11 = waits-on refl (omega arith)
tells w110111 d00 = waits-on refl (omega arith)
tells w110111 d01 = always-row 6 (λ b more. row-substituted b (d01 ∷ more) refl) refl
tells w110111 d10 = row-of-11 (λ b more. row_plain b (d10 ∷ more) refl)
tells w110111 d11 = row-of-11 (λ b more. row_plain b (d11 ∷ more) (next-11 false more))
tells w11011100 d00 = waits-on refl (omega arith)
tells w11011100 d01 = row-of-11 (λ b more. row_plain b (d00 ∷ d01 ∷ more) refl)
tells w11011100 d10 = always-row 6 (λ b more. row-substituted b (d00 ∷ d10 ∷ more) refl) refl
tells w11011100 d11 = always-row 6 (λ b more. row-substituted b (d00 ∷ d11 ∷ more) refl) refl
tells w1101110000 d00 = always-row 6 (λ b more. row-substituted b (d00 ∷ d00 ∷ d00 ∷ more) (next-000000 false more)) refl
tells w1101110000 d01 = always-row 6 (λ b more. row-substituted b (d00 ∷ d00 ∷ d01 ∷ more) refl) refl
tells w1101110000 d10 = row-of-11 (λ b more. row_plain b (d00 ∷ d00 ∷ d10 ∷ more) (next-000010 false more))
tells w1101110000 d11 = row-of-11 (λ b more. row_plain b (d00 ∷ d00 ∷ d11 ∷ more) refl)

-- the frame ends with those that wait
pub at-end : (s : Wait) (b : Bool) → length (row_taken b (waiting s)).pairs ≡ size_at_end s
unfolding modulate_from
at-end w b = refl
at-end w00 b = refl
at-end w0000 b = refl
at-end w000000 b = refl
at-end w000010 b = refl
at-end w11 true = refl
at-end w11 false = refl
at-end w1101 true = refl
at-end w1101 false = refl
at-end w110111 true = refl
at-end w110111 false = refl
at-end w11011100 true = refl
at-end w11011100 false = refl
at-end w1101110000 b = refl

-- ---- pairs that leave it open

-- n pairs behind l give the word one row, and n others another with other modulation bits
pub record Open (l : List Two) (n : ℕ) : Type 0 where
  pub one : List Two
  pub other : List Two
  pub one_size : length one ≡ n
  pub other-size : length other ≡ n
  pub unlike : (b : Bool) → word_bits b (l ++ one) ≡ word_bits b (l ++ other) → ⊥

unlike-lists : (k l : List ℕ) → same k l ≡ false → k ≡ l → ⊥
unlike-lists k l e p = false≢true (sym e ∙ ap (same k) (sym p) ∙ same_refl k)

opened : (l x y : List Two) {m k : ℕ} (f : Fixed (l ++ x) m) (g : Fixed (l ++ y) k) → length x ≡ length y
    → ((b : Bool) → same (bits (f.row b).groups) (bits (g.row b).groups) ≡ false) → (n : ℕ) → length x ≤ n → Open l n
opened l x y f g e differ n h =
    let t = replicate (n - length x) d01 in
    let long = length-replicate (n - length x) d01 in
    record {
      one = x ++ t;
      other = y ++ t;
      one_size = omega (arith, length-append x t);
      other-size = omega (arith, length-append y t);
      unlike = λ b p.
          unlike-lists (bits (f.row b).groups) (bits (g.row b).groups) (differ b)
          (sym (given x f b t) ∙ p ∙ given y g b t);
    }
  where
    given : (x : List Two) {m : ℕ} (f : Fixed (l ++ x) m) (b : Bool) (t : List Two) → word_bits b (l ++ (x ++ t)) ≡ bits (f.row b).groups
    given x f b t = ap (word_bits b) (sym (append_assoc l x t)) ∙ ap (λ (r : Row). bits r.groups) (f.taken b t)

pub open-front : (n : ℕ) → 0 < n → Open [] n
unfolding tells always-row
open-front n p = opened [] (d01 ∷ []) (d10 ∷ []) (tells w d01) (tells w d10) refl (λ b. refl) n (omega arith)

pub open_at : (s : Wait) (n : ℕ) → left_behind s ≤ n → 0 < n → Open (waiting s) n
unfolding tells always-row longer row-of-11
open_at w n h p = open-front n p
open_at w00 n h p = opened (waiting w00) (d01 ∷ []) (d10 ∷ []) (tells w00 d01) (tells w00 d10) refl (λ b. refl) n (omega arith)
open_at w0000 n h p = opened (waiting w0000) (d01 ∷ []) (d11 ∷ []) (tells w0000 d01) (tells w0000 d11) refl (λ b. refl) n (omega arith)
open_at w000000 n h p = opened (waiting w000000) (d00 ∷ []) (d01 ∷ []) (tells w000000 d00) (tells w000000 d01) refl (λ b. refl) n (omega arith)
open_at w000010 n h p = opened (waiting w000010) (d00 ∷ []) (d01 ∷ []) (tells w000010 d00) (tells w000010 d01) refl (λ b. refl) n (omega arith)
open_at w11 n h p =
    opened (waiting w11) (d01 ∷ d11 ∷ d01 ∷ []) (d00 ∷ d00 ∷ d00 ∷ []) (tells w110111 d01) (longer (tells w11 d00) (d00 ∷ d00 ∷ [])) refl
    (λ b. elim b as (λ (b : Bool). same (bits ((tells w110111 d01).row b).groups) (bits ((longer (tells w11 d00) (d00 ∷ d00 ∷ [])).row b).groups) ≡ false) [ true ↦ refl | false ↦ refl ]) n (omega arith)
open_at w1101 n h p =
    opened (waiting w1101) (d11 ∷ d01 ∷ []) (d00 ∷ d00 ∷ []) (tells w110111 d01) (longer (tells w1101 d00) (d00 ∷ [])) refl
    (λ b. elim b as (λ (b : Bool). same (bits ((tells w110111 d01).row b).groups) (bits ((longer (tells w1101 d00) (d00 ∷ [])).row b).groups) ≡ false) [ true ↦ refl | false ↦ refl ]) n (omega arith)
open_at w110111 n h p =
    opened (waiting w110111) (d01 ∷ []) (d10 ∷ []) (tells w110111 d01) (tells w110111 d10) refl (λ b. elim b as (λ (b : Bool). same (bits ((tells w110111 d01).row b).groups) (bits ((tells w110111 d10).row b).groups) ≡ false) [ true ↦ refl | false ↦ refl ]) n (omega arith)
open_at w11011100 n h p =
    opened (waiting w11011100) (d10 ∷ []) (d01 ∷ []) (tells w11011100 d10) (tells w11011100 d01) refl (λ b. elim b as (λ (b : Bool). same (bits ((tells w11011100 d10).row b).groups) (bits ((tells w11011100 d01).row b).groups) ≡ false) [ true ↦ refl | false ↦ refl ]) n (omega arith)
open_at w1101110000 n h p =
    opened (waiting w1101110000) (d00 ∷ []) (d10 ∷ []) (tells w1101110000 d00) (tells w1101110000 d10) refl (λ b. elim b as (λ (b : Bool). same (bits ((tells w1101110000 d00).row b).groups) (bits ((tells w1101110000 d10).row b).groups) ≡ false) [ true ↦ refl | false ↦ refl ]) n (omega arith)
