-- A word is found again in its modulation bits: of the rows in the table's order it is the first whose groups stand there and whose
-- condition agrees with what follows, since the group 100 starts no word and # says how the frame ends. Assumes nothing.
use mathlib.Core.Bool.{Bool, true, false, ◌&&◌, ◌||◌, beq}
use mathlib.Core.List.{List, [], ◌∷◌, ◌++◌, tail}
use mathlib.Core.Path.{◌≡◌, refl, sym, ap, ◌∙◌, subst}
use Prim.Native.Nat.{ℕ, ◌<◌}
use native.Mathlib.Omega.{arith}
use borrow.Author.Tests.{eqb-true}
use lib.Dec.{T, eqb, eqb→eq}
use lib.ListN.{length, length-append}
use Rattle.laws.specs.First.{first}
use Rattle.laws.proofs.Finite.{all, all-at}
use Rattle.modulation.specs.Modulation.{Two, d00, d01, d10, d11, two_number, Three, m000, m001, m010, m100, m101, Row, When, always, after_one, after-zero, before-010, at-end, row_at, starts, starts_with010, allowed, Modulated, terminates, modulate_from, modulate}
use Rattle.modulation.specs.Demodulator.{agrees, row_read}
use Rattle.laws.proofs.Booleans.{and_right, implies, given}
use Rattle.modulation.proofs.Words.{next_bit, Word, modulate-none}
use Rattle.modulation.specs.Machine.{put, plain}
use Rattle.modulation.proofs.Machine.{followed, not-followed}

-- ---- how the modulation of any pairs starts, after the bit b

pub data Start : Bool → Bool → List Three → Type 0 where
  none : {b : Bool} → Start b false []
  s001 : {b hash : Bool} {gs : List Three} → Start b hash (m001 ∷ gs)
  s010 : {b hash : Bool} {gs : List Three} → Start b hash (m010 ∷ gs)
  s101 : {b hash : Bool} {gs : List Three} → Start b hash (m101 ∷ gs)
  s000-100 : {b hash : Bool} {gs : List Three} → Start b hash (m000 ∷ m100 ∷ gs)
  s000-end : {b : Bool} → Start b true (m000 ∷ [])
  s000-more : {hash : Bool} {gs : List Three} → Start false hash gs → Start true hash (m000 ∷ gs)

abbrev Starts : Bool → Modulated → Type 0
Starts b f = Start b f.terminated f.groups

starts-as : (b : Bool) (ds : List Two) → Starts b (modulate b ds)
unfolding modulate_from
starts-as b [] = none
starts-as b (d00 ∷ []) = s000-end
starts-as b (d00 ∷ d00 ∷ []) = s010
starts-as b (d00 ∷ d00 ∷ d00 ∷ []) = s010
starts-as b (d00 ∷ d00 ∷ d00 ∷ d00 ∷ ds) = s010
starts-as b (d00 ∷ d00 ∷ d00 ∷ d01 ∷ ds) = s010
starts-as b (d00 ∷ d00 ∷ d00 ∷ d10 ∷ ds) = s010
starts-as b (d00 ∷ d00 ∷ d00 ∷ d11 ∷ ds) = s010
starts-as b (d00 ∷ d00 ∷ d01 ∷ ds) = s010
starts-as b (d00 ∷ d00 ∷ d10 ∷ []) = s000-100
starts-as b (d00 ∷ d00 ∷ d10 ∷ d00 ∷ ds) = s000-100
starts-as b (d00 ∷ d00 ∷ d10 ∷ d01 ∷ ds) = s000-100
starts-as b (d00 ∷ d00 ∷ d10 ∷ d10 ∷ ds) = s000-100
starts-as b (d00 ∷ d00 ∷ d10 ∷ d11 ∷ ds) = s000-100
starts-as b (d00 ∷ d00 ∷ d11 ∷ ds) = s000-100
starts-as b (d00 ∷ d01 ∷ ds) = s000-100
starts-as b (d00 ∷ d10 ∷ ds) = s010
starts-as b (d00 ∷ d11 ∷ ds) = s010
starts-as b (d01 ∷ ds) = s010
starts-as b (d10 ∷ ds) = s001
starts-as true (d11 ∷ []) = s000-more none
starts-as false (d11 ∷ []) = s101
starts-as true (d11 ∷ d00 ∷ ds) = s000-more (starts-as false (d00 ∷ ds))
starts-as false (d11 ∷ d00 ∷ ds) = s101
starts-as true (d11 ∷ d01 ∷ []) = s000-more s010
starts-as false (d11 ∷ d01 ∷ []) = s101
starts-as true (d11 ∷ d01 ∷ d00 ∷ ds) = s000-more s010
starts-as false (d11 ∷ d01 ∷ d00 ∷ ds) = s101
starts-as true (d11 ∷ d01 ∷ d01 ∷ ds) = s000-more s010
starts-as false (d11 ∷ d01 ∷ d01 ∷ ds) = s101
starts-as true (d11 ∷ d01 ∷ d10 ∷ ds) = s000-more s010
starts-as false (d11 ∷ d01 ∷ d10 ∷ ds) = s101
starts-as b (d11 ∷ d01 ∷ d11 ∷ ds) = either (starts_with010 (modulate false ds).groups) refl
  where
    unsubstituted : (b : Bool) (f : Modulated) → Starts b (put (plain b) f)
    unsubstituted true f = s000-more s010
    unsubstituted false f = s101

    either : (q : Bool) → starts_with010 (modulate false ds).groups ≡ q → Starts b (modulate b (d11 ∷ d01 ∷ d11 ∷ ds))
    either true e = subst (Starts b) (followed b ds e) s001
    either false e = subst (Starts b) (not-followed b ds e) (unsubstituted b (modulate true ds))
starts-as true (d11 ∷ d10 ∷ ds) = s000-more s001
starts-as false (d11 ∷ d10 ∷ ds) = s101
starts-as true (d11 ∷ d11 ∷ ds) = s000-more (starts-as false (d11 ∷ ds))
starts-as false (d11 ∷ d11 ∷ ds) = s101

-- ---- the word is found again

-- the word of row k in front of the groups gs, with which a frame ends under hash, after the bit b
abbrev read_back : Bool → Bool → List Three → ℕ → ℕ
read_back b hash gs k = row_read b (terminates (row_at k).when || hash) ((row_at k).groups ++ gs)

-- it is found, if its last bit is c and its condition agrees
abbrev found : Bool → Bool → Bool → List Three → ℕ → Bool
found c b hash gs k =
    implies (beq (next_bit (row_at k)) c && agrees (row_at k).when b gs) (eqb (read_back b hash gs k) k)

after-zero-found : {hash : Bool} {gs : List Three} → Start false hash gs → (b : Bool) → T (all 16 (found false b hash gs))
unfolding all first row_read
after-zero-found none true = tt
after-zero-found none false = tt
after-zero-found s001 true = tt
after-zero-found s001 false = tt
after-zero-found s010 true = tt
after-zero-found s010 false = tt
after-zero-found s101 true = tt
after-zero-found s101 false = tt
after-zero-found s000-100 true = tt
after-zero-found s000-100 false = tt
after-zero-found s000-end true = tt
after-zero-found s000-end false = tt

after-one-found : {hash : Bool} {gs : List Three} → Start true hash gs → (b : Bool) → T (all 16 (found true b hash gs))
unfolding all first row_read
after-one-found none true = tt
after-one-found none false = tt
after-one-found s001 true = tt
after-one-found s001 false = tt
after-one-found s010 true = tt
after-one-found s010 false = tt
after-one-found s101 true = tt
after-one-found s101 false = tt
after-one-found s000-100 true = tt
after-one-found s000-100 false = tt
after-one-found s000-end true = tt
after-one-found s000-end false = tt
after-one-found (s000-more none) true = tt
after-one-found (s000-more none) false = tt
after-one-found (s000-more s001) true = tt
after-one-found (s000-more s001) false = tt
after-one-found (s000-more s010) true = tt
after-one-found (s000-more s010) false = tt
after-one-found (s000-more s101) true = tt
after-one-found (s000-more s101) false = tt
after-one-found (s000-more s000-100) true = tt
after-one-found (s000-more s000-100) false = tt
after-one-found (s000-more s000-end) true = tt
after-one-found (s000-more s000-end) false = tt

found-again : (c b hash : Bool) (gs : List Three) → Start c hash gs → (k : ℕ) → k < 16 → next_bit (row_at k) ≡ c → agrees (row_at k).when b gs ≡ true
    → read_back b hash gs k ≡ k
found-again c b hash gs s k h e a =
    eqb→eq (read_back b hash gs k) k (given (beq (next_bit (row_at k)) c && agrees (row_at k).when b gs) _ (all-at 16 (found c b hash gs) (test c s) k h) (premise c e))
  where
    test : (c : Bool) → Start c hash gs → T (all 16 (found c b hash gs))
    test true s = after-one-found s b
    test false s = after-zero-found s b

    premise : (c : Bool) → next_bit (row_at k) ≡ c → (beq (next_bit (row_at k)) c && agrees (row_at k).when b gs) ≡ true
    premise true e = rw (e, a)
    premise false e = rw (e, a)

empty : (ds : List Two) → length ds ≡ 0 → ds ≡ []
empty [] e = refl
empty (d ∷ ds) e = absurd (omega arith)

module _ (b : Bool) (ds : List Two) (f : Word b ds) where
  -- the condition of the word's row, seen from the groups behind it
  when-agrees : (w : When) → allowed f.row w b ds (modulate_from (tail ds)) ≡ true → agrees w b (modulate (next_bit f.row) f.rest).groups ≡ true
  when-agrees always e = refl
  when-agrees after_one e = e
  when-agrees after-zero e = e
  when-agrees before-010 e = ap (λ (g : Modulated). starts_with010 g.groups) (sym f.behind-is) ∙ e
  when-agrees at-end e = ap (λ (g : Modulated). agrees at-end b g.groups) (ap (modulate (next_bit f.row)) none_left ∙ modulate-none (next_bit f.row))
    where
      none_left : f.rest ≡ []
      none_left =
          empty f.rest (omega (arith, eqb-true (length f.row.pairs) (length ds) e, ap length f.split, length-append f.row.pairs f.rest))

  pub row-agrees : agrees f.row.when b (modulate (next_bit f.row) f.rest).groups ≡ true
  row-agrees = when-agrees f.row.when (and_right (starts two_number f.row.pairs ds) _ f.first.passed)

  -- the number of the row of the word in front is read from the groups
  pub row-read : row_read b (modulate b ds).terminated (modulate b ds).groups ≡ f.first.index
  row-read =
      let rest = modulate (next_bit f.row) f.rest in
      ap (λ (g : Modulated). row_read b g.terminated g.groups) f.gives
      ∙ ap (λ (r : Row). row_read b (terminates r.when || rest.terminated) (r.groups ++ rest.groups)) (sym f.first.is)
      ∙ found-again (next_bit f.row) b rest.terminated rest.groups (starts-as (next_bit f.row) f.rest)
      f.first.index f.first.below (ap next_bit f.first.is)
      (ap (λ (r : Row). agrees r.when b rest.groups) f.first.is ∙ row-agrees)
