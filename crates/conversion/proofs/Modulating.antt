-- The modulator's loop, a word a turn: the row found is the word's, and its bits go behind those of the words before. Assumes nothing.
use mathlib.Core.Bool.{Bool, false, ◌||◌, or_assoc, or-false}
use mathlib.Core.List.{List, [], ◌∷◌, ◌++◌}
use mathlib.Core.Path.{◌≡◌, refl, sym, ap, ap₂, subst, ◌∙◌}
use Prim.Native.Nat.{ℕ, ◌+◌, ◌*◌, ◌-◌, ◌%◌, ◌^◌, ◌<◌, ◌≤◌}
use native.Mathlib.Nat.{not-suc-le-zero, add-mul, mul_assoc, mod-lt, le-mul_of_pos_right}
use native.Mathlib.Omega.{arith}
use lib.ListN.{length, drop, length-append}
use lib.Seq.{drop-append_seam}
use lib.Pow.{pow-add, pow_pos, pow_mono}
use Rattle.std.specs.Prelude.{Option, Some, None, SomeIff, IsSomeAnd}
use Rattle.laws.proofs.First.{first-at}
use Rattle.bits.specs.Bits.{number}
use Rattle.bits.proofs.Number.{number_lt}
use Rattle.bits.proofs.Concat.{number_append}
use Rattle.modulation.specs.Modulation.{Two, Row, row_at, fits, terminates, Modulated, modulate_from, modulate}
use Rattle.modulation.specs.Bits.{bits}
use Rattle.modulation.proofs.Bits.{bits-append, length-bits}
use Rattle.modulation.proofs.Fronts.{bits-groups}
use Rattle.modulation.proofs.Size.{size}
use Rattle.modulation.proofs.Words.{Word, word_at, modulate-none, next_bit, in_front}
use Rattle.conversion.specs.steps.Few.{few_pairs, fitting_row, Fitting, BitsGiven}
use Rattle.conversion.specs.steps.Rows.{Sized}
use Rattle.conversion.proofs.FewPairs.{few-size, few-rest}

-- ---- the word at the front

-- row k is that of the word at the front of ds
record WordAt (b : Bool) (ds : List Two) (k : ℕ) : Type 0 where
  below : k < 16
  within : length (row_at k).pairs ≤ length ds
  gives : modulate b ds ≡ in_front (row_at k) (modulate (next_bit (row_at k)) (drop (length (row_at k).pairs) ds))

word-found : (b : Bool) (ds : List Two) (k : ℕ) → 0 < length ds → k ≡ fitting_row b ds → WordAt b ds k
word-found b [] k h e = absurd (not-suc-le-zero h)
word-found b (d ∷ ds) k h e = subst (WordAt b (d ∷ ds)) (sym (e ∙ first-is)) word-is
  where
    f : Word b (d ∷ ds)
    f = word_at b d ds

    first-is : fitting_row b (d ∷ ds) ≡ f.first.index
    first-is =
        first-at 16 (λ k. fits (row_at k) b (d ∷ ds) (modulate_from ds)) f.first.index f.first.below (record { fails = f.first.earlier })
        (ap (λ (r : Row). fits r b (d ∷ ds) (modulate_from ds)) f.first.is ∙ f.first.passed)

    rest-is : f.rest ≡ drop (length f.row.pairs) (d ∷ ds)
    rest-is = sym (ap (drop (length f.row.pairs)) f.split ∙ drop-append_seam f.row.pairs f.rest)

    word-is : WordAt b (d ∷ ds) f.first.index
    word-is =
        record {
          below = f.first.below;
          within = omega (arith, ap length f.split, length-append f.row.pairs f.rest, ap (λ (r : Row). length r.pairs) f.first.is);
          gives =
              f.gives
              ∙ ap (λ (l : List Two). in_front f.row (modulate (next_bit f.row) l)) rest-is
              ∙ ap (λ (r : Row). in_front r (modulate (next_bit r) (drop (length r.pairs) (d ∷ ds)))) (sym f.first.is);
        }

-- of pairs some row fits
pub fitting : (before : Bool) (n p : ℕ) (r : Option ℕ) → 0 < n → SomeIff r (fitting_row before (few_pairs n p) < 16) (fitting_row before (few_pairs n p))
    → IsSomeAnd r (Fitting before n p)
fitting before n p None h none = absurd (none (word-found before (few_pairs n p) _ (omega (arith, few-size n p)) refl).below)
fitting before n p (Some k) h found =
    let f = word-found before (few_pairs n p) k (omega (arith, few-size n p)) found.1 in
    record { first-is = found.1; below = f.below; within = omega (arith, f.within, few-size n p) }

-- the first word and what follows it
word-step : {b b' : Bool} {n p k len : ℕ} → 0 < n → p < 2 ^ (2 * n) → Fitting b n p k → Sized k len → b' ≡ next_bit (row_at k)
    → modulate b (few_pairs n p) ≡ in_front (row_at k) (modulate b' (few_pairs (n - len) (p % 2 ^ (2 * (n - len)))))
word-step {b} {b'} {n} {p} {k} {len} h small fit sized eb =
    (word-found b (few_pairs n p) k (omega (arith, few-size n p)) fit.first-is).gives
    ∙ ap (in_front (row_at k)) (ap₂ modulate (sym eb) (ap (λ (j : ℕ). drop j (few_pairs n p)) (sym sized.pairs-are) ∙ sym (few-rest n p small len)))

-- whether some word is a terminating one, from those passed, the next one and the rest
ends-step : (k : ℕ) (t : Bool) {t' m : Bool} (f rest : Modulated) → f ≡ in_front (row_at k) rest → t' ≡ (t || terminates (row_at k).when) → (t || f.terminated) ≡ m
    → (t' || rest.terminated) ≡ m
ends-step k t f rest e et em =
    ap (λ (z : Bool). z || rest.terminated) et ∙ or_assoc t (terminates (row_at k).when) rest.terminated ∙ ap (λ (g : Modulated). t || g.terminated) (sym e) ∙ em

-- ---- bits behind a value

-- the number of the bits l behind those of v
abbrev behind : ℕ → List ℕ → ℕ
behind v l = v * 2 ^ length l + number l

behind-append : (v : ℕ) (a l : List ℕ) → behind v (a ++ l) ≡ behind (behind v a) l
behind-append v a l =
    ap₂ (λ (k x : ℕ). v * 2 ^ k + x) (length-append a l) (number_append a l)
    ∙ ap (λ (x : ℕ). x + (number a * 2 ^ length l + number l)) (ap (λ (x : ℕ). v * x) (pow-add 2 (length a) (length l)) ∙ sym (mul_assoc v (2 ^ length a) (2 ^ length l)))
    ∙ sym (ap (λ (x : ℕ). x + number l) (add-mul (v * 2 ^ length a) (number a) (2 ^ length l)) ∙ omega arith)

behind-le : (v : ℕ) (l : List ℕ) → v ≤ behind v l
behind-le v l = omega (arith, le-mul_of_pos_right v (pow_pos (length l)))

behind-none : (v : ℕ) → behind v [] ≡ v
unfolding number
behind-none v = omega arith

-- ---- the loop

-- of the n pairs p, modulated after the bit `before`, the last `left` are to come, `rest`, after the bit b; `value` are the bits so far
pub record Modulating (before : Bool) (n p value : ℕ) (t b : Bool) (left rest : ℕ) : Type 0 where
  pub within : left ≤ n
  pub small : rest < 2 ^ (2 * left)
  pub value-is : behind value (bits (modulate b (few_pairs left rest)).groups) ≡ number (bits (modulate before (few_pairs n p)).groups)
  pub ends : (t || (modulate b (few_pairs left rest)).terminated) ≡ (modulate before (few_pairs n p)).terminated

whole-lt : (before : Bool) (n p : ℕ) → n ≤ 6 → number (bits (modulate before (few_pairs n p)).groups) < 262144
whole-lt before n p h =
    let g = (modulate before (few_pairs n p)).groups in
    let long : length (bits g) ≡ 3 * n = length-bits g ∙ ap (λ (k : ℕ). 3 * k) (size before (few_pairs n p) ∙ few-size n p) in
    omega (arith, number_lt (bits g) (bits-groups g), pow_mono {i = length (bits g)} {j = 18} (omega arith))

module _ {before : Bool} {n p : ℕ} where
  pub modulating-none : p < 2 ^ (2 * n) → Modulating before n p 0 false before n p
  modulating-none h = record { within = omega arith; small = h; value-is = omega arith; ends = refl }

  module _ {value : ℕ} {t b : Bool} {left rest : ℕ} (m : Modulating before n p value t b left rest) where
    pub modulating-small : n ≤ 6 → value < 262144
    modulating-small h = omega (arith, behind-le value (bits (modulate b (few_pairs left rest)).groups), m.value-is, whole-lt before n p h)

    pub modulating-more : {k len value' rest' : ℕ} {t' b' : Bool} → 0 < left → Fitting b left rest k
        → value' ≡ value * 2 ^ length (bits (row_at k).groups) + number (bits (row_at k).groups) → t' ≡ (t || terminates (row_at k).when) → b' ≡ next_bit (row_at k)
        → Sized k len → rest' ≡ rest % 2 ^ (2 * (left - len)) → Modulating before n p value' t' b' (left - len) rest'
    modulating-more {k} {len} {value'} {rest'} {t'} {b'} h fit ev et eb sized er =
        let f = modulate b' (few_pairs (left - len) rest') in
        let step : modulate b (few_pairs left rest) ≡ in_front (row_at k) f =
        word-step h m.small fit sized eb ∙ ap (λ (x : ℕ). in_front (row_at k) (modulate b' (few_pairs (left - len) x))) (sym er) in
        record {
          within = omega (arith, m.within);
          small = rw er (mod-lt rest (pow_pos (2 * (left - len))));
          value-is =
              ap (λ (v : ℕ). behind v (bits f.groups)) ev
              ∙ sym (behind-append value (bits (row_at k).groups) (bits f.groups))
              ∙ ap (behind value) (sym (bits-append (row_at k).groups f.groups))
              ∙ ap (λ (g : Modulated). behind value (bits g.groups)) (sym step)
              ∙ m.value-is;
          ends = ends-step k t (modulate b (few_pairs left rest)) f step et m.ends;
        }

    pub modulating-all : n ≤ 6 → left ≤ 0 → BitsGiven (modulate before (few_pairs n p)) value t
    modulating-all h end =
        let over = no_words b left rest end in
        record {
          value-is = sym (behind-none value) ∙ ap (λ (g : Modulated). behind value (bits g.groups)) (sym over) ∙ m.value-is;
          small = modulating-small h;
          ends = sym (or-false t) ∙ ap (λ (g : Modulated). t || g.terminated) (sym over) ∙ m.ends;
        }
      where
        no_pairs : (ds : List Two) → length ds ≤ 0 → ds ≡ []
        no_pairs [] h = refl
        no_pairs (d ∷ ds) h = absurd (not-suc-le-zero h)

        no_words : (b : Bool) (left rest : ℕ) → left ≤ 0 → modulate b (few_pairs left rest) ≡ record { groups = []; terminated = false }
        no_words b left rest h = ap (modulate b) (no_pairs (few_pairs left rest) (omega (arith, few-size left rest))) ∙ modulate-none b
