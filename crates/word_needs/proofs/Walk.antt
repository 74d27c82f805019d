-- The word pair by pair gives what the definition says (`walk_is`), whatever the bit before; it ends within six pairs, and these fix the word
-- however long the frame is (`six-fix`). Assumes nothing.
use mathlib.Core.Path.{◌≡◌, refl, sym, ap, subst, ◌∙◌}
use mathlib.Core.Bool.{Bool, true, false, cond}
use mathlib.Core.List.{List, [], ◌∷◌, ◌++◌, append_assoc, append-nil}
use Prim.Native.Nat.{ℕ, suc, ◌+◌, ◌-◌, ◌<◌, ◌≤◌}
use native.Mathlib.Decide.{dec_lt}
use native.Mathlib.Omega.{arith}
use borrow.Author.Tests.{lt-ltb, le-ltb}
use lib.ListN.{length, get_or, take, drop, length-append, take-append-drop}
use lib.Seq.{take_at, take_all, take-take, length-take-le}
use Rattle.modulation.specs.Modulation.{Two, d00, d01, d10, d11, Row, row_at}
use Rattle.modulation.specs.Machine.{Wait, w, w00, w0000, w000000, w000010, w11, w1101, w110111, w11011100, w1101110000, waiting}
use Rattle.modulation.specs.Bits.{bits}
use Rattle.word_needs.specs.Needed.{row_taken, word_bits, needed}
use Rattle.word_needs.specs.Promise.{Fixes}
use Rattle.word_needs.specs.steps.Walk.{Told, wait, word_of, told, size_at_end, Walked, walked, onward, walk, ends_plain, walk_word}
use Rattle.word_needs.proofs.Fixing.{all-fix, more-fix, needed-is, needed-only}
use Rattle.word_needs.proofs.Rows.{Fixed, left_behind, left_told, Tells, tells, at-end, Open, open-front, open_at, plain_end}

-- no fewer than n pairs fix the word
pub record AtLeast (b : Bool) (ds : List Two) (n : ℕ) : Type 0 where
  pub fewer : (j : ℕ) → j < n → Fixes b ds j → ⊥

-- what is walked is what the word needs, and has
pub record Walks (b : Bool) (ds : List Two) (v : Walked) : Type 0 where
  pub needs : needed b ds ≡ v.needs
  pub size : length (row_taken b ds).pairs ≡ v.size

module _ (b : Bool) where
  -- pairs behind which it is open do not fix the word
  open-fewer : (l rest : List Two) → Open l (length rest) → Fixes b (l ++ rest) (length l) → ⊥
  open-fewer l rest o f = o.unlike b (given o.one o.one_size ∙ sym (given o.other o.other-size))
    where
      given : (k : List Two) → length k ≡ length rest → word_bits b (l ++ k) ≡ word_bits b (l ++ rest)
      given k e =
          f.same_bits (l ++ k) (omega (arith, length-append l k, length-append l rest))
          (take_at l k (length l) refl ∙ sym (take_at l rest (length l) refl))

  at_least : (l rest : List Two) → Open l (length rest) → AtLeast b (l ++ rest) (suc (length l))
  at_least l rest o =
      record {
        fewer = λ j h f. open-fewer l rest o (more-fix b (l ++ rest) j (length l) (omega arith) f);
      }

  -- pairs that fix the row fix the word
  fixed_fixes : (l : List Two) (m : ℕ) (rest : List Two) → Fixed l m → Fixes b (l ++ rest) (length l)
  fixed_fixes l m rest f = record { same_bits = λ es long front. given es front ∙ sym (ap (λ (r : Row). bits r.groups) (f.taken b rest)) }
    where
      given : (es : List Two) → take (length l) es ≡ take (length l) (l ++ rest) → word_bits b es ≡ bits (f.row b).groups
      given es front =
          let whole : l ++ drop (length l) es ≡ es =
          ap (λ (k : List Two). k ++ drop (length l) es) (sym (front ∙ take_at l rest (length l) refl)) ∙ take-append-drop (length l) es
          in
          ap (word_bits b) (sym whole) ∙ ap (λ (r : Row). bits r.groups) (f.taken b (drop (length l) es))

  -- one pair more
  module _ (s : Wait) (d : Two) (ds : List Two) where
    snoc : (waiting s ++ d ∷ []) ++ ds ≡ waiting s ++ d ∷ ds
    snoc = append_assoc (waiting s) (d ∷ []) ds

    long : length (waiting s ++ d ∷ []) ≡ suc (length (waiting s))
    long = omega (arith, length-append (waiting s) (d ∷ []))

    walk_step : (t : Told) → Tells t s d → left_told t ≤ length ds → AtLeast b (waiting s ++ d ∷ ds) (suc (length (waiting s)))
        → ((u : Wait) → left_behind u ≤ length ds → AtLeast b (waiting u ++ ds) (length (waiting u)) → Walks b (waiting u ++ ds) (walk u (length (waiting u)) ds))
        → Walks b (waiting s ++ d ∷ ds) (onward t (length (waiting s)) (λ u. walk u (suc (length (waiting s))) ds))
    walk_step (wait u) y room least on =
        let same : waiting u ++ ds ≡ waiting s ++ d ∷ ds = ap (λ (l : List Two). l ++ ds) y.front ∙ snoc in
        let count : length (waiting u) ≡ suc (length (waiting s)) = ap length y.front ∙ long in
        subst (λ (l : List Two). Walks b l (walk u (suc (length (waiting s))) ds)) same
        (subst (λ (n : ℕ). Walks b (waiting u ++ ds) (walk u n ds)) count
        (on u room (subst (λ (n : ℕ). AtLeast b (waiting u ++ ds) n) (sym count) (subst (λ (l : List Two). AtLeast b l (suc (length (waiting s)))) (sym same) least))))
    walk_step (word_of m) y room least on =
        record {
          needs = needed-only b (waiting s ++ d ∷ ds) (suc (length (waiting s))) (record { fixes = fix; least = least.fewer });
          size = ap (λ (l : List Two). length (row_taken b l).pairs) (sym snoc) ∙ ap (λ (r : Row). length r.pairs) (y.taken b ds) ∙ y.size b;
        }
      where
        fix : Fixes b (waiting s ++ d ∷ ds) (suc (length (waiting s)))
        fix =
            subst (λ (l : List Two). Fixes b l (suc (length (waiting s)))) snoc
            (subst (Fixes b ((waiting s ++ d ∷ []) ++ ds)) long (fixed_fixes (waiting s ++ d ∷ []) m ds y))

  -- the frame ends
  walk-stop : (s : Wait) → AtLeast b (waiting s ++ []) (length (waiting s)) → Walks b (waiting s ++ []) (walked (length (waiting s)) (size_at_end s))
  walk-stop s least =
      let none = append-nil (waiting s) in
      record {
        needs =
            needed-only b (waiting s ++ []) (length (waiting s))
            (record { fixes = subst (Fixes b (waiting s ++ [])) (ap length none) (all-fix b (waiting s ++ [])); least = least.fewer });
        size = ap (λ (l : List Two). length (row_taken b l).pairs) none ∙ at-end s b;
      }

  pub walk_from : (ds : List Two) (s : Wait) → left_behind s ≤ length ds → AtLeast b (waiting s ++ ds) (length (waiting s))
      → Walks b (waiting s ++ ds) (walk s (length (waiting s)) ds)
  walk_from [] s h least = walk-stop s least
  walk_from (d ∷ ds) s h least =
      walk_step s d ds (told s d) (tells s d) (room (told s d) (tells s d)) (at_least (waiting s) (d ∷ ds) (open_at s (suc (length ds)) h (omega arith)))
      (λ u l more. walk_from ds u l more)
    where
      room : (t : Told) → Tells t s d → left_told t ≤ length ds
      room (wait u) y = omega (arith, y.less)
      room (word_of m) y = omega arith

  -- ---- the word

  from_front : (d : Two) (ds : List Two) → left_told (told w d) ≤ length ds → Walks b (d ∷ ds) (walk w 0 (d ∷ ds))
  from_front d ds room =
      walk_step w d ds (told w d) (tells w d) room (at_least [] (d ∷ ds) (open-front (suc (length ds)) (omega arith)))
      (λ u l more. walk_from ds u l more)

  -- no word is fixed before its first pair
  pub needed-some : (d : Two) (ds : List Two) → 1 ≤ needed b (d ∷ ds)
  needed-some d ds =
      elim (dec_lt (needed b (d ∷ ds)) 1) [
        | yes h ↦ absurd ((at_least [] (d ∷ ds) (open-front (suc (length ds)) (omega arith))).fewer (needed b (d ∷ ds)) h (needed-is b (d ∷ ds)).fixes)
        | no h ↦ omega arith
      ]

  -- 11 is not substituted at the frame's end
  plain-11 : (ds : List Two) → length ds < 3 → Walks b (d11 ∷ ds) (walked 1 1)
  plain-11 ds h =
      record {
        needs = needed-only b (d11 ∷ ds) 1 (record { fixes = fix; least = (at_least [] (d11 ∷ ds) (open-front (suc (length ds)) (omega arith))).fewer });
        size = ap (λ (r : Row). length r.pairs) (plain_end b ds h) ∙ elim b as (λ (b : Bool). length (cond b (row_at 12) (row_at 13)).pairs ≡ (walked 1 1).size) [ true ↦ refl | false ↦ refl ];
      }
    where
      fix : Fixes b (d11 ∷ ds) 1
      fix = record { same_bits = λ es long front. given es long front }
        where
          given : (es : List Two) → length es ≡ suc (length ds) → take 1 es ≡ d11 ∷ [] → word_bits b es ≡ word_bits b (d11 ∷ ds)
          given [] long front = absurd (omega arith)
          given (e ∷ es) long front =
              ap (λ (x : Two). word_bits b (x ∷ es)) (ap (λ (l : List Two). get_or l 0 d00) front)
              ∙ ap (λ (r : Row). bits r.groups) (plain_end b es (omega arith) ∙ sym (plain_end b ds h))

  pub walk_is : (d : Two) (ds : List Two) → Walks b (d ∷ ds) (walk_word (d ∷ ds))
  walk_is d00 ds = from_front d00 ds (omega arith)
  walk_is d01 ds = from_front d01 ds (omega arith)
  walk_is d10 ds = from_front d10 ds (omega arith)
  walk_is d11 ds =
      elim (dec_lt (length ds) 3) [
        | yes h ↦ subst (λ (x : Bool). Walks b (d11 ∷ ds) (cond x (walked 1 1) (walk w 0 (d11 ∷ ds)))) (sym (lt-ltb (length ds) 3 h)) (plain-11 ds h)
        | no h ↦
            subst (λ (x : Bool). Walks b (d11 ∷ ds) (cond x (walked 1 1) (walk w 0 (d11 ∷ ds)))) (sym (le-ltb (length ds) 3 (omega arith)))
            (from_front d11 ds (omega arith))
      ]

-- ---- six pairs

waiting-size : (s : Wait) → length (waiting s) ≤ 5
waiting-size w = omega arith
waiting-size w00 = omega arith
waiting-size w0000 = omega arith
waiting-size w000000 = omega arith
waiting-size w000010 = omega arith
waiting-size w11 = omega arith
waiting-size w1101 = omega arith
waiting-size w110111 = omega arith
waiting-size w11011100 = omega arith
waiting-size w1101110000 = omega arith

-- at most six pairs in front fix the row
pub record Front (ds : List Two) : Type 0 where
  pub front : List Two
  pub rest : List Two
  pub count : ℕ
  pub split : front ++ rest ≡ ds
  pub six : length front ≤ 6
  pub fixed : Fixed front count

front_of : (ds : List Two) (s : Wait) → 6 ≤ length (waiting s) + length ds → Front (waiting s ++ ds)
front_of [] s h = absurd (omega (arith, waiting-size s))
front_of (d ∷ ds) s h = one_more (told s d) (tells s d) (λ u l. front_of ds u l)
  where
    one_more : (t : Told) → Tells t s d → ((u : Wait) → 6 ≤ length (waiting u) + length ds → Front (waiting u ++ ds)) → Front (waiting s ++ d ∷ ds)
    one_more (wait u) y on =
        subst Front (ap (λ (l : List Two). l ++ ds) y.front ∙ append_assoc (waiting s) (d ∷ []) ds)
        (on u (omega (arith, ap length y.front, length-append (waiting s) (d ∷ []))))
    one_more (word_of m) y on =
        record {
          front = waiting s ++ d ∷ [];
          rest = ds;
          count = m;
          split = append_assoc (waiting s) (d ∷ []) ds;
          six = omega (arith, length-append (waiting s) (d ∷ []), waiting-size s);
          fixed = y;
        }

module _ (b : Bool) (ds es : List Two) (same : take 6 ds ≡ take 6 es) where
  by_front : Front ds → word_bits b ds ≡ word_bits b es
  by_front f =
      let n = length f.front in
      let begins : take n es ≡ f.front =
      sym (take-take n 6 es f.six)
      ∙ ap (take n) (sym same)
      ∙ take-take n 6 ds f.six
      ∙ ap (take n) (sym f.split)
      ∙ take_at f.front f.rest n refl
      in
      let whole : f.front ++ drop n es ≡ es = ap (λ (l : List Two). l ++ drop n es) (sym begins) ∙ take-append-drop n es in
      ap (word_bits b) (sym f.split)
      ∙ ap (λ (r : Row). bits r.groups) (f.fixed.taken b f.rest ∙ sym (f.fixed.taken b (drop n es)))
      ∙ ap (word_bits b) whole

  -- the word's modulation bits depend on the bit before and on six pairs, or on all that are left
  pub six-fix : word_bits b ds ≡ word_bits b es
  six-fix =
      elim (dec_lt (length ds) 6) [
        | yes h ↦ ap (word_bits b) (sym (take_all 6 ds (omega arith)) ∙ same ∙ take_all 6 es (short h))
        | no h ↦ by_front (front_of ds w (omega arith))
      ]
    where
      short : length ds < 6 → length es ≤ 6
      short h =
          elim (dec_lt 6 (length es)) [
            | yes l ↦ absurd (omega (arith, length-take-le 6 es (omega arith), ap length same, take_short h))
            | no l ↦ omega arith
          ]
        where
          take_short : length ds < 6 → length (take 6 ds) ≡ length ds
          take_short h = ap length (take_all 6 ds (omega arith))

-- ---- how many

walk-most : (ds : List Two) (s : Wait) → (walk s (length (waiting s)) ds).needs ≤ 6
walk-most [] s = omega (arith, waiting-size s)
walk-most (d ∷ ds) s = one_more (told s d) (tells s d) (λ u. walk-most ds u)
  where
    one_more : (t : Told) → Tells t s d → ((u : Wait) → (walk u (length (waiting u)) ds).needs ≤ 6)
        → (onward t (length (waiting s)) (λ u. walk u (suc (length (waiting s))) ds)).needs ≤ 6
    one_more (wait u) y on =
        subst (λ (n : ℕ). (walk u n ds).needs ≤ 6) (ap length y.front ∙ omega (arith, length-append (waiting s) (d ∷ []))) (on u)
    one_more (word_of m) y on = omega (arith, waiting-size s)

pub walk-word-most : (ds : List Two) → (walk_word ds).needs ≤ 6
walk-word-most ds = elim (ends_plain ds) as (λ x. (cond x (walked 1 1) (walk w 0 ds)).needs ≤ 6) [ true ↦ omega arith | false ↦ walk-most ds w ]
