-- Channel bits, levels and sums of modulation bits one behind the other, and from the other level. Assumes nothing.
use mathlib.Core.Path.{◌≡◌, refl, sym, ap, ap₂, ◌∙◌}
use mathlib.Core.Bool.{Bool, true, false, not, cond}
use mathlib.Core.List.{List, [], ◌∷◌, ◌++◌, map}
use Prim.Native.Nat.{ℕ, suc, ◌+◌, ◌-◌, ◌≤◌}
use native.Mathlib.Omega.{arith}
use borrow.Author.Tests.{ltb-true}
use lib.Dec.{eqb, ltb}
use lib.IntN.{ℤ, pos, negsuc, nat_abs, neg_ℤ, sub_ℕ, ◌+ℤ◌, +ℤ_assoc, +ℤ_idl, neg_ℤ-+ℤ}
use lib.ListN.{length}
use Rattle.channel.specs.Channel.{changed, channel_bits, last_of, level_after, decimal_value, digital_sum, sum_after, Carried}

-- ---- one behind the other

last-append : (level : Bool) (a b : List Bool) → last_of level (a ++ b) ≡ last_of (last_of level a) b
unfolding last_of
last-append level [] b = refl
last-append level (c ∷ a) b = last-append c a b

pub channel-append : (level : Bool) (a b : List ℕ) → channel_bits level (a ++ b) ≡ channel_bits level a ++ channel_bits (level_after level a) b
unfolding channel_bits last_of
channel-append level [] b = refl
channel-append level (x ∷ a) b = ap (◌∷◌ (changed level x)) (channel-append (changed level x) a b)

pub level-append : (level : Bool) (a b : List ℕ) → level_after level (a ++ b) ≡ level_after (level_after level a) b
level-append level a b = ap (last_of level) (channel-append level a b) ∙ last-append level (channel_bits level a) (channel_bits (level_after level a) b)

digital-append : (a b : List Bool) → digital_sum (a ++ b) ≡ digital_sum a +ℤ digital_sum b
unfolding digital_sum
digital-append [] b = sym (+ℤ_idl (digital_sum b))
digital-append (c ∷ a) b = ap (◌+ℤ◌ (decimal_value c)) (digital-append a b) ∙ sym (+ℤ_assoc (decimal_value c) (digital_sum a) (digital_sum b))

pub sum-append : (level : Bool) (a b : List ℕ) → sum_after level (a ++ b) ≡ sum_after level a +ℤ sum_after (level_after level a) b
sum-append level a b = ap digital_sum (channel-append level a b) ∙ digital-append (channel_bits level a) (channel_bits (level_after level a) b)

module _ {level : Bool} {sum : ℤ} where
  pub carried-append : {a b : List ℕ} {mid next : Bool} {part total : ℤ} → Carried level sum a mid part → Carried mid part b next total → Carried level sum (a ++ b) next total
  carried-append {a} {b} {mid} f g =
      record {
        level-is = g.level-is ∙ ap (λ (l : Bool). level_after l b) f.level-is ∙ sym (level-append level a b);
        sum_is =
            g.sum_is
            ∙ ap₂ (λ (s : ℤ) (l : Bool). s +ℤ sum_after l b) f.sum_is f.level-is
            ∙ +ℤ_assoc sum (sum_after level a) (sum_after (level_after level a) b)
            ∙ ap (◌+ℤ◌ sum) (sym (sum-append level a b));
      }

-- ---- from the other level every channel bit is the other one

either-other : (t level : Bool) → cond t (not (not level)) (not level) ≡ not (cond t (not level) level)
either-other true level = refl
either-other false level = refl

changed-other : (level : Bool) (b : ℕ) → changed (not level) b ≡ not (changed level b)
changed-other level b = either-other (eqb b 1) level

pub channel-other : (level : Bool) (b : List ℕ) → channel_bits (not level) b ≡ map not (channel_bits level b)
unfolding channel_bits
channel-other level [] = refl
channel-other level (x ∷ b) = ap₂ ◌∷◌ (changed-other level x) (ap (λ (l : Bool). channel_bits l b) (changed-other level x) ∙ channel-other (changed level x) b)

last-other : (level : Bool) (c : List Bool) → last_of (not level) (map not c) ≡ not (last_of level c)
unfolding last_of
last-other level [] = refl
last-other level (x ∷ c) = last-other x c

pub level-other : (level : Bool) (b : List ℕ) → level_after (not level) b ≡ not (level_after level b)
level-other level b = ap (last_of (not level)) (channel-other level b) ∙ last-other level (channel_bits level b)

value-other : (c : Bool) → decimal_value (not c) ≡ neg_ℤ (decimal_value c)
value-other true = refl
value-other false = refl

digital-other : (c : List Bool) → digital_sum (map not c) ≡ neg_ℤ (digital_sum c)
unfolding digital_sum
digital-other [] = refl
digital-other (x ∷ c) = ap₂ ◌+ℤ◌ (value-other x) (digital-other c) ∙ sym (neg_ℤ-+ℤ (decimal_value x) (digital_sum c))

-- and the sum is negated
pub sum-other : (level : Bool) (b : List ℕ) → sum_after (not level) b ≡ neg_ℤ (sum_after level b)
sum-other level b = ap digital_sum (channel-other level b) ∙ digital-other (channel_bits level b)

-- ---- how large a sum can be

pub length-channel : (level : Bool) (b : List ℕ) → length (channel_bits level b) ≡ length b
unfolding channel_bits
length-channel level [] = refl
length-channel level (x ∷ b) = ap suc (length-channel (changed level x) b)

difference : (a b : ℕ) → nat_abs (sub_ℕ a b) ≤ a + b
difference a b = by (ltb a b) refl
  where
    by : (t : Bool) → ltb a b ≡ t → nat_abs (cond t (negsuc (b - suc a)) (pos (a - b))) ≤ a + b
    by true e = omega (arith, ltb-true a b e)
    by false e = omega arith

pub abs-sum : (x y : ℤ) → nat_abs (x +ℤ y) ≤ nat_abs x + nat_abs y
abs-sum (pos m) (pos n) = omega arith
abs-sum (pos m) (negsuc n) = difference m (suc n)
abs-sum (negsuc m) (pos n) = omega (arith, difference n (suc m))
abs-sum (negsuc m) (negsuc n) = omega arith

abs-value : (c : Bool) → nat_abs (decimal_value c) ≡ 1
abs-value true = refl
abs-value false = refl

digital-bound : (c : List Bool) → nat_abs (digital_sum c) ≤ length c
unfolding digital_sum
digital-bound [] = omega arith
digital-bound (x ∷ c) = omega (arith, abs-sum (decimal_value x) (digital_sum c), abs-value x, digital-bound c)

pub sum_bound : (level : Bool) (b : List ℕ) → nat_abs (sum_after level b) ≤ length b
sum_bound level b = omega (arith, digital-bound (channel_bits level b), length-channel level b)
