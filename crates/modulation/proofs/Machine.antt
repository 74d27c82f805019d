-- The modulating machine gives what the definition gives (`machine-is`). Also: when the next modulation bits are 010. Assumes nothing.
use mathlib.Core.Bool.{Bool, true, false, true≢false}
use mathlib.Core.List.{List, [], ◌∷◌, ◌++◌}
use mathlib.Core.Path.{◌≡◌, refl, ap, ◌∙◌, sym}
use Prim.Native.Nat.{◌<◌}
use native.Mathlib.Omega.{arith}
use Rattle.modulation.specs.Modulation.{Two, d00, d01, d10, d11, Modulated, starts_with010, modulate_from, modulate}
use Rattle.modulation.specs.Machine.{Wait, w, w00, w0000, w000000, w000010, w11, w1101, w110111, w11011100, w1101110000, waiting, wait_number, wait_at, plain, substituted, step, stop, put, machine}

-- ---- whether the next modulation bits are 010

pub next-000000 : (b : Bool) (ds : List Two) → starts_with010 (modulate b (d00 ∷ d00 ∷ d00 ∷ ds)).groups ≡ true
unfolding modulate_from
next-000000 b [] = refl
next-000000 b (d00 ∷ ds) = refl
next-000000 b (d01 ∷ ds) = refl
next-000000 b (d10 ∷ ds) = refl
next-000000 b (d11 ∷ ds) = refl

pub next-000010 : (b : Bool) (ds : List Two) → starts_with010 (modulate b (d00 ∷ d00 ∷ d10 ∷ ds)).groups ≡ false
unfolding modulate_from
next-000010 b [] = refl
next-000010 b (d00 ∷ ds) = refl
next-000010 b (d01 ∷ ds) = refl
next-000010 b (d10 ∷ ds) = refl
next-000010 b (d11 ∷ ds) = refl

-- 110111 where 010 follows, and where it does not
pub followed : (b : Bool) (ds : List Two) → starts_with010 (modulate false ds).groups ≡ true
    → put substituted (modulate false ds) ≡ modulate b (d11 ∷ d01 ∷ d11 ∷ ds)
unfolding modulate_from
followed b ds e = rw e

pub not-followed : (b : Bool) (ds : List Two) → starts_with010 (modulate false ds).groups ≡ false
    → put (plain b) (modulate true ds) ≡ modulate b (d11 ∷ d01 ∷ d11 ∷ ds)
unfolding modulate_from
not-followed true [] e = refl
not-followed false [] e = refl
not-followed true (d00 ∷ ds) e = rw e
not-followed false (d00 ∷ ds) e = rw e
not-followed b (d01 ∷ ds) e = absurd (true≢false e)
not-followed true (d10 ∷ ds) e = rw e
not-followed false (d10 ∷ ds) e = rw e
not-followed true (d11 ∷ ds) e = rw e
not-followed false (d11 ∷ ds) e = rw e

pub next-11 : (b : Bool) (ds : List Two) → starts_with010 (modulate b (d11 ∷ ds)).groups ≡ false
unfolding modulate_from
next-11 true [] = refl
next-11 false [] = refl
next-11 true (d00 ∷ ds) = refl
next-11 false (d00 ∷ ds) = refl
next-11 true (d01 ∷ []) = refl
next-11 false (d01 ∷ []) = refl
next-11 true (d01 ∷ d00 ∷ ds) = refl
next-11 false (d01 ∷ d00 ∷ ds) = refl
next-11 true (d01 ∷ d01 ∷ ds) = refl
next-11 false (d01 ∷ d01 ∷ ds) = refl
next-11 true (d01 ∷ d10 ∷ ds) = refl
next-11 false (d01 ∷ d10 ∷ ds) = refl
next-11 b (d01 ∷ d11 ∷ ds) = either (starts_with010 (modulate false ds).groups) refl
  where
    either : (q : Bool) → starts_with010 (modulate false ds).groups ≡ q → starts_with010 (modulate b (d11 ∷ d01 ∷ d11 ∷ ds)).groups ≡ false
    either true e = ap (λ (f : Modulated). starts_with010 f.groups) (sym (followed b ds e))
    either false e = ap (λ (f : Modulated). starts_with010 f.groups) (sym (not-followed b ds e)) ∙ elim b as (λ (k : Bool). starts_with010 (put (plain k) (modulate true ds)).groups ≡ false) [ true ↦ refl | false ↦ refl ]
next-11 true (d10 ∷ ds) = refl
next-11 false (d10 ∷ ds) = refl
next-11 true (d11 ∷ ds) = refl
next-11 false (d11 ∷ ds) = refl

-- ---- what waits, by its number

pub wait-back : (s : Wait) → wait_at (wait_number s) ≡ s
wait-back w = refl
wait-back w00 = refl
wait-back w0000 = refl
wait-back w000000 = refl
wait-back w000010 = refl
wait-back w11 = refl
wait-back w1101 = refl
wait-back w110111 = refl
wait-back w11011100 = refl
wait-back w1101110000 = refl

pub wait-below : (s : Wait) → wait_number s < 10
wait-below w = omega arith
wait-below w00 = omega arith
wait-below w0000 = omega arith
wait-below w000000 = omega arith
wait-below w000010 = omega arith
wait-below w11 = omega arith
wait-below w1101 = omega arith
wait-below w110111 = omega arith
wait-below w11011100 = omega arith
wait-below w1101110000 = omega arith

-- ---- the machine gives what the definition gives

one_more : (s : Wait) (b : Bool) (d : Two) (ds : List Two)
    → put (step s b d).out (modulate (step s b d).bit (waiting (step s b d).to ++ ds)) ≡ modulate b (waiting s ++ d ∷ ds)
unfolding modulate_from
one_more w b d00 ds = refl
one_more w b d01 ds = refl
one_more w b d10 ds = refl
one_more w b d11 ds = refl
one_more w00 b d00 ds = refl
one_more w00 b d01 ds = refl
one_more w00 b d10 ds = refl
one_more w00 b d11 ds = refl
one_more w0000 b d00 ds = refl
one_more w0000 b d01 ds = refl
one_more w0000 b d10 ds = refl
one_more w0000 b d11 ds = refl
one_more w000000 b d00 ds = refl
one_more w000000 b d01 ds = refl
one_more w000000 b d10 ds = refl
one_more w000000 b d11 ds = refl
one_more w000010 b d00 ds = refl
one_more w000010 b d01 ds = refl
one_more w000010 b d10 ds = refl
one_more w000010 b d11 ds = refl
one_more w11 true d00 ds = refl
one_more w11 true d01 ds = refl
one_more w11 true d10 ds = refl
one_more w11 true d11 ds = refl
one_more w11 false d00 ds = refl
one_more w11 false d01 ds = refl
one_more w11 false d10 ds = refl
one_more w11 false d11 ds = refl
one_more w1101 true d00 ds = refl
one_more w1101 true d01 ds = refl
one_more w1101 true d10 ds = refl
one_more w1101 true d11 ds = refl
one_more w1101 false d00 ds = refl
one_more w1101 false d01 ds = refl
one_more w1101 false d10 ds = refl
one_more w1101 false d11 ds = refl
one_more w110111 b d00 ds = refl
one_more w110111 b d01 ds = followed b (d01 ∷ ds) refl
one_more w110111 b d10 ds = not-followed b (d10 ∷ ds) refl
one_more w110111 b d11 ds = not-followed b (d11 ∷ ds) (next-11 false ds)
one_more w11011100 b d00 ds = refl
one_more w11011100 b d01 ds = not-followed b (d00 ∷ d01 ∷ ds) refl
one_more w11011100 b d10 ds = followed b (d00 ∷ d10 ∷ ds) refl
one_more w11011100 b d11 ds = followed b (d00 ∷ d11 ∷ ds) refl
one_more w1101110000 b d00 ds = followed b (d00 ∷ d00 ∷ d00 ∷ ds) (next-000000 false ds)
one_more w1101110000 b d01 ds = followed b (d00 ∷ d00 ∷ d01 ∷ ds) refl
one_more w1101110000 b d10 ds = not-followed b (d00 ∷ d00 ∷ d10 ∷ ds) (next-000010 false ds)
one_more w1101110000 b d11 ds = not-followed b (d00 ∷ d00 ∷ d11 ∷ ds) refl

at-the-end : (s : Wait) (b : Bool) → stop s b ≡ modulate b (waiting s ++ [])
unfolding modulate_from
at-the-end w b = refl
at-the-end w00 b = refl
at-the-end w0000 b = refl
at-the-end w000000 b = refl
at-the-end w000010 b = refl
at-the-end w11 true = refl
at-the-end w11 false = refl
at-the-end w1101 true = refl
at-the-end w1101 false = refl
at-the-end w110111 true = refl
at-the-end w110111 false = refl
at-the-end w11011100 true = refl
at-the-end w11011100 false = refl
at-the-end w1101110000 true = refl
at-the-end w1101110000 false = refl

pub machine-is : (ds : List Two) (s : Wait) (b : Bool) → machine ds s b ≡ modulate b (waiting s ++ ds)
machine-is [] s b = at-the-end s b
machine-is (d ∷ ds) s b = ap (put (step s b d).out) (machine-is ds (step s b d).to (step s b d).bit) ∙ one_more s b d ds
