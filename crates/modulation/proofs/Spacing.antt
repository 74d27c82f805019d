-- From the last one of a sync's body to the first ones of the next sync the bits pass the test of gaps: each step of the machine, in each
-- state and at each place of the test that can be met there, by a test that is computed; then by induction. Assumes nothing.
use mathlib.Core.Bool.{Bool, true, false, cond}
use mathlib.Core.List.{List, [], ◌∷◌, ◌++◌, append_assoc}
use mathlib.Core.Path.{sym, ap, subst, ◌∙◌}
use Prim.Native.Nat.{ℕ}
use lib.Dec.{T, eqb, leb, ltb, ltb→lt}
use lib.ListN.{get_or}
use Rattle.laws.proofs.Finite.{both, both_left, both_right, all, all₂, all₂-at}
use Rattle.modulation.specs.Modulation.{Two, d00, d01, d10, d11, Three, m001, m010, m101, Modulated, modulate}
use Rattle.modulation.specs.Bits.{bits}
use Rattle.modulation.specs.Sync.{FS, FS0, FS1, FS2, FS3, FS4, FS5, FS6, sync_id}
use Rattle.modulation.specs.Stream.{modulated}
use Rattle.laws.proofs.Booleans.{implies, T_true, given}
use Rattle.modulation.proofs.Bits.{bits-append}
use Rattle.modulation.specs.Machine.{Wait, w, w00, w0000, w000000, w000010, w11, w1101, w110111, w11011100, w1101110000, step, stop, machine}
use Rattle.modulation.proofs.Machine.{machine-is}
use Rattle.modulation.proofs.Scan.{fine, after, fine-append}

-- ---- where the test can stand while the machine waits

-- at least so many gaps of a single zero may still follow, where the last bit is a one, and where one zero stands behind a one;
-- whether five zeros, and six, can stand behind a one
record Waits : Type 0 where
  one : ℕ
  zero : ℕ
  five : Bool
  six : Bool

abbrev can : ℕ → ℕ → Bool → Bool → Waits
can o z f s = record { one = o; zero = z; five = f; six = s }

abbrev waits : Wait → Waits
waits w = can 6 5 false false
waits w00 = can 3 2 false false
waits w0000 = can 3 2 false false
waits w000000 = can 3 2 false true
waits w000010 = can 0 2 false false
waits w11 = can 0 5 true false
waits w1101 = can 0 5 true false
waits w110111 = can 0 5 true false
waits w11011100 = can 0 5 true false
waits w1101110000 = can 0 5 true false

-- z zeros since the last one and r gaps of a single zero left, after the bit b
abbrev met : Wait → Bool → ℕ → ℕ → Bool
met s true z r = both (eqb z 0) (leb (waits s).one r)
met s false z r = get_or (false ∷ leb (waits s).zero r ∷ true ∷ true ∷ true ∷ (waits s).five ∷ (waits s).six ∷ []) z false

abbrev may : Wait → Bool → ℕ → ℕ → Bool
may s b z r = both (ltb z 7) (both (ltb r 7) (met s b z r))

-- ---- the test at one step

-- # and the first ones of the next sync
abbrev pub next : Bool → List Three
next hash = cond hash m101 m001 ∷ m010 ∷ []

-- a frame, and the first ones of the next sync
abbrev pub framed : Modulated → List Three
framed f = f.groups ++ next f.terminated

abbrev keeps : Wait → Bool → ℕ → ℕ → Two → Bool
keeps s b z r d = fine (bits (step s b d).out) z r

abbrev meets : Wait → Bool → ℕ → ℕ → Two → Bool
meets s b z r d =
    may (step s b d).to (step s b d).bit (after (bits (step s b d).out) z r).zeros (after (bits (step s b d).out) z r).singles

abbrev goes : Wait → Bool → ℕ → ℕ → Two → Bool
goes s b z r d = both (keeps s b z r d) (meets s b z r d)

abbrev stops : Wait → Bool → ℕ → ℕ → Bool
stops s b z r = fine (bits (framed (stop s b))) z r

abbrev each : (Two → Bool) → Bool
each f = both (f d00) (both (f d01) (both (f d10) (f d11)))

at_each : (f : Two → Bool) → T (each f) → (d : Two) → T (f d)
at_each f t d00 = both_left (f d00) _ t
at_each f t d01 = both_left (f d01) _ (both_right (f d00) _ t)
at_each f t d10 = both_left (f d10) _ (both_right (f d01) _ (both_right (f d00) _ t))
at_each f t d11 = both_right (f d10) _ (both_right (f d01) _ (both_right (f d00) _ t))

abbrev holds : Wait → Bool → ℕ → ℕ → Bool
holds s b z r = both (stops s b z r) (each (goes s b z r))

abbrev held : Wait → Bool → ℕ → ℕ → Bool
held s b z r = implies (met s b z r) (holds s b z r)

all_held : (s : Wait) (b : Bool) → T (all₂ 7 7 (held s b))
unfolding all all₂
all_held w true = tt
all_held w false = tt
all_held w00 true = tt
all_held w00 false = tt
all_held w0000 true = tt
all_held w0000 false = tt
all_held w000000 true = tt
all_held w000000 false = tt
all_held w000010 true = tt
all_held w000010 false = tt
all_held w11 true = tt
all_held w11 false = tt
all_held w1101 true = tt
all_held w1101 false = tt
all_held w110111 true = tt
all_held w110111 false = tt
all_held w11011100 true = tt
all_held w11011100 false = tt
all_held w1101110000 true = tt
all_held w1101110000 false = tt

module _ (s : Wait) (b : Bool) (z r : ℕ) (m : T (may s b z r)) where
  all_hold : T (holds s b z r)
  all_hold =
      let m' = both_right (ltb z 7) (both (ltb r 7) (met s b z r)) m in
      given (met s b z r) (holds s b z r)
      (all₂-at 7 7 (held s b) (all_held s b) z r (ltb→lt z 7 (both_left (ltb z 7) _ m)) (ltb→lt r 7 (both_left (ltb r 7) _ m')))
      (T_true (met s b z r) (both_right (ltb r 7) _ m'))

  at-stop : T (stops s b z r)
  at-stop = both_left (stops s b z r) _ all_hold

  at-step : (d : Two) → T (goes s b z r d)
  at-step = at_each (goes s b z r) (both_right (stops s b z r) _ all_hold)

-- ---- the frame

machine-fine : (ds : List Two) (s : Wait) (b : Bool) (z r : ℕ) → T (may s b z r) → T (fine (bits (framed (machine ds s b))) z r)
machine-fine [] s b z r m = at-stop s b z r m
machine-fine (d ∷ ds) s b z r m =
    let out = (step s b d).out in
    let rest = machine ds (step s b d).to (step s b d).bit in
    let one = at-step s b z r m d in
    subst (λ (l : List ℕ). T (fine l z r))
    (sym (ap bits (append_assoc out rest.groups (next rest.terminated)) ∙ bits-append out (framed rest)))
    (fine-append (bits out) (bits (framed rest)) z r (both_left (keeps s b z r d) _ one)
    (machine-fine ds (step s b d).to (step s b d).bit _ _ (both_right (keeps s b z r d) _ one)))

frame-fine : (ds : List Two) (b : Bool) (z r : ℕ) → T (may w b z r) → T (fine (bits (framed (modulate b ds))) z r)
frame-fine ds b z r m = subst (λ (f : Modulated). T (fine (bits (framed f)) z r)) (machine-is ds w b) (machine-fine ds w b z r m)

-- from a sync's bit 21 to bit 5 of the next
abbrev pub piece : FS → List Two → List Three
piece n ds = m010 ∷ sync_id n ++ framed (modulated n ds)

pub piece-fine : (n : FS) (ds : List Two) → T (fine (bits (piece n ds)) 1 6)
piece-fine FS0 ds = frame-fine ds true 0 6 tt
piece-fine FS1 ds = frame-fine ds false 1 6 tt
piece-fine FS2 ds = frame-fine ds false 3 4 tt
piece-fine FS3 ds = frame-fine ds true 0 6 tt
piece-fine FS4 ds = frame-fine ds false 2 6 tt
piece-fine FS5 ds = frame-fine ds true 0 6 tt
piece-fine FS6 ds = frame-fine ds false 4 6 tt
