-- Groups read in turns, and that their number stays small. Assumes nothing.
use mathlib.Core.List.{List, ◌++◌}
use mathlib.Core.Path.{◌≡◌, refl, sym, ap, subst, ◌∙◌}
use Prim.Native.Nat.{ℕ, ◌+◌, ◌*◌, ◌/◌, ◌%◌, ◌^◌, ◌<◌, ◌≤◌}
use native.Mathlib.Omega.{arith}
use lib.ListN.{length}
use Rattle.modulation.specs.Modulation.{Three}
use Rattle.modulation.specs.steps.Groups.{groups_at}
use Rattle.modulation.proofs.Groups.{length-groups_at}
use Rattle.automaton.specs.Automaton.{state_after, number_after}
use Rattle.automaton.specs.steps.Table.{After}
use Rattle.automaton.proofs.Entries.{after_more, number_bound}
use Rattle.demodulator_groups.proofs.Windows.{groups-append}

pub none_read : (b : List ℕ) (at s : ℕ) → s < 18 → After (groups_at b at (3 * 0)) s s
unfolding groups_at state_after number_after
none_read b at s h = record { number = refl; state = refl; small = omega arith }

-- m groups were read, then n more from where they end
pub more-read : (b : List ℕ) (at m n q t : ℕ) {s x r : ℕ} {gs : List Three} → q ≡ at + 3 * m → t ≡ m + n → After (groups_at b at m) s x → gs ≡ groups_at b q n → After gs x r
    → After (groups_at b at t) s r
more-read b at m n q t {s} {x} {r} {gs} eq et a eg more =
    subst (λ (hs : List Three). After hs s r)
    (ap (λ (hs : List Three). groups_at b at m ++ hs) (eg ∙ ap (λ (p : ℕ). groups_at b p n) eq) ∙ sym (groups-append b at m n) ∙ ap (groups_at b at) (sym et))
    (after_more a more)

-- from a state with no number, the number is small
pub read-bound : {gs : List Three} {s x : ℕ} (n : ℕ) → s < 18 → length gs ≤ n → After gs s x → x / 32 < 32 * 4 ^ n
read-bound {gs} {s} {x} n h l a =
    subst (λ (v : ℕ). v < 32 * 4 ^ n) (sym (a.number ∙ start)) (number_bound (s % 32) n gs (omega arith) l)
  where
    start : number_after (s % 32) (s / 32) gs ≡ number_after (s % 32) 0 gs
    start = ap (λ (v : ℕ). number_after (s % 32) v gs) (omega arith)

pub still-small : (b : List ℕ) (at m : ℕ) {s x : ℕ} → s < 18 → m ≤ 21 → After (groups_at b at m) s x → x < 9007199254740992
still-small b at m {s} {x} h l a =
    let bound : x / 32 < 32 * 4 ^ 21 = read-bound 21 h (omega (arith, length-groups_at b at m)) a in
    omega (arith, bound)
