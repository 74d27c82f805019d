-- `join` meets its contract: the two parts are the bytes of both.
use mathlib.Core.Path.{◌≡◌, sym, ap, ap₂, ◌∙◌}
use mathlib.Core.List.{List, ◌++◌, append-nil}
use Prim.Native.Nat.{ℕ, ◌-◌}
use native.Mathlib.Omega.{arith}
use lib.ListN.{length, take, drop, length-drop, drop_of_length-le}
use lib.Seq.{length-take-le, take_at}
use Rattle.ldc_parity.proofs.steps.join.Goals as goal

-- a list of which the first n are a is written with b from n on
both-parts : (a b was : List ℕ) (n : ℕ) → length a ≡ n
    → take n (a ++ drop n was) ++ (b ++ drop (length (a ++ drop n was) - n) (drop n (a ++ drop n was))) ≡ a ++ b
both-parts a b was n size =
    let whole = a ++ drop n was in
    ap₂ ◌++◌ (take_at a (drop n was) n size)
    (ap (◌++◌ b) (drop_of_length-le (drop n whole) {i = length whole - n} (omega (arith, length-drop n whole))) ∙ append-nil b)

pub slice_bounds-copy_from_slice-end-2 : goal.slice_bounds-copy_from_slice-end-2
slice_bounds-copy_from_slice-end-2 c = sym (length-take-le 216 c.args.word.now (omega arith))

pub copy_from_slice-requires : goal.copy_from_slice-requires
copy_from_slice-requires c = omega (arith, length-take-le 216 c.args.word.now (omega arith))

pub returns : goal.returns
returns c = let first = c.copy_from_slice.ensures.after in
    both-parts c.copy_from_slice.new.self c.copy_from_slice-2.new.self c.args.word.now 216 (omega (arith, ap length first)) ∙ ap₂ ◌++◌ first c.copy_from_slice-2.ensures.after
