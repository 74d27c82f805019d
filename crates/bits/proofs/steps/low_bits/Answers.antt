-- `low_bits` meets its contract: two bytes as one number, shifted (Read). Assumes nothing.
use mathlib.Core.Path.{refl, sym, subst}
use Prim.Native.Nat.{ℕ, ◌+◌, ◌-◌, ◌/◌, ◌%◌, ◌^◌}
use Rattle.bits.specs.Bits.{bits_of}
use Rattle.bits.specs.steps.LowBits.{LowBits}
use Rattle.bits.proofs.Read.{bits-low}
use Rattle.bits.proofs.steps.low_bits.Goals as goal

pub returns : goal.returns
returns c = let args = c.args in
    let l = args.bytes.now in
    let low = bits-low l args.at args.n (args.at / 8 + (args.at % 8 + args.n - 1) / 8) c.requires.0.1 refl c.requires.1 c.both.ensures.1 in
    subst (λ (v : ℕ). LowBits (bits_of l) args.at args.n (v / 2 ^ (16 - args.n - args.at % 8))) (sym c.both.ensures.0) low
