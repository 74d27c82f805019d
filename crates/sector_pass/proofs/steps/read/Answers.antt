-- `read` meets its contract: what the pass keeps, eight bytes or one more each turn (Pass).
use mathlib.Core.Path.{◌≡◌, subst}
use Prim.Native.Nat.{ℕ, ◌+◌, ◌*◌}
use native.Mathlib.Omega.{arith}
use Rattle.sector_pass.specs.Pass.{PassReading}
use Rattle.sector_pass.proofs.Pass.{undoing-none, undoing-eight, undoing-byte}
use Rattle.sector_pass.proofs.steps.read.Goals as goal

pub loop-k-init : goal.loop-k-init
loop-k-init c = undoing-none _ _

pub loop-k-preserved : goal.loop-k-preserved
loop-k-preserved c = let args = c.args in
    let k = c.loop-k.k in
    undoing-eight args.frame.now args.stream.now (8 * k) c.loop-k.register c.loop-k.invariant c.double_word_at.result c.double_word_at-in-loop-k.result c.eight_more-register.result
    (8 * (k + 1)) (omega arith) (omega arith) (omega arith) c.double_word_at.ensures c.double_word_at-in-loop-k.ensures c.eight_more-register.ensures

pub loop-k-2-init : goal.loop-k-2-init
loop-k-2-init c = let args = c.args in
    let end : c.loop-k.k ≡ c.eights-whole.result = omega arith in
    subst (λ (n : ℕ). PassReading args.frame.now args.stream.now (8 * n) c.loop-k.register) end c.loop-k.invariant

pub loop-k-2-preserved : goal.loop-k-2-preserved
loop-k-2-preserved c = let args = c.args in
    let k = c.loop-k-2.k in
    undoing-byte args.frame.now args.stream.now k c.loop-k-2.register c.loop-k-2.invariant c.stream_byte.result c.byte_more-register.result (omega arith)
    c.stream_byte.ensures c.byte_more-register.ensures

pub returns : goal.returns
returns c = let args = c.args in
    let end : c.loop-k-2.k ≡ 2048 = omega arith in
    subst (λ (n : ℕ). PassReading args.frame.now args.stream.now n c.loop-k-2.register) end c.loop-k-2.invariant
