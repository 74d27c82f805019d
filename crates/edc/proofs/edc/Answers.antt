-- `edc` meets its contract: the register holds the code of the bytes passed, eight or one more each turn (Loops).
use mathlib.Core.Path.{◌≡◌, ap, ◌∙◌}
use Prim.Native.Nat.{ℕ, ◌+◌, ◌*◌, ◌/◌}
use lib.ListN.{length, take}
use native.Mathlib.Omega.{arith}
use Rattle.edc.specs.Edc.{edc_of}
use Rattle.edc.proofs.Loops.{none_passed, eight-of-list, byte-of-rest, rest-passed}
use Rattle.edc.proofs.edc.Goals as goal

pub loop-k-init : goal.loop-k-init
loop-k-init c = none_passed

pub loop-k-preserved : goal.loop-k-preserved
loop-k-preserved c = let bytes = c.args.bytes.now in
    let k = c.loop-k.k in
    let next : 8 * k + 8 ≡ 8 * (k + 1) = omega arith in
    let passed = eight-of-list bytes (8 * k) c.double_word_at.result c.eight_more-register.result c.double_word_at.ensures (c.eight_more-register.ensures (take (8 * k) bytes) c.loop-k.invariant) in
    passed ∙ ap (λ (n : ℕ). edc_of (take n bytes)) next

pub loop-byte-init : goal.loop-byte-init
loop-byte-init c = let bytes = c.args.bytes.now in
    let end : 8 * c.loop-k.k ≡ 8 * (length bytes / 8) + 0 = omega arith in
    c.loop-k.invariant ∙ ap (λ (n : ℕ). edc_of (take n bytes)) end

pub loop-byte-preserved : goal.loop-byte-preserved
loop-byte-preserved c = let bytes = c.args.bytes.now in
    let n = 8 * (length bytes / 8) in
    let i = c.loop-byte.byte-index in
    byte-of-rest bytes n i c.byte_more-register.result c.loop-byte-test.true (c.byte_more-register.ensures (take (n + i) bytes) c.loop-byte.invariant)

pub returns : goal.returns
returns c = let bytes = c.args.bytes.now in
    rest-passed bytes (8 * (length bytes / 8)) c.loop-byte.byte-index c.loop-byte.register c.loop-byte-test.false c.loop-byte.invariant
