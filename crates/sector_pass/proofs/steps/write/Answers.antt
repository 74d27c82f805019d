-- `write` meets its contract: what the pass keeps, eight bytes or one more each turn (Pass).
use mathlib.Core.Path.{◌≡◌, sym, subst, ◌∙◌}
use Prim.Native.Nat.{ℕ, ◌+◌, ◌*◌, ◌-◌}
use native.Mathlib.Omega.{arith}
use Rattle.sector_pass.specs.Pass.{PassWriting}
use Rattle.sector_pass.proofs.Pass.{writing-none, frame-length, writing-eight, writing-byte, writing-here, writing-since}
use Rattle.sector_pass.proofs.steps.write.Goals as goal

pub loop-k-init : goal.loop-k-init
loop-k-init c = writing-none _ _ _

pub loop-k-preserved : goal.loop-k-preserved
loop-k-preserved c = let args = c.args in
    let k = c.loop-k.k in
    let at = c.loop-k.invariant in
    writing-eight args.user.now args.stream.now args.frame.now (8 * k) c.loop-k.frame c.loop-k.register at c.double_word_at-eight.result c.double_word_at.result
    c.eight_more-register.result (8 * k + 8 - 8 * k) (8 * (k + 1)) c.copy_from_slice.new.self (omega arith) (omega arith) (omega (arith, c.eights-whole.ensures, c.requires.0)) (omega (arith, c.eights-whole.ensures)) c.double_word_at-eight.ensures c.double_word_at.ensures
    (c.copy_from_slice.ensures.after ∙ c.double_word_bytes.ensures) c.eight_more-register.ensures

pub loop-k-2-init : goal.loop-k-2-init
loop-k-2-init c = let args = c.args in
    let end : c.loop-k.k ≡ c.eights-whole.result = omega arith in
    let here = writing-here args.user.now args.stream.now args.frame.now c.loop-k.frame (8 * c.loop-k.k) c.loop-k.register c.loop-k.invariant in
    subst (λ (n : ℕ). PassWriting args.user.now args.stream.now c.loop-k.frame (8 * n) c.loop-k.frame c.loop-k.register) end here

pub bounds-frame-k : goal.bounds-frame-k
bounds-frame-k c = let size = frame-length c.requires.0 (frame-length c.requires.0 c.requires.1 c.loop-k.invariant) c.loop-k-2.invariant in
    omega (arith, size)

pub loop-k-2-preserved : goal.loop-k-2-preserved
loop-k-2-preserved c = let args = c.args in
    let k = c.loop-k-2.k in
    let size = frame-length c.requires.0 (frame-length c.requires.0 c.requires.1 c.loop-k.invariant) c.loop-k-2.invariant in
    writing-byte args.user.now args.stream.now c.loop-k.frame k c.loop-k-2.frame c.loop-k-2.register c.loop-k-2.invariant c.stream_byte.result
    c.byte_more-register.result (omega arith) (omega (arith, size)) c.stream_byte.ensures c.byte_more-register.ensures

pub shape_of-frame : goal.shape_of-frame
shape_of-frame c = frame-length c.requires.0 (frame-length c.requires.0 c.requires.1 c.loop-k.invariant) c.loop-k-2.invariant ∙ sym c.requires.1

pub returns : goal.returns
returns c = let args = c.args in
    let end : c.loop-k-2.k ≡ 2048 = omega arith in
    let whole = writing-since args.user.now args.stream.now args.frame.now c.loop-k.frame c.loop-k-2.frame (8 * c.loop-k.k) c.loop-k-2.k c.loop-k.register c.loop-k-2.register (omega (arith, c.eights-whole.ensures))
    c.loop-k.invariant c.loop-k-2.invariant in
    subst (λ (n : ℕ). PassWriting args.user.now args.stream.now args.frame.now n c.loop-k-2.frame c.loop-k-2.register) end whole
