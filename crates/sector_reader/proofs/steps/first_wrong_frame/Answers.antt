-- `first_wrong_frame` meets its contract: a search from the front.
use mathlib.Core.Bool.{true, false}
use Prim.Native.Nat.{◌+◌, ◌*◌, ◌-◌}
use native.Mathlib.Omega.{arith}
use Rattle.laws.proofs.First.{passed_none, passed-more, first-here, first_past}
use Rattle.ldc_words.proofs.Eighth.{frame-judged}
use Rattle.sector_reader.proofs.steps.first_wrong_frame.Goals as goal

pub loop-f-init : goal.loop-f-init
loop-f-init c = passed_none

pub loop-f-preserved : goal.loop-f-preserved
loop-f-preserved c = let args = c.args in
    let f = c.loop-f.f in
    passed-more c.loop-f.invariant (frame-judged args.stream.now args.frames.now f (2052 * f + 2052 - 2052 * f) _ true (omega arith) c.edc_right.ensures c.if-not-edc_right.false)

pub returns-then-not-edc_right : goal.returns-then-not-edc_right
returns-then-not-edc_right c = let args = c.args in
    let f = c.loop-f.f in
    let found = first-here {n = 4} (omega arith) c.loop-f.invariant (frame-judged args.stream.now args.frames.now f (2052 * f + 2052 - 2052 * f) _ false (omega arith) c.edc_right.ensures c.if-not-edc_right.true) in
    (omega (arith, found), found)

pub returns : goal.returns
returns c = let none = first_past {n = 4} (omega arith) c.loop-f.invariant in λ h. omega (arith, none, h)
