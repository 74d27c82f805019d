-- `first_wrong_sector` meets its contract: a search in parts, an eighth each.
use mathlib.Core.Path.{◌≡◌, refl, subst}
use Prim.Native.Nat.{◌+◌, ◌*◌, ◌≤◌}
use native.Mathlib.Omega.{arith}
use borrow.Author.Rules.{rules}
use Rattle.laws.specs.First.{first}
use Rattle.ldc_words.specs.steps.Eighth.{wrong_frame}
use Rattle.laws.proofs.First.{Passed, passed_none, first_past, first-in-part, passed-part}
use Rattle.cluster.specs.Reading.{wrong_sector, first_wrong_sector}
use Rattle.ldc_words.proofs.Eighth.{frames-judged}
use Rattle.sector_reader.proofs.steps.first_wrong_sector.Goals as goal

pub loop-e-init : goal.loop-e-init
loop-e-init c = (search rules, passed_none)

pub returns-in-Some : goal.returns-in-Some
unfolding first_wrong_sector
returns-in-Some c = let args = c.args in
    let e = c.loop-e.e in
    let found = first-in-part (4 * e) 4 _ c.loop-e.invariant.1 (frames-judged args.stream.now args.work.now c.take_frames.new.frames e c.take_frames.ensures _ c.in-Some.ensures.1) 32 (omega arith) (omega (arith, c.in-Some.ensures.0, c.in-Some.ensures.1)) in
    (omega (arith, found), found)

pub loop-e-preserved : goal.loop-e-preserved
loop-e-preserved c = let args = c.args in
    let e = c.loop-e.e in
    let frames = c.take_frames.new.frames in
    let none : 4 ≤ first 4 (wrong_frame args.stream.now frames) = omega (arith, c.in_default.ensures) in
    let next : 4 * e + 4 ≡ 4 * (e + 1) = omega arith in
    (search rules, subst (Passed (wrong_sector args.stream.now args.work.now)) next (passed-part (4 * e) 4 _ c.loop-e.invariant.1 (frames-judged args.stream.now args.work.now frames e c.take_frames.ensures _ refl) none))

pub returns : goal.returns
unfolding first_wrong_sector
returns c = let none = first_past {n = 32} (omega arith) c.loop-e.invariant.1 in λ h. omega (arith, none, h)
